use Rattle.std.proofs.Common.{◌-◌, ◌≤◌, Bool, MatchOption, length}
use Rattle.poly_model.specs.declared.limits.TheConstants.{MOST_VARIABLES}
use Rattle.poly_text.specs.Reading.{joint_at, NoName, OnlyName}
use Rattle.poly_text.proofs.Exponents.{FactorsRead}
use Rattle.poly_text.proofs.terms.read_factors.Given as goal

abbrev pub invariant-loop-next : goal.invariant-loop-next
invariant-loop-next l =
    (joined : Bool) × FactorsRead (MOST_VARIABLES - length l.vars) l.fn.joined joined l.vars l.text l.rest l.exps l.i
    × MatchOption l.next (NoName (joint_at joined l.rest)) (λ read. OnlyName read.0 read.1.now (joint_at joined l.rest))
    × (l.i ≤ length l.vars) × (length l.vars ≤ MOST_VARIABLES)

abbrev pub decreases-loop-next : goal.decreases-loop-next
decreases-loop-next l = length l.vars - l.i
