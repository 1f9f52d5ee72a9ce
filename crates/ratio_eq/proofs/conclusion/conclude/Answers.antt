use Rattle.std.proofs.Common.{subst}
use Rattle.std.proofs.lemmas.Result.{err_from_is_err_and}
use Rattle.ratio_eq.specs.Outcomes.{Gives, same}
use Rattle.ratio_eq.specs.Forming.{formed_of}
use Rattle.ratio_eq.proofs.Concluding as concluding
use Rattle.ratio_eq.proofs.conclusion.conclude.Goals as goal

pub returns-in_err-first : goal.returns-in_err-first
returns-in_err-first c =
    let p = err_from_is_err_and c.from_residual.result c.from_residual.ensures.1 in
    rw (p.1, p.2) (concluding.first-fails c.args.parts.now c.args.spots.now c.requires.terms c.requires.spots _ c.in_err-first.ensures.value)

pub returns-in_err-second : goal.returns-in_err-second
returns-in_err-second c =
    let p = err_from_is_err_and c.from_residual-in_err-second.result c.from_residual-in_err-second.ensures.1 in
    rw (p.1, p.2) (concluding.second-fails c.args.parts.now c.args.spots.now c.requires.terms c.requires.spots _ _ c.in_ok-first.ensures.takes _ c.in_ok-first.ensures.value _
    (rw (← c.behind.ensures, ← c.behind-2.ensures) c.in_err-second.ensures.value))

pub returns : goal.returns
returns c =
    subst (Gives same c.equality.result)
    (concluding.equal-left c.args.parts.now c.args.spots.now c.requires.terms c.requires.spots _ _ c.in_ok-first.ensures.takes _ c.in_ok-first.ensures.value
    (formed_of c.in_ok-second.second.fraction) (rw (← c.behind.ensures, ← c.behind-2.ensures) c.in_ok-second.ensures.value)) c.equality.ensures
