use Rattle.std.proofs.Common.{length, get_or, set, max, sym, ◌∙◌, ap, arith, add-one}
use Rattle.poly_model.specs.declared.limits.TheConstants.{MOST_VARIABLES}
use Rattle.polynomials.proofs.Raising as raising
use Rattle.polynomials.proofs.Raising.{raised_first}
use Rattle.polynomials.proofs.exponents.raise.Goals as goal

pub loop-i-preserved : goal.loop-i-preserved
loop-i-preserved c =
    let i = c.loop-i.i in
    let xs = c.args.highest.now in
    let ys = c.args.exps.now in
    ap (set c.loop-i.highest i) c.max.ensures ∙ (λ j. set (c.loop-i.invariant j) i (max (get_or (c.loop-i.invariant j) i 0) (get_or ys i 0))) ∙ raising.raised_first-more i xs ys (omega arith) (omega arith)
    ∙ ap (λ k. raised_first k xs ys) (sym (add-one i))

pub returns-clause-raised : goal.returns-clause-raised
returns-clause-raised c = c.loop-i.invariant ∙ raising.raised_first-all c.loop-i.i c.args.highest.now c.args.exps.now (omega arith) (omega arith)

pub returns-clause-whole : goal.returns-clause-whole
returns-clause-whole c =
    ap length (c.loop-i.invariant ∙ raising.raised_first-all c.loop-i.i c.args.highest.now c.args.exps.now (omega arith) (omega arith))
    ∙ raising.max-length MOST_VARIABLES c.args.highest.now c.args.exps.now (omega arith) (omega arith)
