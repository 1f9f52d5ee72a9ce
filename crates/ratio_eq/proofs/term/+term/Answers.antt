use Rattle.std.proofs.Common.{◌<◌, sym, ◌∙◌, ap, arith, length, subst, drop}
use Rattle.std.proofs.lemmas.Result.{err_from_is_err_and}
use Rattle.std.proofs.lemmas.List.{length-drop}
use Rattle.ratio_terms.specs.Taking.{AreWhole}
use Rattle.ratio_eq.proofs.Forming as forming
use Rattle.ratio_terms.proofs.Taking as taking
use Rattle.ratio_terms.proofs.Taking.{two}
use Rattle.ratio_eq.proofs.term.+term.Goals as goal

pub returns-then-operands-eq0-clause-value : goal.returns-then-operands-eq0-clause-value
returns-then-operands-eq0-clause-value t c =
    forming.leaf-value _ c.in-Some.part.now c.in-Some.inner.now c.args.spots.now c.in-Some.ensures.cases.0 c.requires _ (sym c.operands.ensures ∙ c.if-operands-eq0.true) c.in_ok-leaf.ensures

pub returns-then-operands-eq0-clause-takes : goal.returns-then-operands-eq0-clause-takes
returns-then-operands-eq0-clause-takes t c =
    taking.leaf-taken _ c.in-Some.part.now c.in-Some.inner.now c.args.spots.now c.in-Some.ensures.cases.0 c.requires _ (sym c.operands.ensures ∙ c.if-operands-eq0.true) c.names.ensures

pub returns-in_err-first-clause-value : goal.returns-in_err-first-clause-value
returns-in_err-first-clause-value t c =
    let p = err_from_is_err_and c.from_residual-in_err-first.result c.from_residual-in_err-first.ensures.1 in
    let pair = two c.in-Some.part.now (λ z. c.if-operands-eq0.false (c.operands.ensures ∙ z)) in
    rw (p.1, p.2) (forming.first-fails _ c.in-Some.part.now c.in-Some.inner.now c.args.spots.now c.in-Some.ensures.cases.0 c.requires pair _ c.in_err-first.ensures.value)

pub term-requires-2 : goal.term-requires-2
term-requires-2 t c =
    let pair = two c.in-Some.part.now (λ z. c.if-operands-eq0.false (c.operands.ensures ∙ z)) in
    let l = length-drop c.in_ok-first.first.parts c.in-Some.inner.now in
    let e = ap length c.behind.ensures in
    let w = ap length c.in-Some.ensures.cases.0 in
    let below : length c.behind.result.now < length c.args.parts.now = omega (arith, l, e, w) in (
      subst (λ n. length c.behind.result.now < n) c.decreases below,
      subst (AreWhole c.behind.result.now) (sym c.behind-2.ensures) (subst (λ q. AreWhole q (drop c.in_ok-first.first.spots c.args.spots.now)) (sym c.behind.ensures)
          (taking.next _ c.in-Some.part.now c.in-Some.inner.now c.args.spots.now c.in-Some.ensures.cases.0 c.requires pair _ _ c.in_ok-first.ensures.takes)),
    )

pub returns-in_err-second-clause-value : goal.returns-in_err-second-clause-value
returns-in_err-second-clause-value t c =
    let p = err_from_is_err_and c.from_residual-in_err-second.result c.from_residual-in_err-second.ensures.1 in
    let pair = two c.in-Some.part.now (λ z. c.if-operands-eq0.false (c.operands.ensures ∙ z)) in
    rw (p.1, p.2) (forming.second-fails _ c.in-Some.part.now c.in-Some.inner.now c.args.spots.now c.in-Some.ensures.cases.0 c.requires pair _ _ c.in_ok-first.ensures.takes _ c.in_ok-first.ensures.value _
    (rw (← c.behind.ensures, ← c.behind-2.ensures) c.in_err-second.ensures.value))

pub returns-in_err-joined-clause-value : goal.returns-in_err-joined-clause-value
returns-in_err-joined-clause-value t c =
    let p = err_from_is_err_and c.from_residual-in_err-joined.result c.from_residual-in_err-joined.ensures.1 in
    let pair = two c.in-Some.part.now (λ z. c.if-operands-eq0.false (c.operands.ensures ∙ z)) in
    rw (p.1, p.2) (forming.joined-fails _ c.in-Some.part.now c.in-Some.inner.now c.args.spots.now c.in-Some.ensures.cases.0 c.requires pair _ _ c.in_ok-first.ensures.takes _ c.in_ok-first.ensures.value _
    (rw (← c.behind.ensures, ← c.behind-2.ensures) c.in_ok-second.ensures.value) _ c.in_err-joined.ensures)

pub returns-clause-value : goal.returns-clause-value
returns-clause-value t c =
    let pair = two c.in-Some.part.now (λ z. c.if-operands-eq0.false (c.operands.ensures ∙ z)) in
    forming.joined-value _ c.in-Some.part.now c.in-Some.inner.now c.args.spots.now c.in-Some.ensures.cases.0 c.requires pair _ _ c.in_ok-first.ensures.takes _ c.in_ok-first.ensures.value _
    (rw (← c.behind.ensures, ← c.behind-2.ensures) c.in_ok-second.ensures.value) _ c.in_ok-joined.ensures

pub returns-clause-takes : goal.returns-clause-takes
returns-clause-takes t c =
    let pair = two c.in-Some.part.now (λ z. c.if-operands-eq0.false (c.operands.ensures ∙ z)) in
    taking.pair-taken _ c.in-Some.part.now c.in-Some.inner.now c.args.spots.now c.in-Some.ensures.cases.0 c.requires pair _ _ c.in_ok-first.ensures.takes _ _
    (rw (← c.behind.ensures, ← c.behind-2.ensures) c.in_ok-second.ensures.takes)
