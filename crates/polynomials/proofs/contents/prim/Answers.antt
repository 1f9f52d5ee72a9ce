use Rattle.std.proofs.Common.{◌≡◌, [], sym, ◌∙◌, ap, arith}
use Rattle.poly_model.specs.Content.{primitive_part, entries_divided}
use Rattle.poly_model.specs.Standard.{polynomial_of}
use Rattle.poly_model.specs.declared.limits.TheConstants.{MOST_VARIABLES}
use Rattle.poly_model.proofs.Within.{within-of, standard-of}
use Rattle.poly_model.proofs.Standards.{primitive-within}
use Rattle.term_store.specs.States.{list_at}
use Rattle.term_store.proofs.Making as making
use Rattle.polynomials.proofs.Outcomes as outcomes
use Rattle.polynomials.proofs.Reading as reading
use Rattle.polynomials.proofs.PieceLaws.{all-divisible, pieces-divided}
use Rattle.polynomials.proofs.contents.prim.Goals as goal

pub returns-then-len-eq0-clause-part : goal.returns-then-len-eq0-clause-part
returns-then-len-eq0-clause-part g c =
    let xs = list_at (g.S.TermStore.state c.args.s.now).lists c.args.a.slot.0 in
    let none = reading.no_terms xs (omega arith) in
    let m = making.makes-fresh _ _ _ c.fresh.ensures.vacant c.fresh.ensures.lists c.fresh.ensures.spare in
    let empty : primitive_part (polynomial_of xs) ≡ [] = ap (λ l. primitive_part (polynomial_of l)) none in
    outcomes.gives _ _ c.fresh.result (primitive_part (polynomial_of xs)) m.0 (ap polynomial_of m.1 ∙ sym empty)
    (standard-of (primitive_part (polynomial_of xs)) (primitive-within (polynomial_of xs) (within-of (polynomial_of xs) c.requires.a.standard)))

pub changed-slot-requires-clause-takes : goal.changed-slot-requires-clause-takes
changed-slot-requires-clause-takes g c =
    let xs = list_at (g.S.TermStore.state c.args.s.now).lists c.args.a.slot.0 in
    let w = within-of (polynomial_of xs) c.requires.a.standard in
    let some = reading.divisor-positive MOST_VARIABLES xs (λ e. omega (arith, e)) w.descending in
    all-divisible c.common_divisor-divisor.result (polynomial_of xs) (omega (arith, some)) w.bounded

pub signed-requires : goal.signed-requires
signed-requires g c =
    let xs = list_at (g.S.TermStore.state c.args.s.now).lists c.args.a.slot.0 in
    let w = within-of (polynomial_of xs) c.requires.a.standard in
    let size = reading.divisor-bounded MOST_VARIABLES xs (λ e. omega (arith, e)) w.descending w.bounded in
    omega (arith, size)

pub returns-clause-part : goal.returns-clause-part
returns-clause-part g c =
    let xs = list_at (g.S.TermStore.state c.args.s.now).lists c.args.a.slot.0 in
    let p = polynomial_of xs in
    let sign = c.is_negative-turned.ensures ∙ reading.sign-first xs c.get.result (λ e. omega (arith, e)) c.get.ensures in
    outcomes.gives _ _ c.changed-slot.result (primitive_part p) c.changed-slot.ensures.made (c.changed-slot.ensures.value ∙ pieces-divided c.is_negative-turned.result c.common_divisor-divisor.result p ∙ (λ i. entries_divided (sign i) (c.common_divisor-divisor.ensures i) p))
    (standard-of (primitive_part p) (primitive-within p (within-of p c.requires.a.standard)))
