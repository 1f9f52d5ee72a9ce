use Rattle.std.proofs.Common.{map, sym, ◌∙◌, ap, subst, ◌&&◌, not}
use Rattle.std.specs.List.{list_all}
use Rattle.poly_model.specs.Standard.{polynomial_of}
use Rattle.poly_model.specs.Reduction.{class_of, is_constant}
use Rattle.proof_steps.specs.Rules.{is_settled}
use Rattle.term_store.specs.States.{list_at}
use Rattle.polynomials.specs.Held.{polynomial_at, slot_of}
use Rattle.workbench.specs.Standing.{AreHeld}
use Rattle.workbench.proofs.Owning as owning
use Rattle.workbench.proofs.Benches as benches
use Rattle.triangular.proofs.system.is_triangular.Goals as goal

pub is_alone-requires-clause-eqs : goal.is_alone-requires-clause-eqs
is_alone-requires-clause-eqs g c = benches.held-keeps _ _ c.args.eqs.now c.loop-first.invariant.kept c.requires.eqs

pub is_alone-requires-clause-nes : goal.is_alone-requires-clause-nes
is_alone-requires-clause-nes g c = benches.held-keeps _ _ c.args.nes.now c.loop-first.invariant.kept c.requires.nes

pub returns-then-not-is_alone-clause-value : goal.returns-then-not-is_alone-clause-value
returns-then-not-is_alone-clause-value g c =
    let s = g.S.TermStore.state c.args.s.now in
    let E = c.args.eqs.now in
    let N = c.args.nes.now in
    let first = c.in-Some.first.now in
    let rest = c.in-Some.after.now in
    let value = c.is_alone.ensures.value
    ∙ ap (λ m. not (is_constant (polynomial_of (list_at m (slot_of first)))) && is_settled (map (λ q. polynomial_of (list_at m (slot_of q))) E) (map (λ q. polynomial_of (list_at m (slot_of q))) N) (class_of (polynomial_of (list_at m (slot_of first))))) c.loop-first.invariant.kept.lists in
    ap (λ b. b && list_all (λ p. not (is_constant p) && is_settled (map (polynomial_at s) E) (map (polynomial_at s) N) (class_of p)) (map (polynomial_at s) rest)) (sym c.if-not-is_alone.true ∙ value)
    ∙ ap (λ l. list_all (λ p. not (is_constant p) && is_settled (map (polynomial_at s) E) (map (polynomial_at s) N) (class_of p)) (map (polynomial_at s) l)) (sym c.in-Some.ensures.cases.0)
    ∙ c.loop-first.invariant.same

pub loop-first-preserved : goal.loop-first-preserved
loop-first-preserved g c =
    let s = g.S.TermStore.state c.args.s.now in
    let E = c.args.eqs.now in
    let N = c.args.nes.now in
    let first = c.in-Some.first.now in
    let rest = c.in-Some.after.now in
    let value = c.is_alone.ensures.value
    ∙ ap (λ m. not (is_constant (polynomial_of (list_at m (slot_of first)))) && is_settled (map (λ q. polynomial_of (list_at m (slot_of q))) E) (map (λ q. polynomial_of (list_at m (slot_of q))) N) (class_of (polynomial_of (list_at m (slot_of first))))) c.loop-first.invariant.kept.lists in
    let held = subst (AreHeld s) c.in-Some.ensures.cases.0 c.loop-first.invariant.held in
    record {
      kept = owning.keeps-then s _ _ c.loop-first.invariant.kept c.is_alone.ensures.kept;
      same = ap (λ b. b && list_all (λ p. not (is_constant p) && is_settled (map (polynomial_at s) E) (map (polynomial_at s) N) (class_of p)) (map (polynomial_at s) rest)) (sym c.if-not-is_alone.false ∙ value)
          ∙ ap (λ l. list_all (λ p. not (is_constant p) && is_settled (map (polynomial_at s) E) (map (polynomial_at s) N) (class_of p)) (map (polynomial_at s) l)) (sym c.in-Some.ensures.cases.0)
          ∙ c.loop-first.invariant.same;
      held = record { live = held.live.1; standard = held.standard.1 };
    }
