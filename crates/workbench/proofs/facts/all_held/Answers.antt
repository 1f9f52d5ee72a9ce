use Rattle.std.proofs.Common.{◌≡◌, ◌++◌, map, sym, ◌∙◌, ap, subst, append_assoc, [], ◌∷◌, List}
use Rattle.std.proofs.lemmas.List.{map-append}
use Rattle.polynomials.specs.Held.{polynomial_at}
use Rattle.workbench.specs.declared.bench.Held.{Held}
use Rattle.workbench.specs.Standing.{AllTell, AreHeld, Tells, held_at, poly_of}
use Rattle.workbench.proofs.Owning as owning
use Rattle.workbench.proofs.Benches as benches
use Rattle.workbench.proofs.facts.all_held.Goals as goal

pub held-known-requires-clause-held : goal.held-known-requires-clause-held
held-known-requires-clause-held g c = benches.held-keeps _ _ c.args.nes.now c.loop-first.invariant.kept c.requires.nes

pub loop-first-preserved : goal.loop-first-preserved
loop-first-preserved g c =
    let s = g.S.TermStore.state c.args.s.now in
    let t = g.S.TermStore.state c.loop-first.s in
    let hs = c.loop-first.hs.items in
    let h = c.held-known.result in
    let first = c.in-Some.first.now in
    let whole : c.loop-first.rest.now ≡ first ∷ c.in-Some.after.now = c.in-Some.ensures.cases.0 in
    let held = subst (AreHeld s) whole c.loop-first.invariant.held in
    let tells : Tells (map (polynomial_at s) c.args.nes.now) h (held_at s h) =
    subst (λ p. Tells (map (polynomial_at s) c.args.nes.now) h (polynomial_at s p)) (sym c.held-known.ensures.poly) (benches.tells-keeps s t c.args.nes.now h first c.loop-first.invariant.kept c.held-known.ensures.tells) in
    record {
      kept = owning.keeps-then s t _ c.loop-first.invariant.kept c.held-known.ensures.kept;
      polys = (λ i. map poly_of (c.in_ok-push.ensures.items i) ++ c.in-Some.after.now)
          ∙ ap (λ l. l ++ c.in-Some.after.now) (map-append poly_of hs (h ∷ []))
          ∙ append_assoc (map poly_of hs) (poly_of h ∷ []) c.in-Some.after.now
          ∙ (λ i. map poly_of hs ++ c.held-known.ensures.poly i ∷ c.in-Some.after.now)
          ∙ ap (λ l. map poly_of hs ++ l) (sym whole) ∙ c.loop-first.invariant.polys;
      tell = subst (λ (l : List Held). AllTell (map (polynomial_at s) c.args.nes.now) l (map (held_at s) l)) (sym c.in_ok-push.ensures.items)
          (benches.tell-more (map (polynomial_at s) c.args.nes.now) (held_at s) hs h c.loop-first.invariant.tell tells);
      held = record { live = held.live.1; standard = held.standard.1 };
    }
