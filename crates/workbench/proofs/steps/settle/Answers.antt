use Rattle.std.proofs.Common.{◌≡◌, ◌≤◌, ◌+◌, ◌-◌, map, refl, sym, subst, arith}
use Rattle.term_store.specs.States.{IsLive}
use Rattle.polynomials.specs.Held.{polynomial_at}
use Rattle.proof_steps.specs.Rules.{size_of}
use Rattle.workbench.specs.Standing.{held_slot, node_at, put_at, AreHeld, Tells}
use Rattle.std.specs.Vec.{with_item}
use Rattle.workbench.proofs.Benches as benches
use Rattle.workbench.proofs.Tests as tests
use Rattle.workbench.proofs.steps.settle.Goals as goal

pub overflow_sub-size : goal.overflow_sub-size
overflow_sub-size g c = let e = benches.terms-within _ _ c.args.bench.now _ c.args.i c.index-old.result.now c.requires.stands c.requires.has c.index-old.ensures in omega (arith, e)

pub returns-then-saturating_sub-size : goal.returns-then-saturating_sub-size
returns-then-saturating_sub-size g c =
    let s = g.S.TermStore.state c.args.s.now in
    let e = benches.terms-within _ _ c.args.bench.now _ c.args.i c.index-old.result.now c.requires.stands c.requires.has c.index-old.ensures in
    let size = benches.put-size _ _ _ c.args.bench.now c.args.i c.index-old.result.now (polynomial_at s c.args.r) c.requires.stands c.requires.has c.index-old.ensures in (
      tests.below-is _ (size_of (put_at (node_at s c.args.bench.now) c.args.i (polynomial_at s c.args.r)))
          (let m = c.term_count-terms.ensures in let t = c.if-saturating_sub-size.true in let f = c.saturating_sub.ensures in omega (arith, e, size, m, t, f)),
      benches.alone _ _ _ c.args.bench.now _ c.requires.stands c.give_up.ensures.lists c.give_up.ensures.spare,
    )

pub held-new-requires-clause-held : goal.held-new-requires-clause-held
held-new-requires-clause-held g c = subst (AreHeld (g.S.TermStore.state c.args.s.now)) (sym c.deref.ensures.value) (benches.conditions-held _ _ _ c.args.bench.now c.requires.stands)

pub give_up-requires-2 : goal.give_up-requires-2
give_up-requires-2 g c =
    subst (λ n. IsLive n (held_slot c.index-old.result.now)) (sym c.held-new.ensures.kept.lists)
    (benches.live-place (g.S.TermStore.state c.args.s.now) c.args.bench.now.eqs.items _ c.args.i c.index-old.result.now (benches.bench-live _ _ _ c.args.bench.now c.requires.stands) c.requires.has c.index-old.ensures)

pub returns : goal.returns
returns g c =
    let s = g.S.TermStore.state c.args.s.now in
    let t = g.S.TermStore.state c.held-new.new.s in
    let u = g.S.TermStore.state c.give_up-2.new.s in
    let b = c.args.bench.now in
    let x = c.index-old.result.now in
    let y = c.held-new.result in
    let e = benches.terms-within _ _ b _ c.args.i x c.requires.stands c.requires.has c.index-old.ensures in
    let size = benches.put-size _ _ _ b c.args.i x (polynomial_at s c.args.r) c.requires.stands c.requires.has c.index-old.ensures in
    let tells : Tells (node_at s b).nes y (polynomial_at s c.args.r) = subst (λ l. Tells (map (polynomial_at s) l) y (polynomial_at s c.args.r)) c.deref.ensures.value c.held-new.ensures.tells in
    let m = c.term_count-terms.ensures in
    let q = c.if-saturating_sub-size.false in
    let f = c.saturating_sub.ensures in
    let yt : y.terms ≡ c.term_count-terms.result = (let k = tells.terms in omega (arith, k, m)) in
    let z : b.size - x.terms + c.term_count-terms.result + x.terms ≡ b.size + y.terms = omega (arith, e, yt) in
    let fu : b.fuel - (1 + c.term_count-terms.result) ≡ b.fuel - (1 + y.terms) = omega (arith, yt) in
    let enough : b.size - x.terms + c.term_count-terms.result ≤ b.fuel - (1 + c.term_count-terms.result) = omega (arith, f, q) in (
      tests.not-below _ (size_of (put_at (node_at s b) c.args.i (polynomial_at s c.args.r))) (omega (arith, e, size, m, enough)),
      benches.settling _ s t u b record {
        path = b.path;
        eqs = with_item b.eqs c.args.i y;
        nes = b.nes;
        fuel = b.fuel - (1 + c.term_count-terms.result);
        size = b.size - x.terms + c.term_count-terms.result;
      } c.args.i x y c.args.r c.requires.stands c.requires.has c.index-old.ensures c.held-new.ensures.poly tells c.held-new.ensures.kept c.give_up-2.ensures.lists c.give_up-2.ensures.spare refl refl refl z fu enough,
    )
