use Rattle.std.proofs.Common.{◌≡◌, ◌<◌, ◌+◌, ◌-◌, ◌++◌, ◌∷◌, [], suc, length, length-append, take, drop, sym, ◌∙◌, ap, arith}
use Rattle.poly_model.specs.Standard.{polynomial_of}
use Rattle.term_store.specs.States.{list_at}
use Rattle.term_store.proofs.Making as making
use Rattle.polynomials.specs.Held.{slot_of}
use Rattle.polynomials.specs.Sizes.{part_of}
use Rattle.polynomials.proofs.Steps as steps
use Rattle.polynomials.proofs.Outcomes as outcomes
use Rattle.polynomials.proofs.RowGroups as groups
use Rattle.polynomials.proofs.groups.copy_part.Goals as goal

pub loop-i-init : goal.loop-i-init
loop-i-init g c =
    let xs = list_at (g.S.TermStore.state c.args.s.now).lists (slot_of c.args.a) in
    let m = making.makes-fresh _ _ _ c.fresh-out.ensures.vacant c.fresh-out.ensures.lists c.fresh-out.ensures.spare in
    let all : (c.args.from + c.args.count) - c.args.from ≡ c.args.count = omega arith in
    record {
      made = m.0;
      newest = c.fresh-out.ensures.newest;
      long = omega (arith, ap length m.1);
      value = ap (λ l. l ++ take ((c.args.from + c.args.count) - c.args.from) (drop c.args.from xs)) m.1 ∙ ap (λ n. take n (drop c.args.from xs)) all;
    }

pub get-term-requires-clause-live : goal.get-term-requires-clause-live
get-term-requires-clause-live g c = making.makes-other-live _ _ _ _ c.loop-i.invariant.made c.requires.a.live

pub get-term-requires-clause-below : goal.get-term-requires-clause-below
get-term-requires-clause-below g c = steps.readable _ _ _ _ _ c.loop-i.invariant.made c.requires.a.live (omega (arith, c.requires.within))

pub push-requires-clause-spare : goal.push-requires-clause-spare
push-requires-clause-spare g c = omega (arith, c.loop-i.invariant.long, c.loop-i.invariant.made.spare, c.requires.room)

pub loop-i-preserved : goal.loop-i-preserved
loop-i-preserved g c =
    let xs = list_at (g.S.TermStore.state c.args.s.now).lists (slot_of c.args.a) in
    let out = list_at (g.S.TermStore.state c.loop-i.s).lists c.fresh-out.result.0 in
    let i = c.loop-i.i in
    let end = c.args.from + c.args.count in
    let t = c.get-term.result in
    let below : i < length xs = omega (arith, c.requires.within) in
    let at = steps.read _ _ _ _ _ t c.loop-i.invariant.made c.requires.a.live below c.get-term.ensures in
    let m = making.makes-push _ _ _ _ t c.loop-i.invariant.made c.push.ensures.lists c.push.ensures.spare in
    let more : suc (end - (i + 1)) ≡ end - i = omega arith in
    record {
      made = m.0;
      newest = c.push.ensures.newest;
      long = omega (arith, ap length m.1, length-append out (t ∷ []), c.loop-i.invariant.long);
      value = ap (λ l. l ++ take (end - (i + 1)) (drop (i + 1) xs)) m.1 ∙ groups.part-step out xs i (end - (i + 1)) t below at
          ∙ ap (λ n. out ++ take n (drop i xs)) more ∙ c.loop-i.invariant.value;
    }

pub returns : goal.returns
returns g c =
    let s = g.S.TermStore.state c.args.s.now in
    let xs = list_at s.lists (slot_of c.args.a) in
    let out = list_at (g.S.TermStore.state c.loop-i.s).lists c.fresh-out.result.0 in
    let none : (c.args.from + c.args.count) - c.loop-i.i ≡ 0 = omega arith in
    let whole : out ≡ take c.args.count (drop c.args.from xs) =
    sym (steps.nothing out) ∙ ap (λ n. out ++ take n (drop c.loop-i.i xs)) (sym none) ∙ c.loop-i.invariant.value in
    outcomes.gives _ _ _ (part_of xs c.args.from c.args.count) c.loop-i.invariant.made (ap polynomial_of whole) (groups.part-standard xs c.args.from c.args.count c.requires.within c.requires.a.standard)
