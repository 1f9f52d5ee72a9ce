use Rattle.std.proofs.Common.{◌≡◌, ◌≤◌, ◌++◌, ◌∷◌, [], drop, get_or, length, length-append, sym, ◌∙◌, ap, subst, arith, refl, inl, inr}
use Rattle.std.specs.Prelude.{◌⊎◌}
use Rattle.poly_model.specs.Standard.{polynomial_of}
use Rattle.poly_model.specs.Standard.{are_bounded}
use Rattle.poly_model.specs.Reduction.{class_of}
use Rattle.term_store.specs.States.{State, IsLive, list_at}
use Rattle.term_store.specs.Changes.{Makes}
use Rattle.polynomials.proofs.rows.merge.Goals.{then-loop-i-test+else-j-end_b, else-loop-i-test}
use Rattle.term_store.proofs.Making as making
use Rattle.polynomials.specs.Summed.{summed}
use Rattle.polynomials.proofs.Steps as steps
use Rattle.polynomials.proofs.Merging as merging
use Rattle.polynomials.proofs.rows.merge.Goals as goal

pub loop-i-init : goal.loop-i-init
loop-i-init g c =
    let m = making.makes-fresh _ _ _ c.fresh-out.ensures.vacant c.fresh-out.ensures.lists c.fresh-out.ensures.spare in
    record {
      made = m.0;
      newest = c.fresh-out.ensures.newest;
      long = omega (arith, ap length m.1);
      first = omega arith;
      second = omega arith;
      merging = merging.start _ _ c.requires.descending_a c.requires.descending_b c.requires.bounded_a c.requires.bounded_b _ m.1;
    }

pub compare_at-requires-clause-used_a : goal.compare_at-requires-clause-used_a
compare_at-requires-clause-used_a g c =
    subst (λ l. class_of (polynomial_of l) ≤ c.end_of_both-end.result) (sym (making.makes-other _ _ _ _ c.loop-i.invariant.made c.requires.live_a)) c.end_of_both-end.ensures.first

pub compare_at-requires-clause-used_b : goal.compare_at-requires-clause-used_b
compare_at-requires-clause-used_b g c =
    subst (λ l. class_of (polynomial_of l) ≤ c.end_of_both-end.result) (sym (making.makes-other _ _ _ _ c.loop-i.invariant.made c.requires.live_b)) c.end_of_both-end.ensures.second

pub get-x-requires-clause-live : goal.get-x-requires-clause-live
get-x-requires-clause-live g c = making.makes-other-live _ _ _ _ c.loop-i.invariant.made c.requires.live_a

pub get-x-requires-in-Equal-clause-live : goal.get-x-requires-in-Equal-clause-live
get-x-requires-in-Equal-clause-live g c = making.makes-other-live _ _ _ _ c.loop-i.invariant.made c.requires.live_a

pub compare_at-requires-clause-live_a : goal.compare_at-requires-clause-live_a
compare_at-requires-clause-live_a g c = making.makes-other-live _ _ _ _ c.loop-i.invariant.made c.requires.live_a

pub get-x-requires-clause-below : goal.get-x-requires-clause-below
get-x-requires-clause-below g c = steps.readable _ _ _ _ _ c.loop-i.invariant.made c.requires.live_a (omega arith)

pub get-x-requires-in-Equal-clause-below : goal.get-x-requires-in-Equal-clause-below
get-x-requires-in-Equal-clause-below g c = steps.readable _ _ _ _ _ c.loop-i.invariant.made c.requires.live_a (omega arith)

pub compare_at-requires-clause-below_a : goal.compare_at-requires-clause-below_a
compare_at-requires-clause-below_a g c = steps.readable _ _ _ _ _ c.loop-i.invariant.made c.requires.live_a (omega arith)

pub get-y-requires-clause-live : goal.get-y-requires-clause-live
get-y-requires-clause-live g c = making.makes-other-live _ _ _ _ c.loop-i.invariant.made c.requires.live_b

pub get-y-requires-in-Equal-clause-live : goal.get-y-requires-in-Equal-clause-live
get-y-requires-in-Equal-clause-live g c = making.makes-other-live _ _ _ _ c.loop-i.invariant.made c.requires.live_b

pub compare_at-requires-clause-live_b : goal.compare_at-requires-clause-live_b
compare_at-requires-clause-live_b g c = making.makes-other-live _ _ _ _ c.loop-i.invariant.made c.requires.live_b

pub get-y-requires-clause-below : goal.get-y-requires-clause-below
get-y-requires-clause-below g c = steps.readable _ _ _ _ _ c.loop-i.invariant.made c.requires.live_b (omega arith)

pub get-y-requires-in-Equal-clause-below : goal.get-y-requires-in-Equal-clause-below
get-y-requires-in-Equal-clause-below g c = steps.readable _ _ _ _ _ c.loop-i.invariant.made c.requires.live_b (omega arith)

pub compare_at-requires-clause-below_b : goal.compare_at-requires-clause-below_b
compare_at-requires-clause-below_b g c = steps.readable _ _ _ _ _ c.loop-i.invariant.made c.requires.live_b (omega arith)

pub loop-i-preserved-in-Greater : goal.loop-i-preserved-in-Greater
loop-i-preserved-in-Greater g c =
    let xs = list_at (g.S.TermStore.state c.args.s.now).lists c.args.a.0 in
    let ys = list_at (g.S.TermStore.state c.args.s.now).lists c.args.b.0 in
    let i = c.loop-i.i in
    let j = c.loop-i.j in
    let x = c.get-x.result in
    let at_x = c.get-x.ensures in
    let zs = list_at (g.S.TermStore.state c.loop-i.s).lists c.args.b.0 in
    let y = get_or zs j x in
    let at_y = steps.own-item zs j x (steps.readable _ _ _ _ _ c.loop-i.invariant.made c.requires.live_b (omega arith)) in
    let first = steps.dropped xs i x (omega arith) (steps.read _ _ _ _ _ x c.loop-i.invariant.made c.requires.live_a (omega arith) at_x) in
    let second = steps.dropped ys j y (omega arith) (steps.read _ _ _ _ _ y c.loop-i.invariant.made c.requires.live_b (omega arith) at_y) in
    let m = making.makes-push _ _ _ _ x c.loop-i.invariant.made c.push.ensures.lists c.push.ensures.spare in
    let before = merging.shaped _ _ _ _ _ _ _ refl first second c.loop-i.invariant.merging in
    record {
      made = m.0;
      newest = c.push.ensures.newest;
      long = omega (arith, ap length m.1, length-append (list_at (g.S.TermStore.state c.loop-i.s).lists c.fresh-out.result.0) (x ∷ []), c.loop-i.invariant.long);
      first = omega arith;
      second = omega arith;
      merging = merging.shaped _ _ _ _ _ _ _ m.1 refl (sym second) (merging.greater _ x y _ _ _ before (sym (c.in-Greater.ensures x y at_x at_y)));
    }

pub loop-i-preserved-in-Less : goal.loop-i-preserved-in-Less
loop-i-preserved-in-Less g c =
    let xs = list_at (g.S.TermStore.state c.args.s.now).lists c.args.a.0 in
    let ys = list_at (g.S.TermStore.state c.args.s.now).lists c.args.b.0 in
    let i = c.loop-i.i in
    let j = c.loop-i.j in
    let y = c.get-y.result in
    let at_y = c.get-y.ensures in
    let zs = list_at (g.S.TermStore.state c.loop-i.s).lists c.args.a.0 in
    let x = get_or zs i y in
    let at_x = steps.own-item zs i y (steps.readable _ _ _ _ _ c.loop-i.invariant.made c.requires.live_a (omega arith)) in
    let first = steps.dropped xs i x (omega arith) (steps.read _ _ _ _ _ x c.loop-i.invariant.made c.requires.live_a (omega arith) at_x) in
    let second = steps.dropped ys j y (omega arith) (steps.read _ _ _ _ _ y c.loop-i.invariant.made c.requires.live_b (omega arith) at_y) in
    let m = making.makes-push _ _ _ _ y c.loop-i.invariant.made c.push-in-Less.ensures.lists c.push-in-Less.ensures.spare in
    let before = merging.shaped _ _ _ _ _ _ _ refl first second c.loop-i.invariant.merging in
    record {
      made = m.0;
      newest = c.push-in-Less.ensures.newest;
      long = omega (arith, ap length m.1, length-append (list_at (g.S.TermStore.state c.loop-i.s).lists c.fresh-out.result.0) (y ∷ []), c.loop-i.invariant.long);
      first = omega arith;
      second = omega arith;
      merging = merging.shaped _ _ _ _ _ _ _ m.1 (sym first) refl (merging.less _ x y _ _ _ before (sym (c.in-Less.ensures x y at_x at_y)));
    }

pub push_sum-requires-clause-new : goal.push_sum-requires-clause-new
push_sum-requires-clause-new g c = making.makes-live _ _ _ c.loop-i.invariant.made

pub push_sum-requires-clause-x : goal.push_sum-requires-clause-x
push_sum-requires-clause-x g c = steps.bounded-at _ c.loop-i.i c.get-x-in-Equal.result (omega arith) (steps.read _ _ _ _ _ c.get-x-in-Equal.result c.loop-i.invariant.made c.requires.live_a (omega arith) c.get-x-in-Equal.ensures) c.requires.bounded_a

pub push_sum-requires-clause-y : goal.push_sum-requires-clause-y
push_sum-requires-clause-y g c = steps.bounded-at _ c.loop-i.j c.get-y-in-Equal.result (omega arith) (steps.read _ _ _ _ _ c.get-y-in-Equal.result c.loop-i.invariant.made c.requires.live_b (omega arith) c.get-y-in-Equal.ensures) c.requires.bounded_b

pub loop-i-preserved : goal.loop-i-preserved
loop-i-preserved g c =
    let xs = list_at (g.S.TermStore.state c.args.s.now).lists c.args.a.0 in
    let ys = list_at (g.S.TermStore.state c.args.s.now).lists c.args.b.0 in
    let i = c.loop-i.i in
    let j = c.loop-i.j in
    let x = c.get-x-in-Equal.result in
    let at_x = c.get-x-in-Equal.ensures in
    let y = c.get-y-in-Equal.result in
    let at_y = c.get-y-in-Equal.ensures in
    let first = steps.dropped xs i x (omega arith) (steps.read _ _ _ _ _ x c.loop-i.invariant.made c.requires.live_a (omega arith) at_x) in
    let second = steps.dropped ys j y (omega arith) (steps.read _ _ _ _ _ y c.loop-i.invariant.made c.requires.live_b (omega arith) at_y) in
    let h = c.push_sum.ensures.added c.if-not-push_sum.false in
    let m = making.makes-extends _ _ _ _ _ c.loop-i.invariant.made h.1 in
    let before = merging.shaped _ _ _ _ _ _ _ refl first second c.loop-i.invariant.merging in
    record {
      made = m.0;
      newest = h.1.newest;
      long = omega (arith, ap length m.1, length-append (list_at (g.S.TermStore.state c.loop-i.s).lists c.fresh-out.result.0) (summed x y), merging.summed-length x y, c.loop-i.invariant.long);
      first = omega arith;
      second = omega arith;
      merging = merging.shaped _ _ _ _ _ _ _ m.1 refl refl (merging.both_equal _ x y _ _ _ before (sym (c.in-Equal.ensures x y at_x at_y)) h.0);
    }

pub free-requires : goal.free-requires
free-requires g c = subst (λ (t : State). IsLive t.lists c.fresh-out.result.0) (sym (c.push_sum.ensures.passes c.if-not-push_sum.true).1) (making.makes-live _ _ _ c.loop-i.invariant.made)

pub returns-then-not-push_sum-clause-passes : goal.returns-then-not-push_sum-clause-passes
returns-then-not-push_sum-clause-passes g c =
    let xs = list_at (g.S.TermStore.state c.args.s.now).lists c.args.a.0 in
    let ys = list_at (g.S.TermStore.state c.args.s.now).lists c.args.b.0 in
    let i = c.loop-i.i in
    let j = c.loop-i.j in
    let x = c.get-x-in-Equal.result in
    let at_x = c.get-x-in-Equal.ensures in
    let y = c.get-y-in-Equal.result in
    let at_y = c.get-y-in-Equal.ensures in
    let first = steps.dropped xs i x (omega arith) (steps.read _ _ _ _ _ x c.loop-i.invariant.made c.requires.live_a (omega arith) at_x) in
    let second = steps.dropped ys j y (omega arith) (steps.read _ _ _ _ _ y c.loop-i.invariant.made c.requires.live_b (omega arith) at_y) in
    let before = merging.shaped _ _ _ _ _ _ _ refl first second c.loop-i.invariant.merging in
    merging.passes _ x y _ _ _ before (sym (c.in-Equal.ensures x y at_x at_y)) (c.push_sum.ensures.passes c.if-not-push_sum.true).0

pub returns-then-not-push_sum-clause-kept : goal.returns-then-not-push_sum-clause-kept
returns-then-not-push_sum-clause-kept g c =
    let same = (c.push_sum.ensures.passes c.if-not-push_sum.true).1 in
    making.makes-freed _ _ _ _ (subst (λ (t : State). Makes (g.S.TermStore.state c.args.s.now) t c.fresh-out.result.0) (sym same) c.loop-i.invariant.made) c.free.ensures.lists c.free.ensures.spare

pub copy_rest-requires-clause-new : goal.copy_rest-requires-clause-new
copy_rest-requires-clause-new g c = making.makes-live _ _ _ c.loop-i.invariant.made

pub copy_rest-requires-clause-live : goal.copy_rest-requires-clause-live
copy_rest-requires-clause-live g c = making.makes-other-live _ _ _ _ c.loop-i.invariant.made c.requires.live_a

pub copy_rest-requires-clause-from : goal.copy_rest-requires-clause-from
copy_rest-requires-clause-from g c = omega (arith, ap length (making.makes-other _ _ _ _ c.loop-i.invariant.made c.requires.live_a), c.loop-i.invariant.first)

pub copy_rest-requires-clause-room : goal.copy_rest-requires-clause-room
copy_rest-requires-clause-room g c =
    let i = c.loop-i.invariant in
    omega (arith, ap length (making.makes-other _ _ _ _ i.made c.requires.live_a), i.made.spare, i.long, i.second, c.requires.room)

pub copy_rest-requires-2-clause-new : goal.copy_rest-requires-2-clause-new
copy_rest-requires-2-clause-new g c = making.makes-live _ _ _ (making.makes-extends _ _ _ _ _ c.loop-i.invariant.made c.copy_rest.ensures).0

pub copy_rest-requires-2-clause-live : goal.copy_rest-requires-2-clause-live
copy_rest-requires-2-clause-live g c = making.makes-other-live _ _ _ _ (making.makes-extends _ _ _ _ _ c.loop-i.invariant.made c.copy_rest.ensures).0 c.requires.live_b

pub copy_rest-requires-2-clause-from : goal.copy_rest-requires-2-clause-from
copy_rest-requires-2-clause-from g c =
    omega (arith, ap length (making.makes-other _ _ _ _ (making.makes-extends _ _ _ _ _ c.loop-i.invariant.made c.copy_rest.ensures).0 c.requires.live_b), c.loop-i.invariant.second)

pub copy_rest-requires-2-clause-room : goal.copy_rest-requires-2-clause-room
copy_rest-requires-2-clause-room g c =
    let i = c.loop-i.invariant in
    let first = making.makes-other _ _ _ _ i.made c.requires.live_a in
    let rest = ap (λ l. length (drop c.loop-i.i l)) first in
    omega (
      arith,
      ap length (making.makes-other _ _ _ _ (making.makes-extends _ _ _ _ _ i.made c.copy_rest.ensures).0 c.requires.live_b),
      rest,
      steps.dropped-length (list_at (g.S.TermStore.state c.args.s.now).lists c.args.a.0) c.loop-i.i i.first,
      c.copy_rest.ensures.spare,
      i.made.spare,
      i.long,
      i.first,
      i.second,
      c.requires.room,
    )

pub returns-clause-made : goal.returns-clause-made
returns-clause-made g c =
    let m = making.makes-extends _ _ _ _ _ c.loop-i.invariant.made c.copy_rest.ensures in
    (making.makes-extends _ _ _ _ _ m.0 c.copy_rest-2.ensures).0

pub returns-clause-value : goal.returns-clause-value
returns-clause-value g c =
    let xs = list_at (g.S.TermStore.state c.args.s.now).lists c.args.a.0 in
    let ys = list_at (g.S.TermStore.state c.args.s.now).lists c.args.b.0 in
    let out = list_at (g.S.TermStore.state c.loop-i.s).lists c.fresh-out.result.0 in
    let i = c.loop-i.invariant in
    let m = making.makes-extends _ _ _ _ _ i.made c.copy_rest.ensures in
    let n = making.makes-extends _ _ _ _ _ m.0 c.copy_rest-2.ensures in
    let first = making.makes-other _ _ _ _ i.made c.requires.live_a in
    let second = making.makes-other _ _ _ _ m.0 c.requires.live_b in
    let whole = n.1 ∙ (λ k. (m.1 ∙ ap (λ l. out ++ drop c.loop-i.i l) first) k ++ drop c.loop-i.j (second k)) in
    let ends : (length (drop c.loop-i.i xs) ≡ 0) ⊎ (length (drop c.loop-i.j ys) ≡ 0) = elim c.loop-i-test.branch [
      | then-loop-i-test+else-j-end_b w ↦ inr (omega (arith, steps.dropped-length ys c.loop-i.j i.second, w.if-j-end_b.false))
      | else-loop-i-test w ↦ inl (omega (arith, steps.dropped-length xs c.loop-i.i i.first, w.loop-i-test.false))
    ] in
    ap polynomial_of whole ∙ (merging.ending out (drop c.loop-i.i xs) (drop c.loop-i.j ys) _ ends i.merging).1

pub returns-clause-bounded : goal.returns-clause-bounded
returns-clause-bounded g c =
    let xs = list_at (g.S.TermStore.state c.args.s.now).lists c.args.a.0 in
    let ys = list_at (g.S.TermStore.state c.args.s.now).lists c.args.b.0 in
    let out = list_at (g.S.TermStore.state c.loop-i.s).lists c.fresh-out.result.0 in
    let i = c.loop-i.invariant in
    let ends : (length (drop c.loop-i.i xs) ≡ 0) ⊎ (length (drop c.loop-i.j ys) ≡ 0) = elim c.loop-i-test.branch [
      | then-loop-i-test+else-j-end_b w ↦ inr (omega (arith, steps.dropped-length ys c.loop-i.j i.second, w.if-j-end_b.false))
      | else-loop-i-test w ↦ inl (omega (arith, steps.dropped-length xs c.loop-i.i i.first, w.loop-i-test.false))
    ] in
    let e = merging.ending out (drop c.loop-i.i xs) (drop c.loop-i.j ys) _ ends i.merging in
    ap are_bounded (sym e.1) ∙ e.0
