use Rattle.std.proofs.Common.{◌≡◌, ◌<◌, ◌≤◌, ◌+◌, ◌++◌, ◌∷◌, [], drop, length, length-append, sym, ◌∙◌, ap, subst, arith, get_or}
use Rattle.std.specs.Prelude.{ℤ, unsigned_abs}
use Rattle.poly_model.specs.declared.term.Term.{Term}
use Rattle.poly_model.specs.declared.limits.TheConstants.{MOST_SIZE}
use Rattle.std.proofs.lemmas.Int.{ints, to_z-of_z}
use mir.Syntax.{w128}
use mir.Val.{SFits}
use Rattle.poly_model.specs.Standard.{polynomial_of}
use Rattle.term_store.specs.States.{list_at}
use Rattle.term_store.proofs.Making as making
use Rattle.poly_model.specs.Standard.{are_bounded}
use Rattle.poly_model.specs.Bounded.{multiple}
use Rattle.polynomials.proofs.Steps as steps
use Rattle.polynomials.proofs.rows.multiple.Goals as goal

ap_le : (a b : ℤ) → a ≡ b → unsigned_abs b ≤ MOST_SIZE → unsigned_abs a ≤ MOST_SIZE
ap_le a b e h = subst (λ z. unsigned_abs z ≤ MOST_SIZE) (sym e) h

pub loop-i-init : goal.loop-i-init
loop-i-init g c =
    let m = making.makes-fresh _ _ _ c.fresh-out.ensures.vacant c.fresh-out.ensures.lists c.fresh-out.ensures.spare in
    let qs = list_at (g.S.TermStore.state c.args.s.now).lists c.args.q.0 in
    record {
      made = m.0;
      newest = c.fresh-out.ensures.newest;
      long = ap length m.1;
      value = ap (λ l. polynomial_of l ++ multiple c.args.factor.now.exps c.args.factor.now.coef (polynomial_of qs)) m.1;
      bounded = ap (λ l. are_bounded (polynomial_of l)) m.1;
    }

pub get-term-requires-clause-live : goal.get-term-requires-clause-live
get-term-requires-clause-live g c = making.makes-other-live _ _ _ _ c.loop-i.invariant.made c.requires.live

pub get-term-requires-clause-below : goal.get-term-requires-clause-below
get-term-requires-clause-below g c = omega (arith, ap length (making.makes-other _ _ _ _ c.loop-i.invariant.made c.requires.live))

pub free-requires : goal.free-requires
free-requires g c = making.makes-live _ _ _ c.loop-i.invariant.made

pub returns-in_default-clause-kept : goal.returns-in_default-clause-kept
returns-in_default-clause-kept g c = making.makes-freed _ _ _ _ c.loop-i.invariant.made c.free.ensures.lists c.free.ensures.spare

pub product_in-requires-clause-b : goal.product_in-requires-clause-b
product_in-requires-clause-b g c =
    let qs = list_at (g.S.TermStore.state c.args.s.now).lists c.args.q.0 in
    let same = making.makes-other _ _ _ _ c.loop-i.invariant.made c.requires.live in
    let t = c.get-term.result in
    let at : t ≡ get_or qs c.loop-i.i t = c.get-term.ensures ∙ ap (λ l. get_or l c.loop-i.i t) same in
    let size = steps.bounded-at qs c.loop-i.i t (omega arith) at c.requires.bounded in
    let fits : SFits w128 t.coef = omega (arith, ints, size) in
    simp to_z-of_z size

pub returns-in_default-clause-passes : goal.returns-in_default-clause-passes
returns-in_default-clause-passes g c =
    let qs = list_at (g.S.TermStore.state c.args.s.now).lists c.args.q.0 in
    let same = making.makes-other _ _ _ _ c.loop-i.invariant.made c.requires.live in
    let t = c.get-term.result in
    let at : t ≡ get_or qs c.loop-i.i t = c.get-term.ensures ∙ ap (λ l. get_or l c.loop-i.i t) same in
    let size = steps.bounded-at qs c.loop-i.i t (omega arith) at c.requires.bounded in
    let fits : SFits w128 t.coef = omega (arith, ints, size) in
    let fits_f : SFits w128 c.args.factor.now.coef = omega (arith, ints, c.requires.coef) in
    let passes = simp to_z-of_z at c.in_default.ensures in
    steps.row-passes _ qs c.args.factor.now.exps c.args.factor.now.coef c.loop-i.i t _ (omega arith) at passes c.loop-i.invariant.value

pub exponents_sum-sum-requires-clause-b : goal.exponents_sum-sum-requires-clause-b
exponents_sum-sum-requires-clause-b g c =
    let qs = list_at (g.S.TermStore.state c.args.s.now).lists c.args.q.0 in
    let same = making.makes-other _ _ _ _ c.loop-i.invariant.made c.requires.live in
    let t = c.get-term.result in
    let at : t ≡ get_or qs c.loop-i.i t = c.get-term.ensures ∙ ap (λ l. get_or l c.loop-i.i t) same in
    steps.lows-at qs c.loop-i.i t (omega arith) at c.requires.lows

pub loop-i-preserved : goal.loop-i-preserved
loop-i-preserved g c =
    let qs = list_at (g.S.TermStore.state c.args.s.now).lists c.args.q.0 in
    let same = making.makes-other _ _ _ _ c.loop-i.invariant.made c.requires.live in
    let t = c.get-term.result in
    let at : t ≡ get_or qs c.loop-i.i t = c.get-term.ensures ∙ ap (λ l. get_or l c.loop-i.i t) same in
    let below : c.loop-i.i < length qs = omega arith in
    let size = steps.bounded-at qs c.loop-i.i t below at c.requires.bounded in
    let fits : SFits w128 t.coef = omega (arith, ints, size) in
    let fits_f : SFits w128 c.args.factor.now.coef = omega (arith, ints, c.requires.coef) in
    let h = simp to_z-of_z at c.in-Some.ensures in
    let small : unsigned_abs c.in-Some.product ≤ MOST_SIZE = ap_le c.in-Some.product _ h.1 h.0 in
    let fits_p : SFits w128 c.in-Some.product = omega (arith, ints, small) in
    let x : Term = record { coef = c.in-Some.product; exps = c.exponents_sum-sum.result } in
    let out = list_at (g.S.TermStore.state c.loop-i.s).lists c.fresh-out.result.0 in
    let m = making.makes-push _ _ _ _ x c.loop-i.invariant.made (simp to_z-of_z at c.push.ensures.lists) c.push.ensures.spare in
    record {
      made = m.0;
      newest = c.push.ensures.newest;
      long = ap length m.1 ∙ length-append out (x ∷ []) ∙ ap (λ n. n + 1) c.loop-i.invariant.long;
      value = ap (λ l. polynomial_of l ++ multiple c.args.factor.now.exps c.args.factor.now.coef (polynomial_of (drop (c.loop-i.i + 1) qs))) m.1
          ∙ steps.row-step out qs c.args.factor.now.exps c.args.factor.now.coef c.loop-i.i t x below at h.1 c.exponents_sum-sum.ensures ∙ c.loop-i.invariant.value;
      bounded = ap (λ l. are_bounded (polynomial_of l)) m.1 ∙ steps.bounded-more out x c.loop-i.invariant.bounded small;
    }

pub returns-clause-value : goal.returns-clause-value
returns-clause-value g c =
    let qs = list_at (g.S.TermStore.state c.args.s.now).lists c.args.q.0 in
    steps.row-end _ qs c.args.factor.now.exps c.args.factor.now.coef c.loop-i.i _ (omega arith) c.loop-i.invariant.value

pub returns-clause-bounded : goal.returns-clause-bounded
returns-clause-bounded g c =
    let qs = list_at (g.S.TermStore.state c.args.s.now).lists c.args.q.0 in
    ap are_bounded (sym (steps.row-end _ qs c.args.factor.now.exps c.args.factor.now.coef c.loop-i.i _ (omega arith) c.loop-i.invariant.value)) ∙ c.loop-i.invariant.bounded
