-- The ends of a part are one pair of places, and are rounded to one pair of spots.
use Rattle.std.proofs.Common.{◌≡◌, inl, inr, ℕ, zero, suc, [], ◌∷◌, refl, sym, arith}
use Rattle.std.specs.Prelude.{ℤ, pos, negsuc, ◌+ℤ◌, ◌-ℤ◌, ◌*ℤ◌, neg_ℤ, ◌<ℤ◌, ◌≤ℤ◌}
use Rattle.std.proofs.lemmas.Int.{ints}
use Rattle.edge_num.specs.Numbers.{nearest, IsNearest}
use Rattle.edge_num.proofs.Nearest.{nearest_is_near, nearest_is_one}
use Rattle.poly_model.specs.Integers.{integers_ring}
use Rattle.poly_model.specs.Solve.{Var, Num, Add, Mul, solve}
use Rattle.circle_cut.specs.declared.exact.Exact.{Exact}
use Rattle.circle_cut.specs.Places.{rounded}
use Rattle.line_clip.specs.Part.{IsSame, NotAfter}
use Rattle.line_clip.specs.Ends.{EndsAreOne}
use Rattle.line_clip.proofs.Falling.{nonneg, positive, less}

anti : (p q : Exact) → NotAfter p q → NotAfter q p → IsSame p q
anti p q (inr s) after = s
anti p q (inl before) (inr s) = (sym s.0, sym s.1)
anti p q (inl (inl a)) (inl (inl b)) = absurd (omega (arith, ints, a, b))
anti p q (inl (inl a)) (inl (inr b)) = absurd (let e = b.0 in omega (arith, ints, a, e))
anti p q (inl (inr a)) (inl (inl b)) = absurd (let e = a.0 in omega (arith, ints, b, e))
anti p q (inl (inr a)) (inl (inr b)) = absurd (let e = a.1 in let f = b.1 in omega (arith, ints, e, f))

-- d (2 (y - q e)) - e (2 (x - q d)) = 2 (y d - x e)
scales : (x d y e q : ℤ) → d *ℤ (pos 2 *ℤ (y -ℤ q *ℤ e)) -ℤ e *ℤ (pos 2 *ℤ (x -ℤ q *ℤ d)) ≡ pos 2 *ℤ (y *ℤ d -ℤ x *ℤ e)
scales x d y e q = solve integers_ring (x ∷ d ∷ y ∷ e ∷ q ∷ [])
    (less (Mul (Var 1) (Mul (Num (pos 2)) (less (Var 2) (Mul (Var 4) (Var 3))))) (Mul (Var 3) (Mul (Num (pos 2)) (less (Var 0) (Mul (Var 4) (Var 1))))))
    (Mul (Num (pos 2)) (less (Mul (Var 2) (Var 1)) (Mul (Var 0) (Var 3)))) refl

times-negative : (d : ℤ) (k : ℕ) → pos 0 <ℤ d → (d *ℤ negsuc k) <ℤ pos 0
times-negative (pos zero) k h = absurd (omega (arith, ints, h))
times-negative (pos (suc a)) k h = omega (arith, ints)
times-negative (negsuc a) k h = absurd (omega (arith, ints, h))

cancel : (d u : ℤ) → pos 0 <ℤ d → pos 0 ≤ℤ (d *ℤ u) → pos 0 ≤ℤ u
cancel d (pos u) h p = omega (arith, ints)
cancel d (negsuc u) h p = absurd (let n = times-negative d u h in omega (arith, ints, n, p))

cancel-strictly : (d u : ℤ) → pos 0 <ℤ d → pos 0 <ℤ (d *ℤ u) → pos 0 <ℤ u
cancel-strictly d (pos zero) h p = absurd (omega (arith, ints, p))
cancel-strictly d (pos (suc u)) h p = omega (arith, ints)
cancel-strictly d (negsuc u) h p = absurd (let n = times-negative d u h in omega (arith, ints, n, p))

-- a sum and a difference under a factor
spread : (d t e : ℤ) → d *ℤ (t +ℤ e) ≡ d *ℤ t +ℤ d *ℤ e
spread d t e = solve integers_ring (d ∷ t ∷ e ∷ []) (Mul (Var 0) (Add (Var 1) (Var 2))) (Add (Mul (Var 0) (Var 1)) (Mul (Var 0) (Var 2))) refl

spread-less : (d e t : ℤ) → d *ℤ (e -ℤ t) ≡ d *ℤ e -ℤ d *ℤ t
spread-less d e t = solve integers_ring (d ∷ e ∷ t ∷ []) (Mul (Var 0) (less (Var 1) (Var 2))) (less (Mul (Var 0) (Var 1)) (Mul (Var 0) (Var 2))) refl

commuted : (d e : ℤ) → d *ℤ e ≡ e *ℤ d
commuted d e = omega (arith, ints)

sums-up : (dt de es ed z : ℤ) → dt -ℤ es ≡ z → z ≡ pos 0 → de ≡ ed → pos 0 ≤ℤ (es +ℤ ed) → pos 0 ≤ℤ (dt +ℤ de)
sums-up dt de es ed z p q r s = omega (arith, ints, p, q, r, s)

sums-strictly : (dt de es ed z : ℤ) → dt -ℤ es ≡ z → z ≡ pos 0 → de ≡ ed → pos 0 <ℤ (ed -ℤ es) → pos 0 <ℤ (de -ℤ dt)
sums-strictly dt de es ed z p q r s = omega (arith, ints, p, q, r, s)

from-sum : (e t : ℤ) → pos 0 ≤ℤ (t +ℤ e) → neg_ℤ e ≤ℤ t
from-sum e t p = omega (arith, ints, p)

from-difference : (e t : ℤ) → pos 0 <ℤ (e -ℤ t) → t <ℤ e
from-difference e t p = omega (arith, ints, p)

to-sum : (d s : ℤ) → neg_ℤ d ≤ℤ s → pos 0 ≤ℤ (s +ℤ d)
to-sum d s p = omega (arith, ints, p)

to-difference : (d s : ℤ) → s <ℤ d → pos 0 <ℤ (d -ℤ s)
to-difference d s p = omega (arith, ints, p)

twice-gone : (u v : ℤ) → u ≡ v → pos 2 *ℤ (v -ℤ u) ≡ pos 0
twice-gone u v e = omega (arith, ints, e)

le-subst : (a b : ℤ) → a ≡ b → pos 0 ≤ℤ a → pos 0 ≤ℤ b
le-subst a b e p = omega (arith, ints, e, p)

lt-subst : (a b : ℤ) → a ≡ b → pos 0 <ℤ a → pos 0 <ℤ b
lt-subst a b e p = omega (arith, ints, e, p)

weak : (e : ℤ) → pos 0 <ℤ e → pos 0 ≤ℤ e
weak e p = omega (arith, ints, p)

-- equal quotients have one nearest number
near-alike : (x d y e q : ℤ) → pos 0 <ℤ d → pos 0 <ℤ e → x *ℤ e ≡ y *ℤ d → IsNearest x d q → IsNearest y e q
near-alike x d y e q hd he same near =
    let s : ℤ = pos 2 *ℤ (x -ℤ q *ℤ d) in
    let t : ℤ = pos 2 *ℤ (y -ℤ q *ℤ e) in
    let gone = twice-gone (x *ℤ e) (y *ℤ d) same in
    let low = le-subst (e *ℤ (s +ℤ d)) (e *ℤ s +ℤ e *ℤ d) (spread e s d) (nonneg e (s +ℤ d) (weak e he) (to-sum d s near.0)) in
    let high = lt-subst (e *ℤ (d -ℤ s)) (e *ℤ d -ℤ e *ℤ s) (spread-less e d s) (positive e (d -ℤ s) he (to-difference d s near.1)) in
    let low-there = le-subst (d *ℤ t +ℤ d *ℤ e) (d *ℤ (t +ℤ e)) (sym (spread d t e)) (sums-up (d *ℤ t) (d *ℤ e) (e *ℤ s) (e *ℤ d) _ (scales x d y e q) gone (commuted d e) low) in
    let high-there = lt-subst (d *ℤ e -ℤ d *ℤ t) (d *ℤ (e -ℤ t)) (sym (spread-less d e t)) (sums-strictly (d *ℤ t) (d *ℤ e) (e *ℤ s) (e *ℤ d) _ (scales x d y e q) gone (commuted d e) high) in
    (from-sum e t (cancel d (t +ℤ e) hd low-there), from-difference e t (cancel-strictly d (e -ℤ t) hd high-there))

nearest-alike : (x d y e : ℤ) → pos 0 <ℤ d → pos 0 <ℤ e → x *ℤ e ≡ y *ℤ d → nearest x d ≡ nearest y e
nearest-alike x d y e hd he same = nearest_is_one y e (nearest x d) he (near-alike x d y e (nearest x d) hd he same (nearest_is_near x d hd))

rounded-alike : (p q : Exact) → pos 0 <ℤ p.d → pos 0 <ℤ q.d → IsSame p q → rounded p ≡ rounded q
unfolding rounded
rounded-alike p q hp hq s = λ i. record { x = nearest-alike p.x p.d q.x q.d hp hq s.0 i; y = nearest-alike p.y p.d q.y q.d hp hq s.1 i }

pub ends-are-one : EndsAreOne
ends-are-one a l p q r s h k = (
  rounded-alike p r h.first.positive k.first.positive (anti p r (h.between r k.first).0 (k.between p h.first).0),
  rounded-alike q s h.last.positive k.last.positive (anti q s (k.between q h.last).1 (h.between s k.last).1),
)
