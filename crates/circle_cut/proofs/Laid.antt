-- Lines that constructions make.
use Rattle.std.proofs.Common.{◌≡◌, ◌≢◌, ◌⊎◌, inl, inr, Bool, true, false, zero, suc, ◌+◌, ◌*◌, ◌≤◌, arith, refl, sym, ap, subst, ◌∙◌}
use Rattle.std.specs.Prelude.{ℤ, pos, negsuc, ◌+ℤ◌, ◌-ℤ◌, ◌*ℤ◌, neg_ℤ, ◌<ℤ◌, ◌≤ℤ◌, unsigned_abs, ◌&&◌}
use Rattle.std.specs.Ordering.{int_eq}
use Rattle.std.proofs.lemmas.Bool.Decides.{Decides-int_eq, not_from_Decides}
use Rattle.std.proofs.lemmas.Int.{ints, unsigned_abs-mul}
use Rattle.fixed_point.specs.declared.spot.Spot.{Spot}
use Rattle.circle_cut.specs.declared.vector.Vector.{Vector}
use Rattle.circle_cut.specs.Vectors.{position, way, minus, scaled, rot, dot, sq}
use Rattle.circle_cut.specs.Lines.{normal, direction, line_with, same_spot}
use Rattle.circle_cut.specs.declared.limits.TheConstants.{MOST_NORMAL, MOST_PLACE}
use Rattle.circle_cut.specs.Sizes.{IsWithin, IsPlain, IsSpan, IsLaid}

neg-square : (a : ℤ) → neg_ℤ a *ℤ neg_ℤ a ≡ a *ℤ a
neg-square (pos zero) = refl
neg-square (pos (suc a)) = omega (arith, ints)
neg-square (negsuc a) = omega (arith, ints)

sq-turn : (x y : ℤ) → neg_ℤ y *ℤ neg_ℤ y +ℤ x *ℤ x ≡ x *ℤ x +ℤ y *ℤ y
sq-turn x y = omega (arith, ints, neg-square y)

-- a quarter turn keeps the length
pub sq_rot : (v : Vector) → sq (rot v) ≡ sq v
unfolding sq dot rot
sq_rot v = sq-turn v.x v.y

-- The square of a number is that of its size.
pub square-is : (a : ℤ) → a *ℤ a ≡ pos (unsigned_abs a * unsigned_abs a)
square-is (pos a) = omega (arith, ints)
square-is (negsuc a) = omega (arith, ints)

double-square : (a : ℤ) → (pos 2 *ℤ a) *ℤ (pos 2 *ℤ a) ≡ pos 4 *ℤ (a *ℤ a)
double-square a =
    square-is (pos 2 *ℤ a) ∙ ap pos (ap (λ k. k * k) (unsigned_abs-mul (pos 2) a)) ∙ omega (arith, ints, square-is a)

sq-twice : (x y : ℤ) → (pos 2 *ℤ x) *ℤ (pos 2 *ℤ x) +ℤ (pos 2 *ℤ y) *ℤ (pos 2 *ℤ y) ≡ pos 4 *ℤ (x *ℤ x +ℤ y *ℤ y)
sq-twice x y = omega (arith, ints, double-square x, double-square y)

pub sq_double : (v : Vector) → sq (scaled (pos 2) v) ≡ pos 4 *ℤ sq v
unfolding sq dot scaled
sq_double v = sq-twice v.x v.y

-- The square of a vector's length is the sum of the squares of its coordinates' sizes.
pub sq-is : (v : Vector) → sq v ≡ pos (unsigned_abs v.x * unsigned_abs v.x + unsigned_abs v.y * unsigned_abs v.y)
unfolding sq dot
sq-is v = omega (arith, ints, square-is v.x, square-is v.y)

square-least : (a : ℤ) → a ≢ pos 0 → pos 1 ≤ℤ (a *ℤ a)
square-least (pos zero) some = absurd (some refl)
square-least (pos (suc a)) some = omega (arith, ints)
square-least (negsuc a) some = omega (arith, ints)

square-from : (a : ℤ) → pos 0 ≤ℤ (a *ℤ a)
square-from (pos a) = omega (arith, ints)
square-from (negsuc a) = omega (arith, ints)

pub sq_from : (v : Vector) → pos 0 ≤ℤ sq v
unfolding sq dot
sq_from v = omega (arith, ints, square-from v.x, square-from v.y)

-- a vector that is not 0 has a length
pub sq_some : (v : Vector) → (v.x ≢ pos 0) ⊎ (v.y ≢ pos 0) → pos 0 <ℤ sq v
unfolding sq dot
sq_some v (inl some) = omega (arith, ints, square-least v.x some, square-from v.y)
sq_some v (inr some) = omega (arith, ints, square-least v.y some, square-from v.x)

normal-with : (n v : Vector) (c : ℤ) → normal (line_with n c v) ≡ n
unfolding normal line_with
normal-with n v c = refl

direction-with : (n v : Vector) (c : ℤ) → direction (line_with n c v) ≡ v
unfolding direction line_with
direction-with n v c = refl

plain-with : (n v : Vector) (c : ℤ) → IsWithin (MOST_NORMAL) n → unsigned_abs c ≤ MOST_PLACE → IsPlain (line_with n c v)
unfolding line_with
plain-with n v c p q = record { n1 = p.0; n2 = p.1; c = q }

pub laid_with : (n v : Vector) (c : ℤ) → IsWithin (MOST_NORMAL) n → unsigned_abs c ≤ MOST_PLACE → pos 0 <ℤ sq n → IsSpan v → IsLaid (line_with n c v)
laid_with n v c p q some span = record {
  plain = plain-with n v c p q;
  some = subst (λ m. pos 0 <ℤ sq m) (sym (normal-with n v c)) some;
  span = subst IsSpan (sym (direction-with n v c)) span;
}

gap-not-zero : (a b : ℤ) → (b -ℤ a ≡ pos 0) → a ≡ b
gap-not-zero a b e = omega (arith, ints, e)

differ : (a b c d : ℤ) (p q : Bool) → int_eq a b ≡ p → int_eq c d ≡ q → p && q ≡ false → (b -ℤ a ≢ pos 0) ⊎ (d -ℤ c ≢ pos 0)
differ a b c d true true e f h = absurd (cc)
differ a b c d true false e f h = inr (λ z. not_from_Decides _ (Decides-int_eq c d) f (gap-not-zero c d z))
differ a b c d false q e f h = inl (λ z. not_from_Decides _ (Decides-int_eq a b) e (gap-not-zero a b z))

way-is : (a b : Spot) → way a b ≡ record { x = b.x -ℤ a.x; y = b.y -ℤ a.y }
unfolding way minus position
way-is a b = refl

-- two spots that are not one are apart
pub apart_from : (a b : Spot) → same_spot a b ≡ false → pos 0 <ℤ sq (way a b)
unfolding same_spot
apart_from a b h = subst (λ v. pos 0 <ℤ sq v) (sym (way-is a b)) (sq_some _ (differ a.x b.x a.y b.y _ _ refl refl h))
