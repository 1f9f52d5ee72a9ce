-- The whole number nearest to a quotient.
use Rattle.std.proofs.Common.{◌≡◌, ℕ, ◌+◌, ◌*◌, ◌<◌, ◌≤◌, suc, arith, ap, refl, ◌⊎◌, inl, inr}
use Rattle.std.proofs.Math.Nat.{mul-le-mul_left}
use Rattle.std.specs.Prelude.{ℤ, pos, negsuc, ◌+ℤ◌, ◌*ℤ◌, ◌<ℤ◌, ◌≤ℤ◌}
use Rattle.std.specs.Int.{int_div_euclid}
use Rattle.std.proofs.lemmas.Int.{ints}
use borrow.Author.Differences.{same_in, product_is}
use Rattle.edge_num.specs.Numbers.{nearest, IsNearest, NearestIsTheOne}

-- the quotient rounded down
floor : (t d : ℤ) → pos 0 <ℤ d → ((int_div_euclid t d *ℤ d) ≤ℤ t) × (t <ℤ (int_div_euclid t d *ℤ d +ℤ d))
floor (pos a) (pos b) h = omega (arith, ints)
floor (negsuc a) (pos b) h = omega (arith, ints)
floor (pos a) (negsuc b) h = absurd (omega (arith, ints))
floor (negsuc a) (negsuc b) h = absurd (omega (arith, ints))

twice : (q d : ℤ) → q *ℤ (pos 2 *ℤ d) ≡ pos 2 *ℤ (q *ℤ d)
twice q d = same_in _ _ (simp ((λ (a b : ℤ). (product_is a b).0), (λ (a b : ℤ). (product_is a b).1)) (omega arith))

from_floor : (n d q : ℤ) → (q *ℤ (pos 2 *ℤ d)) ≤ℤ (pos 2 *ℤ n +ℤ d) → (pos 2 *ℤ n +ℤ d) <ℤ (q *ℤ (pos 2 *ℤ d) +ℤ pos 2 *ℤ d) → IsNearest n d q
from_floor n d q low high =
    let e = twice q d in
    omega (arith, ints, e)

-- the nearest number is near
pub nearest_is_near : (n d : ℤ) → pos 0 <ℤ d → IsNearest n d (nearest n d)
nearest_is_near n d h =
    let positive : pos 0 <ℤ (pos 2 *ℤ d) = omega (arith, ints) in
    let f = floor (pos 2 *ℤ n +ℤ d) (pos 2 *ℤ d) positive in
    from_floor n d _ f.0 f.1

-- a greater factor makes a product greater by at least the other factor
above : (a b k : ℕ) → a < b → a * k + k ≤ b * k
above a b k lt = omega (arith, mul-le-mul_left {m = suc a} {n = b} k lt)

-- a greater number is greater by at least one divisor
pub apart : (q p d : ℤ) → pos 0 <ℤ d → q <ℤ p → (q *ℤ d +ℤ d) ≤ℤ (p *ℤ d)
apart (pos a) (pos b) (pos k) h lt = omega (arith, ints, above a b k (omega (arith, ints, lt)))
apart (negsuc a) (pos b) (pos k) h lt = omega (arith, ints)
apart (pos a) (negsuc b) (pos k) h lt = absurd (omega (arith, ints, lt))
apart (negsuc a) (negsuc b) (pos k) h lt = omega (arith, ints, above b a k (omega (arith, ints, lt)))
apart q p (negsuc k) h lt = absurd (omega (arith, ints, h))

nat_sides : (a b : ℕ) → (a < b) ⊎ (b < a) ⊎ (b ≡ a)
nat_sides a b = grind arith

sides_up : (a b : ℕ) → (a < b) ⊎ (b < a) ⊎ (b ≡ a) → (pos a <ℤ pos b) ⊎ (pos b <ℤ pos a) ⊎ (pos b ≡ pos a)
sides_up a b (inl lt) = inl (omega (arith, ints, lt))
sides_up a b (inr (inl lt)) = inr (inl (omega (arith, ints, lt)))
sides_up a b (inr (inr same)) = inr (inr (ap pos same))

sides_down : (a b : ℕ) → (a < b) ⊎ (b < a) ⊎ (b ≡ a) → (negsuc a <ℤ negsuc b) ⊎ (negsuc b <ℤ negsuc a) ⊎ (negsuc b ≡ negsuc a)
sides_down a b (inl lt) = inr (inl (omega (arith, ints, lt)))
sides_down a b (inr (inl lt)) = inl (omega (arith, ints, lt))
sides_down a b (inr (inr same)) = inr (inr (ap negsuc same))

-- one of two numbers is the greater, or they are the same
sides : (p q : ℤ) → (p <ℤ q) ⊎ (q <ℤ p) ⊎ (q ≡ p)
sides (pos a) (pos b) = sides_up a b (nat_sides a b)
sides (pos a) (negsuc b) = inr (inl (omega (arith, ints)))
sides (negsuc a) (pos b) = inl (omega (arith, ints))
sides (negsuc a) (negsuc b) = sides_down a b (nat_sides a b)

-- of two numbers that are near, neither is the greater
same_from_near : (n d p q : ℤ) → pos 0 <ℤ d → IsNearest n d p → IsNearest n d q → (p <ℤ q) ⊎ (q <ℤ p) ⊎ (q ≡ p) → q ≡ p
same_from_near n d p q h near_p near_q (inl lt) = absurd (omega (arith, ints, near_p.0, near_p.1, near_q.0, near_q.1, apart p q d h lt))
same_from_near n d p q h near_p near_q (inr (inl lt)) = absurd (omega (arith, ints, near_p.0, near_p.1, near_q.0, near_q.1, apart q p d h lt))
same_from_near n d p q h near_p near_q (inr (inr same)) = same

-- two numbers that are near are the same
pub same_from_nearest : (n d p q : ℤ) → pos 0 <ℤ d → IsNearest n d p → IsNearest n d q → q ≡ p
same_from_nearest n d p q h near_p near_q = same_from_near n d p q h near_p near_q (sides p q)

-- a number that is near is the nearest one
pub nearest_is_one : (n d q : ℤ) → pos 0 <ℤ d → IsNearest n d q → q ≡ nearest n d
nearest_is_one n d q h near = same_from_nearest n d (nearest n d) q h (nearest_is_near n d h) near

-- it computes
at_literals : nearest (pos 3) (pos 2) ≡ pos 2
at_literals = refl

at_negative : nearest (negsuc 2) (pos 2) ≡ negsuc 0
at_negative = refl

pub the_one : NearestIsTheOne
the_one n d h = (nearest_is_near n d h, λ q near. nearest_is_one n d q h near)
