-- The content of a polynomial and its primitive part.
use Rattle.std.specs.Prelude.{ℕ, ◌+◌, ◌/◌, ◌%◌, zero, suc, ℤ, pos, negsuc, neg_ℤ, unsigned_abs, [], ◌∷◌, Bool, true, false, nat_eq}
use Rattle.poly_model.specs.Polynomial.{Polynomial}

-- Euclid's algorithm, for at most so many divisions.
abbrev pub gcd_within : ℕ → ℕ → ℕ → ℕ
gcd_within zero a b = a
gcd_within (suc k) a b = elim (nat_eq b 0) [ true ↦ a | false ↦ gcd_within k b (a % b) ]

-- The greatest common divisor, and 0 of two zeros: the remainders fall, so there are at most b of them before 0.
abbrev pub gcd : ℕ → ℕ → ℕ
gcd a b = gcd_within (b + 1) a b

-- The greatest common divisor of the coefficients.
abbrev pub coefficients_gcd : Polynomial → ℕ
coefficients_gcd [] = 0
coefficients_gcd ((es, c) ∷ p) = gcd (unsigned_abs c) (coefficients_gcd p)

abbrev pub is_negative : ℤ → Bool
is_negative (pos n) = false
is_negative (negsuc n) = true

-- The first coefficient is negative.
abbrev pub begins_negative : Polynomial → Bool
begins_negative [] = false
begins_negative ((es, c) ∷ p) = is_negative c

-- A number, turned to its negative where the sign is so.
abbrev pub signed_by : Bool → ℤ → ℤ
signed_by true z = neg_ℤ z
signed_by false z = z

-- The content: the greatest common divisor of the coefficients, with the sign of the first. It is 0 for 0 alone.
abbrev pub content : Polynomial → ℤ
content p = signed_by (begins_negative p) (pos (coefficients_gcd p))

-- A number divided by a positive number, cut towards 0.
abbrev pub quotient_of : ℤ → ℕ → ℤ
quotient_of (pos a) m = pos (a / m)
quotient_of (negsuc a) m = neg_ℤ (pos (suc a / m))

-- Each coefficient divided by a positive number, with its sign turned where so.
abbrev pub entries_divided : Bool → ℕ → Polynomial → Polynomial
entries_divided turned m [] = []
entries_divided turned m ((es, c) ∷ p) = (es, signed_by turned (quotient_of c m)) ∷ entries_divided turned m p

-- The primitive part: the polynomial divided by its content; that of 0 is 0.
abbrev pub primitive_part : Polynomial → Polynomial
primitive_part p = entries_divided (begins_negative p) (coefficients_gcd p) p
