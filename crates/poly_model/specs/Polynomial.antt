-- Polynomials with whole coefficients: finite maps from exponent lists to whole numbers, written as lists of entries.
use Rattle.std.specs.Prelude.{◌≡◌, ◌≢◌, ℕ, ◌+◌, length, zero, suc, ℤ, pos, negsuc, ◌+ℤ◌, ◌*ℤ◌, neg_ℤ, List, [], ◌∷◌, replicate, set, drop, Bool, nat_eq}
use Rattle.std.specs.List.{list_all}
use Rattle.std.specs.Ordering.{nat_cmp, ordering_then}
use Rattle.std.specs.declared.cmp.Ordering.{Ordering}
use Rattle.std.specs.declared.cmp.Ordering.TheVariants.{Less, Equal, Greater}
use Rattle.poly_model.specs.Domain.{Operations, integer_in, integers}

-- The exponents of the variables, the least variable first, and the coefficient.
abbrev pub Entry : Type 0
Entry = List ℕ × ℤ

-- A finite map as the list of its entries: descending, and none 0 (`IsDescending` below).
abbrev pub Polynomial : Type 0
Polynomial = List Entry

-- The order of monomials: the exponents of the greatest variable, the last, decide, then those of the next.
abbrev pub monomial_cmp : List ℕ → List ℕ → Ordering
monomial_cmp [] [] = Equal
monomial_cmp [] (b ∷ ys) = Less
monomial_cmp (a ∷ xs) [] = Greater
monomial_cmp (a ∷ xs) (b ∷ ys) = ordering_then (monomial_cmp xs ys) (nat_cmp a b)

-- The monomial is above that of each entry.
abbrev pub IsAbove : List ℕ → Polynomial → Type 0
IsAbove es [] = Unit {0}
IsAbove es ((fs, d) ∷ p) = (monomial_cmp es fs ≡ Greater) × IsAbove es p

-- A polynomial in n variables: each entry has n exponents, no coefficient is 0, and the entries descend.
abbrev pub IsDescending : ℕ → Polynomial → Type 0
IsDescending n [] = Unit {0}
IsDescending n ((es, c) ∷ p) = (length es ≡ n) × (c ≢ pos 0) × IsAbove es p × IsDescending n p

-- Only the first n variables occur.
abbrev pub is_over : ℕ → Polynomial → Bool
is_over n = list_all (λ entry. list_all (λ e. nat_eq e 0) (drop n entry.0))

-- The sum over the entries of what a function gives for each.
abbrev pub sum_over : {M : Type 0} → Operations M → (List ℕ → ℤ → M) → Polynomial → M
sum_over o φ [] = o.zero
sum_over o φ ((es, c) ∷ p) = o.add (φ es c) (sum_over o φ p)

-- The coefficient of an entry where it has the monomial, else 0.
abbrev pub at_monomial : List ℕ → List ℕ → ℤ → ℤ
at_monomial xs es c = elim (monomial_cmp xs es) [ Less ↦ pos 0 | Equal ↦ c | Greater ↦ pos 0 ]

-- The coefficient of a monomial.
abbrev pub coefficient_of : List ℕ → Polynomial → ℤ
coefficient_of xs p = sum_over integers (at_monomial xs) p

-- The exponents of a product of two monomials.
abbrev pub exponents_sum : List ℕ → List ℕ → List ℕ
exponents_sum [] ys = ys
exponents_sum (a ∷ xs) [] = a ∷ xs
exponents_sum (a ∷ xs) (b ∷ ys) = (a + b) ∷ exponents_sum xs ys

-- An entry in front, unless its coefficient is 0.
abbrev pub with_entry : List ℕ → ℤ → Polynomial → Polynomial
with_entry es (pos zero) p = p
with_entry es (pos (suc n)) p = (es, pos (suc n)) ∷ p
with_entry es (negsuc n) p = (es, negsuc n) ∷ p

-- One more entry, at its place in the order; coefficients of one monomial add up.
abbrev pub add_entry : List ℕ → ℤ → Polynomial → Polynomial
add_entry es c [] = with_entry es c []
add_entry es c ((fs, d) ∷ p) =
    elim (monomial_cmp es fs) [
      | Less ↦ (fs, d) ∷ add_entry es c p
      | Equal ↦ with_entry fs (c +ℤ d) p
      | Greater ↦ with_entry es c ((fs, d) ∷ p)
    ]

-- The sum of two polynomials.
abbrev pub poly_sum : Polynomial → Polynomial → Polynomial
poly_sum [] q = q
poly_sum ((es, c) ∷ p) q = add_entry es c (poly_sum p q)

-- Each coefficient times a number (not 0, for a list without a coefficient 0).
abbrev pub poly_scaled : ℤ → Polynomial → Polynomial
poly_scaled m [] = []
poly_scaled m ((es, c) ∷ p) = (es, m *ℤ c) ∷ poly_scaled m p

-- The negative of a polynomial.
abbrev pub poly_negative : Polynomial → Polynomial
poly_negative [] = []
poly_negative ((es, c) ∷ p) = (es, neg_ℤ c) ∷ poly_negative p

-- The difference of two polynomials.
abbrev pub poly_difference : Polynomial → Polynomial → Polynomial
poly_difference p q = poly_sum p (poly_negative q)

-- One entry times q, added to r.
abbrev pub add_multiple : List ℕ → ℤ → Polynomial → Polynomial → Polynomial
add_multiple es c [] r = r
add_multiple es c ((fs, d) ∷ q) r = add_entry (exponents_sum es fs) (c *ℤ d) (add_multiple es c q r)

-- The product of two polynomials.
abbrev pub poly_product : Polynomial → Polynomial → Polynomial
poly_product [] q = []
poly_product ((es, c) ∷ p) q = add_multiple es c q (poly_product p q)

-- The constant c in n variables.
abbrev pub poly_constant : ℕ → ℤ → Polynomial
poly_constant n c = with_entry (replicate n 0) c []

-- The variable at place i, in n variables.
abbrev pub poly_variable : ℕ → ℕ → Polynomial
poly_variable n i = (set (replicate n 0) i 1, pos 1) ∷ []

-- The operations on polynomials in n variables.
abbrev pub polynomial_operations : ℕ → Operations Polynomial
polynomial_operations n = record { zero = []; one = poly_constant n (pos 1); add = poly_sum; mul = poly_product; neg = poly_negative }

-- A power of a member.
abbrev pub power : {M : Type 0} → Operations M → M → ℕ → M
power o x zero = o.one
power o x (suc n) = o.mul x (power o x n)

-- The value of a monomial at a point, which is a list of members. A coordinate that is missing counts as one.
abbrev pub monomial_at : {M : Type 0} → Operations M → List ℕ → List M → M
monomial_at o [] point = o.one
monomial_at o (e ∷ es) [] = o.one
monomial_at o (e ∷ es) (x ∷ xs) = o.mul (power o x e) (monomial_at o es xs)

-- The value of a polynomial at a point: the sum over its entries of the coefficient times one, times the monomial.
abbrev pub value_at : {M : Type 0} → Operations M → Polynomial → List M → M
value_at o [] point = o.zero
value_at o ((es, c) ∷ p) point = o.add (o.mul (integer_in o c) (monomial_at o es point)) (value_at o p point)
