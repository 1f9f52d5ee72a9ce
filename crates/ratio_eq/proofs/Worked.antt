-- Worked conclusions, computed by their definition.
use Rattle.std.proofs.Common.{◌≡◌, ℕ, [], ◌∷◌, replicate, refl}
use Rattle.std.specs.Prelude.{ℤ, pos, negsuc, Ok, Err}
use Rattle.poly_model.specs.Polynomial.{Polynomial, Entry, poly_variable}
use Rattle.poly_model.specs.declared.limits.TheConstants.{MOST_VARIABLES}
use Rattle.poly_model.specs.declared.limits.Limit.TheVariants.{Degree, Bound}
use Rattle.ratio_terms.specs.declared.part.Part.TheVariants.{Whole, Area3, Pyth3, Sratio, Sum}
use Rattle.ratio_eq.specs.Vectors.{Vector}
use Rattle.ratio_eq.specs.Bounded.{concluded}

-- a term in the first three variables
abbrev term : ℕ → ℕ → ℕ → ℤ → Entry
term a b c k = (a ∷ b ∷ c ∷ replicate 45 0, k)

abbrev u : Polynomial
u = poly_variable MOST_VARIABLES 0

abbrev v : Polynomial
v = poly_variable MOST_VARIABLES 1

abbrev w : Polynomial
w = poly_variable MOST_VARIABLES 2

-- the first two points, and a third with two variables
abbrev a : Vector Polynomial
a = ([], [])

abbrev b : Vector Polynomial
b = (u, [])

abbrev m : Vector Polynomial
m = (v, w)

-- The midpoint of a and b parts their segment in the ratio 1: `equal { sratio A M M B } { 1 }`.
halves : concluded (Sratio ∷ Whole 1 ∷ []) (a ∷ m ∷ m ∷ b ∷ []) ≡ Ok (
    term 0 0 4 (pos 2) ∷ term 0 2 2 (pos 4) ∷ term 1 1 2 (negsuc 6) ∷ term 2 0 2 (pos 3) ∷ term 0 4 0 (pos 2)
    ∷ term 1 3 0 (negsuc 6) ∷ term 2 2 0 (pos 9) ∷ term 3 1 0 (negsuc 4) ∷ term 4 0 0 (pos 1) ∷ []
    )
halves = refl

-- A triangle turned over has the area with the other sign: `equal { sum { signed_area3 A B C } { signed_area3 A C B } } { 0 }`.
turned : concluded (Sum ∷ Area3 ∷ Area3 ∷ Whole 0 ∷ []) (a ∷ b ∷ m ∷ a ∷ m ∷ b ∷ []) ≡ Ok []
turned = refl

-- ---- the first limit that is met
-- The square of the first passes the highest degree, that of the second the greatest size, that of the third both.
abbrev high : Vector Polynomial
high = (term 32 0 0 (pos 1) ∷ [], [])

abbrev large : Vector Polynomial
large = (term 0 0 0 (pos 100000000000000000000) ∷ [], [])

abbrev both : Vector Polynomial
both = (term 32 0 0 (pos 100000000000000000000) ∷ [], [])

-- The first term stands before the second,
first-high : concluded (Pyth3 ∷ Pyth3 ∷ []) (high ∷ a ∷ a ∷ large ∷ a ∷ a ∷ []) ≡ Err Degree
first-high = refl

first-large : concluded (Pyth3 ∷ Pyth3 ∷ []) (large ∷ a ∷ a ∷ high ∷ a ∷ a ∷ []) ≡ Err Bound
first-large = refl

-- the numerator before the denominator,
numerator-first : concluded (Sratio ∷ Whole 1 ∷ []) (a ∷ large ∷ a ∷ both ∷ []) ≡ Err Bound
numerator-first = refl

denominator : concluded (Sratio ∷ Whole 1 ∷ []) (a ∷ b ∷ a ∷ both ∷ []) ≡ Err Degree
denominator = refl

-- and the first operand before the second.
first-operand : concluded (Sum ∷ Pyth3 ∷ Pyth3 ∷ Whole 1 ∷ []) (large ∷ a ∷ a ∷ high ∷ a ∷ a ∷ []) ≡ Err Bound
first-operand = refl
