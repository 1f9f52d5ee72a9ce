-- Lists of polynomials with numbers from 1.
use Rattle.std.specs.Prelude.{ℕ, zero, suc, ◌-◌, max, List, [], ◌∷◌, get_or, set, length, Bool, true, false, ◌&&◌, nat_lt, nat_le, Option, Some, None}
use Rattle.poly_model.specs.Polynomial.{Polynomial}

-- The i-th polynomial, and whether there is one.
abbrev pub item : List Polynomial → ℕ → Polynomial
item ps i = get_or ps (i - 1) []

abbrev pub has : List Polynomial → ℕ → Bool
has ps i = nat_lt 0 i && nat_le i (length ps)

-- The list with r in place of the i-th, and without the i-th.
abbrev pub replaced : List Polynomial → ℕ → Polynomial → List Polynomial
replaced ps i r = set ps (i - 1) r

abbrev pub without_place : List Polynomial → ℕ → List Polynomial
without_place [] i = []
without_place (p ∷ ps) zero = ps
without_place (p ∷ ps) (suc i) = p ∷ without_place ps i

abbrev pub removed : List Polynomial → ℕ → List Polynomial
removed ps i = without_place ps (i - 1)

-- The first of the n numbers from i on that passes the test.
abbrev pub first_from : (ℕ → Bool) → (n i : ℕ) → Option ℕ
first_from test zero i = None
first_from test (suc n) i = elim (test i) [ true ↦ Some i | false ↦ first_from test n (suc i) ]

-- The first of the numbers from 1 to n that passes the test.
abbrev pub first : (ℕ → Bool) → ℕ → Option ℕ
first test n = first_from test n 1

-- The greatest of the numbers that a function gives, and 0 of an empty list.
abbrev pub greatest : (Polynomial → ℕ) → List Polynomial → ℕ
greatest f [] = 0
greatest f (p ∷ ps) = max (f p) (greatest f ps)
