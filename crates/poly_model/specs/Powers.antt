-- Powers of variables that divide a polynomial. Variables are counted from 0, as places of exponents.
use Rattle.std.specs.Prelude.{ℕ, zero, suc, ◌-◌, min, List, [], ◌∷◌, get_or, set, map, length, Bool, true, false, if◌then◌else◌, ◌&&◌, ◌||◌, not, ◌==◌, nat_lt}
use Rattle.poly_model.specs.Polynomial.{Entry, Polynomial, poly_variable}
use Rattle.poly_model.specs.Reduction.{same, class_of, is_constant, main_place}

-- The least of a number and the exponents of a variable.
abbrev pub least_exponent : ℕ → ℕ → Polynomial → ℕ
least_exponent i k [] = k
least_exponent i k ((es, c) ∷ p) = least_exponent i (min k (get_or es i 0)) p

-- The exponent of the greatest power of a variable that divides each term; 0 for the polynomial 0.
abbrev pub low_at : ℕ → Polynomial → ℕ
low_at i [] = 0
low_at i ((es, c) ∷ p) = least_exponent i (get_or es i 0) p

-- The variable divides each term.
abbrev pub is_divided : ℕ → Polynomial → Bool
is_divided i p = nat_lt 0 (low_at i p)

-- A polynomial divided by a power of a variable that divides each term, and by the greatest such power.
abbrev pub lowered : ℕ → ℕ → Polynomial → Polynomial
lowered i k p = map (λ (e : Entry). (set e.0 i (get_or e.0 i 0 - k), e.1)) p

abbrev pub stripped : ℕ → Polynomial → Polynomial
stripped i p = lowered i (low_at i p) p

-- The variable at a place, with as many exponents as p has.
abbrev pub variable_in : Polynomial → ℕ → Polynomial
variable_in [] i = []
variable_in ((es, c) ∷ p) i = poly_variable (length es) i

-- One variable with exponent and coefficient 1.
abbrev pub is_variable : Polynomial → Bool
is_variable p = not (is_constant p) && same p (variable_in p (main_place p))

-- ---- the variables of a monomial

-- The exponents of a polynomial of one term.
abbrev pub one_monomial : Polynomial → List ℕ
one_monomial [] = []
one_monomial ((es, c) ∷ []) = es
one_monomial ((es, c) ∷ f ∷ p) = []

-- Some variable of the monomial divides each term. Its exponents are those of the places from i on.
abbrev pub shares_variable : ℕ → List ℕ → Polynomial → Bool
shares_variable i [] p = false
shares_variable i (e ∷ es) p = (not (e == 0) && is_divided i p) || shares_variable (suc i) es p

-- For each variable of the monomial, the polynomial divided by its greatest power that divides each term.
abbrev pub stripped_by : ℕ → List ℕ → Polynomial → Polynomial
stripped_by i [] p = p
stripped_by i (e ∷ es) p = stripped_by (suc i) es (if e == 0 then p else stripped i p)

-- The polynomial without the variables of q, which has one term.
abbrev pub without_variables : Polynomial → Polynomial → Polynomial
without_variables q p = stripped_by 0 (one_monomial q) p

-- ---- factors

-- The variable of this number, counted from 1, is less than the class and divides each term.
abbrev pub is_factor : Polynomial → ℕ → Bool
is_factor p x = nat_lt x (class_of p) && is_divided (x - 1) p

-- The polynomial v is a variable that is such a factor of p.
abbrev pub has_factor : Polynomial → Polynomial → Bool
has_factor p v = is_factor p (class_of v) && same v (variable_in p (main_place v))
