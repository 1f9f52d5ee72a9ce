-- The lists of terms that are a polynomial within the limits.
use Rattle.std.specs.Prelude.{ℕ, ℤ, Bool, true, ◌&&◌, List, [], ◌∷◌, map, length, nat_lt, nat_le, nat_eq, unsigned_abs}
use Rattle.std.specs.List.{list_all}
use Rattle.std.specs.Ordering.{is_gt}
use Rattle.poly_model.specs.Polynomial.{Entry, Polynomial, monomial_cmp}
use Rattle.poly_model.specs.declared.term.Term.{Term}
use Rattle.poly_model.specs.declared.limits.TheConstants.{MOST_VARIABLES, MOST_DEGREE, MOST_TERMS, MOST_SIZE}

-- A term as an entry of the map.
abbrev pub entry_of : Term → Entry
entry_of t = (t.exps, t.coef)

-- A list of terms as a polynomial.
abbrev pub polynomial_of : List Term → Polynomial
polynomial_of = map entry_of

-- No exponent passes the highest degree.
abbrev pub are_low : List ℕ → Bool
are_low = list_all (λ e. nat_le e MOST_DEGREE)

-- The size of a coefficient does not pass the greatest.
abbrev pub is_bounded : ℤ → Bool
is_bounded c = nat_le (unsigned_abs c) MOST_SIZE

-- No coefficient passes the greatest size.
abbrev pub are_bounded : Polynomial → Bool
are_bounded = list_all (λ e. is_bounded e.1)

-- There are at most the most terms.
abbrev pub is_short : Polynomial → Bool
is_short p = nat_le (length p) MOST_TERMS

-- The coefficient is not 0 and bounded, there is an exponent for each variable, and none is too high.
abbrev pub is_within : Entry → Bool
is_within (es, c) = nat_eq (length es) MOST_VARIABLES && (nat_lt 0 (unsigned_abs c) && is_bounded c) && are_low es

-- The entry is above the first of those that follow.
abbrev pub is_above : Entry → Polynomial → Bool
is_above e [] = true
is_above e (f ∷ p) = is_gt (monomial_cmp e.0 f.0)

-- Each entry is within the limits, and above the next.
abbrev pub are_descending : Polynomial → Bool
are_descending [] = true
are_descending (e ∷ p) = is_within e && (is_above e p && are_descending p)

-- A polynomial within the limits: descending, and not too long.
abbrev pub is_standard : Polynomial → Bool
is_standard p = is_short p && are_descending p
