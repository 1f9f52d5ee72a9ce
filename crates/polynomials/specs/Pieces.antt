-- What becomes of each entry of a polynomial where its list is copied with a change.
use Rattle.std.specs.Prelude.{ℕ, ◌+◌, ◌-◌, ◌==◌, [], ◌∷◌, ◌++◌, Bool, cond, ◌&&◌, nat_lt, nat_le, length, get_or, set, neg_ℤ, Option, Some, None}
use Rattle.poly_model.specs.Polynomial.{Entry, Polynomial}
use Rattle.poly_model.specs.Content.{signed_by, quotient_of}
use Rattle.poly_model.specs.Standard.{entry_of, is_bounded}
use Rattle.poly_model.specs.declared.term.Term.{Term}
use Rattle.poly_model.specs.declared.limits.TheConstants.{MOST_DEGREE}

-- Each entry gives a piece, and the pieces stand one behind the other.
abbrev pub pieces_of : (Entry → Polynomial) → Polynomial → Polynomial
pieces_of piece [] = []
pieces_of piece (e ∷ p) = piece e ++ pieces_of piece p

-- The piece of a term that may be none.
abbrev pub piece_of : Option Term → Polynomial
piece_of None = []
piece_of (Some t) = entry_of t ∷ []

-- The negative of an entry.
abbrev pub negated : Entry → Polynomial
negated e = (e.0, neg_ℤ e.1) ∷ []

-- The entry itself.
abbrev pub unchanged : Entry → Polynomial
unchanged e = e ∷ []

-- The entry times a power of the variable at a place, and where its exponents hold that.
abbrev pub raised : ℕ → ℕ → Entry → Polynomial
raised i k e = (set e.0 i (get_or e.0 i 0 + k), e.1) ∷ []

abbrev pub is_raisable : ℕ → ℕ → Entry → Bool
is_raisable i k e = nat_lt i (length e.0) && nat_le (get_or e.0 i 0 + k) MOST_DEGREE

-- The entry divided by a power of the variable at a place, and where that divides it.
abbrev pub lowered_entry : ℕ → ℕ → Entry → Polynomial
lowered_entry i k e = (set e.0 i (get_or e.0 i 0 - k), e.1) ∷ []

abbrev pub is_lowerable : ℕ → ℕ → Entry → Bool
is_lowerable i k e = nat_lt i (length e.0) && nat_le k (get_or e.0 i 0)

-- What is beside a power of the variable at a place, of entries with that power alone.
abbrev pub cofactor : ℕ → ℕ → Entry → Polynomial
cofactor i d e = cond (get_or e.0 i 0 == d) ((set e.0 i 0, e.1) ∷ []) []

-- Entries with another power of the variable alone.
abbrev pub other_power : ℕ → ℕ → Entry → Polynomial
other_power i d e = cond (get_or e.0 i 0 == d) [] (e ∷ [])

-- The exponents have the place.
abbrev pub has_place : ℕ → Entry → Bool
has_place i e = nat_lt i (length e.0)

-- The entry divided by a positive number, with its sign turned where so.
abbrev pub divided : Bool → ℕ → Entry → Polynomial
divided turned m e = (e.0, signed_by turned (quotient_of e.1 m)) ∷ []

abbrev pub is_divisible : ℕ → Entry → Bool
is_divisible m e = nat_lt 0 m && is_bounded e.1
