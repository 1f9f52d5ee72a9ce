-- How a polynomial's text is read, piece by piece: what each piece says, and the text behind it.
use Rattle.std.specs.Prelude.{◌≡◌, ◌≢◌, ◌<◌, ◌≤◌, ℕ, ◌+◌, ◌-◌, ◌*◌, List, [], ◌∷◌, Bool, true, false, if◌then◌else◌, ◌&&◌, ◌==◌, not, nat_le, nat_lt, Option, Some, None, replicate, length, get_or, pos}
use Rattle.desk_io.specs.Characters.{caret, digit_zero, is_digit, minus, plus, space, star}
use Rattle.poly_model.specs.Polynomial.{Entry}
use Rattle.poly_model.specs.Content.{signed_by}
use Rattle.poly_model.specs.declared.vars.VarName.{VarName}
use Rattle.poly_model.specs.declared.limits.TheConstants.{MOST_VARIABLES, MOST_DEGREE, MOST_SIZE, MOST_NUMBER}
use Rattle.poly_model.specs.Names.{number}
use Rattle.poly_text.specs.Text.{letter, is_left_out}

-- The number that digits spell behind a number.
abbrev pub number_from : ℕ → List ℕ → ℕ × List ℕ
number_from n [] = (n, [])
number_from n (b ∷ text) = if is_digit b then number_from (10 * n + (b - digit_zero)) text else (n, b ∷ text)

-- A digit stands first, and no 0 before another digit.
abbrev pub begins_number : List ℕ → Bool
begins_number [] = false
begins_number (b ∷ []) = is_digit b
begins_number (b ∷ c ∷ text) = is_digit b && not (b == digit_zero && is_digit c)

-- A number of at most so much.
abbrev pub number_at : ℕ → List ℕ → Option (ℕ × List ℕ)
number_at most text = if begins_number text && nat_le (number_from 0 text).0 most then Some (number_from 0 text) else None

-- What stands behind a byte.
abbrev pub behind : ℕ → List ℕ → Option (List ℕ)
behind byte [] = None
behind byte (b ∷ text) = if b == byte then Some text else None

-- What stands behind this very number.
abbrev pub numbered : ℕ → Option (ℕ × List ℕ) → Option (List ℕ)
numbered n None = None
numbered n (Some read) = if read.0 == n then Some read.1 else None

-- What stands behind the number of a variable, where its letter was read.
abbrev pub number_of : VarName → Option (List ℕ) → Option (List ℕ)
number_of name None = None
number_of name (Some text) = numbered (number name) (number_at MOST_NUMBER text)

-- The variable of this name.
abbrev pub name_at : VarName → List ℕ → Option (List ℕ)
name_at name text = number_of name (behind (letter name) text)

-- An exponent that may be written.
abbrev pub above_one : Option (ℕ × List ℕ) → Option (ℕ × List ℕ)
above_one None = None
above_one (Some read) = if nat_lt 1 read.0 then Some read else None

-- The exponent of a variable, which is 1 where none is written.
abbrev pub exponent_at : List ℕ → Option (ℕ × List ℕ)
exponent_at [] = Some (1, [])
exponent_at (b ∷ text) = if b == caret then above_one (number_at MOST_DEGREE text) else Some (1, b ∷ text)

-- What stands behind the `*` that joins a factor to what stands before.
abbrev pub joint_at : Bool → List ℕ → Option (List ℕ)
joint_at joined text = if joined then behind star text else Some text

-- The variable behind what was read before, if that was read.
abbrev pub name_behind : VarName → Option (List ℕ) → Option (List ℕ)
name_behind name None = None
name_behind name (Some text) = name_at name text

-- No variable stands behind what was read before.
abbrev pub NoName : Option (List ℕ) → Type 0
NoName text = (name : VarName) → name_behind name text ≡ None

-- This variable and no other stands behind what was read before, and this rest behind it.
abbrev pub OnlyName : VarName → List ℕ → Option (List ℕ) → Type 0
OnlyName name rest text = (name_behind name text ≡ Some rest) × ((other : VarName) → other ≢ name → name_behind other text ≡ None)

-- The exponent behind what was read before, if that was read.
abbrev pub exponent_behind : Option (List ℕ) → Option (ℕ × List ℕ)
exponent_behind None = None
exponent_behind (Some text) = exponent_at text

-- The variable of this name with its exponent.
abbrev pub factor_at : VarName → Bool → List ℕ → Option (ℕ × List ℕ)
factor_at name joined text = exponent_behind (name_behind name (joint_at joined text))

-- None of the places from one up to another has this name.
abbrev pub Lacks : ℕ → ℕ → VarName → List VarName → Type 0
Lacks from to name names = (i : ℕ) → from ≤ i → i < to → i < length names → get_or names i name ≢ name

-- The exponents of the variables in their order; those without a factor have 0, and so have the `spare` ones behind them.
abbrev pub factors_at : ℕ → Bool → List VarName → List ℕ → List ℕ × List ℕ
factors_at spare joined [] text = (replicate spare 0, text)
factors_at spare joined (name ∷ names) text =
    elim (factor_at name joined text) [
      | None ↦ (0 ∷ (factors_at spare joined names text).0, (factors_at spare joined names text).1)
      | Some read ↦ (read.0 ∷ (factors_at spare true names read.1).0, (factors_at spare true names read.1).1)
    ]

-- The size of a coefficient: whether one is written, and which it is.
pub record Size : Type 0 where
  pub written : Bool
  pub size : ℕ
  pub rest : List ℕ

-- A size that was read, or 1 where none is written.
abbrev pub size_or_one : List ℕ → Option (ℕ × List ℕ) → Size
size_or_one text None = record { written = false; size = 1; rest = text }
size_or_one text (Some read) = record { written = true; size = read.0; rest = read.1 }

-- The size of a coefficient.
abbrev pub size_at : List ℕ → Size
size_at text = size_or_one text (number_at MOST_SIZE text)

-- A size is written exactly where it isn't to be left out.
abbrev pub is_spelled : Size → List ℕ → Bool
is_spelled size es = if size.written then not (is_left_out size.size es) else is_left_out size.size es

-- The entry of a size and of factors, if the size is spelled as it should be.
abbrev pub entry_of_parts : Bool → Size → List ℕ × List ℕ → Option (Entry × List ℕ)
entry_of_parts negative size factors =
    if nat_lt 0 size.size && is_spelled size factors.0 then Some ((factors.0, signed_by negative (pos size.size)), factors.1) else None

-- A term behind its sign.
abbrev pub term_at : List VarName → Bool → List ℕ → Option (Entry × List ℕ)
term_at names negative text =
    entry_of_parts negative (size_at text) (factors_at (MOST_VARIABLES - length names) (size_at text).written names (size_at text).rest)

-- The sign of a term: whether it is negative.
abbrev pub sign_at : Bool → List ℕ → Option (Bool × List ℕ)
sign_at true [] = Some (false, [])
sign_at true (b ∷ text) = if b == minus then Some (true, text) else Some (false, b ∷ text)
sign_at false [] = None
sign_at false (a ∷ []) = None
sign_at false (a ∷ b ∷ []) = None
sign_at false (a ∷ b ∷ c ∷ text) =
    if a == space && c == space then (if b == minus then Some (true, text) else (if b == plus then Some (false, text) else None)) else None

-- The term behind its sign, if that was read.
abbrev pub term_behind : List VarName → Option (Bool × List ℕ) → Option (Entry × List ℕ)
term_behind names None = None
term_behind names (Some read) = term_at names read.0 read.1

-- A term with its sign.
abbrev pub entry_at : Bool → List VarName → List ℕ → Option (Entry × List ℕ)
entry_at first names text = term_behind names (sign_at first text)
