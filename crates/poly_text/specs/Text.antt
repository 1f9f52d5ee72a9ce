-- The text of a polynomial over named variables.
use Rattle.std.specs.Prelude.{ℕ, zero, suc, List, [], ◌∷◌, ◌++◌, Bool, true, false, if◌then◌else◌, ◌&&◌, ◌==◌, nat_lt, unsigned_abs, codes, decimal}
use Rattle.std.specs.List.{list_any}
use Rattle.desk_io.specs.Characters.{small_u, small_x}
use Rattle.poly_model.specs.Polynomial.{Entry, Polynomial}
use Rattle.poly_model.specs.Content.{is_negative}
use Rattle.poly_model.specs.Names.{number}
use Rattle.poly_model.specs.declared.vars.VarName.{VarName}
use Rattle.poly_model.specs.declared.vars.VarName.TheVariants.{U, X}

-- The byte of a variable's kind, `u` or `x`.
abbrev pub letter : VarName → ℕ
letter (U n) = small_u
letter (X n) = small_x

-- A variable: the letter of its kind and its number.
abbrev pub variable_text : VarName → List ℕ
variable_text name = letter name ∷ decimal (number name)

-- An exponent, which is written above 1 alone.
abbrev pub exponent_text : ℕ → List ℕ
exponent_text e = if e == 1 then [] else (codes "^" ++ decimal e)

-- A variable with its exponent.
abbrev pub factor_text : VarName → ℕ → List ℕ
factor_text name e = variable_text name ++ exponent_text e

-- A `*` behind something that it joins to what follows.
abbrev pub joint_text : Bool → List ℕ
joint_text joined = if joined then codes "*" else []

-- The variables with an exponent other than 0, from the least to the greatest, joined by `*` to each other and to what
-- stands before, if something does.
abbrev pub factors_text : Bool → List VarName → List ℕ → List ℕ
factors_text joined [] es = []
factors_text joined (name ∷ names) [] = []
factors_text joined (name ∷ names) (zero ∷ es) = factors_text joined names es
factors_text joined (name ∷ names) (suc e ∷ es) = joint_text joined ++ factor_text name (suc e) ++ factors_text true names es

-- A size is left out where it is 1 and a variable follows.
abbrev pub is_left_out : ℕ → List ℕ → Bool
is_left_out size es = size == 1 && list_any (λ e. nat_lt 0 e) es

-- A term without its sign: the size of its coefficient, and its variables.
abbrev pub term_text : List VarName → List ℕ → ℕ → List ℕ
term_text names es size = if is_left_out size es then factors_text false names es else (decimal size ++ factors_text true names es)

-- The sign of a term: a first one has a `-` where it is negative, any other is parted from the term before.
abbrev pub sign_text : Bool → Bool → List ℕ
sign_text true true = codes "-"
sign_text true false = []
sign_text false true = codes " - "
sign_text false false = codes " + "

-- A term with its sign.
abbrev pub entry_text : Bool → List VarName → Entry → List ℕ
entry_text first names entry = sign_text first (is_negative entry.1) ++ term_text names entry.0 (unsigned_abs entry.1)

-- Terms with their signs.
abbrev pub terms_text : Bool → List VarName → Polynomial → List ℕ
terms_text first names [] = []
terms_text first names (entry ∷ p) = entry_text first names entry ++ terms_text false names p

-- The text of a polynomial over the variables of these names: its terms, or `0` where it has none.
abbrev pub poly_text : List VarName → Polynomial → List ℕ
poly_text names [] = codes "0"
poly_text names (entry ∷ p) = terms_text true names (entry ∷ p)
