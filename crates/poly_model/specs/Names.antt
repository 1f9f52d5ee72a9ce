-- Lists of variable names.
use Rattle.std.specs.Prelude.{ℕ, ◌+◌, Bool, true, false, cond, ◌&&◌, not, List, [], ◌∷◌, length, nat_le, nat_eq}
use Rattle.poly_model.specs.declared.vars.VarName.{VarName}
use Rattle.poly_model.specs.declared.vars.VarName.TheVariants.{U, X}
use Rattle.poly_model.specs.declared.limits.TheConstants.{MOST_VARIABLES}

-- The number of a variable in its kind.
abbrev pub number : VarName → ℕ
number (U n) = n
number (X n) = n

-- The variable is a parameter, and the variable is dependent.
abbrev pub is_parameter : VarName → Bool
is_parameter (U n) = true
is_parameter (X n) = false

abbrev pub is_dependent : VarName → Bool
is_dependent name = not (is_parameter name)

-- The numbers of the names of a kind, in their order.
abbrev pub numbers_of : (VarName → Bool) → List VarName → List ℕ
numbers_of is_kind [] = []
numbers_of is_kind (name ∷ names) = cond (is_kind name) (number name ∷ numbers_of is_kind names) (numbers_of is_kind names)

-- The numbers count up from k: they are k, k + 1 and so on.
abbrev pub count_from : ℕ → List ℕ → Bool
count_from k [] = true
count_from k (n ∷ ns) = nat_eq n k && count_from (k + 1) ns

-- Each kind is numbered from 1 in order.
abbrev pub are_numbered : List VarName → Bool
are_numbered names = count_from 1 (numbers_of is_parameter names) && count_from 1 (numbers_of is_dependent names)

-- A list of variables: not too long, and numbered.
abbrev pub are_variables : List VarName → Bool
are_variables names = nat_le (length names) MOST_VARIABLES && are_numbered names
