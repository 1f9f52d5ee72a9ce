-- How an array holds a list of variables: in front, and the rest is filled up with u0.
use Rattle.std.proofs.Common.{◌≡◌, ℕ, ◌-◌, ◌≤◌, List, ◌++◌, length, take, drop, replicate, sym, ◌∙◌, ap, subst, arith, length-take, length-append, IsTrue}
use Rattle.std.proofs.lemmas.List.{take-append-drop, drop-replicate, length-replicate}
use Rattle.std.proofs.Math.Seq.{take-append_seam, drop-append_seam}
use Rattle.poly_model.specs.Names.{are_variables}
use Rattle.poly_model.specs.declared.vars.VarName.{VarName}
use Rattle.poly_model.specs.declared.vars.VarName.TheVariants.{U}
use Rattle.poly_model.specs.declared.limits.TheConstants.{MOST_VARIABLES}

-- The first names of the array are the variables.
pub record Holds (names : List VarName) (len : ℕ) : Type 0 where
  pub whole : length names ≡ MOST_VARIABLES
  pub within : len ≤ MOST_VARIABLES
  pub variables : IsTrue (are_variables (take len names))
  pub filled : drop len names ≡ replicate (MOST_VARIABLES - len) (U 0)

pub front_length : (names : List VarName) (len : ℕ) → Holds names len → length (take len names) ≡ len
front_length names len h = omega (arith, length-take len names)

-- the front, filled up, is the array
pub filled_again : (names : List VarName) (len : ℕ) → Holds names len
    → take len names ++ replicate (MOST_VARIABLES - length (take len names)) (U 0) ≡ names
filled_again names len h =
    ap (λ k. take len names ++ replicate (MOST_VARIABLES - k) (U 0)) (front_length names len h)
    ∙ ap (λ l. take len names ++ l) (sym h.filled) ∙ take-append-drop len names

-- an array of fillers, over which variables were copied
pub copied : (names array front : List VarName) → IsTrue (are_variables names) → length names ≤ MOST_VARIABLES → array ≡ replicate MOST_VARIABLES (U 0)
    → front ≡ names → Holds (front ++ drop (length names) array) (length names)
copied names array front variables within filler same =
    subst (λ l. Holds (l ++ drop (length names) array) (length names)) (sym same)
    (
    record {
      whole = omega (
        arith,
        length-append names (drop (length names) array),
        ap length rest,
        length-replicate (MOST_VARIABLES - length names) (U 0),
      );
      within = within;
      variables = subst (λ l. IsTrue (are_variables l)) (sym (take-append_seam names (drop (length names) array))) variables;
      filled = drop-append_seam names (drop (length names) array) ∙ rest;
    }
    )
  where
    rest : drop (length names) array ≡ replicate (MOST_VARIABLES - length names) (U 0)
    rest = ap (drop (length names)) filler ∙ drop-replicate (length names) MOST_VARIABLES (U 0)
