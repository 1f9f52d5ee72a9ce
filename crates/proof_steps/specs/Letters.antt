-- How an array holds a path: its letters in front, and the rest is filled up.
use Rattle.std.proofs.Common.{◌≡◌, ℕ, ◌-◌, ◌≤◌, List, ◌++◌, length, take, drop, replicate, sym, ◌∙◌, ap, arith, length-take, Bool, false}
use Rattle.std.proofs.lemmas.List.{take-append-drop}
use Rattle.poly_model.specs.declared.limits.TheConstants.{MOST_LETTERS}

-- The first letters of the array are the path.
pub record Holds (letters : List Bool) (len : ℕ) : Type 0 where
  pub whole : length letters ≡ MOST_LETTERS
  pub within : len ≤ MOST_LETTERS
  pub filled : drop len letters ≡ replicate (MOST_LETTERS - len) false

pub front_length : (letters : List Bool) (len : ℕ) → Holds letters len → length (take len letters) ≡ len
front_length letters len h = omega (arith, length-take len letters)

-- the front, filled up, is the array
pub filled_again : (letters : List Bool) (len : ℕ) → Holds letters len
    → take len letters ++ replicate (MOST_LETTERS - length (take len letters)) false ≡ letters
filled_again letters len h =
    ap (λ k. take len letters ++ replicate (MOST_LETTERS - k) false) (front_length letters len h)
    ∙ ap (λ l. take len letters ++ l) (sym h.filled) ∙ take-append-drop len letters
