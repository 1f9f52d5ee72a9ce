-- What a store holds: lists of terms by their slots.
use Rattle.std.specs.Prelude.{ℕ, List, [], Option, Some, None, nat_eq, cond, is_some, IsTrue}
use Rattle.std.specs.Ordering.{nat_cmp}
use Rattle.std.specs.FinMap.{FinMap, get, empty}
use Rattle.poly_model.specs.declared.term.Term.{Term}

-- Lists of terms, by their slots.
abbrev pub Lists : Type 0
Lists = FinMap nat_cmp (List Term)

-- A list stands at the slot.
abbrev pub IsLive : Lists → ℕ → Type 0
IsLive m k = IsTrue (is_some (get m k))

-- The list at a slot; that of a slot that is not live is empty.
abbrev pub list_or_none : Option (List Term) → List Term
list_or_none None = []
list_or_none (Some xs) = xs

abbrev pub list_at : Lists → ℕ → List Term
list_at m k = list_or_none (get m k)

-- The newest list's slot, once a slot is given up.
abbrev pub newest_without : ℕ → Option ℕ → Option ℕ
newest_without k None = None
newest_without k (Some o) = cond (nat_eq k o) None (Some o)

-- What a store holds: the live lists by their slots, the units that are spare, and the slot that was given last, where it
-- is still live.
pub record State : Type 0 where
  pub lists : Lists
  pub spare : ℕ
  pub newest : Option ℕ

-- A store without lists and without room.
abbrev pub nothing : State
nothing = record { lists = empty; spare = 0; newest = None }
