-- What a call over a store does to its state.
use Rattle.std.specs.Prelude.{◌≡◌, ℕ, ◌+◌, List, ◌++◌, length, Some}
use Rattle.std.specs.FinMap.{insert, remove}
use Rattle.poly_model.specs.declared.term.Term.{Term}
use Rattle.term_store.specs.States.{State, IsLive, list_at, newest_without}

-- After a call the store has one list more, at this slot; all other lists stay, and spare has fallen by its units.
pub record Makes (s t : State) (k : ℕ) : Type 0 where
  pub vacant : IsLive s.lists k → ⊥
  pub lists : t.lists ≡ insert s.lists k (list_at t.lists k)
  pub spare : t.spare + (length (list_at t.lists k) + 1) ≡ s.spare

-- After a call the live lists and spare are as before.
pub record Keeps (s t : State) : Type 0 where
  pub lists : t.lists ≡ s.lists
  pub spare : t.spare ≡ s.spare

-- The store without the list at this slot.
abbrev pub given_up : State → ℕ → State
given_up s k = record { lists = remove s.lists k; spare = s.spare + (length (list_at s.lists k) + 1); newest = newest_without k s.newest }

-- After a call the newest list has these terms more; all other lists stay, and spare has fallen by so many.
pub record Extends (s t : State) (k : ℕ) (xs : List Term) : Type 0 where
  pub lists : t.lists ≡ insert s.lists k (list_at s.lists k ++ xs)
  pub spare : t.spare + length xs ≡ s.spare
  pub newest : t.newest ≡ Some k
