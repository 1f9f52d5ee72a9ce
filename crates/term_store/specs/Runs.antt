-- Lists of terms as runs in one list.
use Rattle.std.proofs.Math.Bool.{Bool-set}
use Rattle.std.proofs.Math.Bridge.{le_prop}
use Rattle.std.specs.Prelude.{◌≡◌, ◌≤◌, IsTrue, ℕ, suc, ◌+◌, Bool, true, false, ◌&&◌, nat_le, nat_eq, List, [], ◌∷◌, ◌++◌, length, take, drop, get_or, set, Option, Some, None}
use Rattle.std.specs.List.{list_all}
use Rattle.std.specs.FinMap.{from_entries}
use Rattle.term_store.specs.States.{Lists, State}
use Rattle.poly_model.specs.declared.term.Term.{Term}
use Rattle.term_store.specs.declared.space.Place.{Place}

abbrev pub is_used : Place → Bool
is_used p = p.live

-- The terms of a place.
abbrev pub run_of : List Term → Place → List Term
run_of terms p = take p.len (drop p.start terms)

-- The list of a place.
abbrev pub run_at : List Term → Place → Option (List Term)
run_at terms p = elim p.live [ false ↦ None | true ↦ Some (run_of terms p) ]

-- A place where no list stands.
abbrev pub nowhere : Place
nowhere = record { live = false; start = 0; len = 0 }

-- The places, with the one at this slot free.
abbrev pub vacated : List Place → ℕ → List Place
vacated places k = set places k record { live = false; start = (get_or places k nowhere).start; len = (get_or places k nowhere).len }

-- The list at a slot.
abbrev pub list_in : List Term → List Place → ℕ → Option (List Term)
list_in terms places k = run_at terms (get_or places k nowhere)

-- Each live list ends at most here.
abbrev pub is_inside : ℕ → Place → Bool
is_inside n p = elim p.live [ false ↦ true | true ↦ nat_le (p.start + p.len) n ]

abbrev pub are_inside : ℕ → List Place → Bool
are_inside n = list_all (is_inside n)

-- The terms of all live lists.
abbrev pub terms_in : List Place → ℕ
terms_in [] = 0
terms_in (p ∷ ps) = elim p.live [ false ↦ terms_in ps | true ↦ p.len + terms_in ps ]

-- The units of a place.
abbrev pub units_of : Place → ℕ
units_of p = elim p.live [ false ↦ 0 | true ↦ p.len + 1 ]

-- The units of all live lists.
abbrev pub units : List Place → ℕ
units [] = 0
units (p ∷ ps) = elim p.live [ false ↦ units ps | true ↦ p.len + 1 + units ps ]

-- The live lists, one behind the other.
abbrev pub gathered : List Term → List Place → List Term
gathered terms [] = []
gathered terms (p ∷ ps) = elim p.live [ false ↦ gathered terms ps | true ↦ run_of terms p ++ gathered terms ps ]

-- Their places, the first one here.
abbrev pub placed : ℕ → List Place → List Place
placed at [] = []
placed at (p ∷ ps) =
    elim p.live [
      | false ↦ p ∷ placed at ps
      | true ↦ record { live = true; start = at; len = p.len } ∷ placed (at + p.len) ps
    ]

-- The live lists from a place on, with their slots.
abbrev pub entries_from : List Term → ℕ → List Place → List (ℕ × List Term)
entries_from terms k [] = []
entries_from terms k (p ∷ ps) = elim p.live [ false ↦ entries_from terms (suc k) ps | true ↦ (k, run_of terms p) ∷ entries_from terms (suc k) ps ]

-- The live lists by their slots.
abbrev pub lists_of : List Term → List Place → Lists
lists_of terms places = from_entries (entries_from terms 0 places)

-- The newest list, where there is one, is live and ends where the terms end.
abbrev pub is_last : ℕ → Place → Bool
is_last n p = p.live && nat_eq (p.start + p.len) n

abbrev pub ends_last : ℕ → List Place → Option ℕ → Bool
ends_last n places None = true
ends_last n places (Some k) = is_last n (get_or places k nowhere)

abbrev pub state_of : List Term → List Place → ℕ → Option ℕ → State
state_of terms places spare newest = record { lists = lists_of terms places; spare = spare; newest = newest }

-- The lists of a store, its units, and the room for them.
pub record Kept (terms : List Term) (places : List Place) (newest : Option ℕ) (spare a b c d : ℕ) : Type 0 where
  pub inside : IsTrue (are_inside (length terms) places)
  pub last : IsTrue (ends_last (length terms) places newest)
  pub room : units places + spare ≤ a
  pub seats : units places + spare ≤ b
  pub next_room : units places + spare ≤ c
  pub next_seats : units places + spare ≤ d
  pub fits : length places ≤ d

pub Kept-prop : (terms : List Term) (places : List Place) (newest : Option ℕ) (spare a b c d : ℕ) → IsProp (Kept terms places newest spare a b c d)
Kept-prop terms places newest spare a b c d = hlevel (Bool-set, le_prop)

-- The same lists, the one at the slot k behind the others, and no other terms among them.
pub record Gathered (terms : List Term) (ps : List Place) (new : List Term) (qs : List Place) (k : ℕ) : Type 0 where
  pub same_lists : (j : ℕ) → list_in new qs j ≡ list_in terms ps j
  pub same_units : units qs ≡ units ps
  pub same_places : length qs ≡ length ps
  pub inside : IsTrue (are_inside (length new) qs)
  pub last : IsTrue (is_last (length new) (get_or qs k nowhere))
  pub shorter : length new + 1 ≤ units ps
