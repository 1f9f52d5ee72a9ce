-- What a call over a store leaves that gives a polynomial's list up.
use Rattle.std.specs.Prelude.{◌≡◌, ◌+◌, length}
use Rattle.std.specs.FinMap.{remove}
use Rattle.term_store.specs.States.{State, list_at}
use Rattle.polynomials.specs.declared.poly.Poly.{Poly}
use Rattle.polynomials.specs.Held.{slot_of}

-- The list of the polynomial is gone, and its units are spare again.
pub record GivenUp (s t : State) (p : Poly) : Type 0 where
  pub lists : t.lists ≡ remove s.lists (slot_of p)
  pub spare : t.spare ≡ s.spare + (length (list_at s.lists (slot_of p)) + 1)
