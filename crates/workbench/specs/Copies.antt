-- Copies of polynomials in a store.
use Rattle.std.specs.Prelude.{◌≡◌, List, map}
use Rattle.poly_model.specs.Polynomial.{Polynomial}
use Rattle.term_store.specs.States.{State}
use Rattle.polynomials.specs.declared.poly.Poly.{Poly}
use Rattle.polynomials.specs.Held.{polynomial_at, slot_of}
use Rattle.workbench.specs.Owned.{Owns}
use Rattle.workbench.specs.Standing.{AllStandard}

-- The store has these lists more, and they are those polynomials.
pub record Copied (s t : State) (copies : List Poly) (ps : List Polynomial) : Type 0 where
  pub owns : Owns s t (map slot_of copies)
  pub same : map (polynomial_at t) copies ≡ ps
  pub standard : AllStandard ps
