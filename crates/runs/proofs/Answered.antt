-- An answer of arithmetic that is a polynomial is one in the store.
use Rattle.std.specs.Prelude.{Result, Ok, Err, IfOk}
use Rattle.poly_model.specs.Polynomial.{Polynomial}
use Rattle.poly_model.specs.declared.limits.Limit.{Limit}
use Rattle.term_store.specs.States.{State}
use Rattle.polynomials.specs.declared.poly.Poly.{Poly}
use Rattle.polynomials.specs.Held.{Answers, IsPoly}
use Rattle.polynomials.proofs.Results as results

pub answered : (s t : State) (result : Result Poly Limit) (whole : Result Polynomial Limit) → Answers s t result whole → IfOk result (λ r. IsPoly t r)
answered s t (Ok r) (Ok p) o = results.made-poly s t r p o
answered s t (Ok r) (Err l) o = absurd o
answered s t (Err x) (Ok p) o = tt
answered s t (Err x) (Err l) o = tt
