-- Lists of a store that are made and given up again.
use Rattle.std.proofs.Common.{ℕ, ◌+◌, length, sym, ◌∙◌, ap, subst}
use Rattle.std.specs.Prelude.{ℤ, Result, Ok, Err}
use Rattle.std.specs.FinMap.{remove}
use Rattle.poly_model.specs.declared.limits.Limit.{Limit}
use Rattle.poly_model.specs.Polynomial.{Polynomial}
use Rattle.term_store.specs.States.{State, IsLive, list_at}
use Rattle.term_store.specs.Changes.{Makes, Keeps}
use Rattle.term_store.proofs.Making.{makes-live, makes-freed}
use Rattle.polynomials.specs.declared.poly.Poly.{Poly}
use Rattle.polynomials.specs.Held.{Gives, slot_of}
use Rattle.pseudo_div.specs.Answers.{Reduces}
use Rattle.log_checker.specs.Stores.{GivenUp}

pub freed-keeps : (s t u : State) (p : Poly) → Makes s t (slot_of p) → GivenUp t u p → Keeps s u
freed-keeps s t u p m g = makes-freed s t u (slot_of p) m g.lists g.spare

pub live-kept : (s t : State) (k : ℕ) → Keeps s t → IsLive s.lists k → IsLive t.lists k
live-kept s t k h l = subst (λ m. IsLive m k) (sym h.lists) l

pub kept-given : (s t u : State) (p : Poly) → Keeps s t → GivenUp t u p → GivenUp s u p
kept-given s t u p h g = record {
  lists = g.lists ∙ ap (λ m. remove m (slot_of p)) h.lists;
  spare = g.spare ∙ (λ i. h.spare i + (length (list_at (h.lists i) (slot_of p)) + 1));
}

-- a list is made, other calls keep what there is, and it is given up
pub made-and-freed : (s t u v : State) (p : Poly) → Makes s t (slot_of p) → Keeps t u → GivenUp u v p → Keeps s v
made-and-freed s t u v p m k g = freed-keeps s t v p m (kept-given t u v p k g)

pub made-live : (s t u : State) (p : Poly) → Makes s t (slot_of p) → Keeps t u → IsLive u.lists (slot_of p)
made-live s t u p m k = live-kept t u (slot_of p) k (makes-live s t (slot_of p) m)

-- what a reduction made
pub reduces-gives : (s t : State) (r : ℤ × Poly) (whole : Result (ℤ × Polynomial) Limit) → Reduces s t (Ok r) whole → (p : ℤ × Polynomial) × Gives s t r.1 p.1
reduces-gives s t r (Ok p) h = (p, h.1)
reduces-gives s t r (Err met) h = absurd h
