-- What calls of arithmetic give, where further lists are made and given up.
use Rattle.std.proofs.Common.{◌≡◌, ℕ, ◌+◌, ◌≤◌, length, refl, sym, ◌∙◌, ap, subst, arith}
use Rattle.std.specs.Prelude.{Result, Ok, Err}
use Rattle.std.specs.FinMap.{insert, remove}
use Rattle.poly_model.specs.Polynomial.{Polynomial}
use Rattle.poly_model.specs.Standard.{polynomial_of, is_standard}
use Rattle.poly_model.specs.declared.limits.Limit.{Limit}
use Rattle.poly_model.specs.declared.limits.TheConstants.{MOST_TERMS}
use Rattle.term_store.specs.States.{Lists, State, IsLive, list_at}
use Rattle.term_store.specs.Changes.{Makes, Keeps, given_up}
use Rattle.term_store.proofs.Making as making
use Rattle.polynomials.specs.declared.poly.Poly.{Poly}
use Rattle.polynomials.specs.Held.{IsPoly, Gives, Answers, slot_of, polynomial_at}
use Rattle.polynomials.proofs.Steps.{polynomial-length}
use Rattle.polynomials.proofs.Outcomes.{few}

-- The list at a slot was given up.
pub record Freed (u v : State) (k : ℕ) : Type 0 where
  pub lists : v.lists ≡ remove u.lists k
  pub spare : v.spare ≡ u.spare + (length (list_at u.lists k) + 1)

-- a call of `free` at the slot's number
pub freed : (u v : State) (n k : ℕ) → n ≡ k → v.lists ≡ remove u.lists n → v.spare ≡ u.spare + (length (list_at u.lists n) + 1) → Freed u v k
freed u v n k e lists spare = record {
  lists = lists ∙ ap (remove u.lists) e;
  spare = spare ∙ ap (λ j. u.spare + (length (list_at u.lists j) + 1)) e;
}

-- ---- an older polynomial beside a new list
pub kept-value : (s t : State) (k : ℕ) (p : Poly) → Makes s t k → IsPoly s p → polynomial_at t p ≡ polynomial_at s p
kept-value s t k p m h = ap polynomial_of (making.makes-other s t k (slot_of p) m h.live)

pub kept-poly : (s t : State) (k : ℕ) (p : Poly) → Makes s t k → IsPoly s p → IsPoly t p
kept-poly s t k p m h = record { live = making.makes-other-live s t k (slot_of p) m h.live; standard = ap is_standard (kept-value s t k p m h) ∙ h.standard }

-- the new one
pub made-poly : (s t : State) (r : Poly) (p : Polynomial) → Gives s t r p → IsPoly t r
made-poly s t r p g = record { live = making.makes-live s t (slot_of r) g.makes; standard = ap is_standard g.value ∙ g.standard }

pub live-at : (m : Lists) (n k : ℕ) → n ≡ k → IsLive m k → IsLive m n
live-at m n k e live = subst (IsLive m) (sym e) live

-- so much is spare beside a new polynomial
pub gives-spare : (s t : State) (r : Poly) (p : Polynomial) → Gives s t r p → s.spare ≤ t.spare + (MOST_TERMS + 1)
gives-spare s t r p g =
    let short = few t (slot_of r) (made-poly s t r p g).standard in
    let spare = g.makes.spare in
    omega (arith, short, spare)

-- ---- an intermediate list is given up
pub gives-freed : (s t u v : State) (k r : Poly) (p : Polynomial) → Makes s t (slot_of k) → Gives t u r p → Freed u v (slot_of k) → Gives s v r p
gives-freed s t u v k r p a g f = record {
  makes = making.makes-swapped s t u v (slot_of k) (slot_of r) a g.makes f.lists f.spare;
  value = ap polynomial_of (making.makes-swapped-at s t u v (slot_of k) (slot_of r) a g.makes f.lists) ∙ g.value;
  standard = g.standard;
}

pub keeps-freed : (s t u v : State) (k : ℕ) → Makes s t k → Keeps t u → Freed u v k → Keeps s v
keeps-freed s t u v k a b f = making.keeps-freed s t u v k a b f.lists f.spare

pub answers-freed : (s t u v : State) (k : Poly) (result : Result Poly Limit) (whole : Result Polynomial Limit) → Makes s t (slot_of k) → Answers t u result whole → Freed u v (slot_of k) → Answers s v result whole
answers-freed s t u v k (Ok r) (Ok p) a o f = gives-freed s t u v k r p a o f
answers-freed s t u v k (Ok r) (Err l) a o f = o
answers-freed s t u v k (Err x) (Ok p) a o f = o
answers-freed s t u v k (Err x) (Err l) a o f = (o.0, keeps-freed s t u v (slot_of k) a o.1 f)

-- lists that were live are live after an answer
pub answers-live : (s t : State) (j : ℕ) (result : Result Poly Limit) (whole : Result Polynomial Limit) → Answers s t result whole → IsLive s.lists j → IsLive t.lists j
answers-live s t j (Ok r) (Ok p) o live = making.makes-other-live s t (slot_of r) j o.makes live
answers-live s t j (Ok r) (Err l) o live = absurd o
answers-live s t j (Err x) (Ok p) o live = absurd o
answers-live s t j (Err x) (Err l) o live = subst (λ n. IsLive n j) (sym o.1.lists) live

-- what an answer says by its cases
pub answers-some : (s t : State) (r : Poly) (whole : Result Polynomial Limit) → Answers s t (Ok r) whole → (p : Polynomial) × (whole ≡ Ok p) × Gives s t r p
answers-some s t r (Ok p) o = (p, refl, o)
answers-some s t r (Err l) o = absurd o

pub answers-limited : (s t : State) (l : Limit) (whole : Result Polynomial Limit) → Answers s t (Err l) whole → (whole ≡ Err l) × Keeps s t
answers-limited s t l (Ok p) o = absurd o
answers-limited s t l (Err m) o = (ap Err (sym o.0), o.1)

-- an older polynomial is given up beside a new one
pub gives-instead : (s t v : State) (older r : Poly) (p : Polynomial) → Gives s t r p → IsPoly s older → Freed t v (slot_of older) → Gives (given_up s (slot_of older)) v r p
gives-instead s t v older r p g h f =
    let instead = making.makes-given_up s t v (slot_of r) (slot_of older) g.makes h.live f.lists f.spare in
    record { makes = instead.0; value = ap polynomial_of instead.1 ∙ g.value; standard = g.standard }

-- the new one is given up again
pub keeps-made : (s t v : State) (k : ℕ) → Makes s t k → Freed t v k → Keeps s v
keeps-made s t v k m f = making.makes-freed s t v k m f.lists f.spare

-- the terms of a new polynomial
pub gives-length : (s t : State) (r : Poly) (p : Polynomial) → Gives s t r p → length (list_at t.lists (slot_of r)) ≡ length p
gives-length s t r p g = sym (polynomial-length (list_at t.lists (slot_of r))) ∙ ap length g.value

-- a polynomial that was made is replaced by another
pub gives-again : (s t v : State) (older r : Poly) (p q : Polynomial) → Gives s t older p → Gives (given_up t (slot_of older)) v r q → Gives s v r q
gives-again s t v older r p q g h = record { makes = making.makes-instead s t v (slot_of older) (slot_of r) g.makes h.makes; value = h.value; standard = h.standard }

pub keeps-again : (s t u : State) (older : Poly) (p : Polynomial) → Gives s t older p → Keeps (given_up t (slot_of older)) u → Keeps s u
keeps-again s t u older p g k = making.keeps-instead s t u (slot_of older) g.makes k

-- a call that keeps the store keeps what was made
pub gives-kept : (s t u : State) (r : Poly) (p : Polynomial) → Gives s t r p → Keeps t u → Gives s u r p
gives-kept s t u r p g k = record {
  makes = record {
    vacant = g.makes.vacant;
    lists = k.lists ∙ g.makes.lists ∙ ap (λ m. insert s.lists (slot_of r) (list_at m (slot_of r))) (sym k.lists);
    spare = (λ i. k.spare i + (length (list_at (k.lists i) (slot_of r)) + 1)) ∙ g.makes.spare;
  };
  value = ap (λ m. polynomial_of (list_at m (slot_of r))) k.lists ∙ g.value;
  standard = g.standard;
}
