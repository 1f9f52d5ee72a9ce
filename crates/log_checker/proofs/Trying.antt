-- What the trials of rules tell.
use Rattle.std.proofs.Common.{◌≡◌, ℕ, refl, sym, ◌∙◌, ap, subst, Bool, true, false, ◌&&◌, not}
use Rattle.std.specs.Prelude.{ℤ, ◌==◌, Option, Some, None, MatchOption, Result, Ok, Err, IfOk}
use Rattle.std.specs.Ordering.{int_eq}
use Rattle.std.proofs.lemmas.Bool.{and_from, eqb-true}
use Rattle.poly_model.specs.Polynomial.{Polynomial}
use Rattle.poly_model.specs.Bounded.{bounded_reduction}
use Rattle.poly_model.specs.Standard.{is_standard}
use Rattle.poly_model.specs.Reasons.{reason_of}
use Rattle.poly_model.specs.Reduction.{reduction_of, same}
use Rattle.poly_model.specs.Equality.{same-is, is-same}
use Rattle.poly_model.specs.declared.limits.Limit.{Limit}
use Rattle.poly_model.specs.declared.limits.TheConstants.{MOST_VARIABLES}
use Rattle.poly_model.proofs.Reductions.{bounded_reduction-is}
use Rattle.poly_model.proofs.Within.{within-of}
use Rattle.proof_steps.specs.Numbers.{item, has}
use Rattle.proof_steps.specs.Reasons.{limit_met, same_reason}
use Rattle.proof_steps.specs.Rules.{is_valid, reduction_limit}
use Rattle.proof_steps.specs.declared.piece.Node.{Node}
use Rattle.proof_steps.specs.declared.step.Attempt.TheVariants as attempt
use Rattle.term_store.specs.States.{State}
use Rattle.polynomials.specs.declared.poly.Poly.{Poly}
use Rattle.polynomials.specs.Held.{polynomial_at}
use Rattle.pseudo_div.specs.Answers.{Reduces}
use Rattle.log_checker.specs.Trials.{Reduced, gives, reduces_to, may_reduce, Divides, IsRedPair}
use Rattle.log_checker.proofs.Fitness.{limited}

-- ---- tests
pub not-same : (g f : ℕ) → (g ≡ f → ⊥) → not (g == f) ≡ true
not-same g f ne = elim (g == f) as (λ b. (g == f) ≡ b → not b ≡ true) [ true ↦ λ e. absurd (ne (eqb-true g f e)) | false ↦ λ e. refl ] refl

pub last-false : (a b c : Bool) → c ≡ false → (a && (b && c)) ≡ false
last-false true true c e = e
last-false true false c e = refl
last-false false b c e = refl

pub last-true : (a b c : Bool) → (a && b) ≡ true → c ≡ true → (a && (b && c)) ≡ true
last-true true true c h e = e
last-true true false c h e = cc
last-true false b c h e = cc

-- ---- reductions
reduced-is : (g f : Polynomial) (r : Result (ℤ × Polynomial) Limit) → is_standard g ≡ true → is_standard f ≡ true → r ≡ bounded_reduction g f → Reduced g f r
unfolding reduction_limit
reduced-is g f (Ok r) sg sf e = (sym (ap limit_met e), bounded_reduction-is MOST_VARIABLES g f r (within-of g sg).descending (within-of f sf).descending (sym e))
reduced-is g f (Err limit) sg sf e = sym (ap limit_met e)

pub reduced-so : {E : Type 0} (o : Result (Result (ℤ × Polynomial) Limit) E) (P Q g f : Polynomial) → P ≡ g → Q ≡ f → is_standard g ≡ true → is_standard f ≡ true
    → IfOk o (λ r. r ≡ bounded_reduction P Q) → IfOk o (λ r. Reduced g f r)
reduced-so (Ok r) P Q g f a b sg sf e = reduced-is g f r sg sf (e ∙ λ i. bounded_reduction (a i) (b i))
reduced-so (Err x) P Q g f a b sg sf e = e

-- what was found is what is told
gives-is : (r : Result (ℤ × Polynomial) Limit) (g f : Polynomial) (m : ℤ) (p : Polynomial) → Reduced g f r → gives r m p ≡ reduces_to g f m p
unfolding reduction_limit
gives-is (Ok x) g f m p d = λ i. same_reason (sym d.0 i) None && (int_eq m (d.1 i).0 && same p (d.1 i).1)
gives-is (Err limit) g f m p d =
    let tells = int_eq m (reduction_of g f).0 && same p (reduction_of g f).1 in
    sym (ap (λ o. same_reason o None && tells) d ∙ ap (λ b. b && tells) (limited (reason_of limit)))

pub told-so : (b : Bool) (P Q g f : Polynomial) (m : ℤ) (p : Polynomial) → P ≡ g → Q ≡ f → is_standard g ≡ true → is_standard f ≡ true → b ≡ gives (bounded_reduction P Q) m p → b ≡ reduces_to g f m p
told-so b P Q g f m p x y sg sf e = e ∙ (λ i. gives (bounded_reduction (x i) (y i)) m p) ∙ gives-is (bounded_reduction g f) g f m p (reduced-is g f (bounded_reduction g f) sg sf refl)

-- the answer of a store, held against what is told
pub none-given : (s t : State) (limit : Limit) (whole : Result (ℤ × Polynomial) Limit) (m : ℤ) (p : Polynomial) → Reduces s t (Err limit) whole → false ≡ gives whole m p
none-given s t limit (Ok x) m p h = absurd h
none-given s t limit (Err met) m p h = refl

same-swap : (p q : Polynomial) → same p q ≡ same q p
same-swap p q = elim (same p q) as (λ b. same p q ≡ b → b ≡ same q p) [
  | true ↦ λ e. sym (is-same q p (sym (same-is p q e)))
  | false ↦ λ e. elim (same q p) as (λ b. same q p ≡ b → false ≡ b) [ true ↦ λ d. sym e ∙ is-same p q (sym (same-is q p d)) | false ↦ λ d. refl ] refl
] refl

pub some-given : (s t : State) (r : ℤ × Poly) (whole : Result (ℤ × Polynomial) Limit) (m : ℤ) (p : Polynomial) → Reduces s t (Ok r) whole → (int_eq m r.0 && same (polynomial_at t r.1) p) ≡ gives whole m p
some-given s t r (Ok x) m p h = (λ i. int_eq m (h.0 i) && same (h.1.value i) p) ∙ ap (λ b. int_eq m x.0 && b) (same-swap x.1 p)
some-given s t r (Err met) m p h = absurd h

-- ---- a reduction at a node
pub red-pair : (version : ℕ) (n : Node) (g f : ℕ) (p q : Polynomial) (place : ℕ) → p ≡ item n.eqs g → q ≡ item n.eqs f → has n.eqs g ≡ true → has n.eqs f ≡ true → (g ≡ f → ⊥) → Divides n.nes p q (Some place)
    → IsRedPair version n g f p q place
red-pair version n g f p q place there here hg hf ne d = record {
  valid = and_from (has n.eqs g && (has n.eqs f && not (g == f))) _ (and_from (has n.eqs g) _ hg (and_from (has n.eqs f) _ hf (not-same g f ne)))
      (sym (λ i. may_reduce n.nes (there i) (here i)) ∙ d.0);
  reduced = there;
  reducing = here;
  class = d.1;
  reached = d.2;
}

pub pair-of : {A : Type 0} (o : Option A) (a : A) (p q : A → Polynomial) (place : A → ℕ) (version : ℕ) (n : Node) (g f : ℕ)
    → MatchOption o (is_valid version n (attempt.Red g f) ≡ false) (λ x. IsRedPair version n g f (p x) (q x) (place x)) → o ≡ Some a → IsRedPair version n g f (p a) (q a) (place a)
pair-of o a p q place version n g f h e = subst (λ x. MatchOption x (is_valid version n (attempt.Red g f) ≡ false) (λ y. IsRedPair version n g f (p y) (q y) (place y))) e h

pub no-pair : {A : Type 0} (o : Option A) (p q : A → Polynomial) (place : A → ℕ) (version : ℕ) (n : Node) (g f : ℕ)
    → MatchOption o (is_valid version n (attempt.Red g f) ≡ false) (λ x. IsRedPair version n g f (p x) (q x) (place x)) → o ≡ None → is_valid version n (attempt.Red g f) ≡ false
no-pair o p q place version n g f h e = subst (λ x. MatchOption x (is_valid version n (attempt.Red g f) ≡ false) (λ y. IsRedPair version n g f (p y) (q y) (place y))) e h

pub no-red : (valid told : Bool) → valid ≡ false → false ≡ (valid && told)
no-red valid told e = sym (ap (λ v. v && told) e)

pub red-told : {E : Type 0} (o : Result Bool E) (n : Node) (g f : ℕ) (p q : Polynomial) (place : ℕ) (m : ℤ) (r : Polynomial) → ((version : ℕ) → IsRedPair version n g f p q place) → IfOk o (λ told. told ≡ reduces_to p q m r)
    → IfOk o (λ told. (version : ℕ) → told ≡ (is_valid version n (attempt.Red g f) && reduces_to (item n.eqs g) (item n.eqs f) m r))
red-told (Ok told) n g f p q place m r h e = λ version.
    e ∙ (λ i. reduces_to ((h version).reduced i) ((h version).reducing i) m r) ∙ sym (ap (λ v. v && reduces_to (item n.eqs g) (item n.eqs f) m r) (h version).valid)
red-told (Err x) n g f p q place m r h e = e
