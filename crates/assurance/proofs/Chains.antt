-- Where a chain ends as proved at a triangular system, the conclusions are zero at the zeros of the system.
use Rattle.std.proofs.Common.{◌≡◌, ℕ, ◌+◌, ◌-◌, ◌<◌, ◌≤◌, zero, suc, List, [], ◌∷◌, length, get_or, refl, sym, ◌∙◌, ap, arith, Bool, true, false, ◌&&◌, ◌||◌, not, inl, inr}
use Rattle.std.specs.Prelude.{Option, ◌==◌, None, unwrap_or, nat_lt, nat_le, if◌then◌else◌}
use Rattle.std.specs.List.{list_all}
use Rattle.std.specs.Ordering.{int_eq}
use Rattle.std.proofs.lemmas.Bool.{and_parts, and_from, or_cases, eq-eqb, not_from_true, lt-ltb, le-leb, both_ways}
use Rattle.poly_model.specs.Domain.{Operations, IsDomain}
use Rattle.poly_model.specs.Polynomial.{Polynomial, value_at}
use Rattle.poly_model.specs.Zeros.{AllZero, IsZero}
use Rattle.proof_steps.specs.Numbers.{item, has}
use Rattle.poly_model.specs.Reduction.{class_of, is_constant, reaches, reduction_of}
use Rattle.proof_steps.specs.Rules.{has_known_initial, is_settled, is_triangular}
use Rattle.proof_steps.specs.Reasons.{same_reason}
use Rattle.proof_steps.specs.Chain as chain
use Rattle.proof_steps.specs.Chain.{Due, due_of, reducing_class, first_of_class, chain_reason, is_step, is_proved, step_due, chain_fits, status_fits}
use Rattle.proof_steps.specs.declared.piece.ChainStep.{ChainStep}
use Rattle.proof_steps.specs.declared.piece.LeafStatus.{LeafStatus}
use Rattle.proof_steps.specs.declared.piece.LeafStatus.TheVariants as status
use Rattle.proof_steps.proofs.Search.{first_from-found, greatest-attained, all-at}
use Rattle.poly_model.specs.Equality.{same-is}
use Rattle.poly_model.specs.declared.limits.Reason.{Reason}
use Rattle.zero_rules.proofs.Lists as lists
use Rattle.zero_rules.proofs.Rules as rules
use Rattle.poly_model.proofs.Reductions.{reduction-zeros}

-- the initial of each equation of a triangular system is known
pub triangular-at : (E N : List Polynomial) (f : ℕ) → is_triangular E N ≡ true → f < length E → has_known_initial N (get_or E f []) ≡ true
triangular-at E N f h below =
    let F = get_or E f [] in
    let a = (and_parts (not (is_constant F)) _ (all-at (λ p. not (is_constant p) && is_settled E N (class_of p)) E f below h)).1 in
    let test : Polynomial → Bool = λ p. not (class_of p == class_of F) || has_known_initial N p in
    let b = all-at test E f below (and_parts _ (list_all test E) a).1 in
    elim (or_cases (not (class_of F == class_of F)) _ b) [
      | inl n ↦ absurd (both_ways _ (not_from_true _ (eq-eqb (class_of F) (class_of F) refl)) n)
      | inr k ↦ k
    ]

has-from : (E : List Polynomial) (i : ℕ) → 1 ≤ i → i < 1 + length E → has E i ≡ true
has-from E i low high = and_from (nat_lt 0 i) (nat_le i (length E)) (lt-ltb 0 i (omega arith)) (le-leb i (length E) (omega arith))

-- where some equation reduces p, there is an equation that is due
reducer-there : (E : List Polynomial) (p : Polynomial) (x : ℕ) → reducing_class E p ≡ suc x → has E (first_of_class E (suc x)) ≡ true
reducer-there E p x e =
    let a = greatest-attained (λ f. if reaches p f then class_of f else 0) E x e in
    let class : class_of (get_or E a.at []) ≡ suc x = chosen (reaches p (get_or E a.at [])) (class_of (get_or E a.at [])) a.gives in
    let place : suc a.at - 1 ≡ a.at = omega arith in
    let passes = eq-eqb (class_of (item E (suc a.at))) (suc x) (ap (λ k. class_of (get_or E k [])) place ∙ class) in
    let found =
    first_from-found (λ i. class_of (item E i) == suc x) (length E) 1 (suc a.at) (omega arith) (let w = a.within in omega (arith, w)) passes
    in
    ap (λ r. has E (unwrap_or r 0)) found.found ∙ has-from E found.at found.low found.high
  where
    chosen : (b : Bool) (c : ℕ) → (if b then c else 0) ≡ suc x → c ≡ suc x
    chosen true c q = q
    chosen false c q = absurd (omega (arith, q))

module _ {M : Type 0} {o : Operations M} (L : IsDomain o) where
  -- What is due says of the conclusions that wait: they are zero, nothing, or they are where those that are reduced are.
  abbrev Says : List Polynomial → List M → List Polynomial → Due → Type 0
  Says E point ps chain.AllZero = AllZero o ps point
  Says E point ps (chain.Left k p) = Unit {0}
  Says E point ps (chain.Reduce k f p rest) = (AllZero o (p ∷ rest) point → AllZero o ps point) × (has E f ≡ true)

  passed : (E : List Polynomial) (point : List M) (ps : List Polynomial) (d : Due) → Says E point ps d → Says E point ([] ∷ ps) d
  passed E point ps chain.AllZero s = (refl, s)
  passed E point ps (chain.Left k p) s = tt
  passed E point ps (chain.Reduce k f p rest) s = ((λ z. (refl, s.0 z)), s.1)

  says : (E : List Polynomial) (point : List M) (k : ℕ) (ps : List Polynomial) → Says E point ps (due_of E k ps)
  says E point k [] = tt
  says E point k ([] ∷ ps) = passed E point ps (due_of E (suc k) ps) (says E point (suc k) ps)
  says E point k ((e ∷ p) ∷ ps) =
      elim (reducing_class E (e ∷ p)) as (λ x. reducing_class E (e ∷ p) ≡ x
      → Says E point ((e ∷ p) ∷ ps) (elim x [ zero ↦ chain.Left k (e ∷ p) | suc y ↦ chain.Reduce k (first_of_class E (suc y)) (e ∷ p) ps ])) [
        | zero ↦ λ q. tt
        | suc x ↦ λ q. ((λ z. z), reducer-there E (e ∷ p) x q)
      ] refl

  pub chain-sound : (E N : List Polynomial) (point : List M) → is_triangular E N ≡ true → IsZero o E N point
      → (k : ℕ) (ps : List Polynomial) (fuel : ℕ) (cs : List ChainStep) (s : LeafStatus) → chain_fits E k ps fuel cs s ≡ true → is_proved s ≡ true
      → AllZero o ps point
  chain-sound E N point t z k ps fuel [] s h proved = last (due_of E k ps) (says E point k ps) h
    where
      not_proved : (s : LeafStatus) → is_proved s ≡ true → (j : ℕ) (p : Polynomial) → chain.is_remainder j p s ≡ true → ⊥
      not_proved status.Proved e j p q = cc
      not_proved (status.Remainder i r) e j p q = cc
      not_proved (status.Unreduced i w f) e j p q = cc

      not_stopped : (s : LeafStatus) → is_proved s ≡ true → (j f : ℕ) (w : Option Reason) → chain.is_unreduced j f w s ≡ true → ⊥
      not_stopped status.Proved e j f w q = cc
      not_stopped (status.Remainder i r) e j f w q = cc
      not_stopped (status.Unreduced i v g) e j f w q = cc

      last : (d : Due) → Says E point ps d → status_fits E fuel d s ≡ true → AllZero o ps point
      last chain.AllZero y q = y
      last (chain.Left j p) y q = absurd (not_proved s proved j p q)
      last (chain.Reduce j f p rest) y q = absurd (not_stopped s proved j f _ q)
  chain-sound E N point t z k ps fuel (c ∷ cs) s h proved =
      at (due_of E k ps) (says E point k ps) h (λ j rest left g. chain-sound E N point t z j (c.r ∷ rest) left cs s g proved)
    where
      at : (d : Due) → Says E point ps d
          → step_due E fuel c (λ j rest left. chain_fits E j rest left cs s) d ≡ true
          → ((j : ℕ) (rest : List Polynomial) (left : ℕ) → chain_fits E j (c.r ∷ rest) left cs s ≡ true → AllZero o (c.r ∷ rest) point)
          → AllZero o ps point
      at chain.AllZero y q more = cc
      at (chain.Left j p) y q more = cc
      at (chain.Reduce j f p rest) y q more =
          let a = and_parts (is_step E j f p c && same_reason (chain_reason p (item E f) fuel) None) _ q in
          let b = (and_parts (is_step E j f p c) _ a.0).0 in
          let result = same-is _ _ (and_parts (int_eq c.m (reduction_of p (item E f)).0) _ (and_parts (c.k == j && c.f == f) _ b).1).1 in
          let after = more j rest _ a.1 in
          let below = rules.place-within E f y.1 in
          let known = rules.known-not_zero L N (item E f) point z.1 (triangular-at E N (f - 1) t below) in
          let law = reduction-zeros L p (item E f) point (lists.all-get o E (f - 1) point z.0) known in
          y.0 (law.1 (ap (λ r. value_at o r point) (sym result) ∙ after.0), after.1)
