-- The chain of the conclusions, one step at a time.
use Rattle.std.proofs.Common.{◌≡◌, ℕ, ◌+◌, ◌-◌, ◌<◌, ◌≤◌, zero, suc, List, [], ◌∷◌, ◌++◌, length, refl, sym, ◌∙◌, ap, subst, arith, Bool, true, false, append_assoc}
use Rattle.std.specs.Prelude.{ℤ, Option, Some, None, Result, Ok, Err, if◌then◌else◌, nat_lt, nat_le}
use Rattle.std.proofs.lemmas.Bool.Decides.{nat_tests}
use Rattle.std.proofs.lemmas.List.{append-nil, length-append}
use Rattle.poly_model.specs.Polynomial.{Polynomial}
use Rattle.poly_model.specs.Standard.{is_standard}
use Rattle.poly_model.specs.Reduction.{reduction_of}
use Rattle.poly_model.specs.Bounded.{bounded_reduction}
use Rattle.poly_model.specs.declared.limits.Limit.{Limit}
use Rattle.poly_model.specs.declared.limits.Reason.{Reason}
use Rattle.poly_model.specs.declared.limits.Reason.TheVariants.{Fuel}
use Rattle.poly_model.specs.declared.limits.TheConstants.{MOST_VARIABLES}
use Rattle.poly_model.proofs.Reductions.{bounded_reduction-is}
use Rattle.poly_model.proofs.Within.{within-of}
use Rattle.proof_steps.specs.Numbers.{item}
use Rattle.proof_steps.specs.Reasons.{limit_met}
use Rattle.proof_steps.specs.Rules.{reduction_limit}
use Rattle.proof_steps.specs.Chain.{Due, Left, Reduce, due_of, reducing_class, first_of_class, chain_reason, chain_stopped, chain_due, chain_within, chain_of}
use Rattle.proof_steps.specs.declared.piece.ChainStep.{ChainStep}
use Rattle.proof_steps.specs.declared.piece.LeafStatus.{LeafStatus}
use Rattle.proof_steps.specs.declared.piece.LeafStatus.TheVariants as status
use Rattle.pseudo_div.specs.Steps.{cost_of, met_by}
use Rattle.triangular.specs.Chains.{Chains}

unfolded : (n : ℕ) (E : List Polynomial) (k : ℕ) (ps : List Polynomial) (left : ℕ) → chain_within (suc n) E k ps left ≡ chain_due (λ j rest l. chain_within n E j rest l) E left (due_of E k ps)
unfolding chain_within
unfolded n E k ps left = refl

abbrev joined : List ChainStep → List ChainStep × LeafStatus → List ChainStep × LeafStatus
joined steps c = (steps ++ c.0, c.1)

-- at the start nothing was done
pub starts : (E cons : List Polynomial) (fuel : ℕ) (steps : List ChainStep) → steps ≡ [] → Chains E cons fuel 1 cons steps fuel
starts E cons fuel steps e = subst (λ l. Chains E cons fuel 1 cons l fuel) (sym e) record { paid = omega arith; same = ap (λ n. chain_within (suc n) E 1 cons fuel) (let z : fuel ≡ fuel - 0 = omega arith in z) }

-- no conclusion is left
pub ended : (E cons : List Polynomial) (fuel k : ℕ) (steps : List ChainStep) (left : ℕ) → Chains E cons fuel k [] steps left → chain_of E cons fuel ≡ (steps, status.Proved)
ended E cons fuel k steps left c = c.same ∙ ap (joined steps) (unfolded (fuel - length steps) E k [] left) ∙ ap (λ l. (l, status.Proved)) (append-nil steps)

-- the first is 0
pub zero-first : (E cons : List Polynomial) (fuel k : ℕ) (rest : List Polynomial) (steps : List ChainStep) (left : ℕ) → Chains E cons fuel k ([] ∷ rest) steps left → Chains E cons fuel (suc k) rest steps left
zero-first E cons fuel k rest steps left c = record {
  paid = c.paid;
  same = c.same ∙ ap (joined steps) (unfolded (fuel - length steps) E k ([] ∷ rest) left ∙ sym (unfolded (fuel - length steps) E (suc k) rest left));
}

-- the first is reduced by an equation, or stays
abbrev due_by : List Polynomial → ℕ → Polynomial → List Polynomial → ℕ → Due
due_by E k p rest x = elim x [ zero ↦ Left k p | suc y ↦ Reduce k (first_of_class E (suc y)) p rest ]

due-some : (E : List Polynomial) (k : ℕ) (p : Polynomial) (rest : List Polynomial) → 0 < length p → due_of E k (p ∷ rest) ≡ due_by E k p rest (reducing_class E p)
due-some E k [] rest h = absurd (omega (arith, h))
due-some E k (e ∷ p) rest h = refl

stays-due : (E : List Polynomial) (k : ℕ) (p : Polynomial) (rest : List Polynomial) → 0 < length p → reducing_class E p ≡ 0 → due_of E k (p ∷ rest) ≡ Left k p
stays-due E k p rest h e = due-some E k p rest h ∙ ap (due_by E k p rest) e

pub stays : (E cons : List Polynomial) (fuel k : ℕ) (p : Polynomial) (rest : List Polynomial) (steps : List ChainStep) (left : ℕ) → 0 < length p → reducing_class E p ≡ 0
    → Chains E cons fuel k (p ∷ rest) steps left → chain_of E cons fuel ≡ (steps, status.Remainder k p)
stays E cons fuel k p rest steps left h e c =
    c.same ∙ ap (joined steps) (unfolded (fuel - length steps) E k (p ∷ rest) left ∙ ap (chain_due (λ j r l. chain_within (fuel - length steps) E j r l) E left) (stays-due E k p rest h e))
    ∙ ap (λ l. (l, status.Remainder k p)) (append-nil steps)

reduced : (E : List Polynomial) (fuel k x : ℕ) (p : Polynomial) (rest : List Polynomial) (left : ℕ) (o : Option Reason) (n : ℕ) → 0 < length p → reducing_class E p ≡ suc x
    → chain_reason p (item E (first_of_class E (suc x))) left ≡ o
    → chain_within (suc n) E k (p ∷ rest) left ≡ chain_stopped (λ j r l. chain_within n E j r l) E left k (first_of_class E (suc x)) p rest o
reduced E fuel k x p rest left o n h e r =
    unfolded n E k (p ∷ rest) left
    ∙ ap (chain_due (λ j q l. chain_within n E j q l) E left) (due-some E k p rest h ∙ ap (due_by E k p rest) e)
    ∙ ap (chain_stopped (λ j q l. chain_within n E j q l) E left k (first_of_class E (suc x)) p rest) r

pub stopped : (E cons : List Polynomial) (fuel k x f : ℕ) (p : Polynomial) (rest : List Polynomial) (steps : List ChainStep) (left : ℕ) (why : Reason) → 0 < length p → reducing_class E p ≡ suc x
    → f ≡ first_of_class E (suc x) → chain_reason p (item E f) left ≡ Some why
    → Chains E cons fuel k (p ∷ rest) steps left → chain_of E cons fuel ≡ (steps, status.Unreduced k why f)
stopped E cons fuel k x f p rest steps left why h e is r c =
    c.same ∙ ap (joined steps) (reduced E fuel k x p rest left (Some why) (fuel - length steps) h e (ap (λ i. chain_reason p (item E i) left) (sym is) ∙ r))
    ∙ (λ i. (append-nil steps i, status.Unreduced k why (sym is i)))

pub stepped : (E cons : List Polynomial) (fuel k x f : ℕ) (p : Polynomial) (rest : List Polynomial) (steps : List ChainStep) (left : ℕ) (m : ℤ) (r : Polynomial) → 0 < length p → reducing_class E p ≡ suc x
    → f ≡ first_of_class E (suc x) → chain_reason p (item E f) left ≡ None → (m, r) ≡ reduction_of p (item E f) → 1 + length r ≤ left
    → Chains E cons fuel k (p ∷ rest) steps left → Chains E cons fuel k (r ∷ rest) (steps ++ record { k = k; f = f; m = m; r = r } ∷ []) (left - (1 + length r))
stepped E cons fuel k x f p rest steps left m r h e is free result cost c =
    let paid = c.paid in
    let longer = length-append steps (record { k = k; f = f; m = m; r = r } ∷ []) in
    let number : fuel - length steps ≡ suc (fuel - length (steps ++ record { k = k; f = f; m = m; r = r } ∷ [])) = omega (arith, paid, cost, longer) in
    let one = reduced E fuel k x p rest left None (fuel - length steps) h e (ap (λ i. chain_reason p (item E i) left) (sym is) ∙ free) in
    let told = ap (λ i. told-by (fuel - length steps) i (reduction_of p (item E i))) (sym is) ∙ ap (told-by (fuel - length steps) f) (sym result) in
    record {
      paid = omega (arith, paid, cost, longer);
      same = c.same ∙ ap (joined steps) (one ∙ told) ∙ (λ i. (sym (append_assoc steps (record { k = k; f = f; m = m; r = r } ∷ []) (chain_within (fuel - length steps) E k (r ∷ rest) (left - (1 + length r))).0) i, (chain_within (fuel - length steps) E k (r ∷ rest) (left - (1 + length r))).1))
          ∙ ap (λ n. joined (steps ++ record { k = k; f = f; m = m; r = r } ∷ []) (chain_within n E k (r ∷ rest) (left - (1 + length r)))) number;
    }
  where
    told-by : ℕ → ℕ → ℤ × Polynomial → List ChainStep × LeafStatus
    told-by n i q = let d = chain_within n E k (q.1 ∷ rest) (left - (1 + length q.1)) in (record { k = k; f = i; m = q.0; r = q.1 } ∷ d.0, d.1)

-- what a step meets is why the chain stops there
pub met-is : (fuel : ℕ) (p f : Polynomial) → is_standard p ≡ true → is_standard f ≡ true → met_by fuel (bounded_reduction p f) ≡ chain_reason p f fuel
unfolding reduction_limit
met-is fuel p f sp sf = by (bounded_reduction p f) refl
  where
    turned : (a b : ℕ) (r : Option Reason) → (elim (nat_le a b) as (λ _. Option Reason) [ true ↦ None | false ↦ Some Fuel ]) ≡ (if nat_lt b a then Some Fuel else None)
    turned a b r = ap (λ t. elim t as (λ _. Option Reason) [ true ↦ None | false ↦ Some Fuel ]) (over a b) ∙ flip (nat_lt b a)
      where
        over : (a b : ℕ) → nat_le a b ≡ (if nat_lt b a then false else true)
        over a b = grind (arith, nat_tests)

        flip : (t : Bool) → (elim (if t then false else true) as (λ _. Option Reason) [ true ↦ None | false ↦ Some Fuel ]) ≡ (if t then Some Fuel else None)
        flip true = refl
        flip false = refl

    by : (w : Result (ℤ × Polynomial) Limit) → bounded_reduction p f ≡ w → met_by fuel w ≡ (elim (limit_met w) as (λ _. Option Reason) [ Some r ↦ Some r | None ↦ if nat_lt fuel (1 + length (reduction_of p f).1) then Some Fuel else None ])
    by (Err l) e = refl
    by (Ok q) e =
        turned (cost_of q.1) fuel None
        ∙ ap (λ (z : ℤ × Polynomial). if nat_lt fuel (1 + length z.1) then Some Fuel else None) (bounded_reduction-is MOST_VARIABLES p f q (within-of p sp).descending (within-of f sf).descending e)

pub zero-at : (E cons : List Polynomial) (fuel k : ℕ) (p : Polynomial) (rest : List Polynomial) (steps : List ChainStep) (left : ℕ) → length p ≡ 0 → Chains E cons fuel k (p ∷ rest) steps left → Chains E cons fuel (suc k) rest steps left
zero-at E cons fuel k [] rest steps left h c = zero-first E cons fuel k rest steps left c
zero-at E cons fuel k (e ∷ p) rest steps left h c = absurd (omega (arith, h))

pub ended-at : (E cons : List Polynomial) (fuel k : ℕ) (ps : List Polynomial) (steps : List ChainStep) (left : ℕ) → length ps ≡ 0 → Chains E cons fuel k ps steps left → chain_of E cons fuel ≡ (steps, status.Proved)
ended-at E cons fuel k [] steps left h c = ended E cons fuel k steps left c
ended-at E cons fuel k (p ∷ ps) steps left h c = absurd (omega (arith, h))
