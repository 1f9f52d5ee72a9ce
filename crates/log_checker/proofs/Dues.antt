-- What is due of the conclusions, and what comes of it.
use Rattle.std.proofs.Common.{◌≡◌, ◌≢◌, ℕ, ◌+◌, ◌-◌, ◌<◌, ◌≤◌, zero, suc, List, [], ◌∷◌, length, drop, get_or, refl, sym, ◌∙◌, ap, arith, true, false, subst}
use Rattle.std.specs.Prelude.{◌==◌, unwrap_or, Option, Some}
use Rattle.std.proofs.lemmas.Bool.{eq-eqb}
use Rattle.std.proofs.lemmas.Bool.Decides.{nat_tests}
use Rattle.poly_model.specs.Polynomial.{Polynomial}
use Rattle.poly_model.specs.Reduction.{class_of}
use Rattle.proof_steps.specs.Numbers.{item, first_from}
use Rattle.proof_steps.specs.Classes.{HaveOwnClasses}
use Rattle.proof_steps.proofs.Reducing.{Reducer, reducer}
use Rattle.log_checker.specs.Turns.{IsDue, IsFirstLeft, conclusion}
use Rattle.log_checker.specs.declared.due.Due.TheVariants as due
use Rattle.proof_steps.specs.Chain.{Left, Reduce, AllZero, due_of, reducing_class, first_of_class}

other-class : (a b : ℕ) → a ≢ b → (a == b) ≡ false
other-class a b h = grind (arith, nat_tests)

pub first-next : (E : List Polynomial) (x i m : ℕ) → i < length E → class_of (get_or E i []) ≢ x
    → unwrap_or (first_from (λ k. class_of (item E k) == x) (length E - i) (suc i)) 0 ≡ m → unwrap_or (first_from (λ k. class_of (item E k) == x) (length E - (i + 1)) (suc (i + 1))) 0 ≡ m
first-next E x i m h other e =
    let count : length E - i ≡ suc (length E - (i + 1)) = omega (arith, h) in
    let here : suc i - 1 ≡ i = omega arith in
    let next : suc i + 1 ≡ suc (i + 1) = omega arith in
    let test : (class_of (item E (suc i)) == x) ≡ false = ap (λ k. class_of (get_or E k []) == x) here ∙ other-class (class_of (get_or E i [])) x other in
    let one : first_from (λ k. class_of (item E k) == x) (suc (length E - (i + 1))) (suc i) ≡ first_from (λ k. class_of (item E k) == x) (length E - (i + 1)) (suc (suc i)) =
    ap {B = Option ℕ} (λ b. elim b [ true ↦ Some (suc i) | false ↦ first_from (λ k. class_of (item E k) == x) (length E - (i + 1)) (suc (suc i)) ]) test in
    let more : suc (suc i) ≡ suc (i + 1) = omega arith in
    sym (ap (λ o. unwrap_or o 0) (ap (λ n. first_from (λ k. class_of (item E k) == x) n (suc i)) count ∙ one ∙ ap (λ k. first_from (λ j. class_of (item E j) == x) (length E - (i + 1)) k) more)) ∙ e

pub first-here : (E : List Polynomial) (x i m : ℕ) → i < length E → class_of (get_or E i []) ≡ x → unwrap_or (first_from (λ k. class_of (item E k) == x) (length E - i) (suc i)) 0 ≡ m → i + 1 ≡ m
first-here E x i m h is e =
    let count : length E - i ≡ suc (length E - (i + 1)) = omega (arith, h) in
    let here : suc i - 1 ≡ i = omega arith in
    let test : (class_of (item E (suc i)) == x) ≡ true = ap (λ k. class_of (get_or E k []) == x) here ∙ eq-eqb _ _ is in
    let one : first_from (λ k. class_of (item E k) == x) (suc (length E - (i + 1))) (suc i) ≡ Some (suc i) =
    ap {B = Option ℕ} (λ b. elim b [ true ↦ Some (suc i) | false ↦ first_from (λ k. class_of (item E k) == x) (length E - (i + 1)) (suc (suc i)) ]) test in
    let more : i + 1 ≡ suc i = omega arith in
    more ∙ sym (ap (λ o. unwrap_or o 0) (ap (λ n. first_from (λ k. class_of (item E k) == x) n (suc i)) count ∙ one)) ∙ e

-- ---- lists from a place on
pub drop-step : (ps : List Polynomial) (k : ℕ) → k < length ps → drop k ps ≡ get_or ps k [] ∷ drop (suc k) ps
drop-step [] k h = absurd (omega (arith, h))
drop-step (p ∷ ps) zero h = refl
drop-step (p ∷ ps) (suc k) h = drop-step ps k (omega (arith, h))

pub drop-none : (ps : List Polynomial) (k : ℕ) → length ps ≤ k → drop k ps ≡ []
drop-none [] zero h = refl
drop-none [] (suc k) h = refl
drop-none (p ∷ ps) zero h = absurd (omega (arith, h))
drop-none (p ∷ ps) (suc k) h = drop-none ps k (omega (arith, h))

no-terms : (p : Polynomial) → length p ≤ 0 → p ≡ []
no-terms [] h = refl
no-terms (e ∷ p) h = absurd (omega (arith, h))

pub skip : (E cons : List Polynomial) (at : ℕ) → at < length cons → length (get_or cons at []) ≤ 0 → due_of E (suc at) (drop at cons) ≡ due_of E (suc (at + 1)) (drop (at + 1) cons)
skip E cons at h none =
    ap (due_of E (suc at)) (drop-step cons at h ∙ ap (λ p. p ∷ drop (suc at) cons) (no-terms (get_or cons at []) none))
    ∙ (let q : suc at ≡ at + 1 = omega arith in ap (λ k. due_of E (suc k) (drop k cons)) q)

pub there : {A : Type 0} (xs : List A) (k : ℕ) (d e x : A) → k < length xs → x ≡ get_or xs k d → x ≡ get_or xs k e
there [] k d e x h q = absurd (omega (arith, h))
there (y ∷ ys) zero d e x h q = q
there (y ∷ ys) (suc k) d e x h q = there ys k d e x (omega (arith, h)) q

-- ---- by the class that reduces
left : (E : List Polynomial) (k : ℕ) (p : Polynomial) (ps : List Polynomial) → 0 < length p → reducing_class E p ≡ 0 → due_of E k (p ∷ ps) ≡ Left k p
left E k [] ps h e = absurd (omega (arith, h))
left E k (t ∷ p) ps h e = ap {B = Rattle.proof_steps.specs.Chain.Due} (λ c. elim c [ zero ↦ Left k (t ∷ p) | suc x ↦ Reduce k (first_of_class E (suc x)) (t ∷ p) ps ]) e

reduce : (E : List Polynomial) (k x : ℕ) (p : Polynomial) (ps : List Polynomial) → 0 < length p → reducing_class E p ≡ suc x → due_of E k (p ∷ ps) ≡ Reduce k (first_of_class E (suc x)) p ps
reduce E k x [] ps h e = absurd (omega (arith, h))
reduce E k x (t ∷ p) ps h e = ap {B = Rattle.proof_steps.specs.Chain.Due} (λ c. elim c [ zero ↦ Left k (t ∷ p) | suc y ↦ Reduce k (first_of_class E (suc y)) (t ∷ p) ps ]) e

pub left-at : (E cons : List Polynomial) (at : ℕ) → at < length cons → 0 < length (get_or cons at []) → reducing_class E (get_or cons at []) ≡ 0 → due_of E (suc at) (drop at cons) ≡ Left (suc at) (get_or cons at [])
left-at E cons at h some e = ap (due_of E (suc at)) (drop-step cons at h) ∙ left E (suc at) (get_or cons at []) (drop (suc at) cons) some e

pub reduce-at : (E cons : List Polynomial) (at x : ℕ) → at < length cons → 0 < length (get_or cons at []) → reducing_class E (get_or cons at []) ≡ suc x
    → due_of E (suc at) (drop at cons) ≡ Reduce (suc at) (first_of_class E (suc x)) (get_or cons at []) (drop (suc at) cons)
reduce-at E cons at x h some e = ap (due_of E (suc at)) (drop-step cons at h) ∙ reduce E (suc at) x (get_or cons at []) (drop (suc at) cons) some e

pub reducing-at : (E cons : List Polynomial) (from at class f : ℕ) → HaveOwnClasses E → IsFirstLeft cons from at → class ≡ reducing_class E (conclusion cons at) → class ≢ 0 → f ≡ first_of_class E class
    → IsDue E cons from (due.Reduce at f (class - 1))
reducing-at E cons from at class f own l c some e =
    let up : class ≡ suc (class - 1) = omega (arith, some) in
    let x = class - 1 in
    let reducing : reducing_class E (conclusion cons at) ≡ suc x = sym c ∙ up in
    let number : f ≡ first_of_class E (suc x) = e ∙ ap (first_of_class E) up in
    let r = subst (Reducer E (conclusion cons at) x) (sym number) (reducer E (conclusion cons at) x own reducing) in (
      l.due E ∙ reduce-at E cons at x l.below l.some reducing ∙ ap (λ n. Reduce (suc at) n (conclusion cons at) (drop (suc at) cons)) (sym number),
      l.below,
      record {
        low = (let z = r.low in omega (arith, z));
        below = r.below;
        class = r.class;
        reached = r.reached;
      },
    )
