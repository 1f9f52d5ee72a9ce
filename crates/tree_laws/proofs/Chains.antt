-- What is due of the conclusions: its number, and the equation that reduces.
use Rattle.std.proofs.Common.{◌≡◌, ℕ, ◌+◌, ◌<◌, ◌≤◌, zero, suc, List, [], ◌∷◌, length, get_or, refl, ◌∙◌, ap, arith, Bool, true, false}
use Rattle.std.specs.Prelude.{◌==◌, unwrap_or, if◌then◌else◌, All}
use Rattle.std.proofs.lemmas.Bool.{eq-eqb, eqb-true}
use Rattle.poly_model.specs.Polynomial.{Polynomial}
use Rattle.poly_model.specs.Reduction.{class_of, reaches}
use Rattle.proof_steps.specs.Numbers.{item, has}
use Rattle.proof_steps.specs.Chain as chain
use Rattle.proof_steps.specs.Chain.{Due, due_of, reducing_class, first_of_class}
use Rattle.proof_steps.proofs.Search.{first_from-found, greatest-attained}
use Rattle.tree_laws.specs.Ranges.{IsPolynomial}
use Rattle.tree_laws.proofs.Due.{has-from, item-next}
use Rattle.tree_laws.proofs.Polynomials.{all-first, all-rest}

-- the equation that reduces is there, and has the class
pub record Reducer (E : List Polynomial) (x : ℕ) : Type 0 where
  pub inside : has E (first_of_class E x) ≡ true
  pub class : class_of (item E (first_of_class E x)) ≡ x

pub reducer-there : (E : List Polynomial) (p : Polynomial) (x : ℕ) → reducing_class E p ≡ suc x → Reducer E (suc x)
reducer-there E p x e =
    let a = greatest-attained (λ f. if reaches p f then class_of f else 0) E x e in
    let class : class_of (get_or E a.at []) ≡ suc x = chosen (reaches p (get_or E a.at [])) (class_of (get_or E a.at [])) a.gives in
    let found = first_from-found (λ i. class_of (item E i) == suc x) (length E) 1 (suc a.at) (omega arith) (let w = a.within in omega (arith, w))
    (eq-eqb (class_of (item E (suc a.at))) (suc x) (ap class_of (item-next E a.at) ∙ class))
    in
    let number : first_of_class E (suc x) ≡ found.at = ap (λ r. unwrap_or r 0) found.found in
    record {
      inside = ap (has E) number ∙ has-from E found.at found.low found.high;
      class = ap (λ k. class_of (item E k)) number ∙ eqb-true (class_of (item E found.at)) (suc x) found.passes;
    }
  where
    chosen : (b : Bool) (c : ℕ) → (if b then c else 0) ≡ suc x → c ≡ suc x
    chosen true c q = q
    chosen false c q = absurd (omega (arith, q))

-- what is due of polynomials over n variables, from the k-th conclusion on
abbrev pub Stands : ℕ → List Polynomial → ℕ → List Polynomial → Due → Type 0
Stands n E k todo chain.AllZero = Unit {0}
Stands n E k todo (chain.Left j p) = (k ≤ j) × (j < k + length todo) × IsPolynomial n p
Stands n E k todo (chain.Reduce j f p rest) =
    (k ≤ j) × (j + suc (length rest) ≤ k + length todo) × (has E f ≡ true) × IsPolynomial n p × All (IsPolynomial n) rest

later : (n : ℕ) (E : List Polynomial) (k : ℕ) (todo : List Polynomial) (d : Due) → Stands n E (suc k) todo d → Stands n E k ([] ∷ todo) d
later n E k todo chain.AllZero h = tt
later n E k todo (chain.Left j p) h = let a = h.0 in let b = h.1 in (omega (arith, a), omega (arith, b), h.2)
later n E k todo (chain.Reduce j f p rest) h = let a = h.0 in let b = h.1 in (omega (arith, a), omega (arith, b), h.2, h.3, h.4)

pub stands : (n : ℕ) (E : List Polynomial) (k : ℕ) (todo : List Polynomial) → All (IsPolynomial n) todo → Stands n E k todo (due_of E k todo)
stands n E k [] all = tt
stands n E k ([] ∷ todo) all = later n E k todo (due_of E (suc k) todo) (stands n E (suc k) todo (all-rest (IsPolynomial n) [] todo all))
stands n E k ((e ∷ p) ∷ todo) all =
    elim (reducing_class E (e ∷ p)) as (λ x. reducing_class E (e ∷ p) ≡ x
    → Stands n E k ((e ∷ p) ∷ todo) (elim x [ zero ↦ chain.Left k (e ∷ p) | suc y ↦ chain.Reduce k (first_of_class E (suc y)) (e ∷ p) todo ])) [
      | zero ↦ λ q. (omega arith, omega arith, all-first (IsPolynomial n) (e ∷ p) todo all)
      | suc x ↦ λ q.
          let p' = e ∷ p in
          (omega arith, omega arith, (reducer-there E p' x q).inside, all-first (IsPolynomial n) p' todo all, all-rest (IsPolynomial n) p' todo all)
    ] refl
