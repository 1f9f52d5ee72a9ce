-- The equation that reduces a polynomial, where each equation has a class of its own.
use Rattle.std.proofs.Common.{◌≡◌, ℕ, ◌+◌, ◌-◌, ◌<◌, ◌≤◌, zero, suc, List, [], ◌∷◌, length, get_or, refl, sym, ◌∙◌, ap, arith, Bool, true, false, ◌&&◌, not}
use Rattle.std.specs.Prelude.{◌==◌, unwrap_or, if◌then◌else◌, count_by}
use Rattle.std.proofs.lemmas.Bool.{eqb-true, eq-eqb, and_parts}
use Rattle.std.proofs.lemmas.List.Sums.{sum_by-cons}
use Rattle.poly_model.specs.Polynomial.{Polynomial}
use Rattle.poly_model.specs.Reduction.{class_of, is_constant, reaches}
use Rattle.proof_steps.specs.Numbers.{item}
use Rattle.proof_steps.specs.Classes.{HaveOwnClasses}
use Rattle.proof_steps.specs.Chain.{reducing_class, first_of_class}
use Rattle.proof_steps.specs.Rules.{is_settled, is_triangular}
use Rattle.proof_steps.proofs.Search as search
use Rattle.proof_steps.proofs.Search.{first_from-found, greatest-attained}

-- where a class reduces, its first equation is there, and its degree is reached
pub record Reducer (E : List Polynomial) (p : Polynomial) (x f : ℕ) : Type 0 where
  pub low : 0 < f
  pub below : f - 1 < length E
  pub class : class_of (item E f) ≡ suc x
  pub reached : reaches p (item E f) ≡ true

pub reducer : (E : List Polynomial) (p : Polynomial) (x : ℕ) → HaveOwnClasses E → reducing_class E p ≡ suc x → Reducer E p x (first_of_class E (suc x))
reducer E p x own e = at (greatest-attained (λ f. if reaches p f then class_of f else 0) E x e)
  where
    told : (b : Bool) (c : ℕ) → (if b then c else 0) ≡ suc x → (b ≡ true) × (c ≡ suc x)
    told true c q = (refl, q)
    told false c q = absurd (omega (arith, q))

    at : (a : search.Attained (λ f. if reaches p f then class_of f else 0) E (suc x)) → Reducer E p x (first_of_class E (suc x))
    at a =
        let t = told (reaches p (get_or E a.at [])) (class_of (get_or E a.at [])) a.gives in
        let f = first_from-found (λ i. class_of (item E i) == suc x) (length E) 1 (suc a.at) (omega arith) (let w = a.within in omega (arith, w)) (eq-eqb _ _ (ap (λ k. class_of (get_or E k [])) (let q : suc a.at - 1 ≡ a.at = omega arith in q) ∙ t.1)) in
        let number : first_of_class E (suc x) ≡ f.at = ap (λ r. unwrap_or r 0) f.found in
        let class : class_of (item E f.at) ≡ suc x = eqb-true _ _ f.passes in
        let same : f.at - 1 ≡ a.at = own (f.at - 1) a.at (let l = f.low in let h = f.high in omega (arith, l, h)) a.within (class ∙ sym t.1) in
        record {
          low = (let l = f.low in omega (arith, l, number));
          below = (let w = a.within in omega (arith, w, same, number));
          class = ap (λ k. class_of (item E k)) number ∙ class;
          reached = ap (λ k. reaches p (item E k)) number ∙ ap (λ k. reaches p (get_or E k [])) same ∙ t.0;
        }

-- ---- in a triangular system each equation has a class of its own
pub count-next : (x : ℕ) (p : Polynomial) (ps : List Polynomial) → count_by (λ q. class_of q == x) (p ∷ ps) ≡ (if class_of p == x then 1 else 0) + count_by (λ q. class_of q == x) ps
count-next x p ps = sum_by-cons (λ q. if class_of q == x then 1 else 0) p ps

pub count-some : (x : ℕ) (ps : List Polynomial) (j : ℕ) → j < length ps → class_of (get_or ps j []) ≡ x → 1 ≤ count_by (λ p. class_of p == x) ps
count-some x [] j h e = absurd (omega arith)
count-some x (p ∷ ps) zero h e = let one = ap {B = ℕ} (λ b. if b then 1 else 0) (eq-eqb (class_of p) x e) in let k = count-next x p ps in omega (arith, one, k)
count-some x (p ∷ ps) (suc j) h e = let more = count-some x ps j (omega arith) e in let k = count-next x p ps in omega (arith, more, k)

only-one : (x : ℕ) (ps : List Polynomial) (i j : ℕ) → i < length ps → j < length ps → class_of (get_or ps i []) ≡ x → class_of (get_or ps j []) ≡ x → count_by (λ p. class_of p == x) ps ≤ 1 → i ≡ j
only-one x [] i j hi hj ei ej c = absurd (omega arith)
only-one x (p ∷ ps) zero zero hi hj ei ej c = refl
only-one x (p ∷ ps) zero (suc j) hi hj ei ej c =
    absurd (let one = ap {B = ℕ} (λ b. if b then 1 else 0) (eq-eqb (class_of p) x ei) in let more = count-some x ps j (omega arith) ej in let k = count-next x p ps in omega (arith, one, more, c, k))
only-one x (p ∷ ps) (suc i) zero hi hj ei ej c =
    absurd (let one = ap {B = ℕ} (λ b. if b then 1 else 0) (eq-eqb (class_of p) x ej) in let more = count-some x ps i (omega arith) ei in let k = count-next x p ps in omega (arith, one, more, c, k))
only-one x (p ∷ ps) (suc i) (suc j) hi hj ei ej c = ap suc (only-one x ps i j (omega arith) (omega arith) ei ej (let k = count-next x p ps in omega (arith, c, k)))

pub own-classes : (E N : List Polynomial) → is_triangular E N ≡ true → HaveOwnClasses E
own-classes E N t i j hi hj same =
    let settled = (and_parts _ (is_settled E N (class_of (get_or E i []))) (search.all-at (λ p. not (is_constant p) && is_settled E N (class_of p)) E i hi t)).1 in
    let one = eqb-true (count_by (λ p. class_of p == class_of (get_or E i [])) E) 1 (and_parts _ _ settled).0 in
    only-one (class_of (get_or E i [])) E i j hi hj refl (sym same) (omega (arith, one))
