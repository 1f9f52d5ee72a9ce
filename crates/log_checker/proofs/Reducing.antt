-- What is found by the classes of the equations.
use Rattle.std.proofs.Common.{◌≡◌, ℕ, ◌+◌, ◌<◌, zero, suc, List, [], ◌∷◌, length, get_or, refl, sym, ◌∙◌, ap, arith, Bool, true, false, ◌&&◌, ◌||◌, not, map, max, drop}
use Rattle.std.specs.Prelude.{◌≢◌, ◌==◌, if◌then◌else◌, count_by, Result, Ok, Err, IfOk}
use Rattle.std.specs.List.{list_all}
use Rattle.std.proofs.lemmas.Bool.{eqb-true, eq-eqb}
use Rattle.std.proofs.lemmas.List.Sums.{sum_by-cons}
use Rattle.std.proofs.Math.ListN.{get_or-map}
use mathlib.Core.Bool.{and-true}
use Rattle.poly_model.specs.Polynomial.{Polynomial}
use Rattle.poly_model.specs.Reduction.{class_of, is_constant, reaches}
use Rattle.proof_steps.specs.Chain.{reducing_class}
use Rattle.proof_steps.specs.Rules.{has_known_initial, is_settled}
use Rattle.proof_steps.proofs.Reducing.{count-next, count-some}

pub class-at : (E : List Polynomial) (classes : List ℕ) (i : ℕ) → classes ≡ map class_of E → get_or classes i 0 ≡ class_of (get_or E i [])
class-at E classes i e = ap (λ xs. get_or xs i 0) e ∙ get_or-map class_of E i []

pub count-classes : (x : ℕ) (E : List Polynomial) → count_by (λ c. c == x) (map class_of E) ≡ count_by (λ p. class_of p == x) E
count-classes x [] = refl
count-classes x (p ∷ E) =
    sum_by-cons (λ c. if c == x then 1 else 0) (class_of p) (map class_of E) ∙ ap (λ n. (if class_of p == x then 1 else 0) + n) (count-classes x E) ∙ sym (count-next x p E)

-- where no equation has the class, and where one at a place has it alone
no-class : (x : ℕ) (known : Polynomial → Bool) (E : List Polynomial) → count_by (λ p. class_of p == x) E ≡ 0 → list_all (λ p. not (class_of p == x) || known p) E ≡ true
no-class x known [] c = refl
no-class x known (p ∷ E) c =
    elim (class_of p == x) as (λ b. (class_of p == x) ≡ b → ((not b || known p) && list_all (λ q. not (class_of q == x) || known q) E) ≡ true) [
      | true ↦ λ e. absurd (let one = ap {B = ℕ} (λ b. if b then 1 else 0) e in let k = count-next x p E in omega (arith, one, k, c))
      | false ↦ λ e. no-class x known E (let k = count-next x p E in omega (arith, k, c))
    ] refl

alone : (x : ℕ) (known : Polynomial → Bool) (E : List Polynomial) (i : ℕ) → i < length E → class_of (get_or E i []) ≡ x → count_by (λ p. class_of p == x) E ≡ 1
    → list_all (λ p. not (class_of p == x) || known p) E ≡ known (get_or E i [])
alone x known [] i h e c = absurd (omega arith)
alone x known (p ∷ E) zero h e c =
    let here = eq-eqb (class_of p) x e in
    let one = ap {B = ℕ} (λ b. if b then 1 else 0) here in
    let rest = no-class x known E (let k = count-next x p E in omega (arith, one, k, c)) in
    (λ j. (not (here j) || known p) && rest j) ∙ and-true (known p)
alone x known (p ∷ E) (suc i) h e c =
    let some = count-some x E i (omega arith) e in
    elim (class_of p == x) as (λ b. (class_of p == x) ≡ b → ((not b || known p) && list_all (λ q. not (class_of q == x) || known q) E) ≡ known (get_or E i [])) [
      | true ↦ λ t. absurd (let one = ap {B = ℕ} (λ b. if b then 1 else 0) t in let k = count-next x p E in omega (arith, one, k, c, some))
      | false ↦ λ t. alone x known E i (omega arith) e (let zero = ap {B = ℕ} (λ b. if b then 1 else 0) t in let k = count-next x p E in omega (arith, k, c))
    ] refl

-- a class that one equation has is settled where its initial is known
pub settled-alone : (E N : List Polynomial) (i : ℕ) → i < length E → (count_by (λ p. class_of p == class_of (get_or E i [])) E == 1) ≡ true
    → is_settled E N (class_of (get_or E i [])) ≡ has_known_initial N (get_or E i [])
settled-alone E N i h one = ap (λ b. b && list_all (λ p. not (class_of p == class_of (get_or E i [])) || has_known_initial N p) E) one
    ∙ alone (class_of (get_or E i [])) (has_known_initial N) E i h refl (eqb-true _ 1 one)

not-constant : (p : Polynomial) → class_of p ≢ 0 → not (is_constant p) ≡ true
not-constant p n = elim (class_of p == 0) as (λ b. (class_of p == 0) ≡ b → not b ≡ true) [ true ↦ λ e. absurd (n (eqb-true (class_of p) 0 e)) | false ↦ λ e. refl ] refl

pub stands-alone : (E N : List Polynomial) (classes : List ℕ) (i n : ℕ) (f : Polynomial) → classes ≡ map class_of E → i < length E → f ≡ get_or E i [] → get_or classes i 0 ≢ 0 → n ≡ count_by (λ c. c == get_or classes i 0) classes → n ≡ 1
    → has_known_initial N f ≡ (not (is_constant (get_or E i [])) && is_settled E N (class_of (get_or E i [])))
stands-alone E N classes i n f e h at some c one =
    let x = class-at E classes i e in
    let single : count_by (λ p. class_of p == class_of (get_or E i [])) E ≡ 1 = sym (count-classes (class_of (get_or E i [])) E) ∙ sym (c ∙ (λ j. count_by (λ k. k == x j) (e j))) ∙ one in
    ap (has_known_initial N) at ∙ sym (settled-alone E N i h (eq-eqb _ 1 single))
    ∙ sym (ap (λ b. b && is_settled E N (class_of (get_or E i []))) (not-constant (get_or E i []) (λ z. some (x ∙ z))))

pub known-so : {A E : Type 0} (o : Result A E) (a b : A) → a ≡ b → IfOk o (λ k. k ≡ a) → IfOk o (λ k. k ≡ b)
known-so (Ok k) a b e h = h ∙ e
known-so (Err x) a b e h = h

-- ---- the greatest class, from behind
pub reducing-next : (E : List Polynomial) (p : Polynomial) (i greatest : ℕ) → i < length E → greatest ≡ max (if reaches p (get_or E i []) then class_of (get_or E i []) else 0) (reducing_class (drop (i + 1) E) p)
    → greatest ≡ reducing_class (drop i E) p
reducing-next [] p i greatest h e = absurd (omega (arith, h))
reducing-next (f ∷ E) p zero greatest h e = e
reducing-next (f ∷ E) p (suc i) greatest h e =
    let next : suc i + 1 ≡ suc (i + 1) = omega arith in
    reducing-next E p i greatest (omega (arith, h)) (e ∙ ap (λ k. max (if reaches p (get_or E i []) then class_of (get_or E i []) else 0) (reducing_class (drop k (f ∷ E)) p)) next)
