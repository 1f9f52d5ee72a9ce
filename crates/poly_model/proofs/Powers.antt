-- Zeros of polynomials from which powers of variables are divided out, and variables that divide.
use Rattle.std.proofs.Common.{◌≡◌, ◌≢◌, ℕ, ◌+◌, ◌-◌, ◌<◌, ◌≤◌, min, length, zero, suc, List, [], ◌∷◌, set, get_or, replicate, refl, sym, ◌∙◌, ap, subst, arith, Bool, true, false, ◌&&◌, not, inl, inr, ◌↔◌}
use Rattle.std.specs.Prelude.{◌==◌, if◌then◌else◌, pos, map}
use Rattle.std.proofs.lemmas.Bool.{and_parts, eqb-true, eqb-false, ltb-true, not-true}
use Rattle.std.proofs.lemmas.List.{length-set}
use Rattle.poly_model.specs.Domain.{Operations, IsDomain, integer_in}
use Rattle.poly_model.specs.Ring as ring
use Rattle.poly_model.specs.Values as values
use Rattle.poly_model.specs.Equality.{same-is, is-same}
use Rattle.poly_model.specs.Polynomial.{Entry, Polynomial, power, monomial_at, value_at, poly_variable}
use Rattle.poly_model.specs.Reduction.{same, monomial_class, class_of, is_constant, main_place, degree_at}
use Rattle.poly_model.specs.Powers.{least_exponent, low_at, is_divided, lowered, stripped, variable_in, is_variable, one_monomial, stripped_by, without_variables, is_factor, has_factor}
use Rattle.poly_model.proofs.Classes.{degree-used}
use Rattle.poly_model.proofs.Front.{class_by, class-is}

-- ---- the least exponent is reached by all
abbrev pub AllReach : ℕ → ℕ → Polynomial → Type 0
AllReach i k [] = Unit {0}
AllReach i k ((es, c) ∷ p) = (k ≤ get_or es i 0) × AllReach i k p

least-below : (i k : ℕ) (p : Polynomial) → least_exponent i k p ≤ k
least-below i k [] = omega arith
least-below i k ((es, c) ∷ p) = let h = least-below i (min k (get_or es i 0)) p in omega (arith, h)

least-reached : (i k : ℕ) (p : Polynomial) → AllReach i (least_exponent i k p) p
least-reached i k [] = tt
least-reached i k ((es, c) ∷ p) =
    ((let h = least-below i (min k (get_or es i 0)) p in omega (arith, h)), least-reached i (min k (get_or es i 0)) p)

pub low-reached : (i : ℕ) (p : Polynomial) → AllReach i (low_at i p) p
low-reached i [] = tt
low-reached i ((es, c) ∷ p) = (least-below i (get_or es i 0) p, least-reached i (get_or es i 0) p)

-- ---- lengths
pub lowered-length : (i k : ℕ) (p : Polynomial) → length (lowered i k p) ≡ length p
lowered-length i k [] = refl
lowered-length i k (e ∷ p) = ap suc (lowered-length i k p)

pub stripped_by-length : (i : ℕ) (es : List ℕ) (p : Polynomial) → length (stripped_by i es p) ≡ length p
stripped_by-length i [] p = refl
stripped_by-length i (e ∷ es) p = stripped_by-length (suc i) es (if e == 0 then p else stripped i p) ∙ here (e == 0)
  where
    here : (b : Bool) → length (if b then p else stripped i p) ≡ length p
    here true = refl
    here false = lowered-length i (low_at i p) p

pub without_variables-length : (q p : Polynomial) → length (without_variables q p) ≡ length p
without_variables-length q p = stripped_by-length 0 (one_monomial q) p

-- ---- variables that divide
pub divided-low : (i : ℕ) (p : Polynomial) → is_divided i p ≡ true → 1 ≤ low_at i p
divided-low i p h = ltb-true 0 (low_at i p) h

get-below : (es : List ℕ) (i : ℕ) → 1 ≤ get_or es i 0 → i < length es
get-below [] i h = absurd (omega (arith, h))
get-below (e ∷ es) zero h = omega arith
get-below (e ∷ es) (suc i) h = let l = get-below es i h in omega (arith, l)

-- the class of a variable
monomial_class-none : (n : ℕ) → ◌≡◌ {A = ℕ} (monomial_class (replicate n 0)) 0
monomial_class-none zero = refl
monomial_class-none (suc n) = class-is 0 (replicate n 0) ∙ ap (class_by 0) (monomial_class-none n)

monomial_class-one : (n i : ℕ) → i < n → monomial_class (set (replicate n 0) i 1) ≡ suc i
monomial_class-one zero i h = absurd (omega arith)
monomial_class-one (suc n) zero h = class-is 1 (replicate n 0) ∙ ap (class_by 1) (monomial_class-none n)
monomial_class-one (suc n) (suc i) h = class-is 0 (set (replicate n 0) i 1) ∙ ap (class_by 0) (monomial_class-one n i (omega arith))

pub class-variable : (n i : ℕ) → i < n → class_of (poly_variable n i) ≡ suc i
class-variable n i h = let e = monomial_class-one n i h in omega (arith, e)

-- a variable that divides each term of p has a place among the exponents of p
pub divided-there : (i : ℕ) (es : List ℕ) (c : _) (p : Polynomial) → is_divided i ((es, c) ∷ p) ≡ true → i < length es
divided-there i es c p h =
    get-below es i (let l = divided-low i ((es, c) ∷ p) h in let r = (low-reached i ((es, c) ∷ p)).0 in omega (arith, l, r))

pub factor-class : (p : Polynomial) (i : ℕ) → is_divided i p ≡ true → class_of (variable_in p i) ≡ suc i
factor-class [] i h = cc
factor-class ((es, c) ∷ p) i h = class-variable (length es) i (divided-there i es c p h)

-- the variable of a number that is a factor is one
pub factor-has : (p : Polynomial) (x : ℕ) → 0 < x → is_factor p x ≡ true → has_factor p (variable_in p (x - 1)) ≡ true
factor-has p x low h =
    let v = variable_in p (x - 1) in
    let class : class_of v ≡ x = factor-class p (x - 1) (and_parts _ (is_divided (x - 1) p) h).1 ∙ (let e : suc (x - 1) ≡ x = omega (arith, low) in e) in
    and_both (ap (is_factor p) class ∙ h) (is-same v (variable_in p (main_place v)) (ap (λ k. variable_in p (k - 1)) (sym class)))
  where
    and_both : {a b : Bool} → a ≡ true → b ≡ true → (a && b) ≡ true
    and_both e f = λ i. e i && f i

module _ {M : Type 0} {o : Operations M} (L : IsDomain o) where
  abbrev at : List M → ℕ → M
  at point i = get_or point i o.one

  one_power : (n : ℕ) → power o o.one n ≡ o.one
  one_power zero = refl
  one_power (suc n) = ap (o.mul o.one) (one_power n) ∙ L.ring.mul_one o.one

  monomial-lowered : (i k : ℕ) (es : List ℕ) (point : List M) → k ≤ get_or es i 0
      → monomial_at o es point ≡ o.mul (monomial_at o (set es i (get_or es i 0 - k)) point) (power o (at point i) k)
  monomial-lowered i zero [] point h = sym (L.ring.mul_one o.one)
  monomial-lowered i (suc k) [] point h = absurd (omega (arith, h))
  monomial-lowered zero k (e ∷ es) [] h = sym (ap (o.mul o.one) (one_power k) ∙ L.ring.mul_one o.one)
  monomial-lowered (suc i) k (e ∷ es) [] h = sym (ap (o.mul o.one) (one_power k) ∙ L.ring.mul_one o.one)
  monomial-lowered zero k (e ∷ es) (x ∷ xs) h =
      ap (λ y. o.mul y (monomial_at o es xs)) (ap (power o x) (let q : e ≡ (e - k) + k = omega (arith, h) in q) ∙ values.power-sum L.ring x (e - k) k)
      ∙ L.ring.mul_assoc _ _ _ ∙ ap (o.mul (power o x (e - k))) (L.ring.mul_comm _ _) ∙ sym (L.ring.mul_assoc _ _ _)
  monomial-lowered (suc i) k (e ∷ es) (x ∷ xs) h = ap (o.mul (power o x e)) (monomial-lowered i k es xs h) ∙ sym (L.ring.mul_assoc _ _ _)

  -- a polynomial is what is left of it times the power
  pub value-lowered : (i k : ℕ) (p : Polynomial) (point : List M) → AllReach i k p
      → value_at o p point ≡ o.mul (value_at o (lowered i k p) point) (power o (at point i) k)
  value-lowered i k [] point h = sym (ring.zero_mul L.ring _)
  value-lowered i k ((es, c) ∷ p) point h =
      (λ j. o.add (o.mul (integer_in o c) (monomial-lowered i k es point h.0 j)) (value-lowered i k p point h.1 j))
      ∙ ap (λ y. o.add y (o.mul (value_at o (lowered i k p) point) (power o (at point i) k))) (sym (L.ring.mul_assoc _ _ _))
      ∙ sym (ring.add_mul L.ring _ _ _)

  power-zero : (x : M) (k : ℕ) → x ≡ o.zero → 1 ≤ k → power o x k ≡ o.zero
  power-zero x zero e h = absurd (omega (arith, h))
  power-zero x (suc k) e h = ap (λ y. o.mul y (power o x k)) e ∙ ring.zero_mul L.ring _

  power-not_zero : (x : M) (k : ℕ) → x ≢ o.zero → power o x k ≢ o.zero
  power-not_zero x zero n e = L.one_not_zero e
  power-not_zero x (suc k) n e = elim (L.no_zero_divisors x (power o x k) e) [ inl z ↦ n z | inr z ↦ power-not_zero x k n z ]

  -- where a variable that divides each term is zero, the polynomial is
  pub divided-zero : (i : ℕ) (p : Polynomial) (point : List M) → is_divided i p ≡ true → at point i ≡ o.zero → value_at o p point ≡ o.zero
  divided-zero i p point h e =
      value-lowered i (low_at i p) p point (low-reached i p)
      ∙ ap (o.mul (value_at o (stripped i p) point)) (power-zero (at point i) (low_at i p) e (divided-low i p h)) ∙ ring.mul_zero L.ring _

  -- where a variable is not zero, the polynomial is zero exactly where it is without its powers
  pub stripped-zeros : (i : ℕ) (p : Polynomial) (point : List M) → at point i ≢ o.zero → value_at o p point ≡ o.zero ↔ value_at o (stripped i p) point ≡ o.zero
  stripped-zeros i p point n =
      let whole = value-lowered i (low_at i p) p point (low-reached i p) in (
        (λ z. elim (L.no_zero_divisors (value_at o (stripped i p) point) _ (sym whole ∙ z)) [
          | inl y ↦ y
          | inr y ↦ absurd (power-not_zero (at point i) (low_at i p) n y)
        ]),
        (λ z. whole ∙ ap (λ y. o.mul y (power o (at point i) (low_at i p))) z ∙ ring.zero_mul L.ring _),
      )

  -- ---- the variables of a monomial that is not zero are not zero
  monomial-used : (es : List ℕ) (i : ℕ) (point : List M) → monomial_at o es point ≢ o.zero → (get_or es i 0 ≡ 0 → ⊥) → at point i ≢ o.zero
  monomial-used [] i point n u e = u refl
  monomial-used (e ∷ es) i [] n u z = L.one_not_zero z
  monomial-used (e ∷ es) zero (x ∷ xs) n u z =
      n (ap (λ y. o.mul y (monomial_at o es xs)) (power-zero x e z (some e u)) ∙ ring.zero_mul L.ring _)
    where
      some : (e : ℕ) → (e ≡ 0 → ⊥) → 1 ≤ e
      some zero u = absurd (u refl)
      some (suc e) u = omega arith
  monomial-used (e ∷ es) (suc i) (x ∷ xs) n u z =
      monomial-used es i xs (λ y. n (ap (o.mul (power o x e)) y ∙ ring.mul_zero L.ring _)) u z

  stripped_by-zeros : (i : ℕ) (es : List ℕ) (p : Polynomial) (point : List M) → ((j : ℕ) → (get_or es j 0 ≡ 0 → ⊥) → at point (i + j) ≢ o.zero)
      → value_at o p point ≡ o.zero ↔ value_at o (stripped_by i es p) point ≡ o.zero
  stripped_by-zeros i [] p point n = ((λ z. z), (λ z. z))
  stripped_by-zeros i (e ∷ es) p point n =
      let first = here (e == 0) refl in
      let rest = stripped_by-zeros (suc i) es (if e == 0 then p else stripped i p) point
      (λ j u z. n (suc j) u (ap (at point) (let q : i + suc j ≡ suc i + j = omega arith in q) ∙ z)) in
      ((λ z. rest.0 (first.0 z)), (λ z. first.1 (rest.1 z)))
    where
      here : (b : Bool) → (e == 0) ≡ b → value_at o p point ≡ o.zero ↔ value_at o (if b then p else stripped i p) point ≡ o.zero
      here true q = ((λ z. z), (λ z. z))
      here false q = stripped-zeros i p point (λ z. n 0 (eqb-false e 0 q) (ap (at point) (let s : i + 0 ≡ i = omega arith in s) ∙ z))

  -- where q is not zero, p is zero exactly where it is without the variables of q
  pub without_variables-zeros : (q p : Polynomial) (point : List M) → value_at o q point ≢ o.zero
      → value_at o p point ≡ o.zero ↔ value_at o (without_variables q p) point ≡ o.zero
  without_variables-zeros [] p point n = ((λ z. z), (λ z. z))
  without_variables-zeros ((es, c) ∷ f ∷ q) p point n = ((λ z. z), (λ z. z))
  without_variables-zeros ((es, c) ∷ []) p point n =
      stripped_by-zeros 0 es p point (λ j u z. monomial-used es j point
      (λ m. n (L.ring.add_zero _ ∙ ap (o.mul (integer_in o c)) m ∙ ring.mul_zero L.ring _)) u (ap (at point) (let s : j ≡ 0 + j = omega arith in s) ∙ z))

  -- ---- the values of variables
  pub has_factor-value : (p v : Polynomial) (point : List M) → has_factor p v ≡ true → value_at o v point ≡ at point (main_place v)
  has_factor-value [] v point h = let a = and_parts (is_factor [] (class_of v)) (same v []) h in absurd (let b = (and_parts _ (is_divided (main_place v) []) a.0).1 in let l = divided-low (main_place v) [] b in omega (arith, l))
  has_factor-value ((es, c) ∷ p) v point h =
      let a = and_parts (is_factor ((es, c) ∷ p) (class_of v)) (same v (variable_in ((es, c) ∷ p) (main_place v))) h in
      let divides = (and_parts _ (is_divided (main_place v) ((es, c) ∷ p)) a.0).1 in
      ap (λ q. value_at o q point) (same-is v (variable_in ((es, c) ∷ p) (main_place v)) a.1)
      ∙ values.value_at-variable L.ring (length es) (main_place v) point (divided-there (main_place v) es c p divides)

  place-there : (n i : ℕ) → 1 ≤ get_or (set (replicate n 0) i 1) i 0 → i < n
  place-there zero i h = absurd (omega (arith, h))
  place-there (suc n) zero h = omega arith
  place-there (suc n) (suc i) h = let l = place-there n i h in omega (arith, l)

  pub variable-value : (q : Polynomial) (point : List M) → is_variable q ≡ true → value_at o q point ≡ at point (main_place q)
  variable-value [] point h = cc
  variable-value ((es, c) ∷ q) point h =
      let Q = (es, c) ∷ q in
      let i = main_place Q in
      let a = and_parts (not (is_constant Q)) (same Q (variable_in Q i)) h in
      let is = same-is Q (poly_variable (length es) i) a.1 in
      let some = eqb-false (class_of Q) 0 (not-true _ a.0) in
      let class : class_of Q ≡ suc i = positive (class_of Q) some in
      let used : 1 ≤ degree_at i (poly_variable (length es) i) = subst (λ r. 1 ≤ degree_at i r) is (degree-used Q i class) in
      ap (λ r. value_at o r point) is ∙ values.value_at-variable L.ring (length es) i point (place-there (length es) i (omega (arith, used)))
    where
      positive : (k : ℕ) → (k ≡ 0 → ⊥) → k ≡ suc (k - 1)
      positive zero n = absurd (n refl)
      positive (suc k) n = omega arith
