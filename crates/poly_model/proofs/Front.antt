-- Of a list in order, the first term tells the class and the degree in it.
use Rattle.std.proofs.Common.{get_or, subst, ◌-◌, ◌≡◌, ℕ, ◌<◌, ◌≤◌, zero, suc, List, [], ◌∷◌, length, refl, sym, ◌∙◌, ap, arith, Bool, true, false}
use Rattle.std.specs.Prelude.{◌==◌, if◌then◌else◌, ℤ, pos, ◌+ℤ◌}
use Rattle.std.proofs.lemmas.Int.{ints}
use Rattle.std.proofs.lemmas.Bool.Decides.{Decides-int_eq}
use Rattle.std.specs.Ordering.{nat_cmp, ordering_then}
use Rattle.std.specs.Cmp.{ranked}
use Rattle.std.specs.declared.cmp.Ordering.TheVariants.{Less, Equal, Greater}
use Rattle.std.proofs.lemmas.Bool.{and_parts, eqb-true, eqb-false}
use Rattle.poly_model.specs.Polynomial.{Polynomial, IsAbove, IsDescending, monomial_cmp}
use Rattle.poly_model.specs.Values.{monomial_cmp-same}
use Rattle.poly_model.specs.Reduction.{monomial_class, class_of, is_constant, is_zero, number_of, degree_at, main_degree}

-- what the class of a monomial is, by the class of the rest
abbrev pub class_by : ℕ → ℕ → ℕ
class_by e zero = if e == 0 then 0 else 1
class_by e (suc k) = suc (suc k)

pub class-is : (e : ℕ) (es : List ℕ) → monomial_class (e ∷ es) ≡ class_by e (monomial_class es)
class-is e es = elim (monomial_class es) as (λ k. (elim k as (λ _. ℕ) [ zero ↦ if e == 0 then 0 else 1 | suc k ↦ suc (suc k) ]) ≡ class_by e k) [ zero ↦ refl | suc k ↦ refl ]

at_most_one : (t : Bool) → (if t then 0 else 1) ≤ 1
at_most_one true = omega arith
at_most_one false = omega arith

used-mono : (a b : ℕ) → b ≤ a → (x y : Bool) → (a == 0) ≡ x → (b == 0) ≡ y → (if y then 0 else 1) ≤ (if x then 0 else 1)
used-mono a b h x true p q = omega arith
used-mono a b h false false p q = omega arith
used-mono a b h true false p q = absurd (let z = eqb-true a 0 p in eqb-false b 0 q (omega (arith, h, z)))

class_by-mono : (a b k m : ℕ) → m ≤ k → (k ≡ 0 → b ≤ a) → class_by b m ≤ class_by a k
class_by-mono a b zero zero h g = used-mono a b (g refl) (a == 0) (b == 0) refl refl
class_by-mono a b zero (suc m) h g = absurd (omega arith)
class_by-mono a b (suc k) zero h g = let t = at_most_one (b == 0) in omega (arith, t)
class_by-mono a b (suc k) (suc m) h g = omega arith

class_by-zero : (a k : ℕ) → class_by a k ≡ 0 → (k ≡ 0) × (a ≡ 0)
class_by-zero a zero e = (refl, unused (a == 0) refl e)
  where
    unused : (x : Bool) → (a == 0) ≡ x → ◌≡◌ {A = ℕ} (if x then 0 else 1) 0 → a ≡ 0
    unused true p q = eqb-true a 0 p
    unused false p q = absurd (omega (arith, q))
class_by-zero a (suc k) e = absurd (omega (arith, e))

-- nothing is below a monomial without variables
none-below : (xs ys : List ℕ) → length xs ≡ length ys → monomial_class xs ≡ 0 → monomial_cmp xs ys ≡ Greater → ⊥
none-below [] [] l c e = cc
none-below [] (y ∷ ys) l c e = cc
none-below (x ∷ xs) [] l c e = omega (arith, l)
none-below (x ∷ xs) (y ∷ ys) l c is =
    let z = class_by-zero x (monomial_class xs) (sym (class-is x xs) ∙ c) in
    elim (monomial_cmp xs ys) as (λ r. monomial_cmp xs ys ≡ r → ordering_then r (nat_cmp x y) ≡ Greater → ⊥) [
      | Less ↦ λ p e. cc
      | Equal ↦ λ p e. let g : y < x = ranked x y Greater (sym e) in let x0 = z.1 in omega (arith, g, x0)
      | Greater ↦ λ p e. none-below xs ys (omega (arith, l)) z.0 p
    ] refl is

-- a greater monomial has no lesser class, and no lesser exponent of its greatest variable
pub class-mono : (xs ys : List ℕ) → length xs ≡ length ys → monomial_cmp xs ys ≡ Greater → monomial_class ys ≤ monomial_class xs
class-mono [] [] l e = cc
class-mono [] (y ∷ ys) l e = cc
class-mono (x ∷ xs) [] l e = omega arith
class-mono (x ∷ xs) (y ∷ ys) l is =
    elim (monomial_cmp xs ys) as (λ r. monomial_cmp xs ys ≡ r → ordering_then r (nat_cmp x y) ≡ Greater → monomial_class (y ∷ ys) ≤ monomial_class (x ∷ xs)) [
      | Less ↦ λ p e. cc
      | Equal ↦ λ p e. let g : y < x = ranked x y Greater (sym e) in
          by (let q : monomial_class ys ≤ monomial_class xs = same_class (monomial_cmp-same xs ys p) in q) (λ _. omega (arith, g))
      | Greater ↦ λ p e. by (class-mono xs ys (omega (arith, l)) p) (λ z. absurd (none-below xs ys (omega (arith, l)) z p))
    ] refl is
  where
    same_class : xs ≡ ys → monomial_class ys ≤ monomial_class xs
    same_class e = let q : monomial_class xs ≡ monomial_class ys = ap monomial_class e in omega (arith, q)

    by : monomial_class ys ≤ monomial_class xs → (monomial_class xs ≡ 0 → y ≤ x) → monomial_class (y ∷ ys) ≤ monomial_class (x ∷ xs)
    by h g = let m = class_by-mono x y (monomial_class xs) (monomial_class ys) h g in let a = class-is x xs in let b = class-is y ys in omega (arith, m, a, b)

-- of a list in order, the first term tells the class
pub below-class : (n : ℕ) (es : List ℕ) (p : Polynomial) → length es ≡ n → IsAbove es p → IsDescending n p → class_of p ≤ monomial_class es
below-class n es [] l a d = omega arith
below-class n es ((fs, c) ∷ p) l a d =
    let first = class-mono es fs (let q = d.0 in omega (arith, l, q)) a.0 in
    let rest = below-class n es p l a.1 d.3 in
    omega (arith, first, rest)

pub class-first : (n : ℕ) (es : List ℕ) (c : ℤ) (p : Polynomial) → IsDescending n ((es, c) ∷ p) → class_of ((es, c) ∷ p) ≡ monomial_class es
class-first n es c p d = let h = below-class n es p d.0 d.2 d.3 in omega (arith, h)

-- a constant in order is empty or one term, and 0 is empty
pub constant-first : (n : ℕ) (es : List ℕ) (c : ℤ) (p : Polynomial) → IsDescending n ((es, c) ∷ p) → class_of ((es, c) ∷ p) ≡ 0 → p ≡ []
constant-first n es c [] d z = refl
constant-first n es c ((fs, k) ∷ p) d z =
    let l = d.0 in
    let m = d.3.0 in
    absurd (none-below es fs (omega (arith, l, m)) (sym (class-first n es c ((fs, k) ∷ p) d) ∙ z) d.2.0)

pub zero-empty : (n : ℕ) (p : Polynomial) → IsDescending n p → is_zero p ≡ true → p ≡ []
zero-empty n [] d z = refl
zero-empty n ((es, c) ∷ p) d z =
    let parts = and_parts (is_constant ((es, c) ∷ p)) _ z in
    let alone = constant-first n es c p d (eqb-true _ _ parts.0) in
    let number : c +ℤ number_of p ≡ pos 0 = (Decides-int_eq (number_of ((es, c) ∷ p)) (pos 0)).0 parts.1 in
    let single : c +ℤ number_of p ≡ c +ℤ pos 0 = ap (λ q. c +ℤ number_of q) alone in
    absurd (d.1 (none c (sym single ∙ number)))
  where
    none : (c : ℤ) → c +ℤ pos 0 ≡ pos 0 → c ≡ pos 0
    none c e = omega (arith, ints, e)

-- a greater monomial has no lesser exponent of its greatest variable
exponent-mono : (xs ys : List ℕ) → length xs ≡ length ys → monomial_cmp xs ys ≡ Greater → get_or ys (monomial_class xs - 1) 0 ≤ get_or xs (monomial_class xs - 1) 0
exponent-mono [] [] l e = cc
exponent-mono [] (y ∷ ys) l e = cc
exponent-mono (x ∷ xs) [] l e = absurd (omega (arith, l))
exponent-mono (x ∷ xs) (y ∷ ys) l is =
    elim (monomial_cmp xs ys) as (λ r. monomial_cmp xs ys ≡ r → ordering_then r (nat_cmp x y) ≡ Greater → get_or (y ∷ ys) (monomial_class (x ∷ xs) - 1) 0 ≤ get_or (x ∷ xs) (monomial_class (x ∷ xs) - 1) 0) [
      | Less ↦ λ p e. cc
      | Equal ↦ λ p e.
          let g : y < x = ranked x y Greater (sym e) in
          by (monomial_class xs) refl (λ _. omega (arith, g)) (let q : get_or xs (monomial_class xs - 1) 0 ≡ get_or ys (monomial_class xs - 1) 0 = ap (λ zs. get_or zs (monomial_class xs - 1) 0) (monomial_cmp-same xs ys p) in omega (arith, q))
      | Greater ↦ λ p e. by (monomial_class xs) refl (λ z. absurd (none-below xs ys (omega (arith, l)) z p)) (exponent-mono xs ys (omega (arith, l)) p)
    ] refl is
  where
    by : (k : ℕ) → monomial_class xs ≡ k → (k ≡ 0 → y ≤ x) → get_or ys (monomial_class xs - 1) 0 ≤ get_or xs (monomial_class xs - 1) 0
        → get_or (y ∷ ys) (monomial_class (x ∷ xs) - 1) 0 ≤ get_or (x ∷ xs) (monomial_class (x ∷ xs) - 1) 0
    by zero q g h =
        let t = at_most_one (x == 0) in
        let place : 0 ≡ monomial_class (x ∷ xs) - 1 = (let a = class-is x xs ∙ ap (class_by x) q in omega (arith, a, t)) in
        subst (λ i. get_or (y ∷ ys) i 0 ≤ get_or (x ∷ xs) i 0) place (g refl)
    by (suc k) q g h =
        let place : suc k ≡ monomial_class (x ∷ xs) - 1 = (let a = class-is x xs ∙ ap (class_by x) q in omega (arith, a)) in
        let here : monomial_class xs - 1 ≡ k = omega (arith, q) in
        subst (λ i. get_or (y ∷ ys) i 0 ≤ get_or (x ∷ xs) i 0) place (subst (λ i. get_or ys i 0 ≤ get_or xs i 0) here h)

below-degree : (n : ℕ) (es : List ℕ) (p : Polynomial) → length es ≡ n → IsAbove es p → IsDescending n p → degree_at (monomial_class es - 1) p ≤ get_or es (monomial_class es - 1) 0
below-degree n es [] l a d = omega arith
below-degree n es ((fs, c) ∷ p) l a d =
    let first = exponent-mono es fs (let q = d.0 in omega (arith, l, q)) a.0 in
    let rest = below-degree n es p l a.1 d.3 in
    omega (arith, first, rest)

-- of a list in order, the first term tells the degree in the class
pub degree-first : (n : ℕ) (es : List ℕ) (c : ℤ) (p : Polynomial) → IsDescending n ((es, c) ∷ p) → main_degree ((es, c) ∷ p) ≡ get_or es (monomial_class es - 1) 0
degree-first n es c p d =
    ap (λ k. degree_at (k - 1) ((es, c) ∷ p)) (class-first n es c p d)
    ∙ (let h = below-degree n es p d.0 d.2 d.3 in omega (arith, h))
