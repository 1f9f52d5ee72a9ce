-- What is read off a list of terms: its class, its degrees, its divisor, and whether it is another's.
use Rattle.std.proofs.Common.{◌≡◌, ◌≢◌, ℕ, ◌+◌, ◌%◌, subst, ◌<◌, ◌≤◌, max, zero, suc, refl, List, [], ◌∷◌, length, take, drop, get_or, sym, ◌∙◌, ap, arith, Bool, true, false, ◌&&◌}
use Rattle.std.specs.Prelude.{ℤ, pos, negsuc, ◌==◌, if◌then◌else◌, unsigned_abs}
use Rattle.std.specs.Int.{IsGcd}
use Rattle.std.specs.Simd.Lanes.{number_l}
use Rattle.std.proofs.lemmas.List.{drop-drop}
use Rattle.std.proofs.lemmas.Bool.{and_parts, eqb-true, leb-true}
use Rattle.std.proofs.lemmas.Nat.Gcd.{same_from_IsGcd, dvd_refl, dvd_of_mod-eq-zero, le_of_dvd}
use Prim.Native.Nat.{◌∣◌}
use Rattle.std.specs.Cmp.{nat_cmp_is}
use Rattle.std.specs.Ordering.{nat_cmp, ordering_then}
use Rattle.std.specs.declared.cmp.Ordering.TheVariants.{Equal}
use Rattle.poly_model.specs.Polynomial.{Polynomial, IsDescending, monomial_cmp}
use Rattle.poly_model.specs.Content.{coefficients_gcd, is_negative, begins_negative, signed_by}
use Rattle.poly_model.specs.Standard.{entry_of, polynomial_of, is_bounded, are_bounded}
use Rattle.poly_model.specs.Reduction.{same_entry, same, degree_at, monomial_class, class_of, multiplier_of}
use Rattle.poly_model.specs.Equality.{same-is, same-self}
use Rattle.poly_model.specs.declared.term.Term.{Term}
use Rattle.poly_model.proofs.Contents.{gcd-is}
use Rattle.poly_model.proofs.Front.{class_by, class-is, class-first}
use Rattle.poly_model.proofs.Primitive.{divisor_some}
use Rattle.poly_model.specs.declared.limits.TheConstants.{MOST_SIZE}
use Rattle.poly_model.proofs.Same.{polynomial_of-injective}
use Rattle.polynomials.proofs.Steps.{dropped, all-dropped}

-- ---- the greatest variable of a monomial
pub class-end : (n : ℕ) (xs : List ℕ) → length xs ≤ n → monomial_class (drop n xs) ≡ 0
class-end zero [] le = refl
class-end (suc n) [] le = refl
class-end zero (x ∷ xs) le = absurd (omega (arith, le))
class-end (suc n) (x ∷ xs) le = class-end n xs (omega (arith, le))

used : (x : ℕ) → x ≢ 0 → (t : Bool) → (x == 0) ≡ t → ◌≡◌ {A = ℕ} (if t then 0 else 1) 1
used x some true q = absurd (some (eqb-true x 0 q))
used x some false q = refl

pub class-unused : (i : ℕ) (xs : List ℕ) → i < length xs → get_or xs i 0 ≡ 0 → monomial_class (drop (i + 1) xs) ≡ 0 → monomial_class (drop i xs) ≡ 0
class-unused i [] below none rest = absurd (omega (arith, below))
class-unused zero (x ∷ xs) below none rest = class-is x xs ∙ (λ j. class_by (none j) (rest j))
class-unused (suc i) (x ∷ xs) below none rest =
    class-unused i xs (omega (arith, below)) none (ap (λ k. monomial_class (drop k (x ∷ xs))) (let e : suc (i + 1) ≡ suc i + 1 = omega arith in e) ∙ rest)

-- places whose number is 0 are unused
zeros-unused : (n : ℕ) (xs : List ℕ) → number_l 256 (take n xs) ≡ 0 → monomial_class (drop n xs) ≡ 0 → monomial_class xs ≡ 0
zeros-unused zero xs none rest = rest
zeros-unused (suc n) [] none rest = refl
zeros-unused (suc n) (x ∷ xs) none rest =
    let first : x ≡ 0 = omega (arith, none) in
    let others : number_l 256 (take n xs) ≡ 0 = omega (arith, none) in
    class-is x xs ∙ (λ j. class_by (first j) (zeros-unused n xs others rest j))

pub class-unused_run : (i j n : ℕ) (xs : List ℕ) → j + n ≡ i → number_l 256 (take n (drop j xs)) ≡ 0 → monomial_class (drop i xs) ≡ 0 → monomial_class (drop j xs) ≡ 0
class-unused_run i j n xs step none rest =
    zeros-unused n (drop j xs) none (rw (drop-drop n j xs) (subst (λ k. monomial_class (drop k xs) ≡ 0) (sym step) rest))

pub class-found : (i : ℕ) (xs : List ℕ) → i < length xs → get_or xs i 0 ≢ 0 → monomial_class (drop (i + 1) xs) ≡ 0 → suc i ≡ monomial_class xs
class-found i [] below some rest = absurd (omega (arith, below))
class-found zero (x ∷ xs) below some rest = sym (class-is x xs ∙ ap (class_by x) rest ∙ used x some (x == 0) refl)
class-found (suc i) (x ∷ xs) below some rest =
    let found = class-found i xs (omega (arith, below)) some (ap (λ k. monomial_class (drop k (x ∷ xs))) (let e : suc (i + 1) ≡ suc i + 1 = omega arith in e) ∙ rest) in
    sym (class-is x xs ∙ ap (class_by x) (sym found))

one_at_most : (t : Bool) → (if t then 0 else 1) ≤ 1
one_at_most true = omega arith
one_at_most false = omega arith

monomial-within : (xs : List ℕ) → monomial_class xs ≤ length xs
monomial-within [] = omega arith
monomial-within (x ∷ xs) = by (monomial_class xs) (monomial-within xs) (class-is x xs)
  where
    by : (k : ℕ) → k ≤ length xs → monomial_class (x ∷ xs) ≡ class_by x k → monomial_class (x ∷ xs) ≤ suc (length xs)
    by zero le e = let t = one_at_most (x == 0) in omega (arith, e, t)
    by (suc k) le e = omega (arith, e, le)

pub class-within : (n : ℕ) (p : Polynomial) → IsDescending n p → class_of p ≤ n
class-within n [] h = omega arith
class-within n ((es, c) ∷ p) h = let f = monomial-within es in let e = h.0 in let r = class-within n p h.3 in omega (arith, f, e, r)

-- ---- monomials without variables from a place on
class_by-none : (x k : ℕ) → class_by x k ≤ 0 → (k ≡ 0) × (x ≡ 0)
class_by-none x zero le = (refl, unused (x == 0) refl le)
  where
    unused : (t : Bool) → (x == 0) ≡ t → (if t then 0 else 1) ≤ 0 → x ≡ 0
    unused true q h = eqb-true x 0 q
    unused false q h = absurd (omega (arith, h))
class_by-none x (suc k) le = absurd (omega (arith, le))

class_by-less : (x k n : ℕ) → class_by x k ≤ suc n → k ≤ n
class_by-less x zero n le = omega arith
class_by-less x (suc k) n le = omega (arith, le)

pub unused-equal : (n : ℕ) (xs ys : List ℕ) → length xs ≡ length ys → monomial_class xs ≤ n → monomial_class ys ≤ n → monomial_cmp (drop n xs) (drop n ys) ≡ Equal
unused-equal zero [] [] same a b = refl
unused-equal (suc n) [] [] same a b = refl
unused-equal n [] (y ∷ ys) same a b = absurd (omega (arith, same))
unused-equal n (x ∷ xs) [] same a b = absurd (omega (arith, same))
unused-equal zero (x ∷ xs) (y ∷ ys) same a b =
    let first = class_by-none x (monomial_class xs) (subst (λ k. k ≤ 0) (class-is x xs) a) in
    let second = class_by-none y (monomial_class ys) (subst (λ k. k ≤ 0) (class-is y ys) b) in
    let rest : monomial_cmp xs ys ≡ Equal = unused-equal zero xs ys (omega (arith, same)) (omega (arith, first.0)) (omega (arith, second.0)) in
    ap (λ r. ordering_then r (nat_cmp x y)) rest ∙ sym (nat_cmp_is x y Equal (first.1 ∙ sym second.1))
unused-equal (suc n) (x ∷ xs) (y ∷ ys) same a b =
    unused-equal n xs ys (omega (arith, same))
    (class_by-less x (monomial_class xs) n (subst (λ k. k ≤ suc n) (class-is x xs) a))
    (class_by-less y (monomial_class ys) n (subst (λ k. k ≤ suc n) (class-is y ys) b))

-- a monomial without variables from a place on has its greatest one below
pub class-below : (n : ℕ) (xs : List ℕ) → monomial_class (drop n xs) ≡ 0 → monomial_class xs ≤ n
class-below zero xs none = omega (arith, none)
class-below (suc n) [] none = omega arith
class-below (suc n) (x ∷ xs) none =
    let rest = class-below n xs none in
    subst (λ k. k ≤ suc n) (sym (class-is x xs)) (more (monomial_class xs) rest)
  where
    more : (k : ℕ) → k ≤ n → class_by x k ≤ suc n
    more zero le = let t = one_at_most (x == 0) in omega (arith, t)
    more (suc k) le = omega (arith, le)

pub class-none : (xs : List Term) → length xs ≡ 0 → class_of (polynomial_of xs) ≤ 0
class-none [] e = omega arith
class-none (x ∷ xs) e = absurd (omega (arith, e))

pub class-at : (xs : List Term) (i : ℕ) (t : Term) → i < length xs → t ≡ get_or xs i t → monomial_class t.exps ≤ class_of (polynomial_of xs)
class-at [] i t below at = absurd (omega (arith, below))
class-at (x ∷ xs) zero t below at =
    let same = ap (λ (y : Term). monomial_class y.exps) at in omega (arith, same)
class-at (x ∷ xs) (suc i) t below at =
    let rest = class-at xs i t (omega (arith, below)) at in omega (arith, rest)

-- ---- degrees
pub degree-next : (var : ℕ) (xs : List Term) (i : ℕ) (t : Term) → i < length xs → t ≡ get_or xs i t
    → max (get_or t.exps var 0) (degree_at var (polynomial_of (drop (i + 1) xs))) ≡ degree_at var (polynomial_of (drop i xs))
degree-next var xs i t below at = ap (λ l. degree_at var (polynomial_of l)) (sym (dropped xs i t below at))

pub degree-end : (var : ℕ) (xs : List Term) (n : ℕ) → length xs ≤ n → ◌≡◌ {A = ℕ} (degree_at var (polynomial_of (drop n xs))) 0
degree-end var xs n le = ap (λ l. degree_at var (polynomial_of l)) (all-dropped xs n le)

-- ---- sameness
entry-self : (t : Term) → same_entry (entry_of t) (entry_of t) ≡ true
entry-self t = (and_parts (same_entry (entry_of t) (entry_of t)) (same [] []) (same-self (entry_of t ∷ []))).0

pub same-next : (xs ys : List Term) (i : ℕ) (t u : Term) → i < length xs → t ≡ get_or xs i t → i < length ys → u ≡ get_or ys i u → t ≡ u
    → same (polynomial_of (drop (i + 1) xs)) (polynomial_of (drop (i + 1) ys)) ≡ same (polynomial_of (drop i xs)) (polynomial_of (drop i ys))
same-next xs ys i t u bx at by au e =
    ap (λ b. b && same (polynomial_of (drop (i + 1) xs)) (polynomial_of (drop (i + 1) ys))) (sym (ap (λ v. same_entry (entry_of t) (entry_of v)) (sym e) ∙ entry-self t))
    ∙ sym (λ j. same (polynomial_of (dropped xs i t bx at j)) (polynomial_of (dropped ys i u by au j)))

-- lists that differ at a place, or in length, are not the same
pub same-differs : (xs ys : List Term) (i : ℕ) (t u : Term) → i < length xs → t ≡ get_or xs i t → u ≡ get_or ys i u → (t ≡ u → ⊥) → same (polynomial_of xs) (polynomial_of ys) ≡ false
same-differs xs ys i t u below at au n =
    elim (same (polynomial_of xs) (polynomial_of ys)) as (λ b. same (polynomial_of xs) (polynomial_of ys) ≡ b → b ≡ false) [
      | false ↦ λ e. refl
      | true ↦ λ e. absurd (n (one xs ys i below (polynomial_of-injective xs ys (same-is _ _ e)) at au))
    ] refl
  where
    item : (zs : List Term) (i : ℕ) → i < length zs → t ≡ get_or zs i t → u ≡ get_or zs i u → t ≡ u
    item [] i b p q = absurd (omega (arith, b))
    item (z ∷ zs) zero b p q = p ∙ sym q
    item (z ∷ zs) (suc i) b p q = item zs i (omega (arith, b)) p q

    one : (xs ys : List Term) (i : ℕ) → i < length xs → xs ≡ ys → t ≡ get_or xs i t → u ≡ get_or ys i u → t ≡ u
    one xs ys i b e p q = item xs i b p (q ∙ ap (λ l. get_or l i u) (sym e))

pub same-longer : (xs ys : List Term) → (length xs ≡ length ys → ⊥) → same (polynomial_of xs) (polynomial_of ys) ≡ false
same-longer xs ys n =
    elim (same (polynomial_of xs) (polynomial_of ys)) as (λ b. same (polynomial_of xs) (polynomial_of ys) ≡ b → b ≡ false) [
      | false ↦ λ e. refl
      | true ↦ λ e. absurd (n (ap length (polynomial_of-injective xs ys (same-is _ _ e))))
    ] refl

pub same-end : (xs ys : List Term) (n : ℕ) → length xs ≤ n → length ys ≤ n → same (polynomial_of (drop n xs)) (polynomial_of (drop n ys)) ≡ true
same-end xs ys n p q = λ j. same (polynomial_of (all-dropped xs n p j)) (polynomial_of (all-dropped ys n q j))

-- ---- divisors
pub divisor-next : (xs : List Term) (i : ℕ) (t : Term) (d : ℕ) → i < length xs → t ≡ get_or xs i t
    → IsGcd (unsigned_abs t.coef) (coefficients_gcd (polynomial_of (drop (i + 1) xs))) d → d ≡ coefficients_gcd (polynomial_of (drop i xs))
divisor-next xs i t d below at is =
    same_from_IsGcd _ _ _ _ is (gcd-is (unsigned_abs t.coef) (coefficients_gcd (polynomial_of (drop (i + 1) xs))))
    ∙ ap (λ l. coefficients_gcd (polynomial_of l)) (sym (dropped xs i t below at))

pub divisor-none : (xs : List Term) (n : ℕ) → length xs ≤ n → ◌≡◌ {A = ℕ} 0 (coefficients_gcd (polynomial_of (drop n xs)))
divisor-none xs n le = ap (λ l. coefficients_gcd (polynomial_of l)) (sym (all-dropped xs n le))

-- a divisor 1 of the last coefficients is that of all
pub divisor-one : (xs : List Term) (i : ℕ) → coefficients_gcd (polynomial_of (drop i xs)) ≡ 1 → 1 ≡ coefficients_gcd (polynomial_of xs)
divisor-one xs zero e = sym e
divisor-one [] (suc i) e = sym e
divisor-one (x ∷ xs) (suc i) e =
    same_from_IsGcd (unsigned_abs x.coef) (coefficients_gcd (polynomial_of xs)) _ _ (by (coefficients_gcd (polynomial_of xs)) (divisor-one xs i e)) (gcd-is _ _)
  where
    by : (g : ℕ) → 1 ≡ g → IsGcd (unsigned_abs x.coef) g 1
    by g h = (one, subst (λ n. 1 ∣ n) h (dvd_refl 1), λ d p q. subst (λ n. d ∣ n) (sym h) q)
      where
        one : 1 ∣ unsigned_abs x.coef
        one = dvd_of_mod-eq-zero 1 (let z : unsigned_abs x.coef % 1 ≡ 0 = omega arith in z)

-- ---- of a list that is not empty
pub no_terms : (xs : List Term) → length xs ≡ 0 → xs ≡ []
no_terms [] e = refl
no_terms (x ∷ xs) e = absurd (omega (arith, e))

pub divisor-positive : (n : ℕ) (xs : List Term) → (length xs ≡ 0 → ⊥) → IsDescending n (polynomial_of xs) → 0 < coefficients_gcd (polynomial_of xs)
divisor-positive n [] some h = absurd (some refl)
divisor-positive n (x ∷ xs) some h = divisor_some n x.exps x.coef (polynomial_of xs) h

pub divisor-bounded : (n : ℕ) (xs : List Term) → (length xs ≡ 0 → ⊥) → IsDescending n (polynomial_of xs) → are_bounded (polynomial_of xs) ≡ true → coefficients_gcd (polynomial_of xs) ≤ MOST_SIZE
divisor-bounded n [] some h b = absurd (some refl)
divisor-bounded n (x ∷ xs) some h b =
    let g = gcd-is (unsigned_abs x.coef) (coefficients_gcd (polynomial_of xs)) in
    let size = leb-true (unsigned_abs x.coef) MOST_SIZE (and_parts (is_bounded x.coef) (are_bounded (polynomial_of xs)) b).0 in
    let divides = le_of_dvd (positive x.coef h.1) g.0 in
    omega (arith, size, divides)
  where
    positive : (c : ℤ) → c ≢ pos 0 → 0 < unsigned_abs c
    positive (pos zero) n = absurd (n refl)
    positive (pos (suc k)) n = omega arith
    positive (negsuc k) n = omega arith

-- the first coefficient tells the sign
pub sign-first : (xs : List Term) (t : Term) → (length xs ≡ 0 → ⊥) → t ≡ get_or xs 0 t → is_negative t.coef ≡ begins_negative (polynomial_of xs)
sign-first [] t some at = absurd (some refl)
sign-first (x ∷ xs) t some at = ap (λ (y : Term). is_negative y.coef) at

pub multiplier-some : (xs : List Term) → (length xs ≡ 0 → ⊥) → multiplier_of (polynomial_of xs) ≡ signed_by (begins_negative (polynomial_of xs)) (pos (coefficients_gcd (polynomial_of xs)))
multiplier-some [] some = absurd (some refl)
multiplier-some (x ∷ xs) some = refl

-- the class is that of the first term
pub class-of_first : (n : ℕ) (xs : List Term) (t : Term) → (length xs ≡ 0 → ⊥) → t ≡ get_or xs 0 t → IsDescending n (polynomial_of xs) → monomial_class t.exps ≡ class_of (polynomial_of xs)
class-of_first n [] t some at h = absurd (some refl)
class-of_first n (x ∷ xs) t some at h = ap (λ (y : Term). monomial_class y.exps) at ∙ sym (class-first n x.exps x.coef (polynomial_of xs) h)
