-- What holds of every monomial of two polynomials holds of every monomial of what is made of them.
use Rattle.std.proofs.Common.{◌≡◌, ℕ, zero, suc, List, [], ◌∷◌, ◌++◌, drop, replicate, set, refl, arith, ◌+◌, ◌<◌, ◌≤◌, Bool, true, nat_le, nat_eq}
use Rattle.std.specs.Prelude.{ℤ, pos, negsuc, ◌+ℤ◌, ◌*ℤ◌}
use Rattle.std.specs.List.{list_all}
use Rattle.std.specs.Cmp.{first_so, second_so}
use Rattle.std.specs.Cmp.Derive.{both_true}
use Rattle.std.proofs.lemmas.Bool.Decides.{nat_tests}
use Rattle.std.specs.declared.cmp.Ordering.TheVariants.{Less, Equal, Greater}
use Rattle.poly_model.specs.Polynomial.{Polynomial, monomial_cmp, with_entry, add_entry, add_multiple, exponents_sum, poly_sum, poly_negative, poly_product, poly_scaled, is_over}
use Rattle.poly_model.specs.Content.{entries_divided}
use Rattle.poly_model.specs.Standard.{polynomial_of}
use Rattle.poly_model.specs.declared.term.Term.{Term}
use Rattle.algebraize.specs.Small.{are_at_most, is_low}

-- The test holds of every monomial.
abbrev pub every : (List ℕ → Bool) → Polynomial → Bool
every test = list_all (λ entry. test entry.0)

pub every-with_entry : (test : List ℕ → Bool) (es : List ℕ) (c : ℤ) (p : Polynomial) → test es ≡ true → every test p ≡ true → every test (with_entry es c p) ≡ true
every-with_entry test es (pos zero) p a h = h
every-with_entry test es (pos (suc k)) p a h = both_true a h
every-with_entry test es (negsuc k) p a h = both_true a h

pub every-add_entry : (test : List ℕ → Bool) (es : List ℕ) (c : ℤ) (p : Polynomial) → test es ≡ true → every test p ≡ true → every test (add_entry es c p) ≡ true
every-add_entry test es c [] a h = every-with_entry test es c [] a refl
every-add_entry test es c ((fs, k) ∷ p) a h =
    let first = first_so (test fs) (every test p) h in
    let rest = second_so (test fs) (every test p) h in
    elim (monomial_cmp es fs) as (λ r. every test (elim r [ Less ↦ (fs, k) ∷ add_entry es c p | Equal ↦ with_entry fs (c +ℤ k) p | Greater ↦ with_entry es c ((fs, k) ∷ p) ]) ≡ true) [
      | Less ↦ both_true first (every-add_entry test es c p a rest)
      | Equal ↦ every-with_entry test fs (c +ℤ k) p first rest
      | Greater ↦ every-with_entry test es c ((fs, k) ∷ p) a h
    ]

pub every-sum : (test : List ℕ → Bool) (p q : Polynomial) → every test p ≡ true → every test q ≡ true → every test (poly_sum p q) ≡ true
every-sum test [] q a b = b
every-sum test ((es, c) ∷ p) q a b =
    every-add_entry test es c (poly_sum p q) (first_so (test es) (every test p) a) (every-sum test p q (second_so (test es) (every test p) a) b)

pub every-negative : (test : List ℕ → Bool) (p : Polynomial) → every test p ≡ true → every test (poly_negative p) ≡ true
every-negative test [] a = refl
every-negative test ((es, c) ∷ p) a = both_true (first_so (test es) (every test p) a) (every-negative test p (second_so (test es) (every test p) a))

pub every-scaled : (test : List ℕ → Bool) (m : ℤ) (p : Polynomial) → every test p ≡ true → every test (poly_scaled m p) ≡ true
every-scaled test m [] a = refl
every-scaled test m ((es, c) ∷ p) a = both_true (first_so (test es) (every test p) a) (every-scaled test m p (second_so (test es) (every test p) a))

pub every-divided : (test : List ℕ → Bool) (s : Bool) (m : ℕ) (p : Polynomial) → every test p ≡ true → every test (entries_divided s m p) ≡ true
every-divided test s m [] a = refl
every-divided test s m ((es, c) ∷ p) a = both_true (first_so (test es) (every test p) a) (every-divided test s m p (second_so (test es) (every test p) a))

-- Monomials of two tests have products of a third.
abbrev pub Multiply : (List ℕ → Bool) → (List ℕ → Bool) → (List ℕ → Bool) → Type 0
Multiply one other both = (xs ys : List ℕ) → one xs ≡ true → other ys ≡ true → both (exponents_sum xs ys) ≡ true

pub every-add_multiple : (one other both : List ℕ → Bool) → Multiply one other both → (es : List ℕ) (c : ℤ) (q r : Polynomial)
    → one es ≡ true → every other q ≡ true → every both r ≡ true → every both (add_multiple es c q r) ≡ true
every-add_multiple one other both m es c [] r a b h = h
every-add_multiple one other both m es c ((fs, k) ∷ q) r a b h =
    every-add_entry both (exponents_sum es fs) (c *ℤ k) (add_multiple es c q r) (m es fs a (first_so (other fs) (every other q) b))
    (every-add_multiple one other both m es c q r a (second_so (other fs) (every other q) b) h)

pub every-product : (one other both : List ℕ → Bool) → Multiply one other both → (p q : Polynomial) → every one p ≡ true → every other q ≡ true → every both (poly_product p q) ≡ true
every-product one other both m [] q a b = refl
every-product one other both m ((es, c) ∷ p) q a b =
    every-add_multiple one other both m es c q (poly_product p q) (first_so (one es) (every one p) a) b
    (every-product one other both m p q (second_so (one es) (every one p) a) b)

-- the last monomial of a list of terms, and the others
pub every-last : (test : List ℕ → Bool) (p : List Term) (t : Term) → every test (polynomial_of (p ++ t ∷ [])) ≡ true → (every test (polynomial_of p) ≡ true) × (test t.exps ≡ true)
every-last test [] t h = (refl, first_so (test t.exps) true h)
every-last test (x ∷ p) t h =
    let k = every-last test p t (second_so (test x.exps) (every test (polynomial_of (p ++ t ∷ []))) h) in
    (both_true (first_so (test x.exps) (every test (polynomial_of (p ++ t ∷ []))) h) k.0, k.1)

-- Degrees.
pub le-more : (a d e : ℕ) → d ≤ e → nat_le a d ≡ true → nat_le a e ≡ true
le-more a d e le h = grind (arith, nat_tests)

pub le-sum : (a b d e : ℕ) → nat_le a d ≡ true → nat_le b e ≡ true → nat_le (a + b) (d + e) ≡ true
le-sum a b d e h k = grind (arith, nat_tests)

pub are_at_most-more : (d e : ℕ) (xs : List ℕ) → d ≤ e → are_at_most d xs ≡ true → are_at_most e xs ≡ true
are_at_most-more d e [] le h = refl
are_at_most-more d e (x ∷ xs) le h =
    both_true (le-more x d e le (first_so (nat_le x d) (are_at_most d xs) h)) (are_at_most-more d e xs le (second_so (nat_le x d) (are_at_most d xs) h))

pub are_at_most-sum : (d e : ℕ) → Multiply (are_at_most d) (are_at_most e) (are_at_most (d + e))
are_at_most-sum d e [] ys h k = are_at_most-more e (d + e) ys (omega arith) k
are_at_most-sum d e (x ∷ xs) [] h k = are_at_most-more d (d + e) (x ∷ xs) (omega arith) h
are_at_most-sum d e (x ∷ xs) (y ∷ ys) h k =
    both_true (le-sum x y d e (first_so (nat_le x d) (are_at_most d xs) h) (first_so (nat_le y e) (are_at_most e ys) k))
    (are_at_most-sum d e xs ys (second_so (nat_le x d) (are_at_most d xs) h) (second_so (nat_le y e) (are_at_most e ys) k))

pub is_low-more : (d e : ℕ) (p : Polynomial) → d ≤ e → is_low d p ≡ true → is_low e p ≡ true
is_low-more d e [] le h = refl
is_low-more d e ((es, c) ∷ p) le h =
    both_true (are_at_most-more d e es le (first_so (are_at_most d es) (is_low d p) h)) (is_low-more d e p le (second_so (are_at_most d es) (is_low d p) h))

pub is_low-product : (d e : ℕ) (p q : Polynomial) → is_low d p ≡ true → is_low e q ≡ true → is_low (d + e) (poly_product p q) ≡ true
is_low-product d e p q h k = every-product (are_at_most d) (are_at_most e) (are_at_most (d + e)) (are_at_most-sum d e) p q h k

pub are_none : (d k : ℕ) → are_at_most d (replicate k 0) ≡ true
are_none d zero = refl
are_none d (suc k) = both_true (let h : nat_le 0 d ≡ true = grind (arith, nat_tests) in h) (are_none d k)

pub are_one : (i k : ℕ) → are_at_most 1 (set (replicate k 0) i 1) ≡ true
are_one i zero = refl
are_one zero (suc k) = both_true refl (are_none 1 k)
are_one (suc i) (suc k) = both_true refl (are_one i k)

-- Variables.
abbrev pub none_from : ℕ → List ℕ → Bool
none_from n es = list_all (λ e. nat_eq e 0) (drop n es)

none-sum : (a b : ℕ) → nat_eq a 0 ≡ true → nat_eq b 0 ≡ true → nat_eq (a + b) 0 ≡ true
none-sum a b h k = grind (arith, nat_tests)

pub none_from-sum : (n : ℕ) → Multiply (none_from n) (none_from n) (none_from n)
none_from-sum zero [] ys h k = k
none_from-sum (suc n) [] ys h k = k
none_from-sum zero (x ∷ xs) [] h k = h
none_from-sum (suc n) (x ∷ xs) [] h k = h
none_from-sum zero (x ∷ xs) (y ∷ ys) h k =
    both_true (none-sum x y (first_so (nat_eq x 0) (list_all (λ e. nat_eq e 0) xs) h) (first_so (nat_eq y 0) (list_all (λ e. nat_eq e 0) ys) k))
    (none_from-sum zero xs ys (second_so (nat_eq x 0) (list_all (λ e. nat_eq e 0) xs) h) (second_so (nat_eq y 0) (list_all (λ e. nat_eq e 0) ys) k))
none_from-sum (suc n) (x ∷ xs) (y ∷ ys) h k = none_from-sum n xs ys h k

pub is_over-product : (n : ℕ) (p q : Polynomial) → is_over n p ≡ true → is_over n q ≡ true → is_over n (poly_product p q) ≡ true
is_over-product n p q h k = every-product (none_from n) (none_from n) (none_from n) (none_from-sum n) p q h k

all_none : (k : ℕ) → list_all (λ e. nat_eq e 0) (replicate k 0) ≡ true
all_none zero = refl
all_none (suc k) = both_true refl (all_none k)

pub none_from-none : (n k : ℕ) → none_from n (replicate k 0) ≡ true
none_from-none zero k = all_none k
none_from-none (suc n) zero = refl
none_from-none (suc n) (suc k) = none_from-none n k

pub none_from-one : (n i k : ℕ) → i < n → none_from n (set (replicate k 0) i 1) ≡ true
none_from-one zero i k below = absurd (omega arith)
none_from-one (suc n) i zero below = refl
none_from-one (suc n) zero (suc k) below = none_from-none n k
none_from-one (suc n) (suc i) (suc k) below = none_from-one n i k (omega arith)
