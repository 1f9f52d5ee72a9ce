-- Exponents that are raised place by place, and degrees.
use Rattle.std.proofs.Common.{◌≡◌, ◌<◌, ℕ, zero, suc, List, [], ◌∷◌, length, get_or, set, max, replicate, refl, sym, ◌∙◌, ap, arith, true, nat_le}
use Rattle.std.proofs.lemmas.Bool.Decides.{nat_tests}
use Rattle.std.specs.Prelude.{ℤ}
use Rattle.poly_model.specs.Polynomial.{Polynomial, IsDescending}
use Rattle.poly_model.specs.Standard.{are_low}
use Rattle.poly_model.specs.declared.limits.TheConstants.{MOST_VARIABLES, MOST_DEGREE}
use Rattle.poly_model.specs.Bounded.{exponents_max, degrees_of}
use Rattle.poly_model.proofs.Within.{all_low}
use Rattle.std.proofs.lemmas.Bool.{and_parts}
use Rattle.std.specs.Cmp.Derive.{both_true}

abbrev pub raised_first : ℕ → List ℕ → List ℕ → List ℕ
raised_first zero xs ys = xs
raised_first (suc i) [] ys = []
raised_first (suc i) (x ∷ xs) [] = x ∷ xs
raised_first (suc i) (x ∷ xs) (y ∷ ys) = max x y ∷ raised_first i xs ys

pub raised_first-more : (i : ℕ) (xs ys : List ℕ) → i < length xs → length xs ≡ length ys
    → set (raised_first i xs ys) i (max (get_or (raised_first i xs ys) i 0) (get_or ys i 0)) ≡ raised_first (suc i) xs ys
raised_first-more i [] ys below same = absurd (omega arith)
raised_first-more i (x ∷ xs) [] below same = absurd (omega arith)
raised_first-more zero (x ∷ xs) (y ∷ ys) below same = refl
raised_first-more (suc i) (x ∷ xs) (y ∷ ys) below same = ap (λ l. max x y ∷ l) (raised_first-more i xs ys (omega arith) (omega arith))

pub raised_first-all : (i : ℕ) (xs ys : List ℕ) → length xs ≡ i → length ys ≡ i → raised_first i xs ys ≡ exponents_max xs ys
raised_first-all zero [] [] p q = refl
raised_first-all zero (x ∷ xs) ys p q = absurd (omega arith)
raised_first-all zero [] (y ∷ ys) p q = absurd (omega arith)
raised_first-all (suc i) [] ys p q = absurd (omega arith)
raised_first-all (suc i) (x ∷ xs) [] p q = absurd (omega arith)
raised_first-all (suc i) (x ∷ xs) (y ∷ ys) p q = ap (λ l. max x y ∷ l) (raised_first-all i xs ys (omega arith) (omega arith))

-- ---- degrees
max-assoc : (xs ys zs : List ℕ) → exponents_max xs (exponents_max ys zs) ≡ exponents_max (exponents_max xs ys) zs
max-assoc [] ys zs = refl
max-assoc (x ∷ xs) [] zs = refl
max-assoc (x ∷ xs) (y ∷ ys) [] = refl
max-assoc (x ∷ xs) (y ∷ ys) (z ∷ zs) = λ i. (let e : max x (max y z) ≡ max (max x y) z = omega arith in e) i ∷ max-assoc xs ys zs i

pub zeros-left : (n : ℕ) (ys : List ℕ) → length ys ≡ n → exponents_max (replicate n 0) ys ≡ ys
zeros-left zero ys e = refl
zeros-left (suc n) [] e = absurd (omega arith)
zeros-left (suc n) (y ∷ ys) e = λ i. (let h : max 0 y ≡ y = omega arith in h) i ∷ zeros-left n ys (omega arith) i

pub zeros-right : (n : ℕ) (xs : List ℕ) → length xs ≡ n → exponents_max xs (replicate n 0) ≡ xs
zeros-right zero [] e = refl
zeros-right zero (x ∷ xs) e = absurd (omega arith)
zeros-right (suc n) [] e = absurd (omega arith)
zeros-right (suc n) (x ∷ xs) e = λ i. (let h : max x 0 ≡ x = omega arith in h) i ∷ zeros-right n xs (omega arith) i

pub max-length : (n : ℕ) (xs ys : List ℕ) → length xs ≡ n → length ys ≡ n → length (exponents_max xs ys) ≡ n
max-length n [] ys p q = q
max-length n (x ∷ xs) [] p q = p
max-length zero (x ∷ xs) (y ∷ ys) p q = absurd (omega arith)
max-length (suc n) (x ∷ xs) (y ∷ ys) p q = ap suc (max-length n xs ys (omega arith) (omega arith)) ∙ (let e : suc n ≡ suc n = refl in e)

zeros-length : (n : ℕ) → length {A = ℕ} (replicate n 0) ≡ n
zeros-length zero = refl
zeros-length (suc n) = let e = zeros-length n in omega (arith, e)

pub degrees-length : (p : Polynomial) → IsDescending MOST_VARIABLES p → length (degrees_of p) ≡ MOST_VARIABLES
degrees-length [] h = zeros-length MOST_VARIABLES
degrees-length ((es, c) ∷ p) h = max-length MOST_VARIABLES es (degrees_of p) h.0 (degrees-length p h.3)

pub degrees-next : (highest es : List ℕ) (p rest : Polynomial) (c : ℤ) → p ≡ (es, c) ∷ rest → exponents_max (exponents_max highest es) (degrees_of rest) ≡ exponents_max highest (degrees_of p)
degrees-next highest es p rest c e = sym (max-assoc highest es (degrees_of rest)) ∙ ap (λ q. exponents_max highest (degrees_of q)) (sym e)

low-max : (xs ys : List ℕ) → are_low xs ≡ true → are_low ys ≡ true → are_low (exponents_max xs ys) ≡ true
low-max [] ys a b = b
low-max (x ∷ xs) [] a b = a
low-max (x ∷ xs) (y ∷ ys) a b =
    both_true (small x y ((and_parts (nat_le x MOST_DEGREE) (are_low xs) a).0) ((and_parts (nat_le y MOST_DEGREE) (are_low ys) b).0)) (low-max xs ys ((and_parts (nat_le x MOST_DEGREE) (are_low xs) a).1) ((and_parts (nat_le y MOST_DEGREE) (are_low ys) b).1))
  where
    small : (x y : ℕ) → nat_le x MOST_DEGREE ≡ true → nat_le y MOST_DEGREE ≡ true → nat_le (max x y) MOST_DEGREE ≡ true
    small x y a b = grind (arith, nat_tests)

low-zeros : (n : ℕ) → are_low (replicate n 0) ≡ true
low-zeros zero = refl
low-zeros (suc n) = low-zeros n

pub low-degrees : (p : Polynomial) → all_low p ≡ true → are_low (degrees_of p) ≡ true
low-degrees [] e = low-zeros MOST_VARIABLES
low-degrees ((es, c) ∷ p) e = low-max es (degrees_of p) ((and_parts (are_low es) (all_low p) e).0) (low-degrees p ((and_parts (are_low es) (all_low p) e).1))
