-- Exponents that are added place by place.
use Rattle.std.proofs.Common.{◌≡◌, ◌+◌, ◌<◌, ◌≤◌, ℕ, zero, suc, List, [], ◌∷◌, length, get_or, set, refl, ap, arith, nat_le, IsTrue}
use Rattle.std.proofs.lemmas.Bool.{and_parts}
use Rattle.std.proofs.lemmas.Bool.Decides.{nat_tests}
use Rattle.poly_model.specs.Polynomial.{exponents_sum}
use Rattle.poly_model.specs.Standard.{are_low}
use Rattle.poly_model.specs.declared.limits.TheConstants.{MOST_DEGREE}

pub low-at : (es : List ℕ) (i : ℕ) → IsTrue (are_low es) → get_or es i 0 ≤ MOST_DEGREE
low-at [] i low = omega arith
low-at (e ∷ es) zero low = grind (arith, nat_tests)
low-at (e ∷ es) (suc i) low = low-at es i (and_parts (nat_le e MOST_DEGREE) (are_low es) low).1

-- The first i exponents are added.
abbrev pub added_first : ℕ → List ℕ → List ℕ → List ℕ
added_first zero xs ys = xs
added_first (suc i) [] ys = []
added_first (suc i) (x ∷ xs) [] = x ∷ xs
added_first (suc i) (x ∷ xs) (y ∷ ys) = (x + y) ∷ added_first i xs ys

pub added_first-at : (i : ℕ) (xs ys : List ℕ) → length xs ≡ length ys → get_or (added_first i xs ys) i 0 ≡ get_or xs i 0
added_first-at zero xs ys same = refl
added_first-at (suc i) [] ys same = refl
added_first-at (suc i) (x ∷ xs) [] same = absurd (omega arith)
added_first-at (suc i) (x ∷ xs) (y ∷ ys) same = added_first-at i xs ys (omega arith)

pub added_first-more : (i : ℕ) (xs ys : List ℕ) → i < length xs → length xs ≡ length ys
    → set (added_first i xs ys) i (get_or (added_first i xs ys) i 0 + get_or ys i 0) ≡ added_first (suc i) xs ys
added_first-more i [] ys below same = absurd (omega arith)
added_first-more i (x ∷ xs) [] below same = absurd (omega arith)
added_first-more zero (x ∷ xs) (y ∷ ys) below same = refl
added_first-more (suc i) (x ∷ xs) (y ∷ ys) below same = ap (λ l. (x + y) ∷ l) (added_first-more i xs ys (omega arith) (omega arith))

pub added_first-all : (i : ℕ) (xs ys : List ℕ) → length xs ≡ i → length ys ≡ i → added_first i xs ys ≡ exponents_sum xs ys
added_first-all zero [] [] p q = refl
added_first-all zero (x ∷ xs) ys p q = absurd (omega arith)
added_first-all zero [] (y ∷ ys) p q = absurd (omega arith)
added_first-all (suc i) [] ys p q = absurd (omega arith)
added_first-all (suc i) (x ∷ xs) [] p q = absurd (omega arith)
added_first-all (suc i) (x ∷ xs) (y ∷ ys) p q = ap (λ l. (x + y) ∷ l) (added_first-all i xs ys (omega arith) (omega arith))
