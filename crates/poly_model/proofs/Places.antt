-- Comparing from the last place down.
use Rattle.std.proofs.Common.{◌≡◌, ◌≢◌, ℕ, ◌+◌, ◌*◌, ◌-◌, ◌<◌, zero, suc, List, [], ◌∷◌, length, drop, get_or, refl, sym, ◌∙◌, ap, subst, arith, take}
use Rattle.std.proofs.lemmas.List.{get_or-drop, length-drop, drop-drop}
use Rattle.std.specs.Cmp.{nat_cmp_is, ranked}
use Rattle.std.specs.Simd.Lanes.{number_l}
use Rattle.std.specs.Ordering.{nat_cmp, ordering_then}
use Rattle.std.specs.declared.cmp.Ordering.{Ordering}
use Rattle.std.specs.declared.cmp.Ordering.TheVariants.{Less, Equal, Greater}
use Rattle.poly_model.specs.Polynomial.{monomial_cmp}

-- what the places from i on tell, all places tell, unless they are equal there
pub outer : (i : ℕ) (xs ys : List ℕ) (r : Ordering) → length xs ≡ length ys → r ≢ Equal → monomial_cmp (drop i xs) (drop i ys) ≡ r → monomial_cmp xs ys ≡ r
outer zero xs ys r same n e = e
outer (suc i) [] [] r same n e = e
outer (suc i) [] (y ∷ ys) r same n e = absurd (omega arith)
outer (suc i) (x ∷ xs) [] r same n e = absurd (omega arith)
outer (suc i) (x ∷ xs) (y ∷ ys) r same n e =
    let rest : monomial_cmp xs ys ≡ r = outer i xs ys r (omega arith) n e in
    ap (λ s. ordering_then s (nat_cmp x y)) rest ∙ then_not r n (nat_cmp x y)
  where
    then_not : (r : Ordering) → r ≢ Equal → (s : Ordering) → ordering_then r s ≡ r
    then_not Less n s = refl
    then_not Equal n s = absurd (n refl)
    then_not Greater n s = refl

-- nothing is left past the end
pub at_end : (n : ℕ) (xs ys : List ℕ) → length xs ≡ n → length ys ≡ n → monomial_cmp (drop n xs) (drop n ys) ≡ Equal
at_end zero [] [] p q = refl
at_end zero (x ∷ xs) ys p q = absurd (omega arith)
at_end zero [] (y ∷ ys) p q = absurd (omega arith)
at_end (suc n) [] ys p q = absurd (omega arith)
at_end (suc n) (x ∷ xs) [] p q = absurd (omega arith)
at_end (suc n) (x ∷ xs) (y ∷ ys) p q = at_end n xs ys (omega arith) (omega arith)

-- an exponent in front weighs less than all behind it
weighed : (x y n m : ℕ) → x < 256 → y < 256 → ordering_then (nat_cmp n m) (nat_cmp x y) ≡ nat_cmp (x + 256 * n) (y + 256 * m)
weighed x y n m p q =
    elim (nat_cmp n m) as (λ r. r ≡ nat_cmp n m → ordering_then r (nat_cmp x y) ≡ nat_cmp (x + 256 * n) (y + 256 * m)) [
      | Less ↦ λ e. let h : n < m = ranked n m Less e in nat_cmp_is (x + 256 * n) (y + 256 * m) Less (omega arith)
      | Equal ↦ λ e. let h : n ≡ m = ranked n m Equal e in
          elim (nat_cmp x y) as (λ r. r ≡ nat_cmp x y → r ≡ nat_cmp (x + 256 * n) (y + 256 * m)) [
            | Less ↦ λ d. let k : x < y = ranked x y Less d in nat_cmp_is (x + 256 * n) (y + 256 * m) Less (omega arith)
            | Equal ↦ λ d. let k : x ≡ y = ranked x y Equal d in nat_cmp_is (x + 256 * n) (y + 256 * m) Equal (omega arith)
            | Greater ↦ λ d. let k : y < x = ranked x y Greater d in nat_cmp_is (x + 256 * n) (y + 256 * m) Greater (omega arith)
          ] refl
      | Greater ↦ λ e. let h : m < n = ranked n m Greater e in nat_cmp_is (x + 256 * n) (y + 256 * m) Greater (omega arith)
    ] refl

abbrev pub AreBytes : List ℕ → Type 0
AreBytes xs = (i : ℕ) → get_or xs i 0 < 256

-- the first places compare as their numbers do, where the rest is equal
numbered : (n : ℕ) (xs ys : List ℕ) → length xs ≡ length ys → AreBytes xs → AreBytes ys → monomial_cmp (drop n xs) (drop n ys) ≡ Equal
    → monomial_cmp xs ys ≡ nat_cmp (number_l 256 (take n xs)) (number_l 256 (take n ys))
numbered zero xs ys same p q e = e
numbered (suc n) [] [] same p q e = refl
numbered (suc n) [] (y ∷ ys) same p q e = absurd (omega arith)
numbered (suc n) (x ∷ xs) [] same p q e = absurd (omega arith)
numbered (suc n) (x ∷ xs) (y ∷ ys) same p q e =
    ap (λ r. ordering_then r (nat_cmp x y)) (numbered n xs ys (omega arith) (λ i. p (suc i)) (λ i. q (suc i)) e)
    ∙ weighed x y (number_l 256 (take n xs)) (number_l 256 (take n ys)) (p 0) (q 0)

from_place : (j : ℕ) (xs : List ℕ) → AreBytes xs → AreBytes (drop j xs)
from_place j xs p i = rw (get_or-drop j xs i 0) (p (j + i))

-- the places from j on, of which those from i on are equal, compare as the numbers of the n between
pub from_numbers : (i j n : ℕ) (xs ys : List ℕ) → length xs ≡ length ys → AreBytes xs → AreBytes ys → j + n ≡ i → monomial_cmp (drop i xs) (drop i ys) ≡ Equal
    → monomial_cmp (drop j xs) (drop j ys) ≡ nat_cmp (number_l 256 (take n (drop j xs))) (number_l 256 (take n (drop j ys)))
from_numbers i j n xs ys same p q step e =
    numbered n (drop j xs) (drop j ys) (rw (length-drop j xs, length-drop j ys) (ap (λ k. k - j) same)) (from_place j xs p) (from_place j ys q)
    (rw (drop-drop n j xs, drop-drop n j ys) (subst (λ k. monomial_cmp (drop k xs) (drop k ys) ≡ Equal) (sym step) e))

-- numbers that differ, below equal places, decide
pub decided : (i j n : ℕ) (xs ys : List ℕ) (r : Ordering) → length xs ≡ length ys → AreBytes xs → AreBytes ys → j + n ≡ i → monomial_cmp (drop i xs) (drop i ys) ≡ Equal
    → r ≡ nat_cmp (number_l 256 (take n (drop j xs))) (number_l 256 (take n (drop j ys))) → number_l 256 (take n (drop j xs)) ≢ number_l 256 (take n (drop j ys))
    → r ≡ monomial_cmp xs ys
decided i j n xs ys r same p q step e at differs =
    sym (outer j xs ys r same (λ h. differs (ranked _ _ Equal (sym h ∙ at))) (from_numbers i j n xs ys same p q step e ∙ sym at))
