-- Words of monomials.
use Rattle.std.proofs.Common.{◌≡◌, ℕ, ◌+◌, ◌*◌, ◌-◌, ◌<◌, ◌≤◌, ◌^◌, zero, suc, List, [], ◌∷◌, length, take, drop, get_or, refl, sym, ◌∙◌, ap, arith}
use Rattle.std.proofs.lemmas.List.{get_or-drop, length-drop}
use Rattle.std.specs.Simd.Lanes.{number_l}
use Rattle.std.specs.Ordering.{nat_cmp, ordering_then}
use Rattle.std.specs.declared.cmp.Ordering.{Ordering}
use Rattle.std.specs.declared.cmp.Ordering.TheVariants.{Less, Equal, Greater}
use Rattle.poly_model.specs.Polynomial.{monomial_cmp, exponents_sum}
use Rattle.poly_model.proofs.Places.{at_end, from_numbers}
use Rattle.polynomials.specs.Keys.{word_at, words_of, word_cmp, word_sums, AreBytes, KeysAreInOrder, KeysOfProducts}

-- ---- parts of lists
take-shorter : (k m : ℕ) (es : List ℕ) → k ≤ m → take k (take m es) ≡ take k es
take-shorter zero m es le = refl
take-shorter (suc k) zero es le = absurd (omega arith)
take-shorter (suc k) (suc m) [] le = refl
take-shorter (suc k) (suc m) (e ∷ es) le = ap (λ l. e ∷ l) (take-shorter k m es (omega arith))

window : (j k m : ℕ) (es : List ℕ) → j + k ≤ m → take k (drop j (take m es)) ≡ take k (drop j es)
window zero k m es le = take-shorter k m es (omega arith)
window (suc j) k zero es le = absurd (omega arith)
window (suc j) k (suc m) [] le = refl
window (suc j) k (suc m) (e ∷ es) le = window j k m es (omega arith)

words-front : (n m : ℕ) (es : List ℕ) → 16 * n ≤ m → words_of n (take m es) ≡ words_of n es
words-front zero m es le = refl
words-front (suc n) m es le =
    (λ i. number_l 256 (window (16 * n) 16 m es (omega arith) i) ∷ words-front n m es (omega arith) i)

length-front : (m : ℕ) (es : List ℕ) → m ≤ length es → length (take m es) ≡ m
length-front zero es le = refl
length-front (suc m) [] le = absurd (omega arith)
length-front (suc m) (e ∷ es) le = ap suc (length-front m es (omega arith))

bytes-drop : (j : ℕ) (es : List ℕ) → AreBytes es → AreBytes (drop j es)
bytes-drop j es p i = rw (get_or-drop j es i 0) (p (j + i))

bytes-take : (m : ℕ) (es : List ℕ) → AreBytes es → AreBytes (take m es)
bytes-take zero es p i = omega arith
bytes-take (suc m) [] p i = omega arith
bytes-take (suc m) (e ∷ es) p zero = p 0
bytes-take (suc m) (e ∷ es) p (suc i) = bytes-take m es (λ j. p (suc j)) i

-- ---- the order
then-equal : (r : Ordering) → ordering_then r Equal ≡ r
then-equal Less = refl
then-equal Equal = refl
then-equal Greater = refl

then-then : (r s t : Ordering) → ordering_then (ordering_then r s) t ≡ ordering_then r (ordering_then s t)
then-then Less s t = refl
then-then Equal s t = refl
then-then Greater s t = refl

-- the places from m on decide before those below
parted : (m : ℕ) (es fs : List ℕ) → length es ≡ length fs → monomial_cmp es fs ≡ ordering_then (monomial_cmp (drop m es) (drop m fs)) (monomial_cmp (take m es) (take m fs))
parted zero es fs same = sym (then-equal (monomial_cmp es fs))
parted (suc m) [] [] same = refl
parted (suc m) [] (f ∷ fs) same = absurd (omega arith)
parted (suc m) (e ∷ es) [] same = absurd (omega arith)
parted (suc m) (e ∷ es) (f ∷ fs) same =
    ap (λ r. ordering_then r (nat_cmp e f)) (parted m es fs (omega arith)) ∙ then-then (monomial_cmp (drop m es) (drop m fs)) (monomial_cmp (take m es) (take m fs)) (nat_cmp e f)

pub in-order : KeysAreInOrder
in-order zero [] [] a b p q = refl
in-order zero [] (f ∷ fs) a b p q = absurd (omega arith)
in-order zero (e ∷ es) fs a b p q = absurd (omega arith)
in-order (suc n) es fs a b p q =
    let m = 16 * n in
    let high : monomial_cmp (drop m es) (drop m fs) ≡ nat_cmp (word_at es m) (word_at fs m) =
    from_numbers (m + 16) m 16 es fs (omega (arith, a, b)) p q refl (at_end (m + 16) es fs (omega (arith, a)) (omega (arith, b))) in
    let low : word_cmp (words_of n es) (words_of n fs) ≡ monomial_cmp (take m es) (take m fs) =
    (λ i. word_cmp (sym (words-front n m es (omega arith)) i) (sym (words-front n m fs (omega arith)) i))
    ∙ in-order n (take m es) (take m fs) (length-front m es (omega (arith, a))) (length-front m fs (omega (arith, b))) (bytes-take m es p) (bytes-take m fs q) in
    (λ i. ordering_then (sym high i) (low i)) ∙ sym (parted m es fs (omega (arith, a, b)))

-- ---- sums
number-sum : (es fs : List ℕ) → length es ≡ length fs → number_l 256 (exponents_sum es fs) ≡ number_l 256 es + number_l 256 fs
number-sum [] [] same = omega arith
number-sum [] (f ∷ fs) same = absurd (omega arith)
number-sum (e ∷ es) [] same = absurd (omega arith)
number-sum (e ∷ es) (f ∷ fs) same = omega (arith, number-sum es fs (omega arith))

take-sum : (k : ℕ) (es fs : List ℕ) → length es ≡ length fs → take k (exponents_sum es fs) ≡ exponents_sum (take k es) (take k fs)
take-sum zero es fs same = refl
take-sum (suc k) [] [] same = refl
take-sum (suc k) [] (f ∷ fs) same = absurd (omega arith)
take-sum (suc k) (e ∷ es) [] same = absurd (omega arith)
take-sum (suc k) (e ∷ es) (f ∷ fs) same = ap (λ l. (e + f) ∷ l) (take-sum k es fs (omega arith))

drop-sum : (j : ℕ) (es fs : List ℕ) → length es ≡ length fs → drop j (exponents_sum es fs) ≡ exponents_sum (drop j es) (drop j fs)
drop-sum zero es fs same = refl
drop-sum (suc j) [] [] same = refl
drop-sum (suc j) [] (f ∷ fs) same = absurd (omega arith)
drop-sum (suc j) (e ∷ es) [] same = absurd (omega arith)
drop-sum (suc j) (e ∷ es) (f ∷ fs) same = drop-sum j es fs (omega arith)

same-take : (k : ℕ) (es fs : List ℕ) → length es ≡ length fs → length (take k es) ≡ length (take k fs)
same-take zero es fs same = refl
same-take (suc k) [] [] same = refl
same-take (suc k) [] (f ∷ fs) same = absurd (omega arith)
same-take (suc k) (e ∷ es) [] same = absurd (omega arith)
same-take (suc k) (e ∷ es) (f ∷ fs) same = ap suc (same-take k es fs (omega arith))

same-drop : (j : ℕ) (es fs : List ℕ) → length es ≡ length fs → length (drop j es) ≡ length (drop j fs)
same-drop j es fs same = length-drop j es ∙ ap (λ n. n - j) same ∙ sym (length-drop j fs)

word-sum : (i : ℕ) (es fs : List ℕ) → length es ≡ length fs → word_at (exponents_sum es fs) i ≡ word_at es i + word_at fs i
word-sum i es fs same =
    ap (λ l. number_l 256 (take 16 l)) (drop-sum i es fs same)
    ∙ ap (number_l 256) (take-sum 16 (drop i es) (drop i fs) (same-drop i es fs same))
    ∙ number-sum (take 16 (drop i es)) (take 16 (drop i fs)) (same-take 16 (drop i es) (drop i fs) (same-drop i es fs same))

words-sum : (n : ℕ) (es fs : List ℕ) → length es ≡ length fs → words_of n (exponents_sum es fs) ≡ word_sums (words_of n es) (words_of n fs)
words-sum zero es fs same = refl
words-sum (suc n) es fs same = λ i. word-sum (16 * n) es fs same i ∷ words-sum n es fs same i

number-fits : (k : ℕ) (es : List ℕ) → AreBytes es → number_l 256 (take k es) < 256 ^ k
number-fits zero es p = omega arith
number-fits (suc k) [] p = omega (arith, number-fits k [] p)
number-fits (suc k) (e ∷ es) p = omega (arith, number-fits k es (λ i. p (suc i)), p 0)

words-fit : (n : ℕ) (es : List ℕ) → AreBytes es → (i : ℕ) → get_or (words_of n es) i 0 < 256 ^ 16
words-fit zero es p i = omega arith
words-fit (suc n) es p zero = number-fits 16 (drop (16 * n) es) (bytes-drop (16 * n) es p)
words-fit (suc n) es p (suc i) = words-fit n es p i

pub of-products : KeysOfProducts
of-products n es fs same = (words-sum n es fs same, words-fit n (exponents_sum es fs))
