-- Monomials as words, for any number of variables.
use Rattle.std.specs.Prelude.{◌≡◌, ◌<◌, ℕ, zero, suc, ◌+◌, ◌*◌, ◌^◌, List, [], ◌∷◌, length, take, drop, get_or}
use Rattle.std.specs.Simd.Lanes.{number_l}
use Rattle.std.specs.Ordering.{nat_cmp, ordering_then}
use Rattle.std.specs.declared.cmp.Ordering.{Ordering}
use Rattle.std.specs.declared.cmp.Ordering.TheVariants.{Less, Equal, Greater}
use Rattle.poly_model.specs.Polynomial.{monomial_cmp, exponents_sum}

-- Sixteen exponents as one number, the last one weighing most.
abbrev pub word_at : List ℕ → ℕ → ℕ
word_at es i = number_l 256 (take 16 (drop i es))

-- The n words of a monomial, the greatest variables first.
abbrev pub words_of : ℕ → List ℕ → List ℕ
words_of zero es = []
words_of (suc n) es = word_at es (16 * n) ∷ words_of n es

-- The first words that differ decide.
abbrev pub word_cmp : List ℕ → List ℕ → Ordering
word_cmp [] [] = Equal
word_cmp [] (w ∷ ws) = Less
word_cmp (v ∷ vs) [] = Greater
word_cmp (v ∷ vs) (w ∷ ws) = ordering_then (nat_cmp v w) (word_cmp vs ws)

abbrev pub word_sums : List ℕ → List ℕ → List ℕ
word_sums [] ws = ws
word_sums (v ∷ vs) [] = v ∷ vs
word_sums (v ∷ vs) (w ∷ ws) = (v + w) ∷ word_sums vs ws

abbrev pub AreBytes : List ℕ → Type 0
AreBytes es = (i : ℕ) → get_or es i 0 < 256

-- The order of keys is that of monomials.
abbrev pub KeysAreInOrder : Type 0
KeysAreInOrder = (n : ℕ) (es fs : List ℕ) → length es ≡ 16 * n → length fs ≡ 16 * n → AreBytes es → AreBytes fs → word_cmp (words_of n es) (words_of n fs) ≡ monomial_cmp es fs

-- The words of a product are the sums of the words; each fits where its exponents are bytes.
abbrev pub KeysOfProducts : Type 0
KeysOfProducts = (n : ℕ) (es fs : List ℕ) → length es ≡ length fs
    → (words_of n (exponents_sum es fs) ≡ word_sums (words_of n es) (words_of n fs)) × (AreBytes (exponents_sum es fs) → (i : ℕ) → get_or (words_of n (exponents_sum es fs)) i 0 < 256 ^ 16)
