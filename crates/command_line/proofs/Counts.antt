-- The number of workers that a word tells, one number after the other.
use Rattle.std.proofs.Common.{◌≡◌, ◌+◌, ◌<◌, ℕ, zero, suc, List, Some, true, false, cond, ap, ◌∙◌, arith}
use Rattle.std.specs.Prelude.{decimal}
use Rattle.std.specs.Str.{bytes_eq}
use Rattle.command_line.specs.Table.{number_in}

-- the word tells the first of these numbers
pub told_first : (n k : ℕ) (word : List ℕ) → 0 < n → bytes_eq (decimal k) word ≡ true → number_in n k word ≡ Some k
unfolding number_in
told_first zero k word some hit = absurd (omega arith)
told_first (suc n) k word some hit = ap (λ b. cond b (Some k) (number_in n (k + 1) word)) hit

-- it tells another
pub told_later : (n m k : ℕ) (word : List ℕ) → n ≡ m + 1 → bytes_eq (decimal k) word ≡ false → number_in n k word ≡ number_in m (k + 1) word
unfolding number_in
told_later zero m k word e miss = absurd (omega arith)
told_later (suc n) m k word e miss =
    let same : n ≡ m = omega arith in
    ap (λ b. cond b (Some k) (number_in n (k + 1) word)) miss ∙ ap (λ i. number_in i (k + 1) word) same
