-- Sizes of rounded quotients.
use Rattle.std.proofs.Common.{◌⊎◌, inl, inr, ℕ, zero, suc, ◌*◌, ◌≤◌, ◌<◌, arith}
use Rattle.std.specs.Prelude.{ℤ, pos, negsuc, ◌*ℤ◌, neg_ℤ, ◌<ℤ◌, ◌≤ℤ◌, unsigned_abs}
use Rattle.std.proofs.lemmas.Int.{ints}
use Rattle.edge_num.specs.Numbers.{nearest, IsNearest}
use Rattle.edge_num.proofs.Nearest.{nearest_is_near, apart}

or-above : (a b : ℤ) → (a ≤ℤ b) ⊎ (b <ℤ a)
or-above a b = grind (arith, ints)

most-of : (n d k q : ℤ) → pos 0 <ℤ d → n ≤ℤ (k *ℤ d) → IsNearest n d q → (q ≤ℤ k) ⊎ (k <ℤ q) → q ≤ℤ k
most-of n d k q h le near (inl done) = done
most-of n d k q h le near (inr gt) = absurd (omega (arith, ints, h, le, near.0, apart k q d h gt))

least-of : (n d k q : ℤ) → pos 0 <ℤ d → (k *ℤ d) ≤ℤ n → IsNearest n d q → (k ≤ℤ q) ⊎ (q <ℤ k) → k ≤ℤ q
least-of n d k q h le near (inl done) = done
least-of n d k q h le near (inr lt) = absurd (omega (arith, ints, h, le, near.1, apart q k d h lt))

-- A quotient that is at most k is rounded to at most k.
pub nearest-most : (n d k : ℤ) → pos 0 <ℤ d → n ≤ℤ (k *ℤ d) → nearest n d ≤ℤ k
nearest-most n d k h le = most-of n d k _ h le (nearest_is_near n d h) (or-above _ _)

-- A quotient that is at least k is rounded to at least k.
pub nearest-least : (n d k : ℤ) → pos 0 <ℤ d → (k *ℤ d) ≤ℤ n → k ≤ℤ nearest n d
nearest-least n d k h le = least-of n d k _ h le (nearest_is_near n d h) (or-above _ _)

low-side : (n : ℤ) (d k : ℕ) → unsigned_abs n ≤ k * d → (neg_ℤ (pos k) *ℤ pos d) ≤ℤ n
low-side (pos n) d zero le = omega (arith, ints)
low-side (negsuc n) d zero le = absurd (omega (arith, le))
low-side (pos n) d (suc k) le = omega (arith, ints)
low-side (negsuc n) d (suc k) le = omega (arith, ints, le)

high-side : (n : ℤ) (d k : ℕ) → unsigned_abs n ≤ k * d → n ≤ℤ (pos k *ℤ pos d)
high-side (pos n) d k le = omega (arith, ints, le)
high-side (negsuc n) d k le = omega (arith, ints)

between : (q : ℤ) (k : ℕ) → neg_ℤ (pos k) ≤ℤ q → q ≤ℤ pos k → unsigned_abs q ≤ k
between q k low high = omega (arith, ints, low, high)

nearest_within_pos : (n : ℤ) (d k : ℕ) → 0 < d → unsigned_abs n ≤ k * d → unsigned_abs (nearest n (pos d)) ≤ k
nearest_within_pos n d k h le =
    let p : pos 0 <ℤ pos d = omega (arith, ints, h) in
    between (nearest n (pos d)) k (nearest-least n (pos d) (neg_ℤ (pos k)) p (low-side n d k le)) (nearest-most n (pos d) (pos k) p (high-side n d k le))

-- A quotient whose size is at most k is rounded to one whose size is at most k.
pub nearest_within : (n d : ℤ) (k : ℕ) → pos 0 <ℤ d → unsigned_abs n ≤ k * unsigned_abs d → unsigned_abs (nearest n d) ≤ k
nearest_within n (pos d) k h le = nearest_within_pos n d k (omega (arith, ints, h)) le
nearest_within n (negsuc d) k h le = absurd (omega (arith, ints, h))
