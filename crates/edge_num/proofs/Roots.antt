-- Whole square roots.
use Rattle.std.proofs.Common.{◌≡◌, ℕ, zero, suc, ◌+◌, ◌*◌, ◌≤◌, ◌<◌, Bool, true, false, nat_le, arith, refl, ◌⊎◌, inl, inr, cond}
use Rattle.std.proofs.Math.Nat.{mul-le-mul_left}
use Rattle.std.proofs.lemmas.Bool.Decides.{nat_tests}
use Rattle.edge_num.specs.Roots.{root, IsRoot, RootIsTheOne}

square-grows : (a b : ℕ) → a ≤ b → a * a ≤ b * b
square-grows a b le = omega (arith, mul-le-mul_left {m = a} {n = b} a le, mul-le-mul_left {m = a} {n = b} b le)

-- a number whose square is at most that of another is at most the other
below-sides : (a b : ℕ) → a * a < (b + 1) * (b + 1) → (a ≤ b) ⊎ (b + 1 ≤ a) → a ≤ b
below-sides a b lt (inl le) = le
below-sides a b lt (inr ge) = absurd (omega (arith, lt, square-grows (b + 1) a ge))

pub below-root : (a b : ℕ) → a * a < (b + 1) * (b + 1) → a ≤ b
below-root a b lt = below-sides a b lt (grind arith)

stepped : (r n : ℕ) (b : Bool) → nat_le ((r + 1) * (r + 1)) (suc n) ≡ b → IsRoot n r → IsRoot (suc n) (cond b (r + 1) r)
stepped r n true e h = (grind (arith, nat_tests), omega (arith, h.1))
stepped r n false e h = (omega (arith, h.0), grind (arith, nat_tests))

pub root-is : (n : ℕ) → IsRoot n (root n)
unfolding root
root-is zero = (omega arith, omega arith)
root-is (suc n) = stepped (root n) n (nat_le ((root n + 1) * (root n + 1)) (suc n)) refl (root-is n)

pub same-root : (n r s : ℕ) → IsRoot n r → IsRoot n s → r ≡ s
same-root n r s p q = omega (arith, below-root r s (omega (arith, p.0, q.1)), below-root s r (omega (arith, q.0, p.1)))

pub the-one : RootIsTheOne
the-one n = (root-is n, λ r h. same-root n r (root n) h (root-is n))

pub is_root : (n r : ℕ) → r * r ≤ n → n < (r + 1) * (r + 1) → r ≡ root n
is_root n r p q = same-root n r (root n) (p, q) (root-is n)

-- the root of a number of a known size
pub root-below : (n k : ℕ) → n ≤ k * k → root n ≤ k
root-below n k le = below-root (root n) k (omega (arith, (root-is n).0, le))

pub root_below_radius : (n : ℕ) → n ≤ 80000000000000000 → root n ≤ 400000000
root_below_radius n le = root-below n 400000000 (omega (arith, le))
