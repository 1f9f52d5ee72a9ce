-- Sizes of products.
use Rattle.std.proofs.Common.{ℕ, ◌*◌, ◌≤◌, arith}
use Rattle.std.proofs.Math.Nat.{mul-le-mul_left}
use Rattle.std.specs.Prelude.{ℤ, ◌*ℤ◌, unsigned_abs}
use Rattle.std.proofs.lemmas.Int.{unsigned_abs-mul}

-- A product of lesser factors is at most that of greater ones.
pub product-below : (m n a b : ℕ) → m ≤ a → n ≤ b → m * n ≤ a * b
product-below m n a b p q = omega (arith, mul-le-mul_left {m = m} {n = a} n p, mul-le-mul_left {m = n} {n = b} a q)

-- The size of a product is at most the product of what the sizes are at most.
pub size-within : (x y : ℤ) (a b : ℕ) → unsigned_abs x ≤ a → unsigned_abs y ≤ b → unsigned_abs (x *ℤ y) ≤ a * b
size-within x y a b p q = omega (arith, unsigned_abs-mul x y, product-below (unsigned_abs x) (unsigned_abs y) a b p q)
