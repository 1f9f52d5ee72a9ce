-- Integral domains of characteristic zero.
use Rattle.std.specs.Prelude.{◌≡◌, ◌≢◌, ℕ, ◌⊎◌, zero, suc, ℤ, pos, negsuc, ◌+ℤ◌, ◌*ℤ◌, neg_ℤ}

-- The operations on members of M.
pub record Operations (M : Type 0) : Type 0 where
  pub zero : M
  pub one : M
  pub add : M → M → M
  pub mul : M → M → M
  pub neg : M → M

-- n times one.
abbrev pub natural_in : {M : Type 0} → Operations M → ℕ → M
natural_in o zero = o.zero
natural_in o (suc n) = o.add o.one (natural_in o n)

-- A whole number times one.
abbrev pub integer_in : {M : Type 0} → Operations M → ℤ → M
integer_in o (pos n) = natural_in o n
integer_in o (negsuc n) = o.neg (natural_in o (suc n))

-- The laws of a commutative ring.
pub record IsCommutativeRing {M : Type 0} (o : Operations M) : Type 0 where
  pub add_assoc : (x y z : M) → o.add (o.add x y) z ≡ o.add x (o.add y z)
  pub add_comm : (x y : M) → o.add x y ≡ o.add y x
  pub add_zero : (x : M) → o.add x o.zero ≡ x
  pub add_neg : (x : M) → o.add x (o.neg x) ≡ o.zero
  pub mul_assoc : (x y z : M) → o.mul (o.mul x y) z ≡ o.mul x (o.mul y z)
  pub mul_comm : (x y : M) → o.mul x y ≡ o.mul y x
  pub mul_one : (x : M) → o.mul x o.one ≡ x
  pub mul_add : (x y z : M) → o.mul x (o.add y z) ≡ o.add (o.mul x y) (o.mul x z)

-- The laws of an integral domain of characteristic zero: a commutative ring in which one is not zero, a product is zero
-- only where a factor is, and n times one is not zero for each n of at least 1.
pub record IsDomain {M : Type 0} (o : Operations M) : Type 0 where
  pub ring : IsCommutativeRing o
  pub one_not_zero : o.one ≢ o.zero
  pub no_zero_divisors : (x y : M) → o.mul x y ≡ o.zero → (x ≡ o.zero) ⊎ (y ≡ o.zero)
  pub characteristic_zero : (n : ℕ) → natural_in o (suc n) ≢ o.zero

-- Each member is zero or is not zero.
abbrev pub ZeroOrNot : {M : Type 0} → Operations M → Type 0
ZeroOrNot {M} o = (x : M) → (x ≡ o.zero) ⊎ (x ≢ o.zero)

-- The whole numbers, with their operations.
abbrev pub integers : Operations ℤ
integers = record { zero = pos 0; one = pos 1; add = ◌+ℤ◌; mul = ◌*ℤ◌; neg = neg_ℤ }

-- The Gaussian integers, with their operations: the pair (a, b) is a + b*i.
abbrev pub gaussian : Operations (ℤ × ℤ)
gaussian = record {
  zero = (pos 0, pos 0);
  one = (pos 1, pos 0);
  add = λ x y. (x.0 +ℤ y.0, x.1 +ℤ y.1);
  mul = λ x y. (x.0 *ℤ y.0 +ℤ neg_ℤ (x.1 *ℤ y.1), x.0 *ℤ y.1 +ℤ x.1 *ℤ y.0);
  neg = λ x. (neg_ℤ x.0, neg_ℤ x.1);
}
