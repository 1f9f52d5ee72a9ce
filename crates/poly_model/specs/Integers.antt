-- The whole numbers are a domain.
use Rattle.std.specs.Prelude.{◌≡◌, ◌≢◌, ℕ, ◌+◌, ◌*◌, ◌⊎◌, zero, suc, ℤ, pos, negsuc, ◌+ℤ◌, ◌*ℤ◌, neg_ℤ, refl}
use Rattle.std.proofs.Common.{sym, ◌∙◌, ap, inl, inr, arith}
use Rattle.std.proofs.lemmas.Int.{ints}
use borrow.Author.Differences.{up, down, same_in, product_is, sum_is_lem}
use Rattle.poly_model.specs.Domain.{IsCommutativeRing, IsDomain, natural_in, integers}

up_mul : (a b : ℤ) → up (a *ℤ b) ≡ up a * up b + down a * down b
up_mul a b = (product_is a b).0

down_mul : (a b : ℤ) → down (a *ℤ b) ≡ up a * down b + down a * up b
down_mul a b = (product_is a b).1

pub add_assoc : (x y z : ℤ) → (x +ℤ y) +ℤ z ≡ x +ℤ (y +ℤ z)
add_assoc x y z = omega (arith, ints)

pub add_comm : (x y : ℤ) → x +ℤ y ≡ y +ℤ x
add_comm x y = omega (arith, ints)

pub mul_assoc : (x y z : ℤ) → (x *ℤ y) *ℤ z ≡ x *ℤ (y *ℤ z)
mul_assoc x y z = same_in _ _ (simp (up_mul, down_mul) (omega arith))

pub mul_comm : (x y : ℤ) → x *ℤ y ≡ y *ℤ x
mul_comm x y = omega (arith, ints)

pub mul_add : (x y z : ℤ) → x *ℤ (y +ℤ z) ≡ x *ℤ y +ℤ x *ℤ z
mul_add x y z = omega (arith, ints, ap (λ n. up x * n) (sum_is_lem y z), ap (λ n. down x * n) (sum_is_lem y z))

pub mul_one : (x : ℤ) → x *ℤ pos 1 ≡ x
mul_one x = omega (arith, ints)

pub add_neg : (x : ℤ) → x +ℤ neg_ℤ x ≡ pos 0
add_neg x = omega (arith, ints)

pub no_zero_divisors : (x y : ℤ) → x *ℤ y ≡ pos 0 → (x ≡ pos 0) ⊎ (y ≡ pos 0)
no_zero_divisors (pos zero) y e = inl refl
no_zero_divisors x (pos zero) e = inr refl
no_zero_divisors (pos (suc a)) (pos (suc b)) e = absurd (let h : suc a * suc b ≡ 0 = ap up e in omega (arith, h))
no_zero_divisors (pos (suc a)) (negsuc b) e = absurd (omega (arith, sym (down_mul (pos (suc a)) (negsuc b)) ∙ ap down e))
no_zero_divisors (negsuc a) (pos (suc b)) e = absurd (omega (arith, sym (down_mul (negsuc a) (pos (suc b))) ∙ ap down e))
no_zero_divisors (negsuc a) (negsuc b) e = absurd (let h : suc a * suc b ≡ 0 = ap up e in omega (arith, h))

pub natural_in_integers : (n : ℕ) → natural_in integers n ≡ pos n
natural_in_integers zero = refl
natural_in_integers (suc n) = omega (arith, ints, natural_in_integers n)

characteristic_zero : (n : ℕ) → natural_in integers (suc n) ≢ pos 0
characteristic_zero n e = let h : suc n ≡ 0 = ap up (sym (natural_in_integers (suc n)) ∙ e) in absurd (omega (arith, h))

pub integers_ring : IsCommutativeRing integers
integers_ring = record {
  add_assoc = add_assoc;
  add_comm = add_comm;
  add_zero = λ x. omega (arith, ints);
  add_neg = add_neg;
  mul_assoc = mul_assoc;
  mul_comm = mul_comm;
  mul_one = mul_one;
  mul_add = mul_add;
}

pub integers_domain : IsDomain integers
integers_domain = record {
  ring = integers_ring;
  one_not_zero = λ e. cc;
  no_zero_divisors = no_zero_divisors;
  characteristic_zero = characteristic_zero;
}

pub integers_zero_or_not : (x : ℤ) → (x ≡ pos 0) ⊎ (x ≢ pos 0)
integers_zero_or_not (pos zero) = inl refl
integers_zero_or_not (pos (suc n)) = inr (λ e. let h : suc n ≡ 0 = ap up e in omega (arith, h))
integers_zero_or_not (negsuc n) = inr (λ e. cc)
