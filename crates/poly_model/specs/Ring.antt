-- What follows from the laws of a domain.
use Rattle.std.specs.Prelude.{◌≡◌, ℕ, ◌+◌, ◌*◌, zero, suc, ℤ, pos, negsuc, ◌+ℤ◌, ◌*ℤ◌, neg_ℤ}
use Rattle.std.proofs.Common.{sym, ◌∙◌, ap, arith}
use Rattle.std.proofs.lemmas.Int.{ints}
use borrow.Author.Differences.{up, down, product_is, sum_is_lem}
use Rattle.poly_model.specs.Domain.{Operations, IsCommutativeRing, natural_in, integer_in}

module _ {M : Type 0} {r : Operations M} (L : IsCommutativeRing r) where
  pub zero_add : (x : M) → r.add r.zero x ≡ x
  zero_add x = L.add_comm r.zero x ∙ L.add_zero x

  pub add_left_comm : (x y z : M) → r.add x (r.add y z) ≡ r.add y (r.add x z)
  add_left_comm x y z = sym (L.add_assoc x y z) ∙ ap (λ t. r.add t z) (L.add_comm x y) ∙ L.add_assoc y x z

  pub mul_left_comm : (x y z : M) → r.mul x (r.mul y z) ≡ r.mul y (r.mul x z)
  mul_left_comm x y z = sym (L.mul_assoc x y z) ∙ ap (λ t. r.mul t z) (L.mul_comm x y) ∙ L.mul_assoc y x z

  pub one_mul : (x : M) → r.mul r.one x ≡ x
  one_mul x = L.mul_comm r.one x ∙ L.mul_one x

  pub add_mul : (x y z : M) → r.mul (r.add x y) z ≡ r.add (r.mul x z) (r.mul y z)
  add_mul x y z = L.mul_comm (r.add x y) z ∙ L.mul_add z x y ∙ (λ i. r.add (L.mul_comm z x i) (L.mul_comm z y i))

  -- a summand on both sides goes
  pub cancel : (x y z : M) → r.add x z ≡ r.add y z → x ≡ y
  cancel x y z e =
      let left : r.add (r.add x z) (r.neg z) ≡ x = L.add_assoc x z (r.neg z) ∙ ap (r.add x) (L.add_neg z) ∙ L.add_zero x in
      let right : r.add (r.add y z) (r.neg z) ≡ y = L.add_assoc y z (r.neg z) ∙ ap (r.add y) (L.add_neg z) ∙ L.add_zero y in
      sym left ∙ ap (λ t. r.add t (r.neg z)) e ∙ right

  pub mul_zero : (x : M) → r.mul x r.zero ≡ r.zero
  mul_zero x = cancel (r.mul x r.zero) r.zero (r.mul x r.zero) (sym (L.mul_add x r.zero r.zero) ∙ ap (r.mul x) (L.add_zero r.zero) ∙ sym (zero_add (r.mul x r.zero)))

  pub zero_mul : (x : M) → r.mul r.zero x ≡ r.zero
  zero_mul x = L.mul_comm r.zero x ∙ mul_zero x

  pub neg_add_self : (x : M) → r.add (r.neg x) x ≡ r.zero
  neg_add_self x = L.add_comm (r.neg x) x ∙ L.add_neg x

  abbrev t : ℕ → M
  t n = natural_in r n

  pub natural_add : (m n : ℕ) → t (m + n) ≡ r.add (t m) (t n)
  natural_add zero n = ap t (let e : 0 + n ≡ n = omega arith in e) ∙ sym (zero_add (t n))
  natural_add (suc m) n =
      ap t (let e : suc m + n ≡ suc (m + n) = omega arith in e) ∙ ap (r.add r.one) (natural_add m n) ∙ sym (L.add_assoc r.one (t m) (t n))

  pub natural_mul : (m n : ℕ) → t (m * n) ≡ r.mul (t m) (t n)
  natural_mul zero n = ap t (let e : 0 * n ≡ 0 = omega arith in e) ∙ sym (zero_mul (t n))
  natural_mul (suc m) n =
      ap t (let e : suc m * n ≡ n + m * n = omega arith in e) ∙ natural_add n (m * n)
      ∙ ap (r.add (t n)) (natural_mul m n) ∙ sym (add_mul r.one (t m) (t n) ∙ ap (λ x. r.add x (r.mul (t m) (t n))) (one_mul (t n)))

  abbrev w : ℤ → M
  w = integer_in r

  -- a whole number is the difference of its parts
  pub integer_parts : (z : ℤ) → r.add (w z) (t (down z)) ≡ t (up z)
  integer_parts (pos n) = L.add_zero (t n)
  integer_parts (negsuc n) = neg_add_self (t (suc n))

  pub integer_add : (a b : ℤ) → w (a +ℤ b) ≡ r.add (w a) (w b)
  integer_add a b =
      let s = a +ℤ b in
      let e : r.add (t (up s)) (r.add (t (down a)) (t (down b))) ≡ r.add (t (down s)) (r.add (t (up a)) (t (up b))) =
      ap (r.add (t (up s))) (sym (natural_add (down a) (down b))) ∙ sym (natural_add (up s) (down a + down b)) ∙ ap t (let q : up s + (down a + down b) ≡ down s + (up a + up b) = omega (arith, sum_is_lem a b) in q)
      ∙ natural_add (down s) (up a + up b) ∙ ap (r.add (t (down s))) (natural_add (up a) (up b))
      in
      cancel (w s) (r.add (w a) (w b)) (r.add (t (down s)) (r.add (t (down a)) (t (down b))))
      (simp (L.add_assoc, add_left_comm, L.add_comm) (simp (← integer_parts, L.add_assoc, add_left_comm, L.add_comm) at e))

  pub integer_mul : (a b : ℤ) → w (a *ℤ b) ≡ r.mul (w a) (w b)
  integer_mul a b =
      let p = a *ℤ b in
      let low : t (down p) ≡ r.add (r.mul (t (up a)) (t (down b))) (r.mul (t (down a)) (t (up b))) =
      ap t (product_is a b).1 ∙ natural_add (up a * down b) (down a * up b) ∙ (λ i. r.add (natural_mul (up a) (down b) i) (natural_mul (down a) (up b) i))
      in
      let high : t (up p) ≡ r.add (r.mul (t (up a)) (t (up b))) (r.mul (t (down a)) (t (down b))) =
      ap t (product_is a b).0 ∙ natural_add (up a * up b) (down a * down b) ∙ (λ i. r.add (natural_mul (up a) (up b) i) (natural_mul (down a) (down b) i))
      in
      let e : r.add (w p) (r.add (r.mul (t (up a)) (t (down b))) (r.mul (t (down a)) (t (up b)))) ≡ r.add (r.mul (t (up a)) (t (up b))) (r.mul (t (down a)) (t (down b))) =
      ap (r.add (w p)) (sym low) ∙ integer_parts p ∙ high
      in
      cancel (w p) (r.mul (w a) (w b)) (r.add (r.mul (t (up a)) (t (down b))) (r.mul (t (down a)) (t (up b))))
      (e ∙ simp (← integer_parts, L.mul_add, add_mul, L.add_assoc, add_left_comm, L.add_comm))

  pub integer_neg : (a : ℤ) → w (neg_ℤ a) ≡ r.neg (w a)
  integer_neg a =
      cancel (w (neg_ℤ a)) (r.neg (w a)) (w a)
      (sym (integer_add (neg_ℤ a) a) ∙ ap w (let q : neg_ℤ a +ℤ a ≡ pos 0 = omega (arith, ints) in q) ∙ sym (neg_add_self (w a)))

  pub neg_is_mul : (x : M) → r.neg x ≡ r.mul (w (negsuc 0)) x
  neg_is_mul x =
      cancel (r.neg x) (r.mul (w (negsuc 0)) x) x
      (neg_add_self x ∙ sym (ap (r.add (r.mul (w (negsuc 0)) x)) (sym (one_mul x)) ∙ sym (add_mul (w (negsuc 0)) r.one x)
      ∙ ap (λ y. r.mul y x) (ap (r.add (r.neg (r.add r.one r.zero))) (sym (L.add_zero r.one)) ∙ neg_add_self (r.add r.one r.zero)) ∙ zero_mul x))
