-- The Gaussian integers are a domain.
use Rattle.std.proofs.Common.{◌≡◌, ◌≢◌, ℕ, zero, suc, refl, List, [], ◌∷◌, sym, ◌∙◌, ap, arith, ◌⊎◌, inl, inr}
use Rattle.std.specs.Prelude.{ℤ, pos, negsuc, ◌+ℤ◌, ◌*ℤ◌}
use Rattle.std.proofs.lemmas.Int.{ints}
use borrow.Author.Differences.{up, down, product_is}
use Rattle.poly_model.specs.Domain.{IsCommutativeRing, IsDomain, natural_in, integers, gaussian}
use Rattle.poly_model.specs.Integers.{integers_ring, no_zero_divisors, integers_zero_or_not}
use Rattle.poly_model.specs.Solve.{Expression, Var, Add, Mul, Neg, expanded, meaning_at, solve}

abbrev Pair : Type 0
Pair = ℤ × ℤ

pair : {a b c d : ℤ} → a ≡ c → b ≡ d → ◌≡◌ {A = ℤ × ℤ} (a, b) (c, d)
pair p q i = (p i, q i)

abbrev Two : Type 0
Two = Expression × Expression

abbrev two_mul : Two → Two → Two
two_mul x y = (Add (Mul x.0 y.0) (Neg (Mul x.1 y.1)), Add (Mul x.0 y.1) (Mul x.1 y.0))

abbrev two_add : Two → Two → Two
two_add x y = (Add x.0 y.0, Add x.1 y.1)

abbrev X : Two
X = (Var 0, Var 1)

abbrev Y : Two
Y = (Var 2, Var 3)

abbrev Z : Two
Z = (Var 4, Var 5)

solve_two : (point : List ℤ) (a b : Two) → expanded a.0 ≡ expanded b.0 → expanded a.1 ≡ expanded b.1
    → ◌≡◌ {A = ℤ × ℤ} (meaning_at integers point a.0, meaning_at integers point a.1) (meaning_at integers point b.0, meaning_at integers point b.1)
solve_two point a b p q = pair (solve integers_ring point a.0 b.0 p) (solve integers_ring point a.1 b.1 q)

norm : ℤ × ℤ → ℤ
norm x = x.0 *ℤ x.0 +ℤ x.1 *ℤ x.1

square_not_negative : (a : ℤ) → down (a *ℤ a) ≡ 0
square_not_negative (pos n) = omega (arith, product_is (pos n) (pos n))
square_not_negative (negsuc n) = omega (arith, product_is (negsuc n) (negsuc n))

-- a sum of squares is zero only where both are
norm_nil : (x : ℤ × ℤ) → norm x ≡ pos 0 → x ≡ (pos 0, pos 0)
unfolding norm
norm_nil x e =
    let first : x.0 *ℤ x.0 ≡ pos 0 = omega (arith, ints, square_not_negative x.0, square_not_negative x.1, e) in
    let second : x.1 *ℤ x.1 ≡ pos 0 = omega (arith, ints, square_not_negative x.0, square_not_negative x.1, e) in
    pair (elim (no_zero_divisors x.0 x.0 first) [ inl h ↦ h | inr h ↦ h ]) (elim (no_zero_divisors x.1 x.1 second) [ inl h ↦ h | inr h ↦ h ])

norm_mul : (x y : ℤ × ℤ) → norm (gaussian.mul x y) ≡ norm x *ℤ norm y
unfolding norm
norm_mul x y =
    let n : Two → Expression = λ z. Add (Mul z.0 z.0) (Mul z.1 z.1) in
    solve integers_ring (x.0 ∷ x.1 ∷ y.0 ∷ y.1 ∷ []) (n (two_mul X Y)) (Mul (n X) (n Y)) refl

gaussian_no_zero_divisors : (x y : ℤ × ℤ) → gaussian.mul x y ≡ (pos 0, pos 0) → (x ≡ (pos 0, pos 0)) ⊎ (y ≡ (pos 0, pos 0))
unfolding norm
gaussian_no_zero_divisors x y e =
    elim (no_zero_divisors (norm x) (norm y) (sym (norm_mul x y) ∙ ap norm e)) [ inl h ↦ inl (norm_nil x h) | inr h ↦ inr (norm_nil y h) ]

times_one_pair : (n : ℕ) → natural_in gaussian n ≡ (pos n, pos 0)
times_one_pair zero = refl
times_one_pair (suc n) = ap (gaussian.add (pos 1, pos 0)) (times_one_pair n) ∙ pair (omega (arith, ints)) refl

gaussian_characteristic_zero : (n : ℕ) → natural_in gaussian (suc n) ≢ (pos 0, pos 0)
gaussian_characteristic_zero n e = let h : suc n ≡ 0 = ap (λ (z : ℤ × ℤ). up z.0) (sym (times_one_pair (suc n)) ∙ e) in absurd (omega (arith, h))

pub gaussian_ring : IsCommutativeRing gaussian
gaussian_ring = record {
  add_assoc = λ x y z. pair (omega (arith, ints)) (omega (arith, ints));
  add_comm = λ x y. pair (omega (arith, ints)) (omega (arith, ints));
  add_zero = λ x. pair (omega (arith, ints)) (omega (arith, ints));
  add_neg = λ x. pair (omega (arith, ints)) (omega (arith, ints));
  mul_assoc = λ x y z. solve_two (x.0 ∷ x.1 ∷ y.0 ∷ y.1 ∷ z.0 ∷ z.1 ∷ []) (two_mul (two_mul X Y) Z) (two_mul X (two_mul Y Z)) refl refl;
  mul_comm = λ x y. solve_two (x.0 ∷ x.1 ∷ y.0 ∷ y.1 ∷ []) (two_mul X Y) (two_mul Y X) refl refl;
  mul_one = λ x. pair (omega (arith, ints)) (omega (arith, ints));
  mul_add = λ x y z. solve_two (x.0 ∷ x.1 ∷ y.0 ∷ y.1 ∷ z.0 ∷ z.1 ∷ []) (two_mul X (two_add Y Z)) (two_add (two_mul X Y) (two_mul X Z)) refl refl;
}

pub gaussian_domain : IsDomain gaussian
gaussian_domain = record {
  ring = gaussian_ring;
  one_not_zero = λ e. let h : 1 ≡ 0 = ap (λ (z : ℤ × ℤ). up z.0) e in absurd (omega (arith, h));
  no_zero_divisors = gaussian_no_zero_divisors;
  characteristic_zero = gaussian_characteristic_zero;
}

pub gaussian_zero_or_not : (x : ℤ × ℤ) → (x ≡ (pos 0, pos 0)) ⊎ (x ≢ (pos 0, pos 0))
gaussian_zero_or_not x =
    elim (integers_zero_or_not x.0) [
      | inr n ↦ inr (λ e. n (ap (λ (z : ℤ × ℤ). z.0) e))
      | inl p ↦ elim (integers_zero_or_not x.1) [
        | inr n ↦ inr (λ e. n (ap (λ (z : ℤ × ℤ). z.1) e))
        | inl q ↦ inl (pair p q)
      ]
    ]
