-- Ring identities, decided by computing both sides as polynomials: `solve laws point a b refl` proves that the
-- expressions a and b mean the same in every commutative ring, where they have the same polynomial. `Var i` is the i-th
-- member of the point.
use Rattle.std.proofs.Common.{◌≡◌, ℕ, zero, suc, refl, List, [], ◌∷◌, get_or, sym, ◌∙◌, ap}
use Rattle.std.specs.Prelude.{ℤ, pos, negsuc}
use Rattle.poly_model.specs.Domain.{Operations, IsCommutativeRing, integer_in}
use Rattle.poly_model.specs.Ring as ring
use Rattle.poly_model.specs.Polynomial.{Polynomial, monomial_at, value_at, add_entry, poly_sum, add_multiple, poly_product}
use Rattle.poly_model.specs.Values as values

-- An expression over the members of a point.
pub data Expression : Type 0 where
  Var : ℕ → Expression
  Zero : Expression
  One : Expression
  Num : ℤ → Expression
  Add : Expression → Expression → Expression
  Mul : Expression → Expression → Expression
  Neg : Expression → Expression

-- The exponents of one variable.
abbrev pub only : ℕ → List ℕ
only zero = 1 ∷ []
only (suc n) = 0 ∷ only n

-- The polynomial of an expression.
abbrev pub expanded : Expression → Polynomial
expanded (Var i) = (only i, pos 1) ∷ []
expanded Zero = []
expanded One = ([], pos 1) ∷ []
expanded (Num c) = add_entry [] c []
expanded (Add a b) = poly_sum (expanded a) (expanded b)
expanded (Mul a b) = poly_product (expanded a) (expanded b)
expanded (Neg a) = add_multiple [] (negsuc 0) (expanded a) []

-- The member that an expression means at a point.
abbrev pub meaning_at : {M : Type 0} → Operations M → List M → Expression → M
meaning_at o point (Var i) = get_or point i o.one
meaning_at o point Zero = o.zero
meaning_at o point One = o.one
meaning_at o point (Num c) = integer_in o c
meaning_at o point (Add a b) = o.add (meaning_at o point a) (meaning_at o point b)
meaning_at o point (Mul a b) = o.mul (meaning_at o point a) (meaning_at o point b)
meaning_at o point (Neg a) = o.neg (meaning_at o point a)

module _ {M : Type 0} {o : Operations M} (L : IsCommutativeRing o) where
  monomial_at-only : (i : ℕ) (point : List M) → monomial_at o (only i) point ≡ get_or point i o.one
  monomial_at-only zero [] = refl
  monomial_at-only (suc i) [] = refl
  monomial_at-only zero (x ∷ xs) = L.mul_one (o.mul x o.one) ∙ L.mul_one x
  monomial_at-only (suc i) (x ∷ xs) = ring.one_mul L (monomial_at o (only i) xs) ∙ monomial_at-only i xs

  one_entry : (x : M) → o.add (o.mul (o.add o.one o.zero) x) o.zero ≡ x
  one_entry x = L.add_zero _ ∙ ap (λ y. o.mul y x) (L.add_zero o.one) ∙ ring.one_mul L x

  meaning_is : (e : Expression) (point : List M) → value_at o (expanded e) point ≡ meaning_at o point e
  meaning_is (Var i) point = one_entry (monomial_at o (only i) point) ∙ monomial_at-only i point
  meaning_is Zero point = refl
  meaning_is One point = one_entry o.one
  meaning_is (Num c) point = values.value_at-add_entry L [] c [] point ∙ L.add_zero _ ∙ L.mul_one (integer_in o c)
  meaning_is (Add a b) point = values.value_at-sum L (expanded a) (expanded b) point ∙ (λ i. o.add (meaning_is a point i) (meaning_is b point i))
  meaning_is (Mul a b) point = values.value_at-product L (expanded a) (expanded b) point ∙ (λ i. o.mul (meaning_is a point i) (meaning_is b point i))
  meaning_is (Neg a) point =
      values.value_at-add_multiple L [] (negsuc 0) (expanded a) [] point ∙ L.add_zero _
      ∙ (λ i. o.mul (L.mul_one (integer_in o (negsuc 0)) i) (meaning_is a point i))
      ∙ sym (ring.neg_is_mul L (meaning_at o point a))

  -- Two expressions with the same polynomial mean the same.
  pub solve : (point : List M) (a b : Expression) → expanded a ≡ expanded b → meaning_at o point a ≡ meaning_at o point b
  solve point a b e = sym (meaning_is a point) ∙ ap (λ p. value_at o p point) e ∙ meaning_is b point
