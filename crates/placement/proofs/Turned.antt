-- Vectors along and across an axis: a sum of places in which they count to zero is turned, and what is formed of turned vectors
-- is scaled by the square of the axis.
use Rattle.std.proofs.Common.{◌≡◌, ◌≢◌, [], ◌∷◌, refl, sym, ◌∙◌, ap, inl, inr}
use Rattle.std.specs.Prelude.{List}
use Rattle.poly_model.specs.Domain.{Operations, IsCommutativeRing, IsDomain}
use Rattle.poly_model.specs.Ring as ring
use Rattle.poly_model.specs.Solve.{Expression, Var, Add, Mul, Neg, solve}
use Rattle.poly_model.specs.Solve as expression
use Rattle.algebraize.specs.Vectors.{Vector, plus, minus, times, dot, cross, rot, sq, sq_difference}

abbrev pub Less : Expression → Expression → Expression
Less a b = Add a (Neg b)

-- along and across (a, b)
abbrev pub Along : (a b x y : Expression) → Expression
Along a b x y = Add (Mul a x) (Mul b y)

abbrev pub Across : (a b x y : Expression) → Expression
Across a b x y = Less (Mul a y) (Mul b x)

module _ {M : Type 0} {o : Operations M} (L : IsCommutativeRing o) (origin axis : Vector M) where
  -- what is left of p when the origin is taken off k times
  abbrev pub off : M → Vector M → Vector M
  off k p = minus o p (times o k origin)

  -- q is p, in which places count k times, moved and turned
  pub record Moved (k : M) (p q : Vector M) : Type 0 where
    pub first : q.0 ≡ dot o axis (off k p)
    pub second : q.1 ≡ cross o axis (off k p)

  -- q is the vector p turned
  pub record Turned (p q : Vector M) : Type 0 where
    pub first : q.0 ≡ dot o axis p
    pub second : q.1 ≡ cross o axis p

  -- the variables of the identities: axis, origin, p, r, k, l
  abbrev members : (p r : Vector M) (k l : M) → List M
  members p r k l = axis.0 ∷ axis.1 ∷ origin.0 ∷ origin.1 ∷ p.0 ∷ p.1 ∷ r.0 ∷ r.1 ∷ k ∷ l ∷ []

  abbrev Off : (k x a : Expression) → Expression
  Off k x a = Less x (Mul k a)

  pub moved-plus : (k l : M) (p q r s : Vector M) → Moved k p q → Moved l r s → Moved (o.add k l) (plus o p r) (plus o q s)
  moved-plus k l p q r s h j = record {
    first = (λ i. o.add (h.first i) (j.first i)) ∙ solve L (members p r k l)
        (Add (Along (Var 0) (Var 1) (Off (Var 8) (Var 4) (Var 2)) (Off (Var 8) (Var 5) (Var 3))) (Along (Var 0) (Var 1) (Off (Var 9) (Var 6) (Var 2)) (Off (Var 9) (Var 7) (Var 3))))
        (Along (Var 0) (Var 1) (Off (Add (Var 8) (Var 9)) (Add (Var 4) (Var 6)) (Var 2)) (Off (Add (Var 8) (Var 9)) (Add (Var 5) (Var 7)) (Var 3))) refl;
    second = (λ i. o.add (h.second i) (j.second i)) ∙ solve L (members p r k l)
        (Add (Across (Var 0) (Var 1) (Off (Var 8) (Var 4) (Var 2)) (Off (Var 8) (Var 5) (Var 3))) (Across (Var 0) (Var 1) (Off (Var 9) (Var 6) (Var 2)) (Off (Var 9) (Var 7) (Var 3))))
        (Across (Var 0) (Var 1) (Off (Add (Var 8) (Var 9)) (Add (Var 4) (Var 6)) (Var 2)) (Off (Add (Var 8) (Var 9)) (Add (Var 5) (Var 7)) (Var 3))) refl;
  }

  pub moved-minus : (k l : M) (p q r s : Vector M) → Moved k p q → Moved l r s → Moved (o.add k (o.neg l)) (minus o p r) (minus o q s)
  moved-minus k l p q r s h j = record {
    first = (λ i. o.add (h.first i) (o.neg (j.first i))) ∙ solve L (members p r k l)
        (Less (Along (Var 0) (Var 1) (Off (Var 8) (Var 4) (Var 2)) (Off (Var 8) (Var 5) (Var 3))) (Along (Var 0) (Var 1) (Off (Var 9) (Var 6) (Var 2)) (Off (Var 9) (Var 7) (Var 3))))
        (Along (Var 0) (Var 1) (Off (Less (Var 8) (Var 9)) (Less (Var 4) (Var 6)) (Var 2)) (Off (Less (Var 8) (Var 9)) (Less (Var 5) (Var 7)) (Var 3))) refl;
    second = (λ i. o.add (h.second i) (o.neg (j.second i))) ∙ solve L (members p r k l)
        (Less (Across (Var 0) (Var 1) (Off (Var 8) (Var 4) (Var 2)) (Off (Var 8) (Var 5) (Var 3))) (Across (Var 0) (Var 1) (Off (Var 9) (Var 6) (Var 2)) (Off (Var 9) (Var 7) (Var 3))))
        (Across (Var 0) (Var 1) (Off (Less (Var 8) (Var 9)) (Less (Var 4) (Var 6)) (Var 2)) (Off (Less (Var 8) (Var 9)) (Less (Var 5) (Var 7)) (Var 3))) refl;
  }

  pub moved-times : (m k : M) (p q : Vector M) → Moved k p q → Moved (o.mul m k) (times o m p) (times o m q)
  moved-times m k p q h = record {
    first = ap (o.mul m) h.first ∙ solve L (members p p k m)
        (Mul (Var 9) (Along (Var 0) (Var 1) (Off (Var 8) (Var 4) (Var 2)) (Off (Var 8) (Var 5) (Var 3))))
        (Along (Var 0) (Var 1) (Off (Mul (Var 9) (Var 8)) (Mul (Var 9) (Var 4)) (Var 2)) (Off (Mul (Var 9) (Var 8)) (Mul (Var 9) (Var 5)) (Var 3))) refl;
    second = ap (o.mul m) h.second ∙ solve L (members p p k m)
        (Mul (Var 9) (Across (Var 0) (Var 1) (Off (Var 8) (Var 4) (Var 2)) (Off (Var 8) (Var 5) (Var 3))))
        (Across (Var 0) (Var 1) (Off (Mul (Var 9) (Var 8)) (Mul (Var 9) (Var 4)) (Var 2)) (Off (Mul (Var 9) (Var 8)) (Mul (Var 9) (Var 5)) (Var 3))) refl;
  }

  -- places that count to zero make a vector
  pub turned-moved : (k : M) (p q : Vector M) → k ≡ o.zero → Moved k p q → Turned p q
  turned-moved k p q e h =
      let gone : (x a : M) → o.add x (o.neg (o.mul k a)) ≡ x =
      λ x a. ap (λ t. o.add x (o.neg (o.mul t a))) e ∙ solve L (x ∷ a ∷ []) (Less (Var 0) (Mul expression.Zero (Var 1))) (Var 0) refl in
      let same : off k p ≡ p = λ i. (gone p.0 origin.0 i, gone p.1 origin.1 i) in
      record { first = h.first ∙ ap (dot o axis) same; second = h.second ∙ ap (cross o axis) same }

  -- turned vectors
  pub turned-nothing : Turned (o.zero, o.zero) (o.zero, o.zero)
  turned-nothing = record {
    first = solve L (axis.0 ∷ axis.1 ∷ []) expression.Zero (Along (Var 0) (Var 1) expression.Zero expression.Zero) refl;
    second = solve L (axis.0 ∷ axis.1 ∷ []) expression.Zero (Across (Var 0) (Var 1) expression.Zero expression.Zero) refl;
  }

  pub turned-rot : (p q : Vector M) → Turned p q → Turned (rot o p) (rot o q)
  turned-rot p q h = record {
    first = ap o.neg h.second ∙ solve L (axis.0 ∷ axis.1 ∷ p.0 ∷ p.1 ∷ []) (Neg (Across (Var 0) (Var 1) (Var 2) (Var 3))) (Along (Var 0) (Var 1) (Neg (Var 3)) (Var 2)) refl;
    second = h.first ∙ solve L (axis.0 ∷ axis.1 ∷ p.0 ∷ p.1 ∷ []) (Along (Var 0) (Var 1) (Var 2) (Var 3)) (Across (Var 0) (Var 1) (Neg (Var 3)) (Var 2)) refl;
  }

  abbrev Square : (a b : Expression) → Expression
  Square a b = Add (Mul a a) (Mul b b)

  abbrev T0 : (x y : Expression) → Expression
  T0 = Along (Var 0) (Var 1)

  abbrev T1 : (x y : Expression) → Expression
  T1 = Across (Var 0) (Var 1)

  pub scaled-dot : (p q r s : Vector M) → Turned p q → Turned r s → dot o q s ≡ o.mul (sq o axis) (dot o p r)
  scaled-dot p q r s h j =
      (λ i. o.add (o.mul (h.first i) (j.first i)) (o.mul (h.second i) (j.second i)))
      ∙ solve L (axis.0 ∷ axis.1 ∷ p.0 ∷ p.1 ∷ r.0 ∷ r.1 ∷ [])
      (Along (T0 (Var 2) (Var 3)) (T1 (Var 2) (Var 3)) (T0 (Var 4) (Var 5)) (T1 (Var 4) (Var 5)))
      (Mul (Square (Var 0) (Var 1)) (Along (Var 2) (Var 3) (Var 4) (Var 5))) refl

  pub scaled-cross : (p q r s : Vector M) → Turned p q → Turned r s → cross o q s ≡ o.mul (sq o axis) (cross o p r)
  scaled-cross p q r s h j =
      (λ i. o.add (o.mul (h.first i) (j.second i)) (o.neg (o.mul (h.second i) (j.first i))))
      ∙ solve L (axis.0 ∷ axis.1 ∷ p.0 ∷ p.1 ∷ r.0 ∷ r.1 ∷ [])
      (Across (T0 (Var 2) (Var 3)) (T1 (Var 2) (Var 3)) (T0 (Var 4) (Var 5)) (T1 (Var 4) (Var 5)))
      (Mul (Square (Var 0) (Var 1)) (Across (Var 2) (Var 3) (Var 4) (Var 5))) refl

  pub scaled-sq_difference : (p q r s : Vector M) → Turned p q → Turned r s → sq_difference o q s ≡ o.mul (sq o axis) (sq_difference o p r)
  scaled-sq_difference p q r s h j =
      (λ i. o.add (scaled-dot p q p q h h i) (o.neg (scaled-dot r s r s j j i)))
      ∙ solve L (sq o axis ∷ sq o p ∷ sq o r ∷ []) (Less (Mul (Var 0) (Var 1)) (Mul (Var 0) (Var 2))) (Mul (Var 0) (Less (Var 1) (Var 2))) refl

  -- a vector is nothing exactly where it is when it is turned
  pub turned-zero : (p q : Vector M) → Turned p q → p.0 ≡ o.zero → p.1 ≡ o.zero → (q.0 ≡ o.zero) × (q.1 ≡ o.zero)
  turned-zero p q h a b = (
    h.first ∙ (λ i. o.add (o.mul axis.0 (a i)) (o.mul axis.1 (b i))) ∙ sym turned-nothing.first,
    h.second ∙ (λ i. o.add (o.mul axis.0 (b i)) (o.neg (o.mul axis.1 (a i)))) ∙ sym turned-nothing.second,
  )

  pub turned-back : (p q : Vector M) → Turned p q → q.0 ≡ o.zero → q.1 ≡ o.zero
      → (o.mul (sq o axis) p.0 ≡ o.zero) × (o.mul (sq o axis) p.1 ≡ o.zero)
  turned-back p q h a b =
      let along : dot o axis p ≡ o.zero = sym h.first ∙ a in
      let across : cross o axis p ≡ o.zero = sym h.second ∙ b in (
        solve L (axis.0 ∷ axis.1 ∷ p.0 ∷ p.1 ∷ []) (Mul (Square (Var 0) (Var 1)) (Var 2)) (Less (Mul (Var 0) (T0 (Var 2) (Var 3))) (Mul (Var 1) (T1 (Var 2) (Var 3)))) refl
            ∙ (λ i. o.add (o.mul axis.0 (along i)) (o.neg (o.mul axis.1 (across i))))
            ∙ solve L (axis.0 ∷ axis.1 ∷ []) (Less (Mul (Var 0) expression.Zero) (Mul (Var 1) expression.Zero)) expression.Zero refl,
        solve L (axis.0 ∷ axis.1 ∷ p.0 ∷ p.1 ∷ []) (Mul (Square (Var 0) (Var 1)) (Var 3)) (Add (Mul (Var 1) (T0 (Var 2) (Var 3))) (Mul (Var 0) (T1 (Var 2) (Var 3)))) refl
            ∙ (λ i. o.add (o.mul axis.1 (along i)) (o.mul axis.0 (across i)))
            ∙ solve L (axis.0 ∷ axis.1 ∷ []) (Add (Mul (Var 1) expression.Zero) (Mul (Var 0) expression.Zero)) expression.Zero refl,
      )

  -- how often places count
  pub counts-midpoint : o.add (o.add (o.add o.one o.one) (o.neg o.one)) (o.neg o.one) ≡ o.zero
  counts-midpoint = solve L (o.one ∷ []) (Less (Less (Add (Var 0) (Var 0)) (Var 0)) (Var 0)) expression.Zero refl

  pub counts-translation : o.add (o.add (o.add o.one (o.neg o.one)) (o.neg o.one)) o.one ≡ o.zero
  counts-translation = solve L (o.one ∷ []) (Add (Less (Less (Var 0) (Var 0)) (Var 0)) (Var 0)) expression.Zero refl

  pub counts-division : (d n : M)
      → o.add (o.add (o.mul d o.one) (o.neg (o.mul d o.one))) (o.neg (o.mul n (o.add o.one (o.neg o.one)))) ≡ o.zero
  counts-division d n =
      solve L (o.one ∷ d ∷ n ∷ []) (Less (Less (Mul (Var 1) (Var 0)) (Mul (Var 1) (Var 0))) (Mul (Var 2) (Less (Var 0) (Var 0)))) expression.Zero refl

  -- where a place comes to stand
  pub placed-image : (p : Vector M) → Moved o.one p (dot o axis (minus o p origin), cross o axis (minus o p origin))
  placed-image p =
      let one : (x : M) → x ≡ o.mul o.one x = λ x. sym (ring.one_mul L x) in
      record {
        first = λ i. o.add (o.mul axis.0 (o.add p.0 (o.neg (one origin.0 i)))) (o.mul axis.1 (o.add p.1 (o.neg (one origin.1 i))));
        second = λ i. o.add (o.mul axis.0 (o.add p.1 (o.neg (one origin.1 i)))) (o.neg (o.mul axis.1 (o.add p.0 (o.neg (one origin.0 i)))));
      }

  -- the origin, and the place at the end of the axis
  pub placed-origin : Moved o.one origin (o.zero, o.zero)
  placed-origin = record {
    first = solve L (axis.0 ∷ axis.1 ∷ origin.0 ∷ origin.1 ∷ []) expression.Zero (Along (Var 0) (Var 1) (Off expression.One (Var 2) (Var 2)) (Off expression.One (Var 3) (Var 3))) refl;
    second = solve L (axis.0 ∷ axis.1 ∷ origin.0 ∷ origin.1 ∷ []) expression.Zero (Across (Var 0) (Var 1) (Off expression.One (Var 2) (Var 2)) (Off expression.One (Var 3) (Var 3))) refl;
  }

  pub placed-axis : (q : Vector M) → axis ≡ minus o q origin → Moved o.one q (sq o axis, o.zero)
  placed-axis q e =
      let one : (x : M) → x ≡ o.mul o.one x = λ x. sym (ring.one_mul L x) in
      let same : axis ≡ off o.one q = e ∙ (λ i. (o.add q.0 (o.neg (one origin.0 i)), o.add q.1 (o.neg (one origin.1 i)))) in
      record {
        first = ap (dot o axis) same;
        second = solve L (axis.0 ∷ axis.1 ∷ []) expression.Zero (Across (Var 0) (Var 1) (Var 0) (Var 1)) refl ∙ ap (cross o axis) same;
      }

-- where one factor is not zero, the other is
pub other_factor : {M : Type 0} {o : Operations M} → IsDomain o → (x y : M) → x ≢ o.zero → o.mul x y ≡ o.zero → y ≡ o.zero
other_factor D x y far e = elim (D.no_zero_divisors x y e) [ inl z ↦ absurd (far z) | inr z ↦ z ]
