-- Each condition says what its law says.
use Rattle.std.proofs.Common.{◌≡◌, [], ◌∷◌, refl, sym, ◌∙◌, ap}
use Rattle.std.specs.Prelude.{◌↔◌, pos}
use Rattle.poly_model.specs.Domain.{Operations, IsCommutativeRing, integer_in}
use Rattle.poly_model.specs.Ring as ring
use Rattle.poly_model.specs.Solve.{Expression, Var, Add, Mul, Neg, solve}
use Rattle.algebraize.specs.Vectors.{Vector, coordinates, plus, minus, twice, times, dot, cross, sq, sq_difference}
use Rattle.algebraize.specs.Curves.{line_at, circle_at}
use Rattle.algebraize.specs.Ratio.{numerator, denominator}
use Rattle.algebraize.specs.Figure.{place_of, AreZero}
use Rattle.algebraize.specs.Rows as row
use Rattle.algebraize.specs.Laws.{SameSlope, RightAngle, OppositeAlong, LineLaws, MidpointLaw, TranslateLaw, TowardsLaw, IntersecLaw, FootLaw, OnlineLaw, OncircleLaw, CutLineLaw, CutCircleLaw, StatementLaws}

module _ {M : Type 0} {o : Operations M} (L : IsCommutativeRing o) where
  difference-zero : (x y : M) → o.add x (o.neg y) ≡ o.zero ↔ (x ≡ y)
  difference-zero x y = ((λ e. ring.cancel L x y (o.neg y) (e ∙ sym (L.add_neg y))), (λ e. ap (λ t. o.add t (o.neg y)) e ∙ L.add_neg y))

  by-difference : (u x y : M) → u ≡ o.add x (o.neg y) → u ≡ o.zero ↔ (x ≡ y)
  by-difference u x y e = let h = difference-zero x y in ((λ z. h.0 (sym e ∙ z)), (λ z. e ∙ h.1 z))

  by-differences : (u v w : Vector M) → u.0 ≡ o.add v.0 (o.neg w.0) → u.1 ≡ o.add v.1 (o.neg w.1) → AreZero o (coordinates u) ↔ (v ≡ w)
  by-differences u v w p q =
      let h = by-difference u.0 v.0 w.0 p in
      let k = by-difference u.1 v.1 w.1 q in
      ((λ z i. (h.0 z.0 i, k.0 z.1.0 i)), (λ e. (h.1 (λ i. (e i).0), (k.1 (λ i. (e i).1), tt))))

  one : {A : Type 0} (u : M) → u ≡ o.zero ↔ A → AreZero o (u ∷ []) ↔ A
  one u h = ((λ z. h.0 z.0), (λ a. (h.1 a, tt)))

  slope : (p q : Vector M) → cross o p q ≡ o.zero ↔ SameSlope o p q
  slope p q = difference-zero (o.mul p.0 q.1) (o.mul p.1 q.0)

  angle : (p q : Vector M) → dot o p q ≡ o.zero ↔ RightAngle o p q
  angle p q =
      by-difference (dot o p q) (o.mul p.0 q.0) (o.neg (o.mul p.1 q.1))
      (solve L (o.mul p.0 q.0 ∷ o.mul p.1 q.1 ∷ []) (Add (Var 0) (Var 1)) (Add (Var 0) (Neg (Neg (Var 1)))) refl)

  distance : (p q : Vector M) → sq_difference o p q ≡ o.zero ↔ (sq o p ≡ sq o q)
  distance p q = difference-zero (sq o p) (sq o q)

  halves : (m a b : M) → o.add (o.add (o.add m m) (o.neg a)) (o.neg b) ≡ o.add (o.add m (o.neg a)) (o.neg (o.add b (o.neg m)))
  halves m a b =
      solve L (m ∷ a ∷ b ∷ []) (Add (Add (Add (Var 0) (Var 0)) (Neg (Var 1))) (Neg (Var 2)))
      (Add (Add (Var 0) (Neg (Var 1))) (Neg (Add (Var 2) (Neg (Var 0))))) refl

  moved : (x a b c : M) → o.add (o.add (o.add x (o.neg c)) (o.neg b)) a ≡ o.add (o.add x (o.neg c)) (o.neg (o.add b (o.neg a)))
  moved x a b c =
      solve L (x ∷ a ∷ b ∷ c ∷ []) (Add (Add (Add (Var 0) (Neg (Var 3))) (Neg (Var 2))) (Var 1))
      (Add (Add (Var 0) (Neg (Var 3))) (Neg (Add (Var 2) (Neg (Var 1))))) refl

  parts : (d n x a b : M)
      → o.add (o.add (o.mul d x) (o.neg (o.mul d a))) (o.neg (o.mul n (o.add b (o.neg a)))) ≡ o.add (o.mul d (o.add x (o.neg a))) (o.neg (o.mul n (o.add b (o.neg a))))
  parts d n x a b =
      solve L (d ∷ n ∷ x ∷ a ∷ b ∷ [])
      (Add (Add (Mul (Var 0) (Var 2)) (Neg (Mul (Var 0) (Var 3)))) (Neg (Mul (Var 1) (Add (Var 4) (Neg (Var 3))))))
      (Add (Mul (Var 0) (Add (Var 2) (Neg (Var 3)))) (Neg (Mul (Var 1) (Add (Var 4) (Neg (Var 3)))))) refl

  midpoints : (m a b : Vector M) → AreZero o (row.midpoint o m a b) ↔ (minus o m a ≡ minus o b m)
  midpoints m a b = by-differences (minus o (minus o (twice o m) a) b) (minus o m a) (minus o b m) (halves m.0 a.0 b.0) (halves m.1 a.1 b.1)

  -- the expressions of a vector, and of X + Y - 2C
  abbrev Less : Expression → Expression → Expression
  Less a b = Add a (Neg b)

  opposite : (v x y c : Vector M) → dot o v (row.centred o x y c) ≡ o.zero ↔ OppositeAlong o v c x y
  opposite v x y c =
      by-difference (dot o v (row.centred o x y c)) (dot o v (minus o x c)) (o.neg (dot o v (minus o y c)))
      (solve L (v.0 ∷ v.1 ∷ x.0 ∷ x.1 ∷ y.0 ∷ y.1 ∷ c.0 ∷ c.1 ∷ [])
      (Add (Mul (Var 0) (Less (Add (Var 2) (Var 4)) (Add (Var 6) (Var 6)))) (Mul (Var 1) (Less (Add (Var 3) (Var 5)) (Add (Var 7) (Var 7)))))
      (Less (Add (Mul (Var 0) (Less (Var 2) (Var 6))) (Mul (Var 1) (Less (Var 3) (Var 7))))
      (Neg (Add (Mul (Var 0) (Less (Var 4) (Var 6))) (Mul (Var 1) (Less (Var 5) (Var 7)))))) refl)

  sides : (v x y c : Vector M) → cross o v (row.centred o x y c) ≡ o.zero ↔ (cross o v (minus o x c) ≡ o.neg (cross o v (minus o y c)))
  sides v x y c =
      by-difference (cross o v (row.centred o x y c)) (cross o v (minus o x c)) (o.neg (cross o v (minus o y c)))
      (solve L (v.0 ∷ v.1 ∷ x.0 ∷ x.1 ∷ y.0 ∷ y.1 ∷ c.0 ∷ c.1 ∷ [])
      (Less (Mul (Var 0) (Less (Add (Var 3) (Var 5)) (Add (Var 7) (Var 7)))) (Mul (Var 1) (Less (Add (Var 2) (Var 4)) (Add (Var 6) (Var 6)))))
      (Less (Less (Mul (Var 0) (Less (Var 3) (Var 7))) (Mul (Var 1) (Less (Var 2) (Var 6))))
      (Neg (Less (Mul (Var 0) (Less (Var 5) (Var 7))) (Mul (Var 1) (Less (Var 4) (Var 6)))))) refl)

  level : (v x y c : Vector M) → dot o v (minus o y x) ≡ o.zero ↔ (dot o v (minus o y c) ≡ dot o v (minus o x c))
  level v x y c =
      by-difference (dot o v (minus o y x)) (dot o v (minus o y c)) (dot o v (minus o x c))
      (solve L (v.0 ∷ v.1 ∷ x.0 ∷ x.1 ∷ y.0 ∷ y.1 ∷ c.0 ∷ c.1 ∷ [])
      (Add (Mul (Var 0) (Less (Var 4) (Var 2))) (Mul (Var 1) (Less (Var 5) (Var 3))))
      (Less (Add (Mul (Var 0) (Less (Var 4) (Var 6))) (Mul (Var 1) (Less (Var 5) (Var 7))))
      (Add (Mul (Var 0) (Less (Var 2) (Var 6))) (Mul (Var 1) (Less (Var 3) (Var 7))))) refl)

  pub lines : LineLaws o
  lines = (
    (λ a b x. slope (minus o b a) (minus o x a)),
    (λ a b x. distance (minus o x a) (minus o x b)),
    (λ v a x. angle v (minus o x a)),
    (λ v a x. slope v (minus o x a)),
  )

  pub midpoint : MidpointLaw o
  midpoint f c m a b = midpoints (place_of o f m) (place_of o f a) (place_of o f b)

  pub translate : TranslateLaw o
  translate f k x a b c =
      let p = place_of o f in
      by-differences (plus o (minus o (minus o (p x) (p c)) (p b)) (p a)) (minus o (p x) (p c)) (minus o (p b) (p a))
      (moved (p x).0 (p a).0 (p b).0 (p c).0) (moved (p x).1 (p a).1 (p b).1 (p c).1)

  pub towards : TowardsLaw o
  towards f k x a b t =
      let p = place_of o f in
      let d = integer_in o (pos (denominator t)) in
      let n = integer_in o (numerator t) in
      by-differences (minus o (minus o (times o d (p x)) (times o d (p a))) (times o n (minus o (p b) (p a)))) (times o d (minus o (p x) (p a))) (times o n (minus o (p b) (p a)))
      (parts d n (p x).0 (p a).0 (p b).0) (parts d n (p x).1 (p a).1 (p b).1)

  pub intersec : IntersecLaw o
  intersec f k x a b = ((λ z. (z.0, z.1.0)), (λ z. (z.0, (z.1, tt))))

  pub foot : FootLaw o
  foot f k p a l =
      let h = angle (line_at o k l).direction (minus o (place_of o f p) (place_of o f a)) in
      ((λ z. (z.0, h.0 z.1.0)), (λ z. (z.0, (h.1 z.1, tt))))

  pub online : OnlineLaw o
  online f k x a b = one _ (slope (minus o (place_of o f b) (place_of o f a)) (minus o (place_of o f x) (place_of o f a)))

  pub oncircle : OncircleLaw o
  oncircle f k x c a = one _ (distance (minus o (place_of o f x) (place_of o f c)) (minus o (place_of o f a) (place_of o f c)))

  pub cut_line : CutLineLaw o
  cut_line f c x y k l =
      let p = place_of o f in
      let m = (circle_at o c k).centre in
      let round = distance (minus o (p x) m) (minus o (circle_at o c k).through m) in
      let far = opposite (line_at o c l).direction (p x) (p y) m in
      ((λ z. (z.0, round.0 z.1.0, z.1.1.0, far.0 z.1.1.1.0)), (λ z. (z.0, (round.1 z.1, (z.2, (far.1 z.3, tt))))))

  pub cut_circle : CutCircleLaw o
  cut_circle f c x y k m =
      let p = place_of o f in
      let a = (circle_at o c k).centre in
      let b = (circle_at o c m).centre in
      let v = minus o b a in
      let first = distance (minus o (p x) a) (minus o (circle_at o c k).through a) in
      let second = distance (minus o (p x) b) (minus o (circle_at o c m).through b) in
      let along = level v (p x) (p y) a in
      let across = sides v (p x) (p y) a in (
        (λ z. (first.0 z.0, second.0 z.1.0, (along.0 z.1.1.0, across.0 z.1.1.1.0))),
        (λ z. (first.1 z.0, (second.1 z.1, (along.1 z.2.0, (across.1 z.2.1, tt))))),
      )

  pub statements : StatementLaws o
  statements = (
    (λ a b. by-differences (minus o a b) a b refl refl),
    (λ a b c. one _ (slope (minus o b a) (minus o c a))),
    (λ a b c d. one _ (angle (minus o b a) (minus o d c))),
    (λ a b c d. one _ (slope (minus o b a) (minus o d c))),
    midpoints,
    (λ a b c d. one _ (distance (minus o b a) (minus o d c))),
  )
