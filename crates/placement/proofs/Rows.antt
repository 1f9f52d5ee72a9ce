-- What each construction and each statement makes zero is zero of places exactly where it is of the places moved and turned.
use Rattle.std.proofs.Common.{◌≡◌, ◌≢◌, [], ◌∷◌, sym, ◌∙◌, ap}
use Rattle.std.specs.Prelude.{◌↔◌, ℤ, List}
use Rattle.poly_model.specs.Domain.{Operations, IsDomain, integer_in}
use Rattle.poly_model.specs.Ring as ring
use Rattle.algebraize.specs.Vectors.{Vector, coordinates, minus, dot, cross, rot, sq, sq_difference}
use Rattle.algebraize.specs.Curves.{Line, Circle, no_line, line_along, line_across, bisector}
use Rattle.algebraize.specs.Figure.{AreZero}
use Rattle.algebraize.specs.Rows as row
use Rattle.placement.proofs.Turned as turn
use Rattle.placement.proofs.Turned.{Less, Along, Across, other_factor}

module _ {M : Type 0} {o : Operations M} (D : IsDomain o) (origin axis : Vector M) (far : sq o axis ≢ o.zero) where
  abbrev Moved : M → Vector M → Vector M → Type 0
  Moved = turn.Moved D.ring origin axis

  abbrev pub Turned : Vector M → Vector M → Type 0
  Turned = turn.Turned D.ring origin axis

  -- q is the place p moved and turned
  abbrev pub Placed : Vector M → Vector M → Type 0
  Placed = Moved o.one

  -- one is zero exactly where the other is
  abbrev pub Same : M → M → Type 0
  Same x y = (x ≡ o.zero) ↔ (y ≡ o.zero)

  pub record AllSame (xs ys : List M) : Type 0 where
    pub forth : AreZero o xs → AreZero o ys
    pub back : AreZero o ys → AreZero o xs

  pub same-none : AllSame [] []
  same-none = record { forth = λ z. z; back = λ z. z }

  pub same-cons : (x y : M) (xs ys : List M) → Same x y → AllSame xs ys → AllSame (x ∷ xs) (y ∷ ys)
  same-cons x y xs ys h j = record { forth = λ z. (h.0 z.0, j.forth z.1); back = λ z. (h.1 z.0, j.back z.1) }

  -- what is scaled by the square of the axis is zero exactly where it was
  same-scaled : (x y : M) → y ≡ o.mul (sq o axis) x → Same x y
  same-scaled x y e = (
    (λ z. e ∙ ap (o.mul (sq o axis)) z ∙ ring.mul_zero D.ring (sq o axis)),
    (λ z. other_factor D (sq o axis) x far (sym e ∙ z)),
  )

  same-dot : (p q r s : Vector M) → Turned p q → Turned r s → Same (dot o p r) (dot o q s)
  same-dot p q r s h j = same-scaled _ _ (turn.scaled-dot D.ring origin axis p q r s h j)

  same-cross : (p q r s : Vector M) → Turned p q → Turned r s → Same (cross o p r) (cross o q s)
  same-cross p q r s h j = same-scaled _ _ (turn.scaled-cross D.ring origin axis p q r s h j)

  same-sq_difference : (p q r s : Vector M) → Turned p q → Turned r s → Same (sq_difference o p r) (sq_difference o q s)
  same-sq_difference p q r s h j = same-scaled _ _ (turn.scaled-sq_difference D.ring origin axis p q r s h j)

  same-vector : (p q : Vector M) → Turned p q → AllSame (coordinates p) (coordinates q)
  same-vector p q h = record {
    forth = λ z. let e = turn.turned-zero D.ring origin axis p q h z.0 z.1.0 in (e.0, (e.1, tt));
    back = λ z.
        let e = turn.turned-back D.ring origin axis p q h z.0 z.1.0 in
        (other_factor D (sq o axis) p.0 far e.0, (other_factor D (sq o axis) p.1 far e.1, tt));
  }

  -- places and vectors
  pub difference : (p q r s : Vector M) → Placed p q → Placed r s → Turned (minus o p r) (minus o q s)
  difference p q r s h j = turn.turned-moved D.ring origin axis _ _ _ (D.ring.add_neg o.one) (turn.moved-minus D.ring origin axis _ _ _ _ _ _ h j)

  turned-rot : (p q : Vector M) → Turned p q → Turned (rot o p) (rot o q)
  turned-rot = turn.turned-rot D.ring origin axis

  centred : (x u y v c w : Vector M) → Placed x u → Placed y v → Placed c w → Turned (row.centred o x y c) (row.centred o u v w)
  centred x u y v c w h j k =
      turn.turned-moved D.ring origin axis _ _ _ (D.ring.add_neg (o.add o.one o.one))
      (turn.moved-minus D.ring origin axis _ _ _ _ _ _ (turn.moved-plus D.ring origin axis _ _ _ _ _ _ h j) (turn.moved-plus D.ring origin axis _ _ _ _ _ _ k k))

  -- lines
  pub record SameLine (l m : Line M) : Type 0 where
    pub direction : Turned l.direction m.direction
    pub incidence : (x y : Vector M) → Placed x y → Same (l.incidence x) (m.incidence y)

  pub same-along : (v w a b : Vector M) → Turned v w → Placed a b → SameLine (line_along o v a) (line_along o w b)
  same-along v w a b h j = record { direction = h; incidence = λ x y k. same-cross _ _ _ _ h (difference x y a b k j) }

  pub same-across : (v w a b : Vector M) → Turned v w → Placed a b → SameLine (line_across o v a) (line_across o w b)
  same-across v w a b h j = record { direction = turned-rot v w h; incidence = λ x y k. same-dot _ _ _ _ h (difference x y a b k j) }

  pub same-bisector : (a c b d : Vector M) → Placed a c → Placed b d → SameLine (bisector o a b) (bisector o c d)
  same-bisector a c b d h j = record {
    direction = turned-rot _ _ (difference b d a c j h);
    incidence = λ x y k. same-sq_difference _ _ _ _ (difference x y a c k h) (difference x y b d k j);
  }

  pub same-nowhere : SameLine (no_line o) (no_line o)
  same-nowhere = record { direction = turn.turned-nothing D.ring origin axis; incidence = λ x y h. ((λ z. z), (λ z. z)) }

  -- circles
  pub record SameCircle (c d : Circle M) : Type 0 where
    pub centre : Placed c.centre d.centre
    pub through : Placed c.through d.through

  -- rows
  pub identical : (a b c d : Vector M) → Placed a c → Placed b d → AllSame (row.identical o a b) (row.identical o c d)
  identical a b c d h j = same-vector _ _ (difference a c b d h j)

  pub one : (x y : M) → Same x y → AllSame (x ∷ []) (y ∷ [])
  one x y h = same-cons x y [] [] h same-none

  pub collinear : (a b c u v w : Vector M) → Placed a u → Placed b v → Placed c w → AllSame (row.collinear o a b c) (row.collinear o u v w)
  collinear a b c u v w h j k = one _ _ (same-cross _ _ _ _ (difference b v a u j h) (difference c w a u k h))

  pub perpendicular : (a b c d t u v w : Vector M) → Placed a t → Placed b u → Placed c v → Placed d w → AllSame (row.perpendicular o a b c d) (row.perpendicular o t u v w)
  perpendicular a b c d t u v w h j k l = one _ _ (same-dot _ _ _ _ (difference b u a t j h) (difference d w c v l k))

  pub parallel : (a b c d t u v w : Vector M) → Placed a t → Placed b u → Placed c v → Placed d w → AllSame (row.parallel o a b c d) (row.parallel o t u v w)
  parallel a b c d t u v w h j k l = one _ _ (same-cross _ _ _ _ (difference b u a t j h) (difference d w c v l k))

  pub same_length : (a b c d t u v w : Vector M) → Placed a t → Placed b u → Placed c v → Placed d w → AllSame (row.same_length o a b c d) (row.same_length o t u v w)
  same_length a b c d t u v w h j k l = one _ _ (same-sq_difference _ _ _ _ (difference b u a t j h) (difference d w c v l k))

  pub midpoint : (m a b u v w : Vector M) → Placed m u → Placed a v → Placed b w → AllSame (row.midpoint o m a b) (row.midpoint o u v w)
  midpoint m a b u v w h j k =
      same-vector _ _ (turn.turned-moved D.ring origin axis _ _ _ (turn.counts-midpoint D.ring origin axis)
      (turn.moved-minus D.ring origin axis _ _ _ _ _ _ (turn.moved-minus D.ring origin axis _ _ _ _ _ _ (turn.moved-plus D.ring origin axis _ _ _ _ _ _ h h) j) k))

  pub intersection : (x y : Vector M) (a b c d : Line M) → Placed x y → SameLine a c → SameLine b d → AllSame (row.intersection x a b) (row.intersection y c d)
  intersection x y a b c d h j k = same-cons _ _ _ _ (j.incidence x y h) (one _ _ (k.incidence x y h))

  pub foot : (f a u v : Vector M) (l m : Line M) → Placed f u → Placed a v → SameLine l m → AllSame (row.foot o f a l) (row.foot o u v m)
  foot f a u v l m h j k = same-cons _ _ _ _ (k.incidence f u h) (one _ _ (same-dot _ _ _ _ k.direction (difference f u a v h j)))

  pub on_line : (x a b u v w : Vector M) → Placed x u → Placed a v → Placed b w → AllSame (row.on_line o x a b) (row.on_line o u v w)
  on_line x a b u v w h j k = one _ _ (same-cross _ _ _ _ (difference b w a v k j) (difference x u a v h j))

  pub on_circle : (x y : Vector M) (c d : Circle M) → Placed x y → SameCircle c d → Same (row.on_circle o x c) (row.on_circle o y d)
  on_circle x y c d h j = same-sq_difference _ _ _ _ (difference x y _ _ h j.centre) (difference _ _ _ _ j.through j.centre)

  pub translation : (x a b c t u v w : Vector M) → Placed x t → Placed a u → Placed b v → Placed c w → AllSame (row.translation o x a b c) (row.translation o t u v w)
  translation x a b c t u v w h j k l =
      same-vector _ _ (turn.turned-moved D.ring origin axis _ _ _ (turn.counts-translation D.ring origin axis)
      (turn.moved-plus D.ring origin axis _ _ _ _ _ _ (turn.moved-minus D.ring origin axis _ _ _ _ _ _ (turn.moved-minus D.ring origin axis _ _ _ _ _ _ h l) k) j))

  pub division : (n d : ℤ) (x a b u v w : Vector M) → Placed x u → Placed a v → Placed b w → AllSame (row.division o n d x a b) (row.division o n d u v w)
  division n d x a b u v w h j k =
      same-vector _ _ (turn.turned-moved D.ring origin axis _ _ _ (turn.counts-division D.ring origin axis (integer_in o d) (integer_in o n))
      (turn.moved-minus D.ring origin axis _ _ _ _ _ _
      (turn.moved-minus D.ring origin axis _ _ _ _ _ _ (turn.moved-times D.ring origin axis _ _ _ _ h) (turn.moved-times D.ring origin axis _ _ _ _ j))
      (turn.moved-times D.ring origin axis _ _ _ _ (turn.moved-minus D.ring origin axis _ _ _ _ _ _ k j))))

  pub line_cut : (x y u v : Vector M) (c d : Circle M) (l m : Line M) → Placed x u → Placed y v → SameCircle c d → SameLine l m
      → AllSame (row.line_cut o x y c l) (row.line_cut o u v d m)
  line_cut x y u v c d l m h j k i =
      same-cons _ _ _ _ (i.incidence x u h)
      (same-cons _ _ _ _ (on_circle x u c d h k)
      (same-cons _ _ _ _ (i.incidence y v j) (one _ _ (same-dot _ _ _ _ i.direction (centred x u y v _ _ h j k.centre)))))

  pub circle_cut : (x y u v : Vector M) (c d e g : Circle M) → Placed x u → Placed y v → SameCircle c d → SameCircle e g
      → AllSame (row.circle_cut o x y c e) (row.circle_cut o u v d g)
  circle_cut x y u v c d e g h j k i =
      let centres = difference _ _ _ _ i.centre k.centre in
      same-cons _ _ _ _ (on_circle x u c d h k)
      (same-cons _ _ _ _ (on_circle x u e g h i)
      (same-cons _ _ _ _ (same-dot _ _ _ _ centres (difference y v x u j h)) (one _ _ (same-cross _ _ _ _ centres (centred x u y v _ _ h j k.centre)))))
