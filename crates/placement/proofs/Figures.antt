-- A sound program's commands say the same of a figure and of the figure moved and turned.
use Rattle.std.proofs.Common.{◌≡◌, ◌≢◌, ◌≤◌, ◌<◌, ◌+◌, ℕ, zero, suc, List, [], ◌∷◌, ◌++◌, get_or, map, length, length-append, arith}
use Rattle.std.specs.Prelude.{◌↔◌, pos}
use Rattle.poly_model.specs.Domain.{Operations, IsDomain}
use Rattle.gcl_reader.specs.declared.word.Statement.{Statement}
use Rattle.gcl_reader.specs.declared.word.Statement.TheVariants as statement
use Rattle.gcl_names.specs.declared.program.Act.{Act}
use Rattle.gcl_names.specs.declared.program.Deed.{Deed}
use Rattle.gcl_names.specs.declared.program.Deed.TheVariants as deed
use Rattle.gcl_names.specs.Sound.{Counts, Follows, AllFollow, AreMade, after, after_all}
use Rattle.algebraize.specs.Vectors.{Vector, sq}
use Rattle.algebraize.specs.Curves.{Line, Circle, Curves, no_line, no_circle}
use Rattle.algebraize.specs.Figure.{Figure, Effect, Nothing, NewLine, NewCircle, Conditions, effect, conditions, with_effect, place_of, stated, over_two, over_three, over_four, MeetsFrom, MeetsStatement}
use Rattle.algebraize.specs.Ratio.{numerator, denominator}
use Rattle.placement.specs.Laws.{MeetAlikeFrom}
use Rattle.placement.proofs.Rows as rows

-- What a command makes is added to what was there.
pub points-grow : (n : Counts) (d : Deed) → n.points ≤ (after n d).points
points-grow n (deed.Dim w h) = omega arith
points-grow n (deed.Color r g b) = omega arith
points-grow n (deed.Prooflevel k) = omega arith
points-grow n (deed.Prooflimit k) = omega arith
points-grow n (deed.ProverTimeout k) = omega arith
points-grow n (deed.Point p x y) = omega arith
points-grow n (deed.Line l a b) = omega arith
points-grow n (deed.Circle k a b) = omega arith
points-grow n (deed.Intersec x a b) = omega arith
points-grow n (deed.CutLine x y k l) = omega arith
points-grow n (deed.CutCircle x y k m) = omega arith
points-grow n (deed.Midpoint m a b) = omega arith
points-grow n (deed.Med l a b) = omega arith
points-grow n (deed.Perp p a l) = omega arith
points-grow n (deed.Parallel p a l) = omega arith
points-grow n (deed.Foot p a l) = omega arith
points-grow n (deed.Online x a b) = omega arith
points-grow n (deed.Oncircle x a b) = omega arith
points-grow n (deed.Translate x a b c) = omega arith
points-grow n (deed.Towards x a b r) = omega arith
points-grow n (deed.Drawpoint a) = omega arith
points-grow n (deed.Drawsegment a b) = omega arith
points-grow n (deed.Drawdashsegment a b) = omega arith
points-grow n (deed.Drawline l) = omega arith
points-grow n (deed.Drawcircle k) = omega arith
points-grow n (deed.Cmark a) = omega arith
points-grow n (deed.CmarkAt s a) = omega arith
points-grow n (deed.Mark s a) = omega arith
points-grow n (deed.Prove s ps) = omega arith

pub all-points-grow : (n : Counts) (acts : List Act) → n.points ≤ (after_all n acts).points
unfolding after_all
all-points-grow n [] = omega arith
all-points-grow n (a ∷ acts) = let h = points-grow n a.deed in let j = all-points-grow (after n a.deed) acts in omega arith

module _ {M : Type 0} {o : Operations M} (D : IsDomain o) (origin axis : Vector M) (far : sq o axis ≢ o.zero) where
  abbrev Placed : Vector M → Vector M → Type 0
  Placed = rows.Placed D origin axis far

  abbrev SameLine : Line M → Line M → Type 0
  SameLine = rows.SameLine D origin axis far

  abbrev SameCircle : Circle M → Circle M → Type 0
  SameCircle = rows.SameCircle D origin axis far

  abbrev AllSame : List M → List M → Type 0
  AllSame = rows.AllSame D origin axis far

  -- the first N points of g are those of f moved and turned
  abbrev pub FigurePlaced : ℕ → Figure M → Figure M → Type 0
  FigurePlaced N f g = (i : ℕ) → i < N → Placed (place_of o f i) (place_of o g i)

  -- lines and circles
  abbrev LinesSame : List (Line M) → List (Line M) → Type 0
  LinesSame [] [] = Unit {0}
  LinesSame [] (m ∷ ms) = ⊥
  LinesSame (l ∷ ls) [] = ⊥
  LinesSame (l ∷ ls) (m ∷ ms) = SameLine l m × LinesSame ls ms

  same-line : (ls ms : List (Line M)) (i : ℕ) → LinesSame ls ms → SameLine (get_or ls i (no_line o)) (get_or ms i (no_line o))
  same-line [] [] i h = rows.same-nowhere D origin axis far
  same-line [] (m ∷ ms) i h = absurd h
  same-line (l ∷ ls) [] i h = absurd h
  same-line (l ∷ ls) (m ∷ ms) zero h = h.0
  same-line (l ∷ ls) (m ∷ ms) (suc i) h = same-line ls ms i h.1

  lines-push : (ls ms : List (Line M)) (l m : Line M) → LinesSame ls ms → SameLine l m → LinesSame (ls ++ l ∷ []) (ms ++ m ∷ [])
  lines-push [] [] l m h k = (k, tt)
  lines-push [] (y ∷ ms) l m h k = absurd h
  lines-push (x ∷ ls) [] l m h k = absurd h
  lines-push (x ∷ ls) (y ∷ ms) l m h k = (h.0, lines-push ls ms l m h.1 k)

  abbrev CirclesSame : List (Circle M) → List (Circle M) → Type 0
  CirclesSame [] [] = Unit {0}
  CirclesSame [] (d ∷ ds) = ⊥
  CirclesSame (c ∷ cs) [] = ⊥
  CirclesSame (c ∷ cs) (d ∷ ds) = SameCircle c d × CirclesSame cs ds

  same-circle : (cs ds : List (Circle M)) (i : ℕ) → CirclesSame cs ds → i < length cs → SameCircle (get_or cs i (no_circle o)) (get_or ds i (no_circle o))
  same-circle [] [] i h below = absurd (omega arith)
  same-circle [] (d ∷ ds) i h below = absurd h
  same-circle (c ∷ cs) [] i h below = absurd h
  same-circle (c ∷ cs) (d ∷ ds) zero h below = h.0
  same-circle (c ∷ cs) (d ∷ ds) (suc i) h below = same-circle cs ds i h.1 (omega arith)

  circles-push : (cs ds : List (Circle M)) (c d : Circle M) → CirclesSame cs ds → SameCircle c d → CirclesSame (cs ++ c ∷ []) (ds ++ d ∷ [])
  circles-push [] [] c d h k = (k, tt)
  circles-push [] (y ∷ ds) c d h k = absurd h
  circles-push (x ∷ cs) [] c d h k = absurd h
  circles-push (x ∷ cs) (y ∷ ds) c d h k = (h.0, circles-push cs ds c d h.1 k)

  pub record CurvesSame (n : Counts) (c d : Curves M) : Type 0 where
    pub lines : LinesSame c.lines d.lines
    pub circles : CirclesSame c.circles d.circles
    pub count : length c.circles ≡ n.circles

  -- effects
  abbrev EffectSame : Effect M → Effect M → Type 0
  EffectSame Nothing Nothing = Unit {0}
  EffectSame (NewLine l) (NewLine m) = SameLine l m
  EffectSame (NewCircle c) (NewCircle d) = SameCircle c d
  EffectSame (Conditions xs) (Conditions ys) = AllSame xs ys
  EffectSame _ _ = ⊥

  same-effect : (N : ℕ) (f g : Figure M) (c d : Curves M) (n : Counts) (a : Deed)
      → FigurePlaced N f g → CurvesSame n c d → Follows n a → (after n a).points ≤ N → EffectSame (effect o f c a) (effect o g d a)
  same-effect N f g c d n (deed.Dim w h) p s k le = tt
  same-effect N f g c d n (deed.Color r v b) p s k le = tt
  same-effect N f g c d n (deed.Prooflevel v) p s k le = tt
  same-effect N f g c d n (deed.Prooflimit v) p s k le = tt
  same-effect N f g c d n (deed.ProverTimeout v) p s k le = tt
  same-effect N f g c d n (deed.Point v x y) p s k le = tt
  same-effect N f g c d n (deed.Line l a b) p s k le =
      let pa = p a (omega (arith, k.1.1.0)) in
      let pb = p b (omega (arith, k.1.1.1.0)) in
      rows.same-along D origin axis far _ _ _ _ (rows.difference D origin axis far _ _ _ _ pb pa) pa
  same-effect N f g c d n (deed.Circle l a b) p s k le = record {
    centre = p a (omega (arith, k.1.1.0));
    through = p b (omega (arith, k.1.1.1.0));
  }
  same-effect N f g c d n (deed.Intersec x a b) p s k le =
      rows.intersection D origin axis far _ _ _ _ _ _ (p x (omega (arith, k.1.0))) (same-line _ _ a s.lines) (same-line _ _ b s.lines)
  same-effect N f g c d n (deed.CutLine x y l m) p s k le =
      rows.line_cut D origin axis far _ _ _ _ _ _ _ _ (p x (omega (arith, k.1.0))) (p y (omega (arith, k.1.1.0)))
      (same-circle _ _ l s.circles (omega (arith, k.1.1.1.0, s.count))) (same-line _ _ m s.lines)
  same-effect N f g c d n (deed.CutCircle x y l m) p s k le =
      rows.circle_cut D origin axis far _ _ _ _ _ _ _ _ (p x (omega (arith, k.1.0))) (p y (omega (arith, k.1.1.0)))
      (same-circle _ _ l s.circles (omega (arith, k.1.1.1.0, s.count))) (same-circle _ _ m s.circles (omega (arith, k.1.1.1.1.0, s.count)))
  same-effect N f g c d n (deed.Midpoint m a b) p s k le =
      rows.midpoint D origin axis far _ _ _ _ _ _ (p m (omega (arith, k.1.0))) (p a (omega (arith, k.1.1.0))) (p b (omega (arith, k.1.1.1.0)))
  same-effect N f g c d n (deed.Med l a b) p s k le =
      rows.same-bisector D origin axis far _ _ _ _ (p a (omega (arith, k.1.1.0))) (p b (omega (arith, k.1.1.1.0)))
  same-effect N f g c d n (deed.Perp v a l) p s k le =
      rows.same-across D origin axis far _ _ _ _ (same-line _ _ l s.lines).direction (p a (omega (arith, k.1.1.0)))
  same-effect N f g c d n (deed.Parallel v a l) p s k le =
      rows.same-along D origin axis far _ _ _ _ (same-line _ _ l s.lines).direction (p a (omega (arith, k.1.1.0)))
  same-effect N f g c d n (deed.Foot v a l) p s k le =
      rows.foot D origin axis far _ _ _ _ _ _ (p v (omega (arith, k.1.0))) (p a (omega (arith, k.1.1.0))) (same-line _ _ l s.lines)
  same-effect N f g c d n (deed.Online x a b) p s k le =
      rows.on_line D origin axis far _ _ _ _ _ _ (p x (omega (arith, k.1.0))) (p a (omega (arith, k.1.1.0))) (p b (omega (arith, k.1.1.1.0)))
  same-effect N f g c d n (deed.Oncircle x a b) p s k le =
      rows.one D origin axis far _ _ (rows.on_circle D origin axis far _ _ _ _ (p x (omega (arith, k.1.0)))
      (record { centre = p a (omega (arith, k.1.1.0)); through = p b (omega (arith, k.1.1.1.0)) }))
  same-effect N f g c d n (deed.Translate x a b v) p s k le =
      rows.translation D origin axis far _ _ _ _ _ _ _ _ (p x (omega (arith, k.1.0))) (p a (omega (arith, k.1.1.0))) (p b (omega (arith, k.1.1.1.0))) (p v (omega (arith, k.1.1.1.1.0)))
  same-effect N f g c d n (deed.Towards x a b r) p s k le =
      rows.division D origin axis far (numerator r) (pos (denominator r)) _ _ _ _ _ _ (p x (omega (arith, k.1.0))) (p a (omega (arith, k.1.1.0))) (p b (omega (arith, k.1.1.1.0)))
  same-effect N f g c d n (deed.Drawpoint a) p s k le = tt
  same-effect N f g c d n (deed.Drawsegment a b) p s k le = tt
  same-effect N f g c d n (deed.Drawdashsegment a b) p s k le = tt
  same-effect N f g c d n (deed.Drawline l) p s k le = tt
  same-effect N f g c d n (deed.Drawcircle v) p s k le = tt
  same-effect N f g c d n (deed.Cmark a) p s k le = tt
  same-effect N f g c d n (deed.CmarkAt v a) p s k le = tt
  same-effect N f g c d n (deed.Mark v a) p s k le = tt
  same-effect N f g c d n (deed.Prove v ps) p s k le = tt

  same-conditions : (e v : Effect M) → EffectSame e v → AllSame (conditions e) (conditions v)
  same-conditions Nothing Nothing h = rows.same-none D origin axis far
  same-conditions (NewLine l) (NewLine m) h = rows.same-none D origin axis far
  same-conditions (NewCircle c) (NewCircle d) h = rows.same-none D origin axis far
  same-conditions (Conditions xs) (Conditions ys) h = h
  same-conditions Nothing (NewLine m) h = absurd h
  same-conditions Nothing (NewCircle d) h = absurd h
  same-conditions Nothing (Conditions ys) h = absurd h
  same-conditions (NewLine l) Nothing h = absurd h
  same-conditions (NewLine l) (NewCircle d) h = absurd h
  same-conditions (NewLine l) (Conditions ys) h = absurd h
  same-conditions (NewCircle c) Nothing h = absurd h
  same-conditions (NewCircle c) (NewLine m) h = absurd h
  same-conditions (NewCircle c) (Conditions ys) h = absurd h
  same-conditions (Conditions xs) Nothing h = absurd h
  same-conditions (Conditions xs) (NewLine m) h = absurd h
  same-conditions (Conditions xs) (NewCircle d) h = absurd h

  -- how many circles there are behind an effect
  abbrev circles_of : Effect M → ℕ
  circles_of (NewCircle c) = 1
  circles_of _ = 0

  count-effect : (f : Figure M) (c : Curves M) (n : Counts) (a : Deed) → (after n a).circles ≡ n.circles + circles_of (effect o f c a)
  count-effect f c n (deed.Dim w h) = omega arith
  count-effect f c n (deed.Color r g b) = omega arith
  count-effect f c n (deed.Prooflevel k) = omega arith
  count-effect f c n (deed.Prooflimit k) = omega arith
  count-effect f c n (deed.ProverTimeout k) = omega arith
  count-effect f c n (deed.Point p x y) = omega arith
  count-effect f c n (deed.Line l a b) = omega arith
  count-effect f c n (deed.Circle k a b) = omega arith
  count-effect f c n (deed.Intersec x a b) = omega arith
  count-effect f c n (deed.CutLine x y k l) = omega arith
  count-effect f c n (deed.CutCircle x y k m) = omega arith
  count-effect f c n (deed.Midpoint m a b) = omega arith
  count-effect f c n (deed.Med l a b) = omega arith
  count-effect f c n (deed.Perp p a l) = omega arith
  count-effect f c n (deed.Parallel p a l) = omega arith
  count-effect f c n (deed.Foot p a l) = omega arith
  count-effect f c n (deed.Online x a b) = omega arith
  count-effect f c n (deed.Oncircle x a b) = omega arith
  count-effect f c n (deed.Translate x a b v) = omega arith
  count-effect f c n (deed.Towards x a b r) = omega arith
  count-effect f c n (deed.Drawpoint a) = omega arith
  count-effect f c n (deed.Drawsegment a b) = omega arith
  count-effect f c n (deed.Drawdashsegment a b) = omega arith
  count-effect f c n (deed.Drawline l) = omega arith
  count-effect f c n (deed.Drawcircle k) = omega arith
  count-effect f c n (deed.Cmark a) = omega arith
  count-effect f c n (deed.CmarkAt s a) = omega arith
  count-effect f c n (deed.Mark s a) = omega arith
  count-effect f c n (deed.Prove s ps) = omega arith

  same-with : (n m : Counts) (e v : Effect M) (c d : Curves M) → EffectSame e v → CurvesSame n c d → m.circles ≡ n.circles + circles_of e
      → CurvesSame m (with_effect e c) (with_effect v d)
  same-with n m Nothing Nothing c d h s k = record { lines = s.lines; circles = s.circles; count = omega (arith, s.count) }
  same-with n m (NewLine l) (NewLine w) c d h s k = record { lines = lines-push _ _ l w s.lines h; circles = s.circles; count = omega (arith, s.count) }
  same-with n m (NewCircle l) (NewCircle w) c d h s k = record {
    lines = s.lines;
    circles = circles-push _ _ l w s.circles h;
    count = let e = s.count in simp length-append (omega arith);
  }
  same-with n m (Conditions xs) (Conditions ys) c d h s k = record { lines = s.lines; circles = s.circles; count = omega (arith, s.count) }
  same-with n m Nothing (NewLine w) c d h s k = absurd h
  same-with n m Nothing (NewCircle w) c d h s k = absurd h
  same-with n m Nothing (Conditions ys) c d h s k = absurd h
  same-with n m (NewLine l) Nothing c d h s k = absurd h
  same-with n m (NewLine l) (NewCircle w) c d h s k = absurd h
  same-with n m (NewLine l) (Conditions ys) c d h s k = absurd h
  same-with n m (NewCircle l) Nothing c d h s k = absurd h
  same-with n m (NewCircle l) (NewLine w) c d h s k = absurd h
  same-with n m (NewCircle l) (Conditions ys) c d h s k = absurd h
  same-with n m (Conditions xs) Nothing c d h s k = absurd h
  same-with n m (Conditions xs) (NewLine w) c d h s k = absurd h
  same-with n m (Conditions xs) (NewCircle w) c d h s k = absurd h

  -- acts
  pub same-acts : (N : ℕ) (f g : Figure M) (c d : Curves M) (n : Counts) (acts : List Act)
      → FigurePlaced N f g → CurvesSame n c d → AllFollow n acts → (after_all n acts).points ≤ N → MeetAlikeFrom o f g c d acts
  unfolding MeetAlikeFrom AllFollow after_all
  same-acts N f g c d n [] p s k le = tt
  same-acts N f g c d n (a ∷ acts) p s k le =
      let grown = all-points-grow (after n a.deed) acts in
      let e = same-effect N f g c d n a.deed p s k.0 (omega arith) in
      let here = same-conditions _ _ e in
      let there = same-acts N f g (with_effect (effect o f c a.deed) c) (with_effect (effect o g d a.deed) d) (after n a.deed) acts p
      (same-with n (after n a.deed) _ _ c d e s (count-effect f c n a.deed)) k.1 le in
      ((here.forth, here.back), there)

  -- statements
  abbrev AllPlaced : List (Vector M) → List (Vector M) → Type 0
  AllPlaced [] [] = Unit {0}
  AllPlaced [] (q ∷ qs) = ⊥
  AllPlaced (p ∷ ps) [] = ⊥
  AllPlaced (p ∷ ps) (q ∷ qs) = Placed p q × AllPlaced ps qs

  impossible : AllSame (o.one ∷ []) (o.one ∷ [])
  impossible = record { forth = λ z. z; back = λ z. z }

  same-two : (f g : Vector M → Vector M → List M)
      → ((a0 a1 b0 b1 : Vector M) → Placed a0 b0 → Placed a1 b1 → AllSame (f a0 a1) (g b0 b1))
      → (ps qs : List (Vector M)) → AllPlaced ps qs → AllSame (over_two o f ps) (over_two o g qs)
  same-two f g r [] [] h = impossible
  same-two f g r [] (b0 ∷ []) h = absurd h
  same-two f g r [] (b0 ∷ b1 ∷ []) h = absurd h
  same-two f g r [] (b0 ∷ b1 ∷ b2 ∷ qs) h = absurd h
  same-two f g r (a0 ∷ []) [] h = absurd h
  same-two f g r (a0 ∷ []) (b0 ∷ []) h = impossible
  same-two f g r (a0 ∷ []) (b0 ∷ b1 ∷ []) h = absurd h.1
  same-two f g r (a0 ∷ []) (b0 ∷ b1 ∷ b2 ∷ qs) h = absurd h.1
  same-two f g r (a0 ∷ a1 ∷ []) [] h = absurd h
  same-two f g r (a0 ∷ a1 ∷ []) (b0 ∷ []) h = absurd h.1
  same-two f g r (a0 ∷ a1 ∷ []) (b0 ∷ b1 ∷ []) h = r a0 a1 b0 b1 h.0 h.1.0
  same-two f g r (a0 ∷ a1 ∷ []) (b0 ∷ b1 ∷ b2 ∷ qs) h = absurd h.1.1
  same-two f g r (a0 ∷ a1 ∷ a2 ∷ ps) [] h = absurd h
  same-two f g r (a0 ∷ a1 ∷ a2 ∷ ps) (b0 ∷ []) h = absurd h.1
  same-two f g r (a0 ∷ a1 ∷ a2 ∷ ps) (b0 ∷ b1 ∷ []) h = absurd h.1.1
  same-two f g r (a0 ∷ a1 ∷ a2 ∷ ps) (b0 ∷ b1 ∷ b2 ∷ qs) h = impossible

  same-three : (f g : Vector M → Vector M → Vector M → List M)
      → ((a0 a1 a2 b0 b1 b2 : Vector M) → Placed a0 b0 → Placed a1 b1 → Placed a2 b2 → AllSame (f a0 a1 a2) (g b0 b1 b2))
      → (ps qs : List (Vector M)) → AllPlaced ps qs → AllSame (over_three o f ps) (over_three o g qs)
  same-three f g r [] [] h = impossible
  same-three f g r [] (b0 ∷ []) h = absurd h
  same-three f g r [] (b0 ∷ b1 ∷ []) h = absurd h
  same-three f g r [] (b0 ∷ b1 ∷ b2 ∷ []) h = absurd h
  same-three f g r [] (b0 ∷ b1 ∷ b2 ∷ b3 ∷ qs) h = absurd h
  same-three f g r (a0 ∷ []) [] h = absurd h
  same-three f g r (a0 ∷ []) (b0 ∷ []) h = impossible
  same-three f g r (a0 ∷ []) (b0 ∷ b1 ∷ []) h = absurd h.1
  same-three f g r (a0 ∷ []) (b0 ∷ b1 ∷ b2 ∷ []) h = absurd h.1
  same-three f g r (a0 ∷ []) (b0 ∷ b1 ∷ b2 ∷ b3 ∷ qs) h = absurd h.1
  same-three f g r (a0 ∷ a1 ∷ []) [] h = absurd h
  same-three f g r (a0 ∷ a1 ∷ []) (b0 ∷ []) h = absurd h.1
  same-three f g r (a0 ∷ a1 ∷ []) (b0 ∷ b1 ∷ []) h = impossible
  same-three f g r (a0 ∷ a1 ∷ []) (b0 ∷ b1 ∷ b2 ∷ []) h = absurd h.1.1
  same-three f g r (a0 ∷ a1 ∷ []) (b0 ∷ b1 ∷ b2 ∷ b3 ∷ qs) h = absurd h.1.1
  same-three f g r (a0 ∷ a1 ∷ a2 ∷ []) [] h = absurd h
  same-three f g r (a0 ∷ a1 ∷ a2 ∷ []) (b0 ∷ []) h = absurd h.1
  same-three f g r (a0 ∷ a1 ∷ a2 ∷ []) (b0 ∷ b1 ∷ []) h = absurd h.1.1
  same-three f g r (a0 ∷ a1 ∷ a2 ∷ []) (b0 ∷ b1 ∷ b2 ∷ []) h = r a0 a1 a2 b0 b1 b2 h.0 h.1.0 h.1.1.0
  same-three f g r (a0 ∷ a1 ∷ a2 ∷ []) (b0 ∷ b1 ∷ b2 ∷ b3 ∷ qs) h = absurd h.1.1.1
  same-three f g r (a0 ∷ a1 ∷ a2 ∷ a3 ∷ ps) [] h = absurd h
  same-three f g r (a0 ∷ a1 ∷ a2 ∷ a3 ∷ ps) (b0 ∷ []) h = absurd h.1
  same-three f g r (a0 ∷ a1 ∷ a2 ∷ a3 ∷ ps) (b0 ∷ b1 ∷ []) h = absurd h.1.1
  same-three f g r (a0 ∷ a1 ∷ a2 ∷ a3 ∷ ps) (b0 ∷ b1 ∷ b2 ∷ []) h = absurd h.1.1.1
  same-three f g r (a0 ∷ a1 ∷ a2 ∷ a3 ∷ ps) (b0 ∷ b1 ∷ b2 ∷ b3 ∷ qs) h = impossible

  same-four : (f g : Vector M → Vector M → Vector M → Vector M → List M)
      → ((a0 a1 a2 a3 b0 b1 b2 b3 : Vector M) → Placed a0 b0 → Placed a1 b1 → Placed a2 b2 → Placed a3 b3 → AllSame (f a0 a1 a2 a3) (g b0 b1 b2 b3))
      → (ps qs : List (Vector M)) → AllPlaced ps qs → AllSame (over_four o f ps) (over_four o g qs)
  same-four f g r [] [] h = impossible
  same-four f g r [] (b0 ∷ []) h = absurd h
  same-four f g r [] (b0 ∷ b1 ∷ []) h = absurd h
  same-four f g r [] (b0 ∷ b1 ∷ b2 ∷ []) h = absurd h
  same-four f g r [] (b0 ∷ b1 ∷ b2 ∷ b3 ∷ []) h = absurd h
  same-four f g r [] (b0 ∷ b1 ∷ b2 ∷ b3 ∷ b4 ∷ qs) h = absurd h
  same-four f g r (a0 ∷ []) [] h = absurd h
  same-four f g r (a0 ∷ []) (b0 ∷ []) h = impossible
  same-four f g r (a0 ∷ []) (b0 ∷ b1 ∷ []) h = absurd h.1
  same-four f g r (a0 ∷ []) (b0 ∷ b1 ∷ b2 ∷ []) h = absurd h.1
  same-four f g r (a0 ∷ []) (b0 ∷ b1 ∷ b2 ∷ b3 ∷ []) h = absurd h.1
  same-four f g r (a0 ∷ []) (b0 ∷ b1 ∷ b2 ∷ b3 ∷ b4 ∷ qs) h = absurd h.1
  same-four f g r (a0 ∷ a1 ∷ []) [] h = absurd h
  same-four f g r (a0 ∷ a1 ∷ []) (b0 ∷ []) h = absurd h.1
  same-four f g r (a0 ∷ a1 ∷ []) (b0 ∷ b1 ∷ []) h = impossible
  same-four f g r (a0 ∷ a1 ∷ []) (b0 ∷ b1 ∷ b2 ∷ []) h = absurd h.1.1
  same-four f g r (a0 ∷ a1 ∷ []) (b0 ∷ b1 ∷ b2 ∷ b3 ∷ []) h = absurd h.1.1
  same-four f g r (a0 ∷ a1 ∷ []) (b0 ∷ b1 ∷ b2 ∷ b3 ∷ b4 ∷ qs) h = absurd h.1.1
  same-four f g r (a0 ∷ a1 ∷ a2 ∷ []) [] h = absurd h
  same-four f g r (a0 ∷ a1 ∷ a2 ∷ []) (b0 ∷ []) h = absurd h.1
  same-four f g r (a0 ∷ a1 ∷ a2 ∷ []) (b0 ∷ b1 ∷ []) h = absurd h.1.1
  same-four f g r (a0 ∷ a1 ∷ a2 ∷ []) (b0 ∷ b1 ∷ b2 ∷ []) h = impossible
  same-four f g r (a0 ∷ a1 ∷ a2 ∷ []) (b0 ∷ b1 ∷ b2 ∷ b3 ∷ []) h = absurd h.1.1.1
  same-four f g r (a0 ∷ a1 ∷ a2 ∷ []) (b0 ∷ b1 ∷ b2 ∷ b3 ∷ b4 ∷ qs) h = absurd h.1.1.1
  same-four f g r (a0 ∷ a1 ∷ a2 ∷ a3 ∷ []) [] h = absurd h
  same-four f g r (a0 ∷ a1 ∷ a2 ∷ a3 ∷ []) (b0 ∷ []) h = absurd h.1
  same-four f g r (a0 ∷ a1 ∷ a2 ∷ a3 ∷ []) (b0 ∷ b1 ∷ []) h = absurd h.1.1
  same-four f g r (a0 ∷ a1 ∷ a2 ∷ a3 ∷ []) (b0 ∷ b1 ∷ b2 ∷ []) h = absurd h.1.1.1
  same-four f g r (a0 ∷ a1 ∷ a2 ∷ a3 ∷ []) (b0 ∷ b1 ∷ b2 ∷ b3 ∷ []) h = r a0 a1 a2 a3 b0 b1 b2 b3 h.0 h.1.0 h.1.1.0 h.1.1.1.0
  same-four f g r (a0 ∷ a1 ∷ a2 ∷ a3 ∷ []) (b0 ∷ b1 ∷ b2 ∷ b3 ∷ b4 ∷ qs) h = absurd h.1.1.1.1
  same-four f g r (a0 ∷ a1 ∷ a2 ∷ a3 ∷ a4 ∷ ps) [] h = absurd h
  same-four f g r (a0 ∷ a1 ∷ a2 ∷ a3 ∷ a4 ∷ ps) (b0 ∷ []) h = absurd h.1
  same-four f g r (a0 ∷ a1 ∷ a2 ∷ a3 ∷ a4 ∷ ps) (b0 ∷ b1 ∷ []) h = absurd h.1.1
  same-four f g r (a0 ∷ a1 ∷ a2 ∷ a3 ∷ a4 ∷ ps) (b0 ∷ b1 ∷ b2 ∷ []) h = absurd h.1.1.1
  same-four f g r (a0 ∷ a1 ∷ a2 ∷ a3 ∷ a4 ∷ ps) (b0 ∷ b1 ∷ b2 ∷ b3 ∷ []) h = absurd h.1.1.1.1
  same-four f g r (a0 ∷ a1 ∷ a2 ∷ a3 ∷ a4 ∷ ps) (b0 ∷ b1 ∷ b2 ∷ b3 ∷ b4 ∷ qs) h = impossible

  same-stated : (s : Statement) (ps qs : List (Vector M)) → AllPlaced ps qs → AllSame (stated o s ps) (stated o s qs)
  same-stated statement.Identical = same-two _ _ (λ a b c d. rows.identical D origin axis far a b c d)
  same-stated statement.Collinear = same-three _ _ (rows.collinear D origin axis far)
  same-stated statement.Perpendicular = same-four _ _ (rows.perpendicular D origin axis far)
  same-stated statement.Parallel = same-four _ _ (rows.parallel D origin axis far)
  same-stated statement.Midpoint = same-three _ _ (rows.midpoint D origin axis far)
  same-stated statement.SameLength = same-four _ _ (rows.same_length D origin axis far)

  all-placed : (N : ℕ) (f g : Figure M) (n : Counts) (points : List ℕ) → FigurePlaced N f g → AreMade n points → n.points ≤ N
      → AllPlaced (map (place_of o f) points) (map (place_of o g) points)
  unfolding AreMade
  all-placed N f g n [] p k le = tt
  all-placed N f g n (q ∷ qs) p k le = (p q (omega (arith, k.0)), all-placed N f g n qs p k.1 le)

  pub same-statement : (N : ℕ) (f g : Figure M) (n : Counts) (s : Statement) (points : List ℕ) → FigurePlaced N f g → AreMade n points → n.points ≤ N
      → MeetsStatement o f s points ↔ MeetsStatement o g s points
  same-statement N f g n s points p k le =
      let h = same-stated s _ _ (all-placed N f g n points p k le) in
      (h.forth, h.back)

-- Figures that meet each act alike meet them all alike.
pub alike-all : {M : Type 0} (o : Operations M) (f g : Figure M) (c d : Curves M) (acts : List Act) → MeetAlikeFrom o f g c d acts
    → MeetsFrom o f c acts ↔ MeetsFrom o g d acts
unfolding MeetsFrom MeetAlikeFrom
alike-all o f g c d [] h = ((λ z. z), (λ z. z))
alike-all o f g c d (a ∷ acts) h =
    let there = alike-all o f g (with_effect (effect o f c a.deed) c) (with_effect (effect o g d a.deed) d) acts h.1 in
    ((λ z. (h.0.0 z.0, there.0 z.1)), (λ z. (h.0.1 z.0, there.1 z.1)))

-- The first acts of a sound list are sound, and the others follow them.
pub follow-front : (n : Counts) (before rest : List Act) → AllFollow n (before ++ rest) → AllFollow n before × AllFollow (after_all n before) rest
unfolding AllFollow after_all
follow-front n [] rest h = (tt, h)
follow-front n (a ∷ before) rest h = let w = follow-front (after n a.deed) before rest h.1 in ((h.0, w.0), w.1)
