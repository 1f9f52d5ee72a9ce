-- The part of any line: level and upright lines, falling lines, and the others by turning them over.
use Rattle.std.proofs.Common.{◌≡◌, ◌≢◌, ◌⊎◌, inl, inr, zero, suc, Bool, true, false, [], ◌∷◌, Option, Some, None, refl, sym, ap, subst, arith, cond}
use Rattle.std.specs.Prelude.{ℤ, pos, negsuc, ◌+ℤ◌, ◌-ℤ◌, ◌*ℤ◌, neg_ℤ, ◌<ℤ◌, ◌≤ℤ◌, int_lt, int_le, ◌&&◌}
use Rattle.std.specs.Ordering.{int_eq}
use Rattle.std.proofs.lemmas.Int.{ints}
use Rattle.std.proofs.lemmas.Bool.Decides.{Decides-int_eq, not_from_Decides}
use Rattle.poly_model.specs.Integers.{integers_ring}
use Rattle.poly_model.specs.Solve.{Var, Zero, Add, Mul, Neg, solve}
use Rattle.circle_cut.specs.declared.exact.Exact.{Exact}
use Rattle.line_clip.specs.declared.part.Area.{Area}
use Rattle.line_clip.specs.declared.part.Line.{Line}
use Rattle.line_clip.specs.Part.{IsIn, IsCommon, IsSame, NotAfter, IsPart}
use Rattle.line_clip.specs.Ends.{ends_if, upright, level, falling, mirrored_place, mirrored, sloped, line_part, LinePartIsThePart}
use Rattle.line_clip.proofs.Falling.{nonneg, positive, zero-or, off, lt-by, eq-by, times-zero, gap, neg-times, less, line, up-to, le-true, le-false, lt-true, lt-false, NotRight, Sloping, IsFallingPart, Touches, Crosses, falling-part}

-- ---- lines with the same places

module _ (a : Area) (l k : Line) (there : (p : Exact) → IsCommon a l p → IsCommon a k p) (back : (p : Exact) → IsCommon a k p → IsCommon a l p) where
  pub same-part : (o : Option (Exact × Exact)) → IsPart a k o → IsPart a l o
  same-part None point = λ r s p q. point r s (there r p) (there s q)
  same-part (Some ends) e = record { first = back ends.0 e.first; last = back ends.1 e.last; two = e.two; between = λ r p. e.between r (there r p) }

-- the same line, with all signs changed
abbrev pub opposite : Line → Line
opposite l = record { n1 = neg_ℤ l.n1; n2 = neg_ℤ l.n2; c = neg_ℤ l.c }

opposite-on : (n1 n2 c x y d : ℤ) → n1 *ℤ x +ℤ n2 *ℤ y ≡ c *ℤ d → neg_ℤ n1 *ℤ x +ℤ neg_ℤ n2 *ℤ y ≡ neg_ℤ c *ℤ d
opposite-on n1 n2 c x y d e = omega (arith, ints, neg-times n1 x, neg-times n2 y, neg-times c d, e)

opposite-back : (n1 n2 c x y d : ℤ) → neg_ℤ n1 *ℤ x +ℤ neg_ℤ n2 *ℤ y ≡ neg_ℤ c *ℤ d → n1 *ℤ x +ℤ n2 *ℤ y ≡ c *ℤ d
opposite-back n1 n2 c x y d e = omega (arith, ints, neg-times n1 x, neg-times n2 y, neg-times c d, e)

opposite-there : (a : Area) (l : Line) (p : Exact) → IsCommon a l p → IsCommon a (opposite l) p
opposite-there a l p k = record { positive = k.positive; on = opposite-on l.n1 l.n2 l.c p.x p.y p.d k.on; inside = k.inside }

opposite-here : (a : Area) (l : Line) (p : Exact) → IsCommon a (opposite l) p → IsCommon a l p
opposite-here a l p k = record { positive = k.positive; on = opposite-back l.n1 l.n2 l.c p.x p.y p.d k.on; inside = k.inside }

pub opposite-part : (a : Area) (l : Line) (o : Option (Exact × Exact)) → IsPart a (opposite l) o → IsPart a l o
opposite-part a l o e = same-part a l (opposite l) (opposite-there a l) (opposite-here a l) o e

-- ---- upright and level lines

swap-last : (h n d y : ℤ) → (h *ℤ n) *ℤ d -ℤ y *ℤ n ≡ n *ℤ (h *ℤ d -ℤ y) +ℤ pos 0
swap-last h n d y = solve integers_ring (h ∷ n ∷ d ∷ y ∷ []) (Add (Mul (Mul (Var 0) (Var 1)) (Var 2)) (Neg (Mul (Var 3) (Var 1)))) (Add (Mul (Var 1) (Add (Mul (Var 0) (Var 2)) (Neg (Var 3)))) Zero) refl

past : (w n c x d : ℤ) → n *ℤ (w *ℤ d -ℤ x) +ℤ (c -ℤ w *ℤ n) *ℤ d ≡ c *ℤ d -ℤ n *ℤ x
past w n c x d = solve integers_ring (w ∷ n ∷ c ∷ x ∷ d ∷ []) (Add (Mul (Var 1) (Add (Mul (Var 0) (Var 4)) (Neg (Var 3)))) (Mul (Add (Var 2) (Neg (Mul (Var 0) (Var 1)))) (Var 4)))
    (Add (Mul (Var 2) (Var 4)) (Neg (Mul (Var 1) (Var 3)))) refl

too-far : (t u e : ℤ) → pos 0 ≤ℤ t → pos 0 <ℤ u → t +ℤ u ≡ e → e ≡ pos 0 → ⊥
too-far t u e p q s z = omega (arith, ints, p, q, s, z)

-- a coordinate x with n x = c d lies between 0 and w d only where c lies between 0 and w n
inside-test : (w n c x d : ℤ) (b e : Bool) → int_le (pos 0) c ≡ b → int_le c (w *ℤ n) ≡ e → b && e ≡ false
    → pos 0 <ℤ n → pos 0 <ℤ d → pos 0 ≤ℤ x → x ≤ℤ (w *ℤ d) → n *ℤ x ≡ c *ℤ d → ⊥
inside-test w n c x d true true p q f pn pd px qx on = absurd (cc)
inside-test w n c x d true false p q f pn pd px qx on =
    let t = nonneg n _ (up-to _ _ pn) (gap _ _ qx) in
    let far = le-false c (w *ℤ n) q in
    let some : pos 0 <ℤ (c -ℤ w *ℤ n) = omega (arith, ints, far) in
    too-far _ _ _ t (positive _ d some pd) (past w n c x d) (off _ _ (sym on))
inside-test w n c x d false e p q f pn pd px qx on =
    let t = nonneg n x (up-to _ _ pn) px in
    let far = le-false (pos 0) c p in
    let some : pos 0 <ℤ neg_ℤ c = omega (arith, ints, far) in
    let u = positive _ d some pd in
    let z = neg-times c d in
    omega (arith, ints, t, u, z, on)

module _ (a : Area) (n c : ℤ) (pn : pos 0 <ℤ n) (pw : pos 0 <ℤ a.w) (ph : pos 0 <ℤ a.h) where
  abbrev upright-line : Line
  upright-line = record { n1 = n; n2 = pos 0; c = c }

  abbrev level-line : Line
  level-line = record { n1 = pos 0; n2 = n; c = c }

  upright-x : (r : Exact) → IsCommon a upright-line r → n *ℤ r.x ≡ c *ℤ r.d
  upright-x r k = let o : n *ℤ r.x +ℤ pos 0 *ℤ r.y ≡ c *ℤ r.d = k.on in omega (arith, ints, o)

  level-y : (r : Exact) → IsCommon a level-line r → n *ℤ r.y ≡ c *ℤ r.d
  level-y r k = let o : pos 0 *ℤ r.x +ℤ n *ℤ r.y ≡ c *ℤ r.d = k.on in omega (arith, ints, o)

  -- a coordinate is not before 0, and not behind the far side
  not-before : (y d : ℤ) → (pos 0 <ℤ y) ⊎ (y ≡ pos 0) → ((pos 0 *ℤ d) <ℤ (y *ℤ n)) ⊎ (pos 0 *ℤ d ≡ y *ℤ n)
  not-before y d (inl some) = inl (let t = positive y n some pn in omega (arith, ints, t))
  not-before y d (inr none) = inr (let e = ap (λ z. z *ℤ n) none in omega (arith, ints, e))

  not-behind : (h y d : ℤ) → (pos 0 <ℤ (h *ℤ d -ℤ y)) ⊎ (h *ℤ d -ℤ y ≡ pos 0) → ((y *ℤ n) <ℤ ((h *ℤ n) *ℤ d)) ⊎ (y *ℤ n ≡ (h *ℤ n) *ℤ d)
  not-behind h y d (inl some) = inl (lt-by _ _ _ _ (swap-last h n d y) refl (positive n _ pn some))
  not-behind h y d (inr none) = inr (eq-by _ _ _ _ (swap-last h n d y) refl (times-zero n _ none))

  by-y : (p q : Exact) → p.x *ℤ q.d ≡ q.x *ℤ p.d → ((p.y *ℤ q.d) <ℤ (q.y *ℤ p.d)) ⊎ (p.y *ℤ q.d ≡ q.y *ℤ p.d) → NotAfter p q
  by-y p q x (inl lt) = inl (inr (x, lt))
  by-y p q x (inr e) = inr (x, e)

  by-x : (p q : Exact) → p.y *ℤ q.d ≡ q.y *ℤ p.d → ((p.x *ℤ q.d) <ℤ (q.x *ℤ p.d)) ⊎ (p.x *ℤ q.d ≡ q.x *ℤ p.d) → NotAfter p q
  by-x p q y (inl lt) = inl (inl lt)
  by-x p q y (inr e) = inr (e, y)

  upright-is : (b e : Bool) → int_le (pos 0) c ≡ b → int_le c (a.w *ℤ n) ≡ e
      → IsPart a upright-line (ends_if (b && e) (record { x = c; y = pos 0; d = n }) (record { x = c; y = a.h *ℤ n; d = n }))
  upright-is true true p q = record {
    first = record { positive = pn; on = omega (arith, ints); inside = record { left = le-true _ _ p; right = le-true _ _ q; bottom = omega (arith, ints); top = nonneg a.h n (up-to _ _ ph) (up-to _ _ pn) } };
    last = record { positive = pn; on = omega (arith, ints); inside = record { left = le-true _ _ p; right = le-true _ _ q; bottom = nonneg a.h n (up-to _ _ ph) (up-to _ _ pn); top = omega (arith, ints) } };
    two = inr (refl, (let t = positive (a.h *ℤ n) n (positive a.h n ph pn) pn in omega (arith, ints, t)));
    between = λ r k.
        let x = upright-x r k in
        (by-y (record { x = c; y = pos 0; d = n }) r (omega (arith, ints, x)) (not-before r.y r.d (zero-or _ k.inside.bottom)), by-y r (record { x = c; y = a.h *ℤ n; d = n }) (omega (arith, ints, x)) (not-behind a.h r.y r.d (zero-or _ (gap _ _ k.inside.top))));
  }
  upright-is true false p q = λ r s j k. absurd (inside-test a.w n c r.x r.d true false p q refl pn j.positive j.inside.left j.inside.right (upright-x r j))
  upright-is false e p q = λ r s j k. absurd (inside-test a.w n c r.x r.d false e p q refl pn j.positive j.inside.left j.inside.right (upright-x r j))

  pub upright-part : IsPart a upright-line (upright a n c)
  upright-part = upright-is (int_le (pos 0) c) (int_le c (a.w *ℤ n)) refl refl

  level-is : (b e : Bool) → int_le (pos 0) c ≡ b → int_le c (a.h *ℤ n) ≡ e
      → IsPart a level-line (ends_if (b && e) (record { x = pos 0; y = c; d = n }) (record { x = a.w *ℤ n; y = c; d = n }))
  level-is true true p q = record {
    first = record { positive = pn; on = omega (arith, ints); inside = record { left = omega (arith, ints); right = nonneg a.w n (up-to _ _ pw) (up-to _ _ pn); bottom = le-true _ _ p; top = le-true _ _ q } };
    last = record { positive = pn; on = omega (arith, ints); inside = record { left = nonneg a.w n (up-to _ _ pw) (up-to _ _ pn); right = omega (arith, ints); bottom = le-true _ _ p; top = le-true _ _ q } };
    two = inl (let t = positive (a.w *ℤ n) n (positive a.w n pw pn) pn in omega (arith, ints, t));
    between = λ r k.
        let y = level-y r k in
        (by-x (record { x = pos 0; y = c; d = n }) r (omega (arith, ints, y)) (not-before r.x r.d (zero-or _ k.inside.left)), by-x r (record { x = a.w *ℤ n; y = c; d = n }) (omega (arith, ints, y)) (not-behind a.w r.x r.d (zero-or _ (gap _ _ k.inside.right))));
  }
  level-is true false p q = λ r s j k. absurd (inside-test a.h n c r.y r.d true false p q refl pn j.positive j.inside.bottom j.inside.top (level-y r j))
  level-is false e p q = λ r s j k. absurd (inside-test a.h n c r.y r.d false e p q refl pn j.positive j.inside.bottom j.inside.top (level-y r j))

  pub level-part : IsPart a level-line (level a n c)
  level-part = level-is (int_le (pos 0) c) (int_le c (a.h *ℤ n)) refl refl

-- ---- falling and rising lines

not-after : (p q : Exact) → NotRight p q → NotAfter p q
not-after p q (inl lt) = inl (inl lt)
not-after p q (inr e) = inr e

falling-ends : (a : Area) (m n c : ℤ) (s : Sloping a m n) (o : Option (Exact × Exact)) → IsFallingPart a m n c s o → IsPart a (line m n c) o
falling-ends a m n c s None (Touches point) = point
falling-ends a m n c s (Some ends) (Crosses p q e) =
    record { first = e.first; last = e.last; two = inl e.two; between = λ r k. (not-after p r (e.between r k).0, not-after r q (e.between r k).1) }

-- m x + n (h d - y) is (h n - c) d where - m x + n y is c d
turned : (m n c h x y d : ℤ) → (m *ℤ x +ℤ n *ℤ (h *ℤ d -ℤ y)) -ℤ (h *ℤ n -ℤ c) *ℤ d ≡ neg_ℤ ((neg_ℤ m *ℤ x +ℤ n *ℤ y) -ℤ c *ℤ d)
turned m n c h x y d = solve integers_ring (m ∷ n ∷ c ∷ h ∷ x ∷ y ∷ d ∷ [])
    (less (Add (Mul (Var 0) (Var 4)) (Mul (Var 1) (less (Mul (Var 3) (Var 6)) (Var 5)))) (Mul (less (Mul (Var 3) (Var 1)) (Var 2)) (Var 6)))
    (Neg (less (Add (Mul (Neg (Var 0)) (Var 4)) (Mul (Var 1) (Var 5))) (Mul (Var 2) (Var 6)))) refl

turned-back : (m n c h x y d : ℤ) → (neg_ℤ m *ℤ x +ℤ n *ℤ (h *ℤ d -ℤ y)) -ℤ c *ℤ d ≡ neg_ℤ ((m *ℤ x +ℤ n *ℤ y) -ℤ (h *ℤ n -ℤ c) *ℤ d)
turned-back m n c h x y d = solve integers_ring (m ∷ n ∷ c ∷ h ∷ x ∷ y ∷ d ∷ [])
    (less (Add (Mul (Neg (Var 0)) (Var 4)) (Mul (Var 1) (less (Mul (Var 3) (Var 6)) (Var 5)))) (Mul (Var 2) (Var 6)))
    (Neg (less (Add (Mul (Var 0) (Var 4)) (Mul (Var 1) (Var 5))) (Mul (less (Mul (Var 3) (Var 1)) (Var 2)) (Var 6)))) refl

zero-neg : (u v e : ℤ) → u -ℤ v ≡ neg_ℤ e → e ≡ pos 0 → u ≡ v
zero-neg u v e p q = omega (arith, ints, p, q)

-- upside down
turned-y : (h d e y z : ℤ) → (h *ℤ d -ℤ y) *ℤ e -ℤ z *ℤ d ≡ (h *ℤ e -ℤ z) *ℤ d -ℤ y *ℤ e
turned-y h d e y z = solve integers_ring (h ∷ d ∷ e ∷ y ∷ z ∷ [])
    (less (Mul (less (Mul (Var 0) (Var 1)) (Var 3)) (Var 2)) (Mul (Var 4) (Var 1)))
    (less (Mul (less (Mul (Var 0) (Var 2)) (Var 4)) (Var 1)) (Mul (Var 3) (Var 2))) refl

from-turned : (u v s t : ℤ) → u -ℤ v ≡ s -ℤ t → s ≡ t → u ≡ v
from-turned u v s t p q = omega (arith, ints, p, q)

unturned : (h d e y z : ℤ) → y *ℤ e -ℤ z *ℤ d ≡ (h *ℤ e -ℤ z) *ℤ d -ℤ (h *ℤ d -ℤ y) *ℤ e
unturned h d e y z = solve integers_ring (h ∷ d ∷ e ∷ y ∷ z ∷ [])
    (less (Mul (Var 3) (Var 2)) (Mul (Var 4) (Var 1)))
    (less (Mul (less (Mul (Var 0) (Var 2)) (Var 4)) (Var 1)) (Mul (less (Mul (Var 0) (Var 1)) (Var 3)) (Var 2))) refl

eq-true : (m n : ℤ) → int_eq m n ≡ true → m ≡ n
eq-true m n e = (Decides-int_eq m n).0 e

eq-false : (m n : ℤ) → int_eq m n ≡ false → m ≢ n
eq-false m n e = not_from_Decides _ (Decides-int_eq m n) e

neg-neg : (m : ℤ) → neg_ℤ (neg_ℤ m) ≡ m
neg-neg m = omega (arith, ints)

not-zero : (m : ℤ) → m ≢ pos 0 → pos 0 ≤ℤ m → pos 0 <ℤ m
not-zero (pos zero) some p = absurd (some refl)
not-zero (pos (suc k)) some p = omega (arith, ints)
not-zero (negsuc k) some p = absurd (omega (arith, ints, p))

module _ (a : Area) (m n c : ℤ) (s : Sloping a m n) where
  abbrev rising-line : Line
  rising-line = record { n1 = neg_ℤ m; n2 = n; c = c }

  abbrev fallen-line : Line
  fallen-line = line m n (a.h *ℤ n -ℤ c)

  turn-in : (p : Exact) → IsIn a p → IsIn a (mirrored_place a p)
  turn-in p k =
      let low = k.bottom in let high = k.top in
      record { left = k.left; right = k.right; bottom = gap _ _ high; top = omega (arith, ints, low) }

  turn : (p : Exact) → IsCommon a rising-line p → IsCommon a fallen-line (mirrored_place a p)
  turn p k = record { positive = k.positive; on = zero-neg _ _ _ (turned m n c a.h p.x p.y p.d) (off _ _ k.on); inside = turn-in p k.inside }

  turn-back : (p : Exact) → IsCommon a fallen-line p → IsCommon a rising-line (mirrored_place a p)
  turn-back p k = record { positive = k.positive; on = zero-neg _ _ _ (turned-back m n c a.h p.x p.y p.d) (off _ _ k.on); inside = turn-in p k.inside }

  -- p against r turned over, as p turned over against r
  same-here : (p r : Exact) → IsSame p (mirrored_place a r) → IsSame (mirrored_place a p) r
  same-here p r e = (e.0, from-turned _ _ _ _ (turned-y a.h p.d r.d p.y r.y) (sym e.1))

  same-there : (p r : Exact) → IsSame (mirrored_place a r) p → IsSame r (mirrored_place a p)
  same-there p r e = (e.0, sym (from-turned _ _ _ _ (turned-y a.h p.d r.d p.y r.y) e.1))

  right-here : (p r : Exact) → NotRight p (mirrored_place a r) → NotAfter (mirrored_place a p) r
  right-here p r (inl lt) = inl (inl lt)
  right-here p r (inr e) = inr (same-here p r e)

  right-there : (p r : Exact) → NotRight (mirrored_place a r) p → NotAfter r (mirrored_place a p)
  right-there p r (inl lt) = inl (inl lt)
  right-there p r (inr e) = inr (same-there p r e)

  rising-ends : (o : Option (Exact × Exact)) → IsFallingPart a m n (a.h *ℤ n -ℤ c) s o → IsPart a rising-line (mirrored a o)
  rising-ends None (Touches point) = λ p q j k.
      let e = point (mirrored_place a p) (mirrored_place a q) (turn p j) (turn q k) in
      (e.0, from-turned _ _ _ _ (unturned a.h p.d q.d p.y q.y) (sym e.1))
  rising-ends (Some ends) (Crosses p q e) = record {
    first = turn-back p e.first;
    last = turn-back q e.last;
    two = inl e.two;
    between = λ r k. let b = e.between (mirrored_place a r) (turn r k) in (right-here p r b.0, right-there q r b.1);
  }

abbrev pub IsSomeLine : ℤ → ℤ → Type 0
IsSomeLine n1 n2 = (n1 ≢ pos 0) ⊎ (n2 ≢ pos 0)

module _ (a : Area) (pw : pos 0 <ℤ a.w) (ph : pos 0 <ℤ a.h) where
  sloped-is : (m n c : ℤ) → pos 0 <ℤ n → (b e : Bool) → int_eq m (pos 0) ≡ b → int_lt m (pos 0) ≡ e
      → IsPart a (line m n c) (cond b (level a n c) (cond e (mirrored a (falling a (neg_ℤ m) n (a.h *ℤ n -ℤ c))) (falling a m n c)))
  sloped-is m n c pn true e p q = subst (λ z. IsPart a (line z n c) (level a n c)) (sym (eq-true m (pos 0) p)) (level-part a n c pn pw ph)
  sloped-is m n c pn false true p q =
      let lt = lt-true m (pos 0) q in
      let s : Sloping a (neg_ℤ m) n = record { along = omega (arith, ints, lt); across = pn; wide = pw; high = ph } in
      subst (λ z. IsPart a (line z n c) (mirrored a (falling a (neg_ℤ m) n (a.h *ℤ n -ℤ c)))) (neg-neg m) (rising-ends a (neg_ℤ m) n c s _ (falling-part a (neg_ℤ m) n (a.h *ℤ n -ℤ c) s))
  sloped-is m n c pn false false p q =
      let s : Sloping a m n = record { along = not-zero m (eq-false m (pos 0) p) (lt-false _ _ q); across = pn; wide = pw; high = ph } in
      falling-ends a m n c s _ (falling-part a m n c s)

  sloped-part : (m n c : ℤ) → pos 0 <ℤ n → IsPart a (line m n c) (sloped a m n c)
  sloped-part m n c pn = sloped-is m n c pn (int_eq m (pos 0)) (int_lt m (pos 0)) refl refl

  steep-is : (n1 c : ℤ) → n1 ≢ pos 0 → (b : Bool) → int_lt n1 (pos 0) ≡ b → IsPart a (line n1 (pos 0) c) (cond b (upright a (neg_ℤ n1) (neg_ℤ c)) (upright a n1 c))
  steep-is n1 c some true p =
      let lt = lt-true n1 (pos 0) p in
      opposite-part a (line n1 (pos 0) c) _ (upright-part a (neg_ℤ n1) (neg_ℤ c) (omega (arith, ints, lt)) pw ph)
  steep-is n1 c some false p = upright-part a n1 c (not-zero n1 some (lt-false _ _ p)) pw ph

  other-is : (n1 n2 c : ℤ) → n2 ≢ pos 0 → (b : Bool) → int_lt n2 (pos 0) ≡ b
      → IsPart a (line n1 n2 c) (cond b (sloped a (neg_ℤ n1) (neg_ℤ n2) (neg_ℤ c)) (sloped a n1 n2 c))
  other-is n1 n2 c some true p =
      let lt = lt-true n2 (pos 0) p in
      opposite-part a (line n1 n2 c) _ (sloped-part (neg_ℤ n1) (neg_ℤ n2) (neg_ℤ c) (omega (arith, ints, lt)))
  other-is n1 n2 c some false p = sloped-part n1 n2 c (not-zero n2 some (lt-false _ _ p))

  part-is : (n1 n2 c : ℤ) → IsSomeLine n1 n2 → (b : Bool) → int_eq n2 (pos 0) ≡ b
      → IsPart a (line n1 n2 c) (cond b (cond (int_lt n1 (pos 0)) (upright a (neg_ℤ n1) (neg_ℤ c)) (upright a n1 c))
      (cond (int_lt n2 (pos 0)) (sloped a (neg_ℤ n1) (neg_ℤ n2) (neg_ℤ c)) (sloped a n1 n2 c)))
  part-is n1 n2 c (inl some) true p =
      subst (λ z. IsPart a (line n1 z c) (cond (int_lt n1 (pos 0)) (upright a (neg_ℤ n1) (neg_ℤ c)) (upright a n1 c))) (sym (eq-true n2 (pos 0) p)) (steep-is n1 c some (int_lt n1 (pos 0)) refl)
  part-is n1 n2 c (inr some) true p = absurd (some (eq-true n2 (pos 0) p))
  part-is n1 n2 c some false p = other-is n1 n2 c (eq-false n2 (pos 0) p) (int_lt n2 (pos 0)) refl

pub the-part : LinePartIsThePart
unfolding line_part
the-part a l pw ph some = part-is a pw ph l.n1 l.n2 l.c some (int_eq l.n2 (pos 0)) refl
