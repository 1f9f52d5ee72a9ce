-- The part of a falling line.
use Rattle.std.proofs.Common.{◌≡◌, ◌⊎◌, inl, inr, zero, suc, Bool, true, false, List, [], ◌∷◌, Option, Some, None, refl, sym, ap, ◌∙◌, arith, cond}
use Rattle.std.specs.Prelude.{ℤ, pos, negsuc, ◌+ℤ◌, ◌-ℤ◌, ◌*ℤ◌, neg_ℤ, ◌<ℤ◌, ◌≤ℤ◌, int_lt, int_le, ◌&&◌}
use Rattle.std.proofs.lemmas.Int.{ints}
use Rattle.poly_model.specs.Integers.{integers_ring}
use Rattle.poly_model.specs.Solve.{Expression, Var, Zero, Add, Mul, Neg, solve}
use Rattle.circle_cut.specs.declared.exact.Exact.{Exact}
use Rattle.line_clip.specs.declared.part.Area.{Area}
use Rattle.line_clip.specs.declared.part.Line.{Line}
use Rattle.line_clip.specs.Part.{IsCommon, IsSame, IsPoint}
use Rattle.line_clip.specs.Ends.{ends_if, falling, falling_first, falling_last}

-- ---- order of whole numbers

pub nonneg : (a b : ℤ) → pos 0 ≤ℤ a → pos 0 ≤ℤ b → pos 0 ≤ℤ (a *ℤ b)
nonneg (pos a) (pos b) p q = omega (arith, ints)
nonneg (negsuc a) b p q = absurd (omega (arith, ints, p))
nonneg (pos a) (negsuc b) p q = absurd (omega (arith, ints, q))

pub positive : (a b : ℤ) → pos 0 <ℤ a → pos 0 <ℤ b → pos 0 <ℤ (a *ℤ b)
positive (pos zero) b p q = absurd (omega (arith, ints, p))
positive (pos (suc a)) (pos zero) p q = absurd (omega (arith, ints, q))
positive (pos (suc a)) (pos (suc b)) p q = omega (arith, ints)
positive (negsuc a) b p q = absurd (omega (arith, ints, p))
positive (pos a) (negsuc b) p q = absurd (omega (arith, ints, q))

-- a number that is not negative is 0 or positive
pub zero-or : (a : ℤ) → pos 0 ≤ℤ a → (pos 0 <ℤ a) ⊎ (a ≡ pos 0)
zero-or (pos zero) p = inr refl
zero-or (pos (suc a)) p = inl (omega (arith, ints))
zero-or (negsuc a) p = absurd (omega (arith, ints, p))

-- ---- names for `solve`
abbrev M : Expression
M = Var 0

abbrev N : Expression
N = Var 1

abbrev C : Expression
C = Var 2

abbrev W : Expression
W = Var 3

abbrev H : Expression
H = Var 4

abbrev X : Expression
X = Var 5

abbrev Y : Expression
Y = Var 6

abbrev D : Expression
D = Var 7

abbrev pub less : Expression → Expression → Expression
less a b = Add a (Neg b)

-- ---- differences as products

pub off : (u v : ℤ) → u ≡ v → u -ℤ v ≡ pos 0
off u v e = omega (arith, ints, e)

pub lt-by : (a b t e : ℤ) → b -ℤ a ≡ t +ℤ e → e ≡ pos 0 → pos 0 <ℤ t → a <ℤ b
lt-by a b t e p q r = omega (arith, ints, p, q, r)

pub eq-by : (a b t e : ℤ) → b -ℤ a ≡ t +ℤ e → e ≡ pos 0 → t ≡ pos 0 → a ≡ b
eq-by a b t e p q r = omega (arith, ints, p, q, r)

pub times-zero : (a b : ℤ) → b ≡ pos 0 → a *ℤ b ≡ pos 0
times-zero a b e = ap (λ z. a *ℤ z) e ∙ omega (arith, ints)

pub gap : (a b : ℤ) → a ≤ℤ b → pos 0 ≤ℤ (b -ℤ a)
gap a b p = omega (arith, ints, p)

pub gap-lt : (a b : ℤ) → a <ℤ b → pos 0 <ℤ (b -ℤ a)
gap-lt a b p = omega (arith, ints, p)

too-much : (t u v e : ℤ) → pos 0 <ℤ t → pos 0 ≤ℤ u → pos 0 ≤ℤ v → t +ℤ u +ℤ v ≡ neg_ℤ e → e ≡ pos 0 → ⊥
too-much t u v e p q r sum z = omega (arith, ints, p, q, r, sum, z)

too-much' : (t u v e : ℤ) → pos 0 ≤ℤ t → pos 0 <ℤ u → pos 0 ≤ℤ v → t +ℤ u +ℤ v ≡ neg_ℤ e → e ≡ pos 0 → ⊥
too-much' t u v e p q r sum z = omega (arith, ints, p, q, r, sum, z)

pub le-true : (a b : ℤ) → int_le a b ≡ true → a ≤ℤ b
le-true a b e = grind (arith, ints)

pub le-false : (a b : ℤ) → int_le a b ≡ false → b <ℤ a
le-false a b e = grind (arith, ints)

pub lt-true : (a b : ℤ) → int_lt a b ≡ true → a <ℤ b
lt-true a b e = grind (arith, ints)

pub lt-false : (a b : ℤ) → int_lt a b ≡ false → b ≤ℤ a
lt-false a b e = grind (arith, ints)

pub neg-times : (a b : ℤ) → neg_ℤ a *ℤ b ≡ neg_ℤ (a *ℤ b)
neg-times a b = solve integers_ring (a ∷ b ∷ []) (Mul (Neg (Var 0)) (Var 1)) (Neg (Mul (Var 0) (Var 1))) refl

no-sum : (t u v o : ℤ) → pos 0 <ℤ t → pos 0 ≤ℤ u → pos 0 ≤ℤ v → t +ℤ u ≡ o → v ≡ neg_ℤ o → ⊥
no-sum t u v o p q r sum z = omega (arith, ints, p, q, r, sum, z)

no-sum' : (t u v o : ℤ) → pos 0 ≤ℤ t → pos 0 <ℤ u → pos 0 ≤ℤ v → t +ℤ u ≡ o → v ≡ neg_ℤ o → ⊥
no-sum' t u v o p q r sum z = omega (arith, ints, p, q, r, sum, z)

-- ---- identities

-- m (c - h n) + n (h m) = c m
top-on : (m n c h : ℤ) → m *ℤ (c -ℤ h *ℤ n) +ℤ n *ℤ (h *ℤ m) ≡ c *ℤ m
top-on m n c h = solve integers_ring (m ∷ n ∷ c ∷ pos 0 ∷ h ∷ []) (Add (Mul M (less C (Mul H N))) (Mul N (Mul H M))) (Mul C M) refl

-- m (w n) + n (c - w m) = c n
right-on : (m n c w : ℤ) → m *ℤ (w *ℤ n) +ℤ n *ℤ (c -ℤ w *ℤ m) ≡ c *ℤ n
right-on m n c w = solve integers_ring (m ∷ n ∷ c ∷ w ∷ []) (Add (Mul M (Mul W N)) (Mul N (less C (Mul W M)))) (Mul C N) refl

module _ (m n c w h x y d : ℤ) where
  abbrev point : List ℤ
  point = m ∷ n ∷ c ∷ w ∷ h ∷ x ∷ y ∷ d ∷ []

  -- how far the place is from the line
  abbrev pub away : ℤ
  away = (m *ℤ x +ℤ n *ℤ y) -ℤ c *ℤ d

  abbrev AWAY : Expression
  AWAY = less (Add (Mul M X) (Mul N Y)) (Mul C D)

  pub from-top : x *ℤ m -ℤ (c -ℤ h *ℤ n) *ℤ d ≡ n *ℤ (h *ℤ d -ℤ y) +ℤ away
  from-top = solve integers_ring point (less (Mul X M) (Mul (less C (Mul H N)) D)) (Add (Mul N (less (Mul H D) Y)) AWAY) refl

  pub at-top : y *ℤ m -ℤ (h *ℤ m) *ℤ d ≡ m *ℤ (y -ℤ h *ℤ d) +ℤ pos 0
  at-top = solve integers_ring point (less (Mul Y M) (Mul (Mul H M) D)) (Add (Mul M (less Y (Mul H D))) Zero) refl

  pub at-left : y *ℤ n -ℤ c *ℤ d ≡ neg_ℤ m *ℤ x +ℤ away
  at-left = solve integers_ring point (less (Mul Y N) (Mul C D)) (Add (Mul (Neg M) X) AWAY) refl

  pub to-right : (w *ℤ n) *ℤ d -ℤ x *ℤ n ≡ n *ℤ (w *ℤ d -ℤ x) +ℤ pos 0
  to-right = solve integers_ring point (less (Mul (Mul W N) D) (Mul X N)) (Add (Mul N (less (Mul W D) X)) Zero) refl

  pub at-right : y *ℤ n -ℤ (c -ℤ w *ℤ m) *ℤ d ≡ m *ℤ (w *ℤ d -ℤ x) +ℤ away
  at-right = solve integers_ring point (less (Mul Y N) (Mul (less C (Mul W M)) D)) (Add (Mul M (less (Mul W D) X)) AWAY) refl

  pub to-bottom : x *ℤ m -ℤ c *ℤ d ≡ neg_ℤ n *ℤ y +ℤ away
  to-bottom = solve integers_ring point (less (Mul X M) (Mul C D)) (Add (Mul (Neg N) Y) AWAY) refl

  pub corner : m *ℤ (w *ℤ d -ℤ x) +ℤ n *ℤ (h *ℤ d -ℤ y) +ℤ (c -ℤ (w *ℤ m +ℤ h *ℤ n)) *ℤ d ≡ neg_ℤ away
  corner = solve integers_ring point (Add (Add (Mul M (less (Mul W D) X)) (Mul N (less (Mul H D) Y))) (Mul (less C (Add (Mul W M) (Mul H N))) D)) (Neg AWAY) refl

  pub two-sides : (w *ℤ n) *ℤ m -ℤ (c -ℤ h *ℤ n) *ℤ n ≡ n *ℤ ((w *ℤ m +ℤ h *ℤ n) -ℤ c) +ℤ pos 0
  two-sides = solve integers_ring point (less (Mul (Mul W N) M) (Mul (less C (Mul H N)) N)) (Add (Mul N (less (Add (Mul W M) (Mul H N)) C)) Zero) refl

  pub two-levels : c *ℤ m -ℤ (c -ℤ h *ℤ n) *ℤ m ≡ (h *ℤ n) *ℤ m +ℤ pos 0
  two-levels = solve integers_ring point (less (Mul C M) (Mul (less C (Mul H N)) M)) (Add (Mul (Mul H N) M) Zero) refl

-- ---- the four places where a falling line can begin or end

abbrev pub line : ℤ → ℤ → ℤ → Line
line m n c = record { n1 = m; n2 = n; c = c }

abbrev pub left-end : ℤ → ℤ → Exact
left-end n c = record { x = pos 0; y = c; d = n }

abbrev pub top-end : ℤ → ℤ → ℤ → ℤ → Exact
top-end h m n c = record { x = c -ℤ h *ℤ n; y = h *ℤ m; d = m }

abbrev pub right-end : ℤ → ℤ → ℤ → ℤ → Exact
right-end w m n c = record { x = w *ℤ n; y = c -ℤ w *ℤ m; d = n }

abbrev pub bottom-end : ℤ → ℤ → Exact
bottom-end m c = record { x = c; y = pos 0; d = m }

-- p has a lesser x
abbrev pub IsLeft : Exact → Exact → Type 0
IsLeft p q = (p.x *ℤ q.d) <ℤ (q.x *ℤ p.d)

abbrev pub NotRight : Exact → Exact → Type 0
NotRight p q = IsLeft p q ⊎ IsSame p q

-- a line with m > 0 and n > 0 in an area that is not empty
pub record Sloping (a : Area) (m n : ℤ) : Type 0 where
  pub along : pos 0 <ℤ m
  pub across : pos 0 <ℤ n
  pub wide : pos 0 <ℤ a.w
  pub high : pos 0 <ℤ a.h

pub up-to : (a b : ℤ) → a <ℤ b → a ≤ℤ b
up-to a b lt = omega (arith, ints, lt)

module _ (a : Area) (m n c : ℤ) (s : Sloping a m n) where
  left-common : pos 0 ≤ℤ c → c ≤ℤ (a.h *ℤ n) → IsCommon a (line m n c) (left-end n c)
  left-common p q = record {
    positive = s.across;
    on = omega (arith, ints);
    inside = record { left = omega (arith, ints); right = nonneg a.w n (up-to _ _ s.wide) (up-to _ _ s.across); bottom = p; top = q };
  }

  top-common : (a.h *ℤ n) ≤ℤ c → c ≤ℤ (a.w *ℤ m +ℤ a.h *ℤ n) → IsCommon a (line m n c) (top-end a.h m n c)
  top-common p q = record {
    positive = s.along;
    on = top-on m n c a.h;
    inside = record { left = omega (arith, ints, p); right = omega (arith, ints, q); bottom = nonneg a.h m (up-to _ _ s.high) (up-to _ _ s.along); top = omega (arith, ints) };
  }

  right-common : (a.w *ℤ m) ≤ℤ c → c ≤ℤ (a.w *ℤ m +ℤ a.h *ℤ n) → IsCommon a (line m n c) (right-end a.w m n c)
  right-common p q = record {
    positive = s.across;
    on = right-on m n c a.w;
    inside = record { left = nonneg a.w n (up-to _ _ s.wide) (up-to _ _ s.across); right = omega (arith, ints); bottom = omega (arith, ints, p); top = omega (arith, ints, q) };
  }

  bottom-common : pos 0 ≤ℤ c → c ≤ℤ (a.w *ℤ m) → IsCommon a (line m n c) (bottom-end m c)
  bottom-common p q = record {
    positive = s.along;
    on = omega (arith, ints);
    inside = record { left = p; right = q; bottom = omega (arith, ints); top = nonneg a.h m (up-to _ _ s.high) (up-to _ _ s.along) };
  }

  module _ (r : Exact) (k : IsCommon a (line m n c) r) where
    gone : away m n c a.w a.h r.x r.y r.d ≡ pos 0
    gone = off _ _ k.on

    -- no common place is left of the left end
    left-first : (pos 0 <ℤ r.x) ⊎ (r.x ≡ pos 0) → NotRight (left-end n c) r
    left-first (inl some) = inl (let t = positive r.x n some s.across in omega (arith, ints, t))
    left-first (inr none) =
        let same = eq-by (c *ℤ r.d) (r.y *ℤ n) _ _ (at-left m n c a.w a.h r.x r.y r.d) gone (times-zero (neg_ℤ m) r.x none) in
        let e = ap (λ z. z *ℤ n) none in
        inr (omega (arith, ints, e), same)

    -- nor of the top end
    top-first : (pos 0 <ℤ (a.h *ℤ r.d -ℤ r.y)) ⊎ (a.h *ℤ r.d -ℤ r.y ≡ pos 0) → NotRight (top-end a.h m n c) r
    top-first (inl some) = inl (lt-by _ _ _ _ (from-top m n c a.w a.h r.x r.y r.d) gone (positive n _ s.across some))
    top-first (inr none) =
        let e : r.y -ℤ a.h *ℤ r.d ≡ pos 0 = omega (arith, ints, none) in
        inr (eq-by _ _ _ _ (from-top m n c a.w a.h r.x r.y r.d) gone (times-zero n _ none), eq-by _ _ _ _ (at-top m n c a.w a.h r.x r.y r.d) refl (times-zero m _ e))

    -- and none is right of the right end
    right-last : (pos 0 <ℤ (a.w *ℤ r.d -ℤ r.x)) ⊎ (a.w *ℤ r.d -ℤ r.x ≡ pos 0) → NotRight r (right-end a.w m n c)
    right-last (inl some) = inl (lt-by _ _ _ _ (to-right m n c a.w a.h r.x r.y r.d) refl (positive n _ s.across some))
    right-last (inr none) =
        inr (eq-by _ _ _ _ (to-right m n c a.w a.h r.x r.y r.d) refl (times-zero n _ none), sym (eq-by _ _ _ _ (at-right m n c a.w a.h r.x r.y r.d) gone (times-zero m _ none)))

    -- nor of the bottom end
    bottom-last : (pos 0 <ℤ r.y) ⊎ (r.y ≡ pos 0) → NotRight r (bottom-end m c)
    bottom-last (inl some) =
        let t = positive n r.y s.across some in
        inl (let e = to-bottom m n c a.w a.h r.x r.y r.d in let g = gone in omega (arith, ints, t, e, g))
    bottom-last (inr none) =
        inr (sym (eq-by _ _ _ _ (to-bottom m n c a.w a.h r.x r.y r.d) gone (times-zero (neg_ℤ n) r.y none)), (let e = ap (λ z. z *ℤ m) none in omega (arith, ints, e)))

    -- a common place of a line that only touches the corner
    in-origin : c ≤ℤ pos 0 → (pos 0 <ℤ r.x) ⊎ (r.x ≡ pos 0) → (pos 0 <ℤ r.y) ⊎ (r.y ≡ pos 0) → (r.x ≡ pos 0) × (r.y ≡ pos 0)
    in-origin z (inr p) (inr q) = (p, q)
    in-origin z (inl p) q =
        let t = positive m r.x s.along p in
        let u = nonneg n r.y (up-to _ _ s.across) k.inside.bottom in
        let v = nonneg (neg_ℤ c) r.d (omega (arith, ints, z)) (up-to _ _ k.positive) in
        absurd (no-sum _ _ _ _ t u v k.on (neg-times c r.d))
    in-origin z p (inl q) =
        let t = positive n r.y s.across q in
        let u = nonneg m r.x (up-to _ _ s.along) k.inside.left in
        let v = nonneg (neg_ℤ c) r.d (omega (arith, ints, z)) (up-to _ _ k.positive) in
        absurd (no-sum' _ _ _ _ u t v k.on (neg-times c r.d))

    in-corner : (a.w *ℤ m +ℤ a.h *ℤ n) ≤ℤ c → (pos 0 <ℤ (a.w *ℤ r.d -ℤ r.x)) ⊎ (a.w *ℤ r.d -ℤ r.x ≡ pos 0)
        → (pos 0 <ℤ (a.h *ℤ r.d -ℤ r.y)) ⊎ (a.h *ℤ r.d -ℤ r.y ≡ pos 0) → (a.w *ℤ r.d -ℤ r.x ≡ pos 0) × (a.h *ℤ r.d -ℤ r.y ≡ pos 0)
    in-corner z (inr p) (inr q) = (p, q)
    in-corner z (inl p) q =
        let t = positive m _ s.along p in
        let u = nonneg n _ (up-to _ _ s.across) (gap _ _ k.inside.top) in
        let v = nonneg (c -ℤ (a.w *ℤ m +ℤ a.h *ℤ n)) r.d (gap _ _ z) (up-to _ _ k.positive) in
        absurd (too-much _ _ _ _ t u v (corner m n c a.w a.h r.x r.y r.d) gone)
    in-corner z p (inl q) =
        let t = positive n _ s.across q in
        let u = nonneg m _ (up-to _ _ s.along) (gap _ _ k.inside.right) in
        let v = nonneg (c -ℤ (a.w *ℤ m +ℤ a.h *ℤ n)) r.d (gap _ _ z) (up-to _ _ k.positive) in
        absurd (too-much' _ _ _ _ u t v (corner m n c a.w a.h r.x r.y r.d) gone)

  -- ---- the part

  -- p and q are the ends, and q has a greater x
  pub record HasSides (p q : Exact) : Type 0 where
    pub first : IsCommon a (line m n c) p
    pub last : IsCommon a (line m n c) q
    pub two : IsLeft p q
    pub between : (r : Exact) → IsCommon a (line m n c) r → NotRight p r × NotRight r q

  module _ (above : pos 0 <ℤ c) (below : c <ℤ (a.w *ℤ m +ℤ a.h *ℤ n)) where
    ends-are : (b e : Bool) → int_le c (a.h *ℤ n) ≡ b → int_le (a.w *ℤ m) c ≡ e
        → HasSides (cond b (left-end n c) (top-end a.h m n c)) (cond e (right-end a.w m n c) (bottom-end m c))
    ends-are true true p q = record {
      first = left-common (up-to _ _ above) (le-true _ _ p);
      last = right-common (le-true _ _ q) (up-to _ _ below);
      two = let t = positive (a.w *ℤ n) n (positive a.w n s.wide s.across) s.across in omega (arith, ints, t);
      between = λ r k. (left-first r k (zero-or _ k.inside.left), right-last r k (zero-or _ (gap _ _ k.inside.right)));
    }
    ends-are true false p q = record {
      first = left-common (up-to _ _ above) (le-true _ _ p);
      last = bottom-common (up-to _ _ above) (up-to _ _ (le-false _ _ q));
      two = let t = positive c n above s.across in omega (arith, ints, t);
      between = λ r k. (left-first r k (zero-or _ k.inside.left), bottom-last r k (zero-or _ k.inside.bottom));
    }
    ends-are false true p q = record {
      first = top-common (up-to _ _ (le-false _ _ p)) (up-to _ _ below);
      last = right-common (le-true _ _ q) (up-to _ _ below);
      two = lt-by _ _ _ _ (two-sides m n c a.w a.h (pos 0) (pos 0) (pos 0)) refl (positive n _ s.across (gap-lt _ _ below));
      between = λ r k. (top-first r k (zero-or _ (gap _ _ k.inside.top)), right-last r k (zero-or _ (gap _ _ k.inside.right)));
    }
    ends-are false false p q = record {
      first = top-common (up-to _ _ (le-false _ _ p)) (up-to _ _ below);
      last = bottom-common (up-to _ _ above) (up-to _ _ (le-false _ _ q));
      two = lt-by _ _ _ _ (two-levels m n c a.w a.h (pos 0) (pos 0) (pos 0)) refl (positive _ m (positive a.h n s.high s.across) s.along);
      between = λ r k. (top-first r k (zero-or _ (gap _ _ k.inside.top)), bottom-last r k (zero-or _ k.inside.bottom));
    }

  same-origin : (p q : Exact) → (p.x ≡ pos 0) × (p.y ≡ pos 0) → (q.x ≡ pos 0) × (q.y ≡ pos 0) → IsSame p q
  same-origin p q e f =
      let e0 = ap (λ z. z *ℤ q.d) e.0 in let e1 = ap (λ z. z *ℤ q.d) e.1 in
      let f0 = ap (λ z. z *ℤ p.d) f.0 in let f1 = ap (λ z. z *ℤ p.d) f.1 in
      (omega (arith, ints, e0, f0), omega (arith, ints, e1, f1))

  swapped : (h d e : ℤ) → (h *ℤ d) *ℤ e ≡ (h *ℤ e) *ℤ d
  swapped h d e = solve integers_ring (h ∷ d ∷ e ∷ []) (Mul (Mul (Var 0) (Var 1)) (Var 2)) (Mul (Mul (Var 0) (Var 2)) (Var 1)) refl

  same-level : (h y d y' d' : ℤ) → h *ℤ d -ℤ y ≡ pos 0 → h *ℤ d' -ℤ y' ≡ pos 0 → y *ℤ d' ≡ y' *ℤ d
  same-level h y d y' d' e f =
      let e0 : y ≡ h *ℤ d = omega (arith, ints, e) in
      let f0 : y' ≡ h *ℤ d' = omega (arith, ints, f) in
      ap (λ z. z *ℤ d') e0 ∙ swapped h d d' ∙ ap (λ z. z *ℤ d) (sym f0)

  at-origin : c ≤ℤ pos 0 → IsPoint a (line m n c)
  at-origin z p q j k = same-origin p q (in-origin p j z (zero-or _ j.inside.left) (zero-or _ j.inside.bottom)) (in-origin q k z (zero-or _ k.inside.left) (zero-or _ k.inside.bottom))

  at-corner : (a.w *ℤ m +ℤ a.h *ℤ n) ≤ℤ c → IsPoint a (line m n c)
  at-corner z p q j k =
      let e = in-corner p j z (zero-or _ (gap _ _ j.inside.right)) (zero-or _ (gap _ _ j.inside.top)) in
      let f = in-corner q k z (zero-or _ (gap _ _ k.inside.right)) (zero-or _ (gap _ _ k.inside.top)) in
      (same-level a.w p.x p.d q.x q.d e.0 f.0, same-level a.h p.y p.d q.y q.d e.1 f.1)

  pub data IsFallingPart : Option (Exact × Exact) → Type 0 where
    Touches : IsPoint a (line m n c) → IsFallingPart None
    Crosses : (p q : Exact) → HasSides p q → IsFallingPart (Some (p, q))

  falling-is : (b e : Bool) → int_lt (pos 0) c ≡ b → int_lt c (a.w *ℤ m +ℤ a.h *ℤ n) ≡ e
      → IsFallingPart (ends_if (b && e) (falling_first a m n c) (falling_last a m n c))
  falling-is true true p q = Crosses _ _ (ends-are (lt-true _ _ p) (lt-true _ _ q) (int_le c (a.h *ℤ n)) (int_le (a.w *ℤ m) c) refl refl)
  falling-is true false p q = Touches (at-corner (lt-false _ _ q))
  falling-is false e p q = Touches (at-origin (lt-false _ _ p))

  pub falling-part : IsFallingPart (falling a m n c)
  falling-part = falling-is (int_lt (pos 0) c) (int_lt c (a.w *ℤ m +ℤ a.h *ℤ n)) refl refl
