-- Sizes of the common points of a circle and a line.
use Rattle.std.proofs.Common.{◌≡◌, ℕ, ◌+◌, ◌*◌, ◌≤◌, arith, sym, subst}
use Rattle.std.proofs.Math.Nat.{mul-le-mul_left}
use Rattle.std.specs.Prelude.{ℤ, pos, ◌+ℤ◌, ◌-ℤ◌, ◌*ℤ◌, neg_ℤ, ◌<ℤ◌, ◌≤ℤ◌, unsigned_abs}
use Rattle.std.proofs.lemmas.Int.{ints, unsigned_abs-mul}
use Rattle.edge_num.specs.Roots.{root}
use Rattle.edge_num.proofs.Roots.{root-is, below-root}
use Rattle.edge_num.proofs.Rounding.{nearest_within}
use Rattle.edge_num.proofs.Sizes.{product-below}
use Rattle.fixed_point.specs.declared.limits.TheConstants.{MOST_TICKS}
use Rattle.fixed_point.specs.declared.curve.LineEq.{LineEq}
use Rattle.fixed_point.specs.declared.curve.Round.{Round}
use Rattle.circle_cut.specs.declared.limits.TheConstants.{MOST_SQUARE, MOST_CUT}
use Rattle.circle_cut.specs.Vectors.{position, plus, scaled, rot, sq}
use Rattle.circle_cut.specs.Lines.{normal, offset}
use Rattle.circle_cut.specs.Places.{over, rounded}
use Rattle.circle_cut.specs.Cuts.{discriminant, from_centre, cut_at}
use Rattle.circle_cut.specs.Sizes.{IsRound, IsSpotWithin}
use Rattle.circle_cut.proofs.Laid.{square-is, sq-is}

square-below : (a b : ℕ) → a * a ≤ b * b → a ≤ b
square-below a b le = below-root a b (omega (arith, le))

regroup : (a b : ℕ) → (a * b) * (a * b) ≡ (a * a) * (b * b)
regroup a b = omega arith

regroup-3 : (N k : ℕ) → (N * (k * k)) * N ≡ (N * k) * (N * k)
regroup-3 N k = omega arith

-- A product whose factors have squares of at most N q and N, where the root of q is at most k, is at most N k.
chord : (a b N q k : ℕ) → a * a ≤ N * q → b * b ≤ N → q ≤ k * k → a * b ≤ N * k
chord a b N q k p r s =
    let step = product-below (a * a) (b * b) (N * (k * k)) N (omega (arith, p, product-below N q N (k * k) (omega arith) s)) r in
    square-below (a * b) (N * k) (omega (arith, regroup a b, regroup-3 N k, step))

-- What a discriminant that is not negative says of its parts.
parts : (N q : ℕ) (e z : ℤ) → z ≡ pos N *ℤ pos q -ℤ e *ℤ e → pos 0 ≤ℤ z → (unsigned_abs e * unsigned_abs e ≤ N * q) × (unsigned_abs z ≤ N * q)
parts N q e z is ge =
    let s = square-is e in
    (omega (arith, ints, is, ge, s), omega (arith, ints, is, ge, s))

small-sum : (x y z : ℤ) (k N a b c : ℕ) → unsigned_abs x ≤ N * a → unsigned_abs y ≤ N * b → unsigned_abs z ≤ N * c → a + b + c ≤ k → unsigned_abs (x +ℤ (y +ℤ z)) ≤ k * N
small-sum x y z k N a b c p q r le = omega (arith, ints, p, q, r, mul-le-mul_left {m = a + b + c} {n = k} N le)

-- A coordinate of a common point, times the square of the normal's length.
coordinate : (N q : ℕ) (o e n s m : ℤ) → unsigned_abs o ≤ MOST_TICKS → q ≤ MOST_SQUARE → unsigned_abs e * unsigned_abs e ≤ N * q → unsigned_abs s * unsigned_abs s ≤ N * q
    → unsigned_abs n * unsigned_abs n ≤ N → unsigned_abs m * unsigned_abs m ≤ N → unsigned_abs (pos N *ℤ o +ℤ (e *ℤ n +ℤ s *ℤ m)) ≤ MOST_CUT * N
coordinate N q o e n s m near small far half across along =
    let k : ℕ = 3 * MOST_TICKS in
    small-sum (pos N *ℤ o) (e *ℤ n) (s *ℤ m) MOST_CUT N MOST_TICKS k k
    (omega (arith, unsigned_abs-mul (pos N) o, mul-le-mul_left {m = unsigned_abs o} {n = MOST_TICKS} N near))
    (omega (arith, unsigned_abs-mul e n, chord (unsigned_abs e) (unsigned_abs n) N q k far across (omega (arith, small))))
    (omega (arith, unsigned_abs-mul s m, chord (unsigned_abs s) (unsigned_abs m) N q k half along (omega (arith, small))))
    (omega arith)

size-neg : (a : ℤ) → unsigned_abs (neg_ℤ a) ≡ unsigned_abs a
size-neg a = omega (arith, ints)

cut_within : (s : ℤ) (k : Round) (l : LineEq) → IsRound k → pos 0 ≤ℤ discriminant k l → unsigned_abs s ≡ root (unsigned_abs (discriminant k l))
    → (unsigned_abs (cut_at s k l).x ≤ MOST_CUT * unsigned_abs (cut_at s k l).d) × (unsigned_abs (cut_at s k l).y ≤ MOST_CUT * unsigned_abs (cut_at s k l).d)
unfolding cut_at from_centre over plus scaled rot normal position discriminant
cut_within s k l round ge is =
    let n = normal l in
    let N = unsigned_abs n.x * unsigned_abs n.x + unsigned_abs n.y * unsigned_abs n.y in
    let q = unsigned_abs k.square in
    let e = offset k.centre l in
    let square : sq n ≡ pos N = sq-is n in
    let pq : k.square ≡ pos q = omega (arith, ints, round.from) in
    let p = parts N q e (discriminant k l) ((λ i. square i *ℤ pq i -ℤ e *ℤ e)) ge in
    let small : q ≤ MOST_SQUARE = omega (arith, ints, round.from, round.to) in
    let half : unsigned_abs s * unsigned_abs s ≤ N * q = subst (λ r. r * r ≤ N * q) (sym is) (omega (arith, (root-is (unsigned_abs (discriminant k l))).0, p.1)) in
    let x = coordinate N q k.centre.x e n.x s (neg_ℤ n.y) round.centre.0 small p.0 half (omega arith) (subst (λ r. r * r ≤ N) (sym (size-neg n.y)) (omega arith)) in
    let y = coordinate N q k.centre.y e n.y s n.x round.centre.1 small p.0 half (omega arith) (omega arith) in
    subst (λ z. (unsigned_abs (z *ℤ k.centre.x +ℤ (e *ℤ n.x +ℤ s *ℤ neg_ℤ n.y)) ≤ MOST_CUT * unsigned_abs z) × (unsigned_abs (z *ℤ k.centre.y +ℤ (e *ℤ n.y +ℤ s *ℤ n.x)) ≤ MOST_CUT * unsigned_abs z)) (sym square) (x, y)

has-square : (s : ℤ) (k : Round) (l : LineEq) → pos 0 <ℤ sq (normal l) → pos 0 <ℤ (cut_at s k l).d
unfolding cut_at over
has-square s k l some = some

-- A common point is not too far.
pub cut_near : (s : ℤ) (k : Round) (l : LineEq) → IsRound k → pos 0 <ℤ sq (normal l) → pos 0 ≤ℤ discriminant k l → unsigned_abs s ≡ root (unsigned_abs (discriminant k l))
    → IsSpotWithin MOST_CUT (rounded (cut_at s k l))
unfolding rounded
cut_near s k l round some ge is =
    let w = cut_within s k l round ge is in
    let p : pos 0 <ℤ (cut_at s k l).d = has-square s k l some in
    (nearest_within (cut_at s k l).x (cut_at s k l).d MOST_CUT p w.0, nearest_within (cut_at s k l).y (cut_at s k l).d MOST_CUT p w.1)
