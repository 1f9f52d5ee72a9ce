-- What a sound program draws is placed.
use Rattle.std.proofs.Common.{◌≡◌, ◌<◌, ℕ, zero, suc, List, [], ◌∷◌, length, get_or, rules, sym, ◌∙◌, ap, subst, arith, Ok, IsTrue, Bool, true, false}
use Rattle.std.specs.Prelude.{ℤ, pos, ◌≤ℤ◌, int_le, ◌&&◌}
use Rattle.fixed_point.specs.Ticks.{ticks_of}
use Rattle.fixed_point.specs.declared.limits.TheConstants.{MOST_TICKS}
use Rattle.gcl_names.specs.declared.program.Act.{Act}
use Rattle.gcl_names.specs.declared.program.Deed.{Deed}
use Rattle.gcl_names.specs.declared.program.Deed.TheVariants as deed
use Rattle.gcl_names.specs.declared.program.Program.{Program}
use Rattle.gcl_names.specs.Sound.{Counts, Follows, AllFollow, after, after_all, nothing, IsSound}
use Rattle.gcl_names.proofs.Rising.{AtMost, after-rises, after_all-rises, at_most-then}
use Rattle.construct.specs.Placing.{Positions, spots_of}
use Rattle.construct.proofs.Acts.{CountedSpots, spots-counted}
use Rattle.picture.specs.Drawable.{Draws, IsSized}

-- an act follows counts that are at most those of the whole
pub record FollowsBelow (m : Counts) (d : Deed) : Type 0 where
  pub counts : Counts
  pub follows : Follows counts d
  pub below : AtMost counts m

pub follows-at : (acts : List Act) (n : Counts) (i : ℕ) (a : Act) → AllFollow n acts → i < length acts → a ≡ get_or acts i a → FollowsBelow (after_all n acts) a.deed
unfolding AllFollow after_all
follows-at [] n i a f lt e = absurd (omega (arith, lt))
follows-at (b ∷ acts) n zero a f lt e = record {
  counts = n;
  follows = subst (λ (x : Act). Follows n x.deed) (sym e) f.0;
  below = at_most-then n (after n b.deed) _ (after-rises n b.deed) (after_all-rises (after n b.deed) acts);
}
follows-at (b ∷ acts) n (suc i) a f lt e = follows-at acts (after n b.deed) i a f.1 (omega (arith, lt)) e

-- what a deed draws is among what is placed
draws : (n m : Counts) (f : Positions) (d : Deed) → Follows n d → AtMost n m → CountedSpots m f → Draws f d
draws n m f (deed.Drawpoint a) h b k = omega (arith, h.1.0, b.points, k.points)
draws n m f (deed.Drawsegment p q) h b k = (omega (arith, h.1.0, b.points, k.points), omega (arith, h.1.1.0, b.points, k.points))
draws n m f (deed.Drawdashsegment p q) h b k = (omega (arith, h.1.0, b.points, k.points), omega (arith, h.1.1.0, b.points, k.points))
draws n m f (deed.Drawline l) h b k = omega (arith, h.1.0, b.lines, k.lines)
draws n m f (deed.Drawcircle c) h b k = omega (arith, h.1.0, b.circles, k.circles)
draws n m f (deed.Cmark a) h b k = omega (arith, h.1.0, b.points, k.points)
draws n m f (deed.CmarkAt s a) h b k = omega (arith, h.1.0, b.points, k.points)
draws n m f (deed.Mark s a) h b k = omega (arith, h.1.0, b.points, k.points)
draws n m f d h b k = search rules

-- a width or height in the range of a picture's size
least : (n : ℤ) (b : Bool) → IsTrue (int_le (pos 1) n && b) → pos 1 ≤ℤ n
least n b t = search rules

most : (n : ℤ) (b : Bool) → IsTrue (b && int_le n (pos MOST_TICKS)) → n ≤ℤ pos MOST_TICKS
most n true t = search rules
most n false t = search rules

sized-by : (n : Counts) (w h : ℤ) → Follows n (deed.Dim w h) → ((pos 1 ≤ℤ ticks_of w) × (ticks_of w ≤ℤ pos MOST_TICKS)) × ((pos 1 ≤ℤ ticks_of h) × (ticks_of h ≤ℤ pos MOST_TICKS))
sized-by n w h f = (
  (least (ticks_of w) (int_le (ticks_of w) (pos MOST_TICKS)) f.1.0.1, most (ticks_of w) (int_le (pos 1) (ticks_of w)) f.1.0.1),
  (least (ticks_of h) (int_le (ticks_of h) (pos MOST_TICKS)) f.1.1.0.1, most (ticks_of h) (int_le (pos 1) (ticks_of h)) f.1.1.0.1),
)

-- Each size of a sound program is that of a picture.
pub sized-sound : (p : Program) (i : ℕ) (a : Act) → IsSound p → i < length p.acts → a ≡ get_or p.acts i a → IsSized a.deed
sized-sound p i a s lt e w h is =
    let f = follows-at p.acts nothing i a s.follow lt e in
    sized-by f.counts w h (subst (Follows f.counts) is f.follows)

-- What an act of a sound program draws is placed.
pub draws-sound : (p : Program) (f : Positions) (i : ℕ) (a : Act) → IsSound p → spots_of p.acts ≡ Ok f → i < length p.acts → a ≡ get_or p.acts i a → Draws f a.deed
draws-sound p f i a s placed lt e =
    let w = follows-at p.acts nothing i a s.follow lt e in
    draws w.counts (after_all nothing p.acts) f a.deed w.follows w.below (spots-counted p.acts f placed)

-- As many points are placed as have names.
pub names-sound : (p : Program) (f : Positions) → IsSound p → spots_of p.acts ≡ Ok f → length f.points ≡ length p.points
names-sound p f s placed = (spots-counted p.acts f placed).points ∙ ap (λ (n : Counts). n.points) s.counts
