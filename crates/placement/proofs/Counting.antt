-- How many points commands make.
use Rattle.std.proofs.Common.{◌≡◌, ◌≤◌, ◌+◌, ℕ, List, [], ◌∷◌, length, sym, ◌∙◌, ap, subst, arith}
use Rattle.gcl_names.specs.declared.program.Act.{Act}
use Rattle.gcl_names.specs.Sound.{Counts, AllFollow, after, after_all, nothing}
use Rattle.algebraize.specs.Layout.{new_points}
use Rattle.algebraize.specs.declared.points.NewPoints.{NewPoints}
use Rattle.algebraize.specs.declared.points.NewPoints.TheVariants as new
use Rattle.placement.specs.Images.{count_of}
use Rattle.placement.proofs.Figures.{all-points-grow}
use Rattle.placement.proofs.Layouts.{Makes, makes}

counted : (k : NewPoints) (n m : ℕ) (ps : List ℕ) → Makes k n m ps → m ≡ n + count_of k
counted new.NoPoint n m ps h = omega (arith, h.0)
counted new.Free n m ps h = h.0
counted new.SemiFree n m ps h = h.0
counted new.Dependent n m ps h = h.0
counted new.TwoDependent n m ps h = omega (arith, h.0)

-- What is left of a list of acts, of which so many points were made before.
pub record Left (count : ℕ) (rest acts : List Act) : Type 0 where
  pub before : Counts
  pub points : before.points ≡ count
  pub follow : AllFollow before rest
  pub all : after_all before rest ≡ after_all nothing acts

pub left-next : (count more : ℕ) (rest others acts : List Act) (a : Act) → rest ≡ a ∷ others → count_of (new_points a.deed) ≡ more → Left count rest acts
    → Left (count + more) others acts
unfolding AllFollow after_all
left-next count more rest others acts a e k l =
    let follow : AllFollow l.before (a ∷ others) = subst (AllFollow l.before) e l.follow in
    let next = after l.before a.deed in
    record {
      before = next;
      points = counted (new_points a.deed) l.before.points next.points _ (makes l.before a.deed follow.0) ∙ (λ i. l.points i + k i);
      follow = follow.1;
      all = ap (after_all l.before) (sym e) ∙ l.all;
    }

pub left-few : (count : ℕ) (rest acts : List Act) → Left count rest acts → count ≤ (after_all nothing acts).points
left-few count rest acts l =
    let grow = all-points-grow l.before rest in
    let same = ap (λ (n : Counts). n.points) l.all in
    let here = l.points in
    omega (arith, grow, same, here)

pub left-none : (count : ℕ) (rest acts : List Act) → length rest ≡ 0 → Left count rest acts → count ≡ (after_all nothing acts).points
unfolding after_all
left-none count [] acts e l = sym l.points ∙ ap (λ (n : Counts). n.points) l.all
left-none count (a ∷ rest) acts e l = absurd (omega (arith, e))
