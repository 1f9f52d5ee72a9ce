-- What stands before a prove in a sound list of acts.
use Rattle.std.proofs.Common.{◌≤◌, ◌+◌, ◌-◌, ◌==◌, ℕ, zero, suc, List, [], ◌∷◌, length, take, Bool, true, false, if◌then◌else◌, arith}
use Rattle.gcl_names.specs.declared.program.Act.{Act}
use Rattle.gcl_names.specs.Sound.{Counts, AllFollow, after, after_all}
use Rattle.algebraize.specs.Problem.{is_prove, acts_before}
use Rattle.placement.proofs.Figures.{all-points-grow}

pub follow-take : (n : Counts) (i : ℕ) (acts : List Act) → AllFollow n acts → AllFollow n (take i acts)
unfolding AllFollow
follow-take n zero acts h = tt
follow-take n (suc i) [] h = tt
follow-take n (suc i) (a ∷ acts) h = (h.0, follow-take (after n a.deed) i acts h.1)

pub points-take : (n : Counts) (i : ℕ) (acts : List Act) → (after_all n (take i acts)).points ≤ (after_all n acts).points
unfolding after_all
points-take n zero acts = all-points-grow n acts
points-take n (suc i) [] = omega arith
points-take n (suc i) (a ∷ acts) = points-take (after n a.deed) i acts

pub place-within : (k : ℕ) (acts : List Act) → acts_before k acts ≤ length acts
unfolding acts_before
place-within k [] = omega arith
place-within k (a ∷ acts) = by (is_prove a.deed) (place-within k acts) (place-within (k - 1) acts) where
  by : (b : Bool) → acts_before k acts ≤ length acts → acts_before (k - 1) acts ≤ length acts
      → (if b then (if k == 0 then 0 else acts_before (k - 1) acts + 1) else acts_before k acts + 1) ≤ suc (length acts)
  by true h j = elim (k == 0) as (λ t. (if t then 0 else acts_before (k - 1) acts + 1) ≤ suc (length acts)) [ true ↦ omega arith | false ↦ omega (arith, j) ]
  by false h j = omega (arith, h)
