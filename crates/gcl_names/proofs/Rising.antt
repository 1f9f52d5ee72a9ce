-- The counts of a program only rise.
use Rattle.std.proofs.Common.{ℕ, ◌+◌, ◌≤◌, List, [], ◌∷◌, arith}
use Rattle.gcl_names.specs.Sound.{Counts, filled, all_filled, after, after_all}
use Rattle.gcl_reader.specs.Table.{parameters_of}
use Rattle.gcl_reader.specs.declared.word.Parameter.{Parameter}
use Rattle.gcl_reader.specs.declared.word.Parameter.TheVariants as parameter
use Rattle.gcl_names.specs.Deed.{word_of}
use Rattle.gcl_names.specs.declared.program.Deed.{Deed}
use Rattle.gcl_names.specs.declared.program.Deed.TheVariants as deed
use Rattle.gcl_names.specs.declared.program.Act.{Act}

pub record AtMost (n k : Counts) : Type 0 where
  pub points : n.points ≤ k.points
  pub lines : n.lines ≤ k.lines
  pub circles : n.circles ≤ k.circles
  pub proves : n.proves ≤ k.proves

same : (n : Counts) → AtMost n n
same n = record { points = omega arith; lines = omega arith; circles = omega arith; proves = omega arith }

pub more-points : (n : Counts) (k : ℕ) → AtMost n (record n { points = n.points + k })
more-points n k = record { points = omega arith; lines = omega arith; circles = omega arith; proves = omega arith }

pub more-lines : (n : Counts) (k : ℕ) → AtMost n (record n { lines = n.lines + k })
more-lines n k = record { points = omega arith; lines = omega arith; circles = omega arith; proves = omega arith }

pub more-circles : (n : Counts) (k : ℕ) → AtMost n (record n { circles = n.circles + k })
more-circles n k = record { points = omega arith; lines = omega arith; circles = omega arith; proves = omega arith }

pub more-proves : (n : Counts) (k : ℕ) → AtMost n (record n { proves = n.proves + k })
more-proves n k = record { points = omega arith; lines = omega arith; circles = omega arith; proves = omega arith }

pub at_most-then : (n k m : Counts) → AtMost n k → AtMost k m → AtMost n m
at_most-then n k m g h = record {
  points = omega (arith, g.points, h.points);
  lines = omega (arith, g.lines, h.lines);
  circles = omega (arith, g.circles, h.circles);
  proves = omega (arith, g.proves, h.proves);
}

-- Behind an argument no count is lower, nor behind all.
pub filled-rises : (p : Parameter) (n : Counts) → AtMost n (filled p n)
filled-rises parameter.NewPoint n = more-points n 1
filled-rises parameter.NewLine n = more-lines n 1
filled-rises parameter.NewCircle n = more-circles n 1
filled-rises p n = same n

pub all_filled-rises : (ps : List Parameter) (n : Counts) → AtMost n (all_filled ps n)
all_filled-rises [] n = same n
all_filled-rises (p ∷ ps) n = at_most-then n (filled p n) (all_filled ps (filled p n)) (filled-rises p n) (all_filled-rises ps (filled p n))

-- After a deed no count is lower.
pub after-rises : (n : Counts) (d : Deed) → AtMost n (after n d)
after-rises n (deed.Prove s ps) = more-proves n 1
after-rises n d = all_filled-rises (parameters_of (word_of d)) n

-- Nor after more acts. So the counts on the way are at most those of the whole program, which have limits.
pub after_all-rises : (n : Counts) (acts : List Act) → AtMost n (after_all n acts)
unfolding after_all
after_all-rises n [] = same n
after_all-rises n (a ∷ acts) = at_most-then n (after n a.deed) (after_all (after n a.deed) acts) (after-rises n a.deed) (after_all-rises (after n a.deed) acts)
