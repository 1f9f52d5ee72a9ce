-- The line checker as the state that it stands for.
use Rattle.std.specs.Prelude.{List, [], ◌∷◌, reverse, Bool, Option, Some, None}
use Rattle.proof_steps.specs.declared.piece.Node.{Node}
use Rattle.verdicts.specs.Tallies as tallies
use Rattle.log_checker.specs.Fitting as fitting
use Rattle.log_checker.specs.Fitting.{State}
use Rattle.log_checker.specs.Views.{ending_view, inside_view}
use Rattle.log_checker.specs.declared.checker.LineChecker.{LineChecker}
use Rattle.log_checker.specs.declared.checker.Part.{Part}
use Rattle.log_checker.specs.declared.checker.Part.TheVariants as part
use Rattle.log_checker.specs.declared.ending.Ending.{Ending}
use Rattle.log_checker.specs.declared.end.PieceEnd.{PieceEnd}
use Rattle.log_checker.specs.declared.end.PieceEnd.TheVariants as end
use Rattle.log_checker.specs.declared.tally.Tally.{Tally}

abbrev pub generic_view : Option (List Bool × Ending) → Option (List Bool × tallies.Ending)
generic_view None = None
generic_view (Some leaf) = Some (leaf.0, ending_view leaf.1)

abbrev pub tally_view : Tally → tallies.Tally
tally_view t = record { gains = t.gains.items; generic = generic_view t.generic; conditions = t.conditions.items }

-- The nodes that follow a piece, and what the verdict sees of it.
abbrev pub end_view : PieceEnd → List Node × tallies.Ending
end_view (end.Parted plus minus gain) = (plus ∷ minus ∷ [], tallies.Parts gain)
end_view (end.Leaf e) = ([], ending_view e)

abbrev pub end_views : Option PieceEnd → Option (List Node × tallies.Ending)
end_views None = None
end_views (Some e) = Some (end_view e)

abbrev pub part_view : Part → fitting.Part
part_view part.Opening = fitting.Opening
part_view (part.Within path i) = fitting.Within path (inside_view i)
part_view part.Between = fitting.Between

-- The node that waits first is the last of the checker's.
unfoldable pub state_of : LineChecker → State
state_of c = record {
  version = c.version;
  fuel = c.fuel;
  hyps = c.hyps.items;
  cons = c.cons.items;
  part = part_view c.part;
  waiting = reverse c.waiting.items;
  tally = tally_view c.tally;
}
