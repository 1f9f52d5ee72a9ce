use Rattle.std.proofs.Common.{◌≡◌, length}
use Rattle.gcl_reader.specs.Ahead.{ahead}
use Rattle.gcl_reader.specs.Figure.{AreSmall, places_at}
use Rattle.gcl_reader.proofs.Places.{places_behind}
use Rattle.gcl_reader.proofs.figure.places_at.Given as goal

abbrev pub invariant-loop-name : goal.invariant-loop-name
invariant-loop-name l = record {
  value : places_behind l.places.items (places_at l.rest (ahead l.lexer)) ≡ places_at l.fn.names (ahead l.fn.lexer);
  small : AreSmall l.places.items;
}

abbrev pub decreases-loop-name : goal.decreases-loop-name
decreases-loop-name l = length l.rest
