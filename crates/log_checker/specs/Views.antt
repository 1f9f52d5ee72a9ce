-- What the checker's values stand for.
use Rattle.std.specs.Prelude.{suc, List, [], ◌∷◌, drop, Option, Some, None}
use Rattle.poly_model.specs.Polynomial.{Polynomial}
use Rattle.verdicts.specs.Tallies as tallies
use Rattle.log_checker.specs.Fitting as fitting
use Rattle.log_checker.specs.declared.ending.Ending.{Ending}
use Rattle.log_checker.specs.declared.ending.Ending.TheVariants as ending
use Rattle.log_checker.specs.declared.piece.Lists.{Lists}
use Rattle.log_checker.specs.declared.piece.System.{System}
use Rattle.log_checker.specs.declared.piece.Inside.{Inside}
use Rattle.log_checker.specs.declared.piece.Inside.TheVariants as inside

abbrev pub ending_view : Ending → tallies.Ending
ending_view ending.Empty = tallies.Empty
ending_view ending.Proves = tallies.Proves
ending_view (ending.Remains k r) = tallies.Remains k r
ending_view (ending.Stops reason) = tallies.Stops reason

-- What is still to be listed of polynomials, and where a piece stands with such lists.
abbrev pub eqs_due : Lists → List Polynomial
eqs_due l = drop l.eqs_listed l.eqs

abbrev pub nes_due : Lists → List Polynomial
nes_due l = drop l.nes_listed l.nes

abbrev pub listing : Lists → fitting.Work → fitting.Inside
listing l w = record { eqs = eqs_due l; nes = nes_due l; work = w }

abbrev pub chain_work : System → fitting.Work
chain_work s = fitting.Chaining s.lists.eqs (suc s.done) (drop s.done s.cons) s.fuel

abbrev pub inside_view : Inside → fitting.Inside
inside_view (inside.At n) = fitting.listed (fitting.At n)
inside_view (inside.Solving s) = listing s.lists (chain_work s)
inside_view (inside.Stopped l reason) = listing l (fitting.Ended [] (tallies.Stops reason))
inside_view (inside.Parted plus minus gain) = fitting.listed (fitting.Ended (plus ∷ minus ∷ []) (tallies.Parts gain))
inside_view (inside.Ended e) = fitting.listed (fitting.Ended [] (ending_view e))

abbrev pub inside_views : Option Inside → Option fitting.Inside
inside_views None = None
inside_views (Some i) = Some (inside_view i)
