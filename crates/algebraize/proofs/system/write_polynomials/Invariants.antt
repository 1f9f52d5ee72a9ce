use Rattle.std.proofs.Common.{◌≤◌, length, IsTrue}
use Rattle.std.specs.List.{list_all}
use Rattle.poly_model.specs.Polynomial.{is_over}
use Rattle.desk_io.proofs.Going.{Going}
use Rattle.algebraize.specs.System.{polynomial_lines}
use Rattle.algebraize.proofs.system.write_polynomials.Given as goal

abbrev pub invariant-loop-p : goal.invariant-loop-p
invariant-loop-p g l = record {
  later : g.S.Sink.faults l.fn.sink ≤ g.S.Sink.faults l.sink;
  over : IsTrue (list_all (is_over (length l.vars)) l.rest);
  going : Going (g.S.Sink.written l.fn.sink) (g.S.Sink.written l.sink) l.fn.pen l.pen (polynomial_lines l.word l.vars l.fn.polynomials) (polynomial_lines l.word l.vars l.rest);
}

abbrev pub decreases-loop-p : goal.decreases-loop-p
decreases-loop-p g l = length l.rest
