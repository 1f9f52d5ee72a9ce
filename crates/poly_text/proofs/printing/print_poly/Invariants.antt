use Rattle.std.proofs.Common.{◌≤◌, ◌==◌, drop, true}
use Rattle.poly_model.specs.Standard.{polynomial_of}
use Rattle.poly_text.specs.Text.{terms_text}
use Rattle.desk_io.proofs.Going.{Going}
use Rattle.poly_text.proofs.printing.print_poly.Given as goal

abbrev pub invariant-loop-i : goal.invariant-loop-i
invariant-loop-i g l = record {
  later : g.S.Sink.faults l.fn.sink ≤ g.S.Sink.faults l.sink;
  going : Going (g.S.Sink.written l.fn.sink) (g.S.Sink.written l.sink) l.fn.pen l.pen
      (terms_text true l.vars (polynomial_of l.terms)) (terms_text (l.i == 0) l.vars (polynomial_of (drop l.i l.terms)));
}
