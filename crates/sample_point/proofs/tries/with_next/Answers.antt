use Rattle.std.proofs.Common.{◌==◌, sym}
use Rattle.poly_model.specs.Reduction.{class_of}
use Rattle.sample_point.proofs.Tried.{found_passes, same-number}
use Rattle.sample_point.proofs.tries.with_next.Goals as goal

pub with_equation-requires-clause-class : goal.with_equation-requires-clause-class
with_equation-requires-clause-class c =
    same-number (class_of c.in-Some.f.now) c.args.i (found_passes (λ f. class_of f == c.args.i) c.args.equations.now c.in-Some.f.now (sym c.in-Some.ensures))
