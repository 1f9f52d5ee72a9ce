use Rattle.std.proofs.Common.{◌≡◌, map, take}
use Rattle.poly_model.specs.Reduction.{class_of}
use Rattle.log_checker.proofs.reads.classes_of.Given as goal

abbrev pub invariant-loop-p : goal.invariant-loop-p
invariant-loop-p l = l.classes.items ≡ map class_of (take l.p-index l.ps)
