use Rattle.std.proofs.Common.{IsTrue, arith, rules}
use Rattle.poly_model.specs.Names.{are_variables}
use Rattle.poly_model.specs.Held.{copied}
use Rattle.poly_model.proofs.vars.Vars.from_names.Goals as goal

pub invariant_of-result : goal.invariant_of-result
invariant_of-result c =
    let variables : IsTrue (are_variables c.args.names.now) = search rules in
    copied c.args.names.now c.fillers-array.result c.copy_from_slice.new.self variables (omega arith) c.fillers-array.ensures c.copy_from_slice.ensures.after
