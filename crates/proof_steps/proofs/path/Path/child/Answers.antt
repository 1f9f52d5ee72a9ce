use Rattle.std.proofs.Common.{length, ap, arith, length-take}
use Rattle.proof_steps.proofs.Word.{one_more}
use Rattle.proof_steps.proofs.path.Path.child.Goals as goal

pub invariant_of-result : goal.invariant_of-result
invariant_of-result c =
    one_more c.self.inside.letters c.self.inside.len c.args.plus c.self.invariant
    (omega (arith, c.requires, ap length c.self.view_is, length-take c.self.inside.len c.self.inside.letters, c.self.invariant.whole, c.self.invariant.within))
