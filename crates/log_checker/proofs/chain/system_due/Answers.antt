use Rattle.std.proofs.Common.{sym, subst}
use Rattle.proof_steps.specs.Classes.{HaveOwnClasses}
use Rattle.proof_steps.proofs.Reducing.{own-classes}
use Rattle.log_checker.proofs.chain.system_due.Goals as goal

pub next_due-requires-clause-own : goal.next_due-requires-clause-own
next_due-requires-clause-own c =
    let own = own-classes c.args.system.now.lists.eqs c.args.system.now.lists.nes c.args.system.now.triangular in
    subst HaveOwnClasses (sym c.as_slice-eqs.ensures) own
