use Rattle.std.proofs.Common.{ℕ, sym, subst, IfOk}
use Rattle.proof_steps.specs.Rules.{is_valid, reason_of}
use Rattle.log_checker.specs.Trials.{Stops}
use Rattle.log_checker.proofs.open.reason_for.Goals as goal

pub returns-in-Drop : goal.returns-in-Drop
returns-in-Drop g c = subst (λ a. IfOk c.drop_reason.result (λ o. (version : ℕ) → Stops (is_valid version c.args.node.now a) (reason_of version c.args.node.now a) o)) (sym c.in-Drop.is) c.drop_reason.ensures

pub returns-in-Red : goal.returns-in-Red
returns-in-Red g c = subst (λ a. IfOk c.red_reason.result (λ o. (version : ℕ) → Stops (is_valid version c.args.node.now a) (reason_of version c.args.node.now a) o)) (sym c.in-Red.is) c.red_reason.ensures

pub returns-in-Tail : goal.returns-in-Tail
returns-in-Tail g c = subst (λ a. IfOk c.tail_reason.result (λ o. (version : ℕ) → Stops (is_valid version c.args.node.now a) (reason_of version c.args.node.now a) o)) (sym c.in-Tail.is) c.tail_reason.ensures

pub returns-in-Split : goal.returns-in-Split
returns-in-Split g c = subst (λ a. IfOk c.split_reason.result (λ o. (version : ℕ) → Stops (is_valid version c.args.node.now a) (reason_of version c.args.node.now a) o)) (sym c.in-Split.is) c.split_reason.ensures
