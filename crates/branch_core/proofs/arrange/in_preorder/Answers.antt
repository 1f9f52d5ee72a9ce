use Rattle.std.proofs.Common.{List, Bool, rules}
use Rattle.std.specs.Ordering.{is_lt}
use Rattle.std.proofs.lemmas.Result.{on_ok_weaker}
use Rattle.std.proofs.lemmas.List.Sorted.{answers_always}
use Rattle.proof_steps.specs.Paths.{preorder_cmp}
use Rattle.branch_core.proofs.Unique.{order}
use Rattle.branch_core.proofs.arrange.in_preorder.Goals as goal

pub returns-clause-sorted : goal.returns-clause-sorted
returns-clause-sorted g c =
    on_ok_weaker c.sort_by.result
    (λ s. s (λ (a b : List Bool × g.row.P.Denot). is_lt (preorder_cmp a.0 b.0)) (order {P = g.row.P.Denot}) (answers_always _ _ _ (λ f a r h k. search rules)))
    c.sort_by.ensures.sorted
