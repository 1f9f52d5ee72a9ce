use Rattle.std.proofs.Common.{◌≡◌, List, Bool, map, subst}
use Rattle.std.specs.List.Sorted.{IsPermutation}
use Rattle.std.proofs.lemmas.Result.{IfOk-weaker}
use Rattle.branch_core.specs.Machine.{done_of}
use Rattle.branch_core.specs.Trees.{preorder}
use Rattle.branch_core.specs.Runs.{Arranges}
use Rattle.branch_core.proofs.Completed.{completes}
use Rattle.branch_core.proofs.book.Book.assemble.Goals as goal

pub returns-clause-pieces : goal.returns-clause-pieces
returns-clause-pieces g c =
    let h = c.in_ok-done.ensures in
    let p = c.in_ok-in_preorder.ensures in
    let xs : List (List Bool × g.row.P.Denot) = c.in_preorder.new.done.items in
    let all : IsPermutation (done_of c.self.inside.history.items) xs = subst (λ (l : List (List Bool × g.row.P.Denot)). IsPermutation l xs) h p.same in
    let mine : IsPermutation (done_of c.args.self) xs = rw c.self.view_is at all in
    IfOk-weaker c.only_pieces.result (λ v. v.items ≡ map (λ (d : List Bool × g.row.P.Denot). d.1) xs) (λ v. Arranges c.args.self v.items)
    (λ v e. record { arranged = xs; all = mine; in_preorder = p.sorted; are = e }) c.only_pieces.ensures

pub returns-clause-tree : goal.returns-clause-tree
returns-clause-tree g c t are =
    IfOk-weaker c.only_pieces.result (λ v. Arranges c.args.self v.items) (λ v. v.items ≡ preorder t)
    (λ v a. completes t c.args.self are c.requires v.items a) (returns-clause-pieces g c)
