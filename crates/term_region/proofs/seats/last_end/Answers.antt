use Rattle.std.proofs.Common.{◌≡◌, ◌+◌, length, arith}
use Rattle.term_region.proofs.Orders as orders
use Rattle.term_region.proofs.seats.last_end.Goals as goal

pub returns-clause-ordered : goal.returns-clause-ordered
returns-clause-ordered c =
    let a = c.args in
    let top : length a.order.now.items ≡ a.rank + 1 = omega arith in
    orders.cut-order a.runs.now a.order.now.items c.truncate.new.self.items a.most a.rank a.start c.requires.ordered top c.truncate.ensures.items
    c.requires.alone c.requires.before

pub returns-clause-last : goal.returns-clause-last
returns-clause-last c =
    let a = c.args in
    let top : length a.order.now.items ≡ a.rank + 1 = omega arith in
    orders.none-last a.runs.now a.order.now.items c.truncate.new.self.items a.most a.start a.rank top c.requires.alone
