use Rattle.std.proofs.Common.{◌≡◌, ◌<◌, Some, length, arith}
use Rattle.std.proofs.lemmas.Bool.Decides.{nat_tests}
use Rattle.branch_core.specs.Machine.{State, state_is, replay, done_of}
use Rattle.branch_core.proofs.Idles.{idle_stopped, idle_work, idle_done, idle_wait}
use Rattle.branch_core.proofs.book.Book.idle.Goals as goal

pub returns-then-self : goal.returns-then-self
returns-then-self g c =
    let b = c.self.inside in
    let s : State g.row.P.Denot = state_is b.waiting.items b.held.items (done_of b.history.items) b.stopped in
    let h : replay c.args.self.now ≡ Some s = rw (← c.self.view_is) c.self.invariant.0 in
    (s, h, idle_stopped b.stopped b.waiting.items b.held.items c.if-self.true)

pub returns-then-not-is_empty : goal.returns-then-not-is_empty
returns-then-not-is_empty g c =
    let b = c.self.inside in
    let s : State g.row.P.Denot = state_is b.waiting.items b.held.items (done_of b.history.items) b.stopped in
    let h : replay c.args.self.now ≡ Some s = rw (← c.self.view_is) c.self.invariant.0 in
    let some : 0 < length b.waiting.items = grind (arith, nat_tests) in
    (s, h, idle_work b.stopped b.waiting.items b.held.items c.if-self.false some)

pub returns-then-is_empty : goal.returns-then-is_empty
returns-then-is_empty g c =
    let b = c.self.inside in
    let s : State g.row.P.Denot = state_is b.waiting.items b.held.items (done_of b.history.items) b.stopped in
    let h : replay c.args.self.now ≡ Some s = rw (← c.self.view_is) c.self.invariant.0 in
    let none : length b.waiting.items ≡ 0 = grind (arith, nat_tests) in
    let no : length b.held.items ≡ 0 = grind (arith, nat_tests) in
    (s, h, idle_done b.stopped b.waiting.items b.held.items c.if-self.false none no)

pub returns-else-is_empty : goal.returns-else-is_empty
returns-else-is_empty g c =
    let b = c.self.inside in
    let s : State g.row.P.Denot = state_is b.waiting.items b.held.items (done_of b.history.items) b.stopped in
    let h : replay c.args.self.now ≡ Some s = rw (← c.self.view_is) c.self.invariant.0 in
    let none : length b.waiting.items ≡ 0 = grind (arith, nat_tests) in
    let some : 0 < length b.held.items = grind (arith, nat_tests) in
    (s, h, idle_wait b.stopped b.waiting.items b.held.items c.if-self.false none some)
