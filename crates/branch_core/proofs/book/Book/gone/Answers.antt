use Rattle.std.proofs.Common.{◌≡◌, Some, ap}
use Rattle.branch_core.specs.Machine.{State, state_is, replay, done_of}
use Rattle.branch_core.specs.Told.{state_at}
use Rattle.branch_core.specs.declared.answers.PathState.{PathState}
use Rattle.branch_core.specs.declared.answers.Gone.{Gone}
use Rattle.branch_core.proofs.book.Book.gone.Goals as goal

pub returns : goal.returns
returns g c =
    let b = c.self.inside in
    let s : State g.row.P.Denot = state_is b.waiting.items b.held.items (done_of b.history.items) b.stopped in
    let h : replay c.args.self.now ≡ Some s = rw (← c.self.view_is) c.self.invariant.0 in
    let told : c.path_state.result ≡ state_at s c.args.path = rw (← c.as_slice.ensures.value, ← c.as_slice-2.ensures.value, ← c.as_slice-3.ensures.value) c.path_state.ensures in
    (s, h, ap (λ (x : PathState). (let r : Gone = record { state = x; stopped = b.stopped } in r)) told)
