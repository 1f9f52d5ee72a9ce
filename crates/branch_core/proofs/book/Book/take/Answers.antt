use Rattle.std.proofs.Common.{◌≡◌, ◌++◌, ◌∷◌, [], Some, None, ◌∙◌}
use Rattle.std.specs.List.{position}
use Rattle.std.proofs.lemmas.List.{append-nil}
use Rattle.proof_steps.specs.Paths.{same_path}
use Rattle.branch_core.specs.declared.event.Event.{Event}
use Rattle.branch_core.specs.declared.event.Event.TheVariants.{Take}
use Rattle.branch_core.specs.Machine.{State, state_is, replay, done_of}
use Rattle.branch_core.proofs.Replays.{next, takes_at, takes_none, not_taken, refused, done_of_snoc}
use Rattle.branch_core.proofs.Rooms.{room_take}
use Rattle.branch_core.proofs.book.Book.take.Goals as goal

pub returns-then-self-clause-refused : goal.returns-then-self-clause-refused
returns-then-self-clause-refused g c =
    let b = c.self.inside in
    let s : State g.row.P.Denot = state_is b.waiting.items b.held.items (done_of b.history.items) b.stopped in
    let h : replay c.args.self.now ≡ Some s = rw (← c.self.view_is) c.self.invariant.0 in
    refused c.args.self.now (Take c.args.worker c.args.path) c.args.path c.gone.result s h (takes_none s c.args.worker c.args.path _ c.if-self.true) c.gone.ensures

pub returns-in_default-clause-refused : goal.returns-in_default-clause-refused
returns-in_default-clause-refused g c =
    let b = c.self.inside in
    let s : State g.row.P.Denot = state_is b.waiting.items b.held.items (done_of b.history.items) b.stopped in
    let h : replay c.args.self.now ≡ Some s = rw (← c.self.view_is) c.self.invariant.0 in
    let o : position (same_path c.args.path) b.waiting.items ≡ None = cc (c.in_default.is, c.waits_at.ensures, c.as_slice.ensures.value) in
    refused c.args.self.now (Take c.args.worker c.args.path) c.args.path c.gone-in_default.result s h (not_taken s c.args.worker c.args.path _ o) c.gone-in_default.ensures

pub invariant_of-self : goal.invariant_of-self
invariant_of-self g c =
    let b = c.self.inside in
    let s : State g.row.P.Denot = state_is b.waiting.items b.held.items (done_of b.history.items) b.stopped in
    let e : Event g.row.P.Denot = Take c.args.worker c.args.path in
    let o : position (same_path c.args.path) b.waiting.items ≡ Some c.in-Some.at = cc (c.in-Some.is, c.waits_at.ensures, c.as_slice.ensures.value) in
    let k = next b.history.items e s c.self.invariant.0 ∙ takes_at s c.args.worker c.args.path c.in-Some.at (position (same_path c.args.path) b.waiting.items) o c.if-self.false in
    let d : done_of (b.history.items ++ e ∷ []) ≡ done_of b.history.items = done_of_snoc b.history.items e ∙ append-nil (done_of b.history.items) in
    let rest = c.remove-path.ensures.items in
    let held = c.push_reserved.ensures.items in
    let told = c.push_reserved-2.ensures.items in (
      cc (k, d, rest, held, told),
      rw (c.remove-path.ensures.capacity, c.push_reserved.ensures.capacity, c.push_reserved-2.ensures.capacity)
          (room_take b.stopped _ _ _ _ _ _ _ _ _ c.if-self.false c.self.invariant.1 c.remove-path.ensures.len c.push_reserved.ensures.len c.push_reserved-2.ensures.len),
    )
