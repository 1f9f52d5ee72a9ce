use Rattle.std.proofs.Common.{◌≡◌, ◌++◌, ◌∷◌, [], List, Bool, ℕ, Some, None, ◌∙◌, subst}
use Rattle.std.specs.List.{position}
use Rattle.std.proofs.lemmas.List.{append-nil}
use Rattle.branch_core.specs.declared.event.Event.{Event}
use Rattle.branch_core.specs.declared.event.Event.TheVariants.{Refuse}
use Rattle.branch_core.specs.Machine.{State, state_is, replay, done_of, is_hold}
use Rattle.branch_core.specs.Told.{IsGone}
use Rattle.branch_core.proofs.Replays.{next, refuses_at, refuses_none, refused, done_of_snoc}
use Rattle.branch_core.proofs.Rooms.{room_refuse}
use Rattle.branch_core.proofs.book.Book.refuse.Goals as goal

pub returns-in_default-clause-refused : goal.returns-in_default-clause-refused
returns-in_default-clause-refused g c =
    let b = c.self.inside in
    let t = c.ticket.inside in
    let s : State g.row.P.Denot = state_is b.waiting.items b.held.items (done_of b.history.items) b.stopped in
    let h : replay c.args.self.now ≡ Some s = rw (← c.self.view_is) c.self.invariant.0 in
    let o : position (is_hold t.path t.worker) b.held.items ≡ None = cc (c.in_default.is, c.held_at.ensures, c.as_slice.ensures.value) in
    let gone = refused c.args.self.now (Refuse t.worker t.path) t.path c.gone.result s h (refuses_none s t.path _ o) c.gone.ensures in
    subst (λ (k : List Bool × ℕ). IsGone c.args.self.now (Refuse k.1 k.0) k.0 c.gone.result) c.ticket.view_is gone

pub invariant_of-self : goal.invariant_of-self
invariant_of-self g c =
    let b = c.self.inside in
    let t = c.ticket.inside in
    let s : State g.row.P.Denot = state_is b.waiting.items b.held.items (done_of b.history.items) b.stopped in
    let e : Event g.row.P.Denot = Refuse t.worker t.path in
    let o : position (is_hold t.path t.worker) b.held.items ≡ Some c.in-Some.at = cc (c.in-Some.is, c.held_at.ensures, c.as_slice.ensures.value) in
    let k = next b.history.items e s c.self.invariant.0 ∙ refuses_at s t.path c.in-Some.at (position (is_hold t.path t.worker) b.held.items) o in
    let d : done_of (b.history.items ++ e ∷ []) ≡ done_of b.history.items = done_of_snoc b.history.items e ∙ append-nil (done_of b.history.items) in
    let rest = c.remove-hold.ensures.items in
    let waits = c.push_reserved.ensures.items in
    let told = c.push_reserved-2.ensures.items in (
      cc (k, d, rest, waits, told),
      rw (c.remove-hold.ensures.capacity, c.push_reserved.ensures.capacity, c.push_reserved-2.ensures.capacity)
          (room_refuse b.stopped _ _ _ _ _ _ _ _ _ c.self.invariant.1 c.push_reserved.ensures.len c.remove-hold.ensures.len c.push_reserved-2.ensures.len),
    )
