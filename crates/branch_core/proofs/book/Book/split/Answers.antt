use Rattle.std.proofs.Common.{◌≡◌, ◌<◌, ◌+◌, ◌++◌, ◌∷◌, [], List, Bool, ℕ, length, Some, None, ◌∙◌, subst, sym, refl, arith}
use Rattle.std.specs.Vec.{vec_len}
use Rattle.std.specs.List.{position}
use Rattle.poly_model.specs.declared.limits.TheConstants.{MOST_LETTERS}
use Rattle.branch_core.specs.declared.event.Event.{Event}
use Rattle.branch_core.specs.declared.event.Event.TheVariants.{Split}
use Rattle.branch_core.specs.Machine.{State, state_is, replay, done_of, is_hold, IsRun}
use Rattle.branch_core.specs.Told.{IsGone}
use Rattle.branch_core.proofs.Replays.{next, splits_at, splits_none, refused, done_of_snoc, two_more, is_run}
use Rattle.branch_core.proofs.Rooms.{room_split}
use Rattle.branch_core.proofs.book.Book.split.Goals as goal

pub returns-in_default-clause-refused : goal.returns-in_default-clause-refused
returns-in_default-clause-refused g c =
    let b = c.self.inside in
    let t = c.ticket.inside in
    let s : State g.row.P.Denot = state_is b.waiting.items b.held.items (done_of b.history.items) b.stopped in
    let h : replay c.args.self.now ≡ Some s = rw (← c.self.view_is) c.self.invariant.0 in
    let o : position (is_hold t.path t.worker) b.held.items ≡ None = cc (c.in_default.is, c.held_at.ensures, c.as_slice.ensures.value) in
    let gone = refused c.args.self.now (Split t.worker t.path c.args.piece) t.path c.gone.result s h (splits_none s t.path c.args.piece _ o) c.gone.ensures in
    (refl, subst (λ (k : List Bool × ℕ). IsGone c.args.self.now (Split k.1 k.0 c.args.piece) k.0 c.gone.result) c.ticket.view_is gone)

pub returns-in_default-grow-clause-refused : goal.returns-in_default-grow-clause-refused
returns-in_default-grow-clause-refused g c =
    let b = c.self.inside in
    let t = c.ticket.inside in
    let s : State g.row.P.Denot = state_is b.waiting.items b.held.items (done_of b.history.items) b.stopped in
    let h : replay c.args.self.now ≡ Some s = rw (← c.self.view_is) c.self.invariant.0 in
    let o : position (is_hold t.path t.worker) b.held.items ≡ Some c.in-Some.at = cc (c.in-Some.is, c.held_at.ensures, c.as_slice.ensures.value) in
    let short : length t.path < MOST_LETTERS = subst (λ (k : List Bool × ℕ). length k.0 < MOST_LETTERS) (sym c.ticket.view_is) c.requires in
    let k = next c.args.self.now (Split t.worker t.path c.args.piece) s h ∙ splits_at s t.path c.args.piece c.in-Some.at (position (is_hold t.path t.worker) b.held.items) o short in (
      refl,
      c.ticket.view_is,
      subst (λ (k : List Bool × ℕ). IsRun (c.args.self.now ++ Split k.1 k.0 c.args.piece ∷ [])) c.ticket.view_is (is_run (c.args.self.now ++ Split t.worker t.path c.args.piece ∷ []) _ k),
    )

pub invariant_of-self-2 : goal.invariant_of-self-2
invariant_of-self-2 g c =
    let b = c.self.inside in
    let t = c.ticket.inside in
    let s : State g.row.P.Denot = state_is b.waiting.items b.held.items (done_of b.history.items) b.stopped in
    let e : Event g.row.P.Denot = Split t.worker t.path c.args.piece in
    let o : position (is_hold t.path t.worker) b.held.items ≡ Some c.in-Some.at = cc (c.in-Some.is, c.held_at.ensures, c.as_slice.ensures.value) in
    let short : length t.path < MOST_LETTERS = subst (λ (k : List Bool × ℕ). length k.0 < MOST_LETTERS) (sym c.ticket.view_is) c.requires in
    let k = next b.history.items e s c.self.invariant.0 ∙ splits_at s t.path c.args.piece c.in-Some.at (position (is_hold t.path t.worker) b.held.items) o short in
    let d = done_of_snoc b.history.items e in
    let rest = c.remove-hold.ensures.items in
    let grown = c.grow.ensures in
    let both = two_more _ _ _ c.child.result c.child-2.result c.push_reserved.ensures.items c.push_reserved-2.ensures.items in
    let told = c.push_reserved-3.ensures.items in
    let more : vec_len c.push_reserved-2.new.self ≡ vec_len c.grow.new.waiting + 2 = omega (arith, c.push_reserved.ensures.len, c.push_reserved-2.ensures.len) in (
      cc (k, d, rest, both, told, grown.waiting, grown.held, grown.history, c.child.ensures, c.child-2.ensures),
      rw (c.remove-hold.ensures.capacity, c.push_reserved-2.ensures.capacity, c.push_reserved.ensures.capacity, c.push_reserved-3.ensures.capacity)
          (room_split b.stopped _ _ _ _ _ _ _ _ _ c.in-Ok.ensures.room more c.remove-hold.ensures.len c.push_reserved-3.ensures.len),
    )
