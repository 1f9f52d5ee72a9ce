use Rattle.std.proofs.Common.{ap}
use Rattle.branch_core.specs.Machine.{done_by}
use Rattle.branch_core.proofs.Replays.{no_piece, one_piece}
use Rattle.branch_core.proofs.arrange.done_pieces.Goals as goal

pub loop-event-preserved-in-Take : goal.loop-event-preserved-in-Take
loop-event-preserved-in-Take g c = no_piece c.loop-event.yielded c.in-Some.event c.loop-event.done.items c.loop-event.invariant (ap done_by c.in-Take.is)

pub loop-event-preserved-in-Continue-1 : goal.loop-event-preserved-in-Continue-1
loop-event-preserved-in-Continue-1 g c =
    one_piece c.loop-event.yielded c.in-Some.event c.loop-event.done.items c.push.new.self.items c.in-Split.path c.in-Split.piece
    c.loop-event.invariant c.in_ok-push-in-Split.ensures.items (ap done_by c.in-Split.is)

pub loop-event-preserved-in-Continue-branch-2 : goal.loop-event-preserved-in-Continue-branch-2
loop-event-preserved-in-Continue-branch-2 g c =
    one_piece c.loop-event.yielded c.in-Some.event c.loop-event.done.items c.push-in-Leaf.new.self.items c.in-Leaf.path c.in-Leaf.piece
    c.loop-event.invariant c.in_ok-push-in-Leaf.ensures.items (ap done_by c.in-Leaf.is)

pub loop-event-preserved : goal.loop-event-preserved
loop-event-preserved g c = no_piece c.loop-event.yielded c.in-Some.event c.loop-event.done.items c.loop-event.invariant (ap done_by c.in-Refuse.is)
