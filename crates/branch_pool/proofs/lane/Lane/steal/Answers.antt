use Rattle.branch_pool.proofs.Rows.{stolen, through}
use Rattle.branch_pool.specs.Views.{view_is}
use Rattle.std.proofs.Common.{◌<◌, ◌≤◌, ◌≢◌, length}
use Rattle.branch_pool.proofs.lane.Lane.steal.Goals as goal

pub returns : goal.returns
returns g c =
    let b = c.self.inside in
    let v = view_is b.own b.doors.items b.place in
    let there : c.args.from ≤ length v.doors = rw (← c.self.view_is) at c.requires.there in
    let apart : c.args.from ≢ v.place = rw (← c.self.view_is) at c.requires.other in
    let within : c.door_to-at.result < length v.doors = rw (c.door_to-at.ensures) (through v.place c.args.from (length v.doors) apart there c.self.invariant) in
    rw (← c.self.view_is) (stolen v c.door_to-at.result c.args.from c.index_mut-door.result.now c.steal.new.self c.steal.result c.door_to-at.ensures within c.index_mut-door.ensures.value c.steal.ensures)
