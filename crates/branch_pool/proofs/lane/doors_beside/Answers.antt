use Rattle.branch_pool.specs.Deques.{End, new_end}
use Rattle.branch_pool.proofs.Rows.{beside}
use Rattle.branch_pool.proofs.lane.doors_beside.Goals as goal

pub returns : goal.returns
returns g c =
    beside (λ (d : End g.row.I.Denot). new_end d.deque) c.args.doors.now c.args.place c.new-beside.result.items c.add_doors.new.beside.items c.add_doors-2.new.beside.items
    c.new-beside.ensures.items c.in_ok-add_doors.ensures c.in_ok-add_doors-2.ensures
