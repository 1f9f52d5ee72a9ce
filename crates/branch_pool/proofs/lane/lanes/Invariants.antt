use Rattle.std.proofs.Common.{◌≡◌, ◌++◌, vec_len, length, map}
use Rattle.std.specs.List.{All}
use Rattle.branch_pool.specs.Deques.{new_end}
use Rattle.branch_pool.specs.Views.{lanes_from}
use Rattle.branch_pool.proofs.lane.lanes.Given as goal

abbrev pub invariant-loop-own : goal.invariant-loop-own
invariant-loop-own g l = record {
  lanes : l.lanes.items ≡ lanes_from l.all_doors.items 0 l.yielded;
  count : vec_len l.lanes ≡ length l.yielded;
  new : All (λ e. e ≡ new_end e.deque) (l.yielded ++ l.own-iterator.rest.items);
  doors : l.all_doors.items ≡ map (λ o. new_end o.deque) (l.yielded ++ l.own-iterator.rest.items);
}
