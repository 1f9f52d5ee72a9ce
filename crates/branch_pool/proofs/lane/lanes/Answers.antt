use Rattle.std.proofs.Common.{◌≡◌, ◌+◌, ◌++◌, ◌∷◌, [], List, length, map, ap, sym, subst, ◌∙◌, arith, length-append}
use Rattle.std.specs.List.{All}
use Rattle.std.proofs.lemmas.List.{length-map, append-nil}
use Rattle.branch_pool.specs.Deques.{End, new_end}
use Rattle.branch_pool.proofs.Rows.{more_lanes, by_owners, next_of, as_many, empty}
use Rattle.branch_pool.proofs.lane.lanes.Goals as goal

pub doors_beside-requires : goal.doors_beside-requires
doors_beside-requires g c =
    let ys = c.loop-own.yielded in
    let rest = c.next.new.self.rest.items in
    let left : length c.loop-own.own-iterator.rest.items ≡ 1 + length rest = ap length c.in-Some.ensures.steps.0 ∙ omega arith in
    let whole : length c.in_ok-all_doors.all_doors.items ≡ length (ys ++ c.loop-own.own-iterator.rest.items) =
    ap length c.loop-own.invariant.doors ∙ length-map (ys ++ c.loop-own.own-iterator.rest.items) (λ (o : End g.row.I.Denot). new_end {I = g.row.I.Denot} o.deque) in
    let same = ap length c.as_slice-in-loop-own.ensures.value in
    omega (arith, left, whole, same, c.len-place.ensures, c.loop-own.invariant.count, length-append ys c.loop-own.own-iterator.rest.items)

pub loop-own-preserved : goal.loop-own-preserved
loop-own-preserved g c =
    let ys = c.loop-own.yielded in
    let doors = c.in_ok-all_doors.all_doors.items in
    let place : c.len-place.result ≡ length ys = c.len-place.ensures ∙ c.loop-own.invariant.count in
    let beside = rw c.as_slice-in-loop-own.ensures.value at c.in_ok-doors.ensures in
    let whole = next_of ys c.loop-own.own-iterator.rest.items c.next.new.self.rest.items c.in-Some.own c.in-Some.ensures.steps.0 in
    record {
      lanes = more_lanes doors ys c.in-Some.own c.loop-own.lanes.items c.push.new.self.items c.len-place.result c.in_ok-doors.doors.items c.loop-own.invariant.lanes place beside c.in_ok-push.ensures.items;
      count = omega (arith, c.in_ok-push.ensures.len, c.loop-own.invariant.count, length-append ys (c.in-Some.own ∷ []));
      new = subst (λ (l : List (End g.row.I.Denot)). All (λ e. e ≡ new_end e.deque) l) (sym whole) c.loop-own.invariant.new;
      doors = c.loop-own.invariant.doors ∙ ap (λ (l : List (End g.row.I.Denot)). map (λ (o : End g.row.I.Denot). new_end {I = g.row.I.Denot} o.deque) l) (sym whole);
    }

pub returns : goal.returns
returns g c =
    let ys = c.loop-own.yielded in
    let none : c.loop-own.own-iterator.rest.items ≡ [] = empty c.loop-own.own-iterator.rest.items (omega (arith, c.in-None.ensures.steps.0, c.loop-own.own-iterator.rest.ok)) in
    let all : ys ++ c.loop-own.own-iterator.rest.items ≡ ys = ap (λ l. ys ++ l) none ∙ append-nil ys in
    let doors : c.in_ok-all_doors.all_doors.items ≡ map (λ (o : End g.row.I.Denot). new_end {I = g.row.I.Denot} o.deque) ys = rw all at c.loop-own.invariant.doors in
    let owners = c.in_ok-owners.owners.items in
    let made : c.in_ok-all_doors.all_doors.items ≡ map (λ (o : End g.row.I.Denot). new_end {I = g.row.I.Denot} o.deque) owners = rw (← c.as_slice.ensures.value) c.in_ok-all_doors.ensures in
    record {
      ends = ys;
      many = as_many c.in_ok-all_doors.all_doors.items ys owners doors made ∙ omega (arith, c.in_ok-owners.ensures.count, c.in_ok-owners.owners.ok);
      new = rw all at c.loop-own.invariant.new;
      are = c.loop-own.invariant.lanes ∙ by_owners c.in_ok-all_doors.all_doors.items ys doors ys 0;
    }
