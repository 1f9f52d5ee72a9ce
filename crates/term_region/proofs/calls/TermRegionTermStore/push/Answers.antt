use Rattle.std.proofs.Common.{◌+◌, subst, arith, suc, length, nat_eq, ◌&&◌, IsTrue}
use Rattle.std.specs.Prelude.{Some}
use Rattle.std.proofs.lemmas.Bool.{and_parts}
use Rattle.std.proofs.lemmas.Bool.Decides.{nat_tests}
use Rattle.term_region.specs.Pool.{run_at, newest_last}
use Rattle.term_region.proofs.Lists as lists
use Rattle.term_region.proofs.calls.TermRegionTermStore.push.Goals as goal

pub returns-clause-lists : goal.returns-clause-lists
returns-clause-lists c =
    let s = c.args.self.now in
    let k = c.args.slot.0 in
    let mid = c.make_room.new.terms.items in
    let ms = c.make_room.new.runs.items in
    let old : IsTrue (newest_last s.runs.items (length s.order.items) (length s.terms.items) (Some k)) = subst (λ o. IsTrue (newest_last s.runs.items (length s.order.items) (length s.terms.items) o)) c.requires.newest s.kept.last in
    let last = c.make_room.ensures.last k old in
    let parts = and_parts (run_at ms k).live (nat_eq (suc (run_at ms k).rank) (length c.make_room.new.order.items) && nat_eq ((run_at ms k).start + (run_at ms k).len) (length mid)) last in
    let ends = (and_parts (nat_eq (suc (run_at ms k).rank) (length c.make_room.new.order.items)) (nat_eq ((run_at ms k).start + (run_at ms k).len) (length mid)) parts.1).1 in
    lists.lists-pushed s.terms.items mid c.append.new.terms.items s.runs.items ms c.append.new.runs.items k c.args.term c.make_room.ensures.stays.lists
    parts.0 (grind (arith, nat_tests)) c.append.ensures.terms c.append.ensures.here c.append.ensures.others
    (λ j n l. c.make_room.ensures.ordered.inside j l)
