use Rattle.term_store.proofs.Seating as seating
use Rattle.term_store.proofs.calls.VecStoreTermStore.push.Goals as goal

pub returns-clause-lists : goal.returns-clause-lists
returns-clause-lists c =
    let s = c.args.self.now in
    seating.lists-pushed s.terms.items c.make_room.new.terms.items c.append.new.terms.items s.places.items c.make_room.new.places.items c.append.new.places.items c.args.slot.0 c.args.term
    c.make_room.ensures.lists
    (seating.last-live _ _ c.make_room.ensures.last) (seating.last-live _ _ c.append.ensures.last) c.append.ensures.here c.append.ensures.others
