use Rattle.std.proofs.Common.{◌≡◌, ◌∙◌, arith, length, true}
use Rattle.term_store.specs.declared.space.Place.{Place}
use Rattle.term_store.proofs.Seating as seating
use Rattle.term_store.proofs.calls.VecStoreTermStore.fresh.Goals as goal

pub returns-clause-vacant : goal.returns-clause-vacant
returns-clause-vacant c = seating.vacant-of c.args.self.now.terms.items c.args.self.now.places.items c.seat-slot.result c.seat-slot.ensures.vacant

pub returns-clause-lists : goal.returns-clause-lists
returns-clause-lists c =
    let e : c.len.result ≡ length c.args.self.now.terms.items = omega arith in
    let h : ◌≡◌ {A = Place} record { live = true; start = c.len.result; len = 0 } record { live = true; start = length c.args.self.now.terms.items; len = 0 } = λ i. record { live = true; start = e i; len = 0 } in
    seating.lists-fresh c.args.self.now.terms.items c.args.self.now.places.items c.seat-slot.new.places.items c.seat-slot.result (c.seat-slot.ensures.here ∙ h) c.seat-slot.ensures.others
