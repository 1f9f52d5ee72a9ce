use Rattle.std.proofs.Common.{sym, ◌∙◌, ap, subst, arith, take, get_or, IsTrue}
use Rattle.std.proofs.lemmas.List.{take_all}
use Rattle.std.specs.List.{list_all}
use Rattle.term_store.specs.Runs.{is_used, units, nowhere}
use Rattle.term_store.proofs.Places.{inside-set, units-set}
use Rattle.term_store.proofs.Seating as seating
use Rattle.term_store.proofs.seats.seat.Goals as goal

pub unreachable-requires : goal.unreachable-requires
unreachable-requires c =
    let used = seating.all-used c.args.places.now.items (subst (λ l. IsTrue (list_all is_used l)) (take_all c.free_place-slot.result c.args.places.now.items (omega arith)) (subst (λ l. IsTrue (list_all is_used (take c.free_place-slot.result l))) c.deref.ensures.value c.free_place-slot.ensures.used)) in
    let full = c.in-Err.ensures.full in
    absurd (omega (arith, used, full))

pub returns-then-slot-len-clause-units : goal.returns-then-slot-len-clause-units
returns-then-slot-len-clause-units c =
    let dead = seating.units_of-dead (get_or c.args.places.now.items c.free_place-slot.result nowhere) (ap (λ l. (get_or l c.free_place-slot.result nowhere).live) (sym c.deref.ensures.value) ∙ c.free_place-slot.ensures.vacant (omega arith)) in
    omega (arith, units-set c.args.places.now.items c.free_place-slot.result c.args.place (omega arith), dead)

pub returns-then-slot-len-clause-inside : goal.returns-then-slot-len-clause-inside
returns-then-slot-len-clause-inside c = λ n h k. inside-set n c.args.places.now.items c.free_place-slot.result c.args.place h k

pub returns-in-Ok-clause-units : goal.returns-in-Ok-clause-units
returns-in-Ok-clause-units c = ap units c.in-Ok.ensures.items ∙ seating.units-more c.args.places.now.items c.args.place

pub returns-in-Ok-clause-fits : goal.returns-in-Ok-clause-fits
returns-in-Ok-clause-fits c = λ n h k.
    let used = seating.all-used c.args.places.now.items (subst (λ l. IsTrue (list_all is_used l)) (take_all c.free_place-slot.result c.args.places.now.items (omega arith)) (subst (λ l. IsTrue (list_all is_used (take c.free_place-slot.result l))) c.deref.ensures.value c.free_place-slot.ensures.used)) in
    omega arith
