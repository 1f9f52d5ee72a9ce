use Rattle.std.proofs.Common.{ap, arith, refl, false, set}
use Rattle.std.proofs.lemmas.List.{get_or_read_under}
use Rattle.term_store.specs.declared.space.Place.{Place}
use Rattle.term_store.specs.Runs.{nowhere}
use Rattle.term_store.proofs.Places.{inside-set, units-set}
use Rattle.term_store.proofs.seats.vacate.Goals as goal

pub returns-clause-units : goal.returns-clause-units
returns-clause-units c = omega (arith, units-set c.args.places.now.items c.args.slot record { live = false; start = c.index_mut.result.now.start; len = c.index_mut.result.now.len } c.requires.below)

pub returns-clause-inside : goal.returns-clause-inside
returns-clause-inside c = λ n h. inside-set n c.args.places.now.items c.args.slot _ h refl

pub returns-clause-vacated : goal.returns-clause-vacated
returns-clause-vacated c =
    let is = get_or_read_under c.args.places.now.items c.args.slot _ c.index_mut.result.now nowhere c.index_mut.ensures.value c.requires.below refl in
    ap (λ (p : Place). set c.args.places.now.items c.args.slot record { live = false; start = p.start; len = p.len }) is
