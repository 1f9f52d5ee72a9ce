use Rattle.std.proofs.Common.{◌∙◌, sym, ap, arith, refl, drop, take}
use Rattle.std.proofs.lemmas.List.{get_or_read_under}
use Rattle.term_store.specs.declared.space.Place.{Place}
use Rattle.term_store.specs.Runs.{nowhere, run_of}
use Rattle.term_store.proofs.Seating as seating
use Rattle.term_store.proofs.calls.VecStoreTermStore.terms.Goals as goal

pub index-place-requires : goal.index-place-requires
index-place-requires c = omega (arith, seating.live-below c.args.self.now.terms.items c.args.self.now.places.items c.args.slot.0 c.requires)

pub items-requires : goal.items-requires
items-requires c =
    let s = c.args.self.now in
    let below = seating.live-below s.terms.items s.places.items c.args.slot.0 c.requires in
    let is = get_or_read_under s.places.items c.args.slot.0 _ c.index-place.result.now nowhere c.index-place.ensures below refl in
    omega (arith, ap (λ (p : Place). p.start) is, ap (λ (p : Place). p.len) is, seating.live-inside s.terms.items s.places.items c.args.slot.0 s.kept.inside c.requires)

pub returns : goal.returns
returns c =
    let s = c.args.self.now in
    let below = seating.live-below s.terms.items s.places.items c.args.slot.0 c.requires in
    let is = get_or_read_under s.places.items c.args.slot.0 _ c.index-place.result.now nowhere c.index-place.ensures below refl in
    c.items.ensures ∙ ap (λ l. take c.index-place.result.now.len (drop c.index-place.result.now.start l)) c.deref.ensures.value ∙ ap (run_of s.terms.items) is ∙ sym (seating.live-run s.terms.items s.places.items c.args.slot.0 c.requires)
