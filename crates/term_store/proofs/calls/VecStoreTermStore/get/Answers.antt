use Rattle.std.proofs.Common.{◌+◌, get_or, sym, ◌∙◌, ap, arith, refl}
use Rattle.std.proofs.lemmas.List.{get_or_read_under}
use Rattle.term_store.specs.declared.space.Place.{Place}
use Rattle.term_store.specs.Runs.{nowhere}
use Rattle.term_store.proofs.Seating as seating
use Rattle.term_store.proofs.calls.VecStoreTermStore.get.Goals as goal

pub index-requires : goal.index-requires
index-requires c = omega (arith, seating.live-below c.args.self.now.terms.items c.args.self.now.places.items c.args.slot.0 c.requires.live)

pub overflow_add-index : goal.overflow_add-index
overflow_add-index c =
    let s = c.args.self.now in
    let below = seating.live-below s.terms.items s.places.items c.args.slot.0 c.requires.live in
    let is = get_or_read_under s.places.items c.args.slot.0 _ c.index.result.now nowhere c.index.ensures below refl in
    omega (arith, ap (λ (p : Place). p.start) is, ap (λ (p : Place). p.len) is, seating.live-inside s.terms.items s.places.items c.args.slot.0 s.kept.inside c.requires.live, seating.live-length s.terms.items s.places.items c.args.slot.0 s.kept.inside c.requires.live)

pub index-requires-2 : goal.index-requires-2
index-requires-2 c =
    let s = c.args.self.now in
    let below = seating.live-below s.terms.items s.places.items c.args.slot.0 c.requires.live in
    let is = get_or_read_under s.places.items c.args.slot.0 _ c.index.result.now nowhere c.index.ensures below refl in
    omega (arith, ap (λ (p : Place). p.start) is, ap (λ (p : Place). p.len) is, seating.live-inside s.terms.items s.places.items c.args.slot.0 s.kept.inside c.requires.live, seating.live-length s.terms.items s.places.items c.args.slot.0 s.kept.inside c.requires.live)

pub returns : goal.returns
returns c =
    let s = c.args.self.now in
    let below = seating.live-below s.terms.items s.places.items c.args.slot.0 c.requires.live in
    let is = get_or_read_under s.places.items c.args.slot.0 _ c.index.result.now nowhere c.index.ensures below refl in
    c.index-2.ensures ∙ ap (λ (p : Place). get_or s.terms.items (p.start + c.args.i) c.index-2.result.now) is
    ∙ sym (seating.live-item s.terms.items s.places.items c.args.slot.0 c.args.i c.index-2.result.now s.kept.inside c.requires.live (omega (arith, seating.live-length s.terms.items s.places.items c.args.slot.0 s.kept.inside c.requires.live)))
