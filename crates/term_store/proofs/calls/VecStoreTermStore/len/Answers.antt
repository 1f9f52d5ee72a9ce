use Rattle.std.proofs.Common.{sym, ◌∙◌, ap, arith, refl}
use Rattle.std.proofs.lemmas.List.{get_or_read_under}
use Rattle.term_store.specs.declared.space.Place.{Place}
use Rattle.term_store.specs.Runs.{nowhere}
use Rattle.term_store.proofs.Seating as seating
use Rattle.term_store.proofs.calls.VecStoreTermStore.len.Goals as goal

pub index-requires : goal.index-requires
index-requires c = omega (arith, seating.live-below c.args.self.now.terms.items c.args.self.now.places.items c.args.slot.0 c.requires)

pub returns : goal.returns
returns c =
    let below = seating.live-below c.args.self.now.terms.items c.args.self.now.places.items c.args.slot.0 c.requires in
    let is = get_or_read_under c.args.self.now.places.items c.args.slot.0 _ c.index.result.now nowhere c.index.ensures below refl in
    ap (λ (p : Place). p.len) is ∙ sym (seating.live-length c.args.self.now.terms.items c.args.self.now.places.items c.args.slot.0 c.args.self.now.kept.inside c.requires)
