use Rattle.std.specs.Option.{option_eq}
use Rattle.std.specs.Prelude.{Some, eqb}
use Rattle.std.proofs.lemmas.Bool.Decides.{Decides-eqb}
use Rattle.std.proofs.Common.{true, false, ℕ, ◌≡◌, get_or, sym, ◌∙◌, ap, arith, refl}
use Rattle.std.proofs.lemmas.List.{get_or_read_under}
use Rattle.term_store.specs.declared.space.Place.{Place}
use Rattle.term_store.specs.Runs.{nowhere}
use Rattle.term_store.proofs.Seating as seating
use Rattle.term_store.proofs.calls.VecStoreTermStore.free.Goals as goal

self-eq : (k : ℕ) → option_eq eqb (Some k) (Some k) ≡ true
self-eq k = (Decides-eqb k k).1 refl

pub index-requires : goal.index-requires
index-requires c = omega (arith, seating.live-below c.args.self.now.terms.items c.args.self.now.places.items c.args.slot.0 c.requires)

pub vacate-requires : goal.vacate-requires
vacate-requires c = record { below = seating.live-below c.args.self.now.terms.items c.args.self.now.places.items c.args.slot.0 c.requires }

pub overflow_add-self : goal.overflow_add-self
overflow_add-self c =
    let s = c.args.self.now in
    let below = seating.live-below s.terms.items s.places.items c.args.slot.0 c.requires in
    let is = get_or_read_under s.places.items c.args.slot.0 _ c.index.result.now nowhere c.index.ensures below refl in
    omega (arith, ap (λ (p : Place). p.len) is, seating.live-inside s.terms.items s.places.items c.args.slot.0 s.kept.inside c.requires)

pub overflow_add-self-2 : goal.overflow_add-self-2
overflow_add-self-2 c =
    let s = c.args.self.now in
    let below = seating.live-below s.terms.items s.places.items c.args.slot.0 c.requires in
    let is = get_or_read_under s.places.items c.args.slot.0 _ c.index.result.now nowhere c.index.ensures below refl in
    omega (arith, ap (λ (p : Place). p.len) is, c.vacate.ensures.units, seating.units_of-live (get_or s.places.items c.args.slot.0 nowhere) (seating.live-place s.terms.items s.places.items c.args.slot.0 c.requires), s.kept.room)

pub invariant_of-self-else-eq : goal.invariant_of-self-else-eq
invariant_of-self-else-eq c =
    let s = c.args.self.now in
    let below = seating.live-below s.terms.items s.places.items c.args.slot.0 c.requires in
    let is = get_or_read_under s.places.items c.args.slot.0 _ c.index.result.now nowhere c.index.ensures below refl in
    let len = ap (λ (p : Place). p.len) is in
    let live = seating.units_of-live (get_or s.places.items c.args.slot.0 nowhere) (seating.live-place s.terms.items s.places.items c.args.slot.0 c.requires) in
    let units = c.vacate.ensures.units in
    record {
      kept = record {
        inside = c.vacate.ensures.inside _ s.kept.inside;
        last = seating.last-kept _ s.places.items c.vacate.new.places.items c.args.slot.0 s.newest c.vacate.ensures.others (λ e. absurd (let h : false ≡ true = sym c.if-eq.false ∙ c.eq.ensures ∙ ap (λ o. option_eq eqb o (Some c.args.slot.0)) e ∙ self-eq c.args.slot.0 in cc)) s.kept.last;
        room = omega (arith, len, live, units, s.kept.room);
        seats = omega (arith, len, live, units, s.kept.seats);
        next_room = omega (arith, len, live, units, s.kept.next_room);
        next_seats = omega (arith, len, live, units, s.kept.next_seats);
        fits = omega (arith, s.kept.fits);
      };
    }

pub returns-then-eq-clause-lists : goal.returns-then-eq-clause-lists
returns-then-eq-clause-lists c = seating.lists-vacated c.args.self.now.terms.items c.args.self.now.places.items c.vacate.new.places.items c.args.slot.0 c.vacate.ensures.here c.vacate.ensures.others

pub returns-else-eq-clause-lists : goal.returns-else-eq-clause-lists
returns-else-eq-clause-lists c = seating.lists-vacated c.args.self.now.terms.items c.args.self.now.places.items c.vacate.new.places.items c.args.slot.0 c.vacate.ensures.here c.vacate.ensures.others

pub returns-then-eq-clause-spare : goal.returns-then-eq-clause-spare
returns-then-eq-clause-spare c =
    let s = c.args.self.now in
    let below = seating.live-below s.terms.items s.places.items c.args.slot.0 c.requires in
    let is = get_or_read_under s.places.items c.args.slot.0 _ c.index.result.now nowhere c.index.ensures below refl in
    omega (arith, ap (λ (p : Place). p.len) is, seating.live-length s.terms.items s.places.items c.args.slot.0 s.kept.inside c.requires)

pub returns-else-eq-clause-spare : goal.returns-else-eq-clause-spare
returns-else-eq-clause-spare c =
    let s = c.args.self.now in
    let below = seating.live-below s.terms.items s.places.items c.args.slot.0 c.requires in
    let is = get_or_read_under s.places.items c.args.slot.0 _ c.index.result.now nowhere c.index.ensures below refl in
    omega (arith, ap (λ (p : Place). p.len) is, seating.live-length s.terms.items s.places.items c.args.slot.0 s.kept.inside c.requires)
