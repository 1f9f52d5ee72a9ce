use Rattle.std.proofs.Common.{length-append, ◌∷◌, [], ◌++◌, ◌≡◌, ◌+◌, ◌≤◌, length, ◌∙◌, ap, arith, refl}
use Rattle.std.proofs.lemmas.List.{get_or_read_under, get_or-set_same}
use Rattle.term_store.specs.Runs.{nowhere, is_last, run_of}
use Rattle.term_store.specs.declared.space.Place.{Place}
use Rattle.term_store.proofs.Places.{inside-set, inside-up}
use Rattle.term_store.proofs.Seating as seating
use Rattle.term_store.proofs.seats.append.Goals as goal

pub returns-clause-units : goal.returns-clause-units
returns-clause-units c =
    let p = c.index_mut.result.now in
    let is = get_or_read_under c.args.places.now.items c.args.slot _ p nowhere c.index_mut.ensures.value c.requires.below refl in
    seating.units-longer c.args.places.now.items c.args.slot p c.requires.below is (seating.last-live _ p (ap (is_last (length c.args.terms.now.items)) is ∙ c.requires.last))

pub returns-clause-inside : goal.returns-clause-inside
returns-clause-inside c =
    let p = c.index_mut.result.now in
    let is = get_or_read_under c.args.places.now.items c.args.slot _ p nowhere c.index_mut.ensures.value c.requires.below refl in
    let end = seating.last-end _ p (ap (is_last (length c.args.terms.now.items)) is ∙ c.requires.last) in
    let grown : length c.push.new.self.items ≡ length c.args.terms.now.items + 1 = ap length c.in-Ok.ensures.items ∙ length-append c.args.terms.now.items (c.args.term ∷ []) in
    let more : length c.args.terms.now.items ≤ length c.push.new.self.items = omega arith in
    let q : Place = record { live = p.live; start = p.start; len = p.len + 1 } in
    let ends : q.start + q.len ≤ length c.push.new.self.items = omega (arith, end) in
    inside-set _ c.args.places.now.items c.args.slot _ (inside-up _ _ c.args.places.now.items more c.requires.inside) (seating.inside-of _ q ends)

pub returns-clause-here : goal.returns-clause-here
returns-clause-here c =
    let p = c.index_mut.result.now in
    let is = get_or_read_under c.args.places.now.items c.args.slot _ p nowhere c.index_mut.ensures.value c.requires.below refl in
    let q : Place = record { live = p.live; start = p.start; len = p.len + 1 } in
    (λ i. run_of (c.in-Ok.ensures.items i) (get_or-set_same c.args.places.now.items c.args.slot q nowhere c.requires.below i))
    ∙ seating.last-longer c.args.terms.now.items p c.args.term (ap (is_last (length c.args.terms.now.items)) is ∙ c.requires.last)
    ∙ ap (λ x. run_of c.args.terms.now.items x ++ c.args.term ∷ []) is
