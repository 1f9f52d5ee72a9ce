use Rattle.std.proofs.Common.{◌≡◌, ◌+◌, ◌++◌, length, get_or, set, ◌∙◌, ap, arith, refl, true, take, drop, ◌-◌, ℕ, List}
use Rattle.std.proofs.lemmas.List.{get_or_read_under}
use Rattle.poly_model.specs.declared.term.Term.{Term}
use Rattle.term_store.specs.declared.space.Place.{Place}
use Rattle.term_store.specs.Runs.{nowhere, terms_in, vacated, gathered, placed, run_of}
use Rattle.term_store.proofs.Places.{length-gathered, length-placed, run-length, inside-get, inside-live}
use Rattle.term_store.proofs.Seating as seating
use Rattle.term_store.proofs.seats.gather_behind.Goals as goal

pub gather-requires-clause-room : goal.gather-requires-clause-room
gather-requires-clause-room c =
    let e = ap terms_in (c.deref.ensures.value ∙ c.vacate.ensures.vacated) in
    omega (arith, e, seating.gathered-room c.args.places.now.items c.args.last c.requires.below c.requires.live, c.clear.ensures.capacity)

-- a slice of so many terms from a place
slice-run : (terms : List Term) (s n : ℕ) → take (s + n - s) (drop s terms) ≡ take n (drop s terms)
slice-run terms s n = ap (λ k. take k (drop s terms)) (let e : s + n - s ≡ n = omega arith in e)

pub unreachable-requires : goal.unreachable-requires
unreachable-requires c =
    let terms = c.args.terms.now in
    let ps = c.args.places.now.items in
    let k = c.args.last in
    let is = get_or_read_under ps k _ c.index-place.result.now nowhere c.index-place.ensures c.requires.below refl in
    let len = ap (λ (p : Place). p.len) is in
    let total = ap length c.gather.ensures.terms ∙ ap (λ l. length (gathered terms l)) (c.deref.ensures.value ∙ c.vacate.ensures.vacated)
    ∙ length-gathered terms (vacated ps k) (seating.inside-vacated _ ps k c.requires.inside) in
    let inside = inside-live _ (get_or ps k nowhere) (inside-get _ ps k c.requires.inside) c.requires.live in
    let run = ap length (slice-run terms c.index-place.result.now.start c.index-place.result.now.len) ∙ run-length terms c.index-place.result.now (omega (arith, inside, len, ap (λ (p : Place). p.start) is)) in
    let full = c.in-Err.ensures.full in
    absurd (omega (arith, len, total, run, full, seating.gathered-room ps k c.requires.below c.requires.live, c.gather.ensures.room, c.clear.ensures.capacity))

pub index_mut-requires : goal.index_mut-requires
index_mut-requires c =
    omega (arith, ap length (c.gather.ensures.places ∙ ap (placed 0) (c.deref.ensures.value ∙ c.vacate.ensures.vacated)), length-placed 0 (vacated c.args.places.now.items c.args.last), ap length c.vacate.ensures.vacated, c.requires.below)

pub returns-clause-gathered : goal.returns-clause-gathered
returns-clause-gathered c =
    let terms = c.args.terms.now in
    let ps = c.args.places.now.items in
    let k = c.args.last in
    let is = get_or_read_under ps k _ c.index-place.result.now nowhere c.index-place.ensures c.requires.below refl in
    let others = c.deref.ensures.value ∙ c.vacate.ensures.vacated in
    let start : c.len-start.result ≡ length (gathered terms (vacated ps k)) = omega (arith, c.len-start.ensures, ap length (c.gather.ensures.terms ∙ ap (gathered terms) others)) in
    seating.gathered-is terms ps k c.requires.inside c.requires.below c.requires.live _ _
    (c.in-Ok.ensures.items ∙ (λ i. (c.gather.ensures.terms ∙ ap (gathered terms) others) i ++ (slice-run terms c.index-place.result.now.start c.index-place.result.now.len ∙ ap (run_of terms) is) i))
    (λ i. set ((c.gather.ensures.places ∙ ap (placed 0) others) i) k record { live = true; start = start i; len = (is i).len })
