use Rattle.std.proofs.Common.{◌≡◌, ◌≤◌, ◌+◌, ◌++◌, length, IsTrue}
use Rattle.std.specs.Vec.{vec_capacity}
use Rattle.term_store.specs.Runs.{gathered, placed, are_inside, terms_in}
use Rattle.term_store.proofs.space.gather.Given as goal

abbrev pub invariant-loop-place : goal.invariant-loop-place
invariant-loop-place l = record {
  terms : l.to_terms.items ++ gathered l.terms l.rest ≡ gathered l.fn.terms l.fn.places;
  places : l.to_places.items ++ placed (length l.to_terms.items) l.rest ≡ placed 0 l.fn.places;
  inside : IsTrue (are_inside (length l.terms) l.rest);
  room : length l.to_terms.items + terms_in l.rest ≤ vec_capacity l.to_terms;
  seats : length l.to_places.items + length l.rest ≤ vec_capacity l.to_places;
  terms_kept : vec_capacity l.fn.to_terms ≤ vec_capacity l.to_terms;
  places_kept : vec_capacity l.fn.to_places ≤ vec_capacity l.to_places;
}

abbrev pub decreases-loop-place : goal.decreases-loop-place
decreases-loop-place l = length l.rest
