-- Polynomials that are copied into a store, one after the other.
use Rattle.std.proofs.Common.{◌≡◌, ◌+◌, ◌≤◌, ℕ, List, [], ◌∷◌, ◌++◌, map, sym, ◌∙◌, ap, subst, arith, append_assoc, IsTrue}
use Rattle.std.proofs.lemmas.List.{append-nil, map-append}
use Rattle.poly_model.specs.Polynomial.{Polynomial}
use Rattle.poly_model.specs.Standard.{is_standard}
use Rattle.poly_model.specs.declared.limits.TheConstants.{ARITH_UNITS}
use Rattle.proof_steps.specs.Rules.{sizes}
use Rattle.term_store.specs.States.{State}
use Rattle.term_store.specs.Changes.{Keeps}
use Rattle.polynomials.specs.declared.poly.Poly.{Poly}
use Rattle.polynomials.specs.Held.{Gives, polynomial_at, slot_of}
use Rattle.polynomials.proofs.Results.{gives-length}
use Rattle.workbench.specs.Owned.{Owns, AreLive, without}
use Rattle.workbench.specs.Standing.{AllStandard}
use Rattle.workbench.proofs.Owning as owning
use Rattle.workbench.proofs.Benches as benches

standard-more : (ps : List Polynomial) (q : Polynomial) → AllStandard ps → IsTrue (is_standard q) → AllStandard (ps ++ q ∷ [])
standard-more [] q h s = (s, tt)
standard-more (p ∷ ps) q h s = (h.0, standard-more ps q h.1 s)

-- what was copied so far, and what is left
pub record Copying (s t : State) (copies : List Poly) (rest whole : List Polynomial) : Type 0 where
  pub owns : Owns s t (map slot_of copies)
  pub same : map (polynomial_at t) copies ++ rest ≡ whole
  pub standard : AllStandard (map (polynomial_at t) copies)
  pub room : sizes rest + ARITH_UNITS ≤ t.spare

pub copied-more : (s t u : State) (copies : List Poly) (q : Polynomial) (rest whole : List Polynomial) (p : Poly) → Copying s t copies (q ∷ rest) whole → Gives t u p q → Copying s u (copies ++ p ∷ []) rest whole
copied-more s t u copies q rest whole p c made =
    let ks = map slot_of copies in
    let seen = benches.seen u t copies (owning.within-makes t u (slot_of p) made.makes) (owning.owned-live s t ks c.owns) in
    let values : map (polynomial_at u) (copies ++ p ∷ []) ≡ map (polynomial_at t) copies ++ q ∷ [] =
    map-append (polynomial_at u) copies (p ∷ []) ∙ (λ i. sym seen i ++ made.value i ∷ []) in
    record {
      owns = subst (Owns s u) (sym (map-append slot_of copies (p ∷ [])))
          (owning.owns-in s u ks (slot_of p) [] (owning.owns-made s t u (slot_of p) (ks ++ []) (subst (Owns s t) (sym (append-nil ks)) c.owns) made.makes));
      same = ap (λ l. l ++ rest) values ∙ append_assoc (map (polynomial_at t) copies) (q ∷ []) rest ∙ c.same;
      standard = subst AllStandard (sym values) (standard-more (map (polynomial_at t) copies) q c.standard made.standard);
      room = (let r = c.room in let m = made.makes.spare in let l = gives-length t u p q made in omega (arith, r, m, l));
    }

-- the copies are given up again
pub given-back : (s t v w : State) (ks : List ℕ) → Owns s t ks → Keeps t v → Keeps (without v ks) w → Keeps s w
given-back s t v w ks o k g =
    owning.keeps-then s (without t ks) w (owning.owns-rest s t ks o).1 (owning.keeps-then (without t ks) (without v ks) w (owning.without-keeps t v ks k) g)

pub live-again : (s t v : State) (ks : List ℕ) → Owns s t ks → Keeps t v → AreLive v ks
live-again s t v ks o k = owning.are-keeps t v ks k (owning.owned-are s t ks o)
