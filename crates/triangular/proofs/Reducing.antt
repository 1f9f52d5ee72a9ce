-- The equation that reduces a polynomial, found by what is known of the equations.
use Rattle.std.proofs.Common.{◌≡◌, ℕ, ◌-◌, List, [], ◌∷◌, map, sym, ◌∙◌, ap, arith}
use Rattle.std.specs.Prelude.{◌==◌, unwrap_or, if◌then◌else◌, nat_le}
use Rattle.poly_model.specs.Polynomial.{Polynomial}
use Rattle.poly_model.specs.Reduction.{class_of, degree_at, reaches}
use Rattle.poly_model.specs.declared.limits.TheConstants.{MOST_VARIABLES}
use Rattle.poly_model.proofs.Within.{within-of}
use Rattle.polynomials.proofs.Reading.{class-within}
use Rattle.proof_steps.specs.Chain.{reducing_class, first_of_class}
use Rattle.workbench.specs.Standing.{AllTell}
use Rattle.workbench.specs.declared.bench.Held.{Held}
use Rattle.workbench.proofs.Tied as tied
use Rattle.triangular.specs.Reducers.{AreWithin, class_reached, reducing_in, first_in}

pub within-told : (N : List Polynomial) (hs : List Held) (ps : List Polynomial) → AllTell N hs ps → AreWithin hs
within-told N [] [] t = tt
within-told N [] (p ∷ ps) t = tt
within-told N (h ∷ hs) [] t = absurd t
within-told N (h ∷ hs) (p ∷ ps) t =
    let w = class-within MOST_VARIABLES p (within-of p t.0.standard).descending in
    let e = t.0.class in
    (omega (arith, w, e), within-told N hs ps t.1)

pub reducing-tied : (N : List Polynomial) (p : Polynomial) (hs : List Held) (E : List Polynomial) → AllTell N hs E → reducing_in p hs ≡ reducing_class E p
reducing-tied N p hs E t =
    tied.greatest-tied N (class_reached p) (λ f. if reaches p f then class_of f else 0) hs E (λ h f u i. if nat_le (u.degree i) (degree_at (u.class i - 1) p) then u.class i else 0) t

pub first-tied : (f : Held → Polynomial) (N : List Polynomial) (hs : List Held) (x : ℕ) → AllTell N hs (map f hs) → first_of_class (map f hs) x ≡ first_in hs x
first-tied f N hs x t =
    ap (λ o. unwrap_or o 0) (tied.found f N (λ i p. class_of p == x) (λ k h. h.class == x) (map f hs) hs 0 t
    (λ j h _ _ u. sym (λ i. u.class i == x)) (λ i low. tied.item-next (map f hs) i)) ∙ tied.some-is _
