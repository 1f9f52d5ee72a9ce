-- What `conclude` answers, from what its calls answer.
use Rattle.std.proofs.Common.{◌≡◌, ℕ, List, [], ◌∷◌, length, drop, refl, sym, ◌∙◌, ap, arith, true}
use Rattle.std.specs.Prelude.{Ok}
use Rattle.poly_model.specs.Polynomial.{Polynomial}
use Rattle.poly_model.specs.Bounded.{and_then}
use Rattle.ratio_terms.specs.declared.part.Part.{Part}
use Rattle.ratio_terms.specs.Terms.{Term, names_in, are_terms, terms_of, first_of, behind_first}
use Rattle.ratio_eq.specs.Vectors.{Vector}
use Rattle.ratio_eq.specs.Bounded.{Formed, bounded_fraction, bounded_equality, bounded_conclusion_of, concluded}
use Rattle.ratio_eq.specs.Outcomes.{Fails}
use Rattle.ratio_eq.specs.declared.fault.RatioFault.{RatioFault}
use Rattle.ratio_eq.specs.declared.fault.RatioFault.TheVariants as fault
use Rattle.ratio_terms.specs.Taking.{TakesFirst}
use Rattle.ratio_terms.proofs.Taking.{count}
use Rattle.ratio_eq.specs.Forming.{bounded_first}
use Rattle.ratio_eq.proofs.Forming.{then-ok, then-met}

of-two : (l : List (Term (Vector Polynomial))) → length l ≡ 2
    → bounded_conclusion_of l ≡ and_then (bounded_fraction (first_of l)) (λ x. and_then (bounded_fraction (first_of (behind_first l))) (λ y. bounded_equality x y))
of-two [] e = absurd (omega (arith, e))
of-two (s ∷ []) e = absurd (omega (arith, e))
of-two (s ∷ t ∷ []) e = refl
of-two (s ∷ t ∷ u ∷ ts) e = absurd (omega (arith, e))

module _ (parts : List Part) (spots : List (Vector Polynomial)) (h : are_terms 2 parts ≡ true) (e : length spots ≡ names_in parts) where
  whole : concluded parts spots ≡ and_then (bounded_first parts spots) (λ x. and_then (bounded_fraction (first_of (behind_first (terms_of parts spots)))) (λ y. bounded_equality x y))
  whole = of-two (terms_of parts spots) (count 2 parts spots h (omega (arith, e)))

  pub first-fails : (x : RatioFault) → Fails x (bounded_first parts spots) → Fails x (concluded parts spots)
  first-fails fault.OutOfMemory v = tt
  first-fails (fault.Limit l) v = whole ∙ then-met (bounded_first parts spots) (λ x. and_then (bounded_fraction (first_of (behind_first (terms_of parts spots)))) (λ y. bounded_equality x y)) l v

  module _ (n m : ℕ) (t : TakesFirst parts spots n m) (x : Formed) (first : bounded_first parts spots ≡ Ok x) where
    second-left : concluded parts spots ≡ and_then (bounded_first (drop n parts) (drop m spots)) (λ y. bounded_equality x y)
    second-left =
        whole ∙ then-ok (bounded_first parts spots) x (λ x'. and_then (bounded_fraction (first_of (behind_first (terms_of parts spots)))) (λ y. bounded_equality x' y)) first
        ∙ ap (λ l. and_then (bounded_fraction (first_of l)) (λ y. bounded_equality x y)) t.behind

    pub second-fails : (z : RatioFault) → Fails z (bounded_first (drop n parts) (drop m spots)) → Fails z (concluded parts spots)
    second-fails fault.OutOfMemory v = tt
    second-fails (fault.Limit l) v = second-left ∙ then-met (bounded_first (drop n parts) (drop m spots)) (λ y. bounded_equality x y) l v

    pub equal-left : (y : Formed) → bounded_first (drop n parts) (drop m spots) ≡ Ok y → bounded_equality x y ≡ concluded parts spots
    equal-left y second = sym (second-left ∙ then-ok (bounded_first (drop n parts) (drop m spots)) y (λ y'. bounded_equality x y') second)
