-- What the code of a term answers, from what its calls answer.
use Rattle.std.proofs.Common.{◌≡◌, ℕ, List, ◌∷◌, drop, refl, sym, ◌∙◌, ap, subst, arith}
use Rattle.std.specs.Prelude.{Result, Ok, Err}
use Rattle.poly_model.specs.Polynomial.{Polynomial}
use Rattle.poly_model.specs.Bounded.{and_then}
use Rattle.poly_model.specs.declared.limits.Limit.{Limit}
use Rattle.ratio_terms.specs.declared.part.Part.{Part}
use Rattle.ratio_terms.specs.declared.part.Part.TheVariants as part
use Rattle.ratio_terms.specs.Terms.{Term, operands_of, terms_of, first_of, behind_first}
use Rattle.ratio_terms.specs.Taking.{AreWhole, TakesFirst, made_of}
use Rattle.ratio_terms.proofs.Taking as taking
use Rattle.ratio_eq.specs.Vectors.{Vector}
use Rattle.ratio_eq.specs.Bounded.{Formed, bounded_fraction}
use Rattle.ratio_eq.specs.Outcomes.{Fails}
use Rattle.ratio_eq.specs.declared.fault.RatioFault.{RatioFault}
use Rattle.ratio_eq.specs.declared.fault.RatioFault.TheVariants as fault
use Rattle.ratio_eq.specs.Forming.{bounded_first, bounded_leaf, bounded_joined}

-- ---- steps
pub then-met : {A B : Type 0} (w : Result A Limit) (next : A → Result B Limit) (l : Limit) → w ≡ Err l → and_then w next ≡ Err l
then-met w next l e = ap (λ v. and_then v next) e

pub then-ok : {A B : Type 0} (w : Result A Limit) (a : A) (next : A → Result B Limit) → w ≡ Ok a → and_then w next ≡ next a
then-ok w a next e = ap (λ v. and_then v next) e

-- the fraction of a part with two operands
made : (p : Part) (s t : Term (Vector Polynomial)) → operands_of p ≡ 2
    → bounded_fraction (made_of p s t) ≡ and_then (bounded_fraction s) (λ x. and_then (bounded_fraction t) (λ y. bounded_joined p x y))
made (part.Whole k) s t e = absurd (omega (arith, e))
made part.Area3 s t e = absurd (omega (arith, e))
made part.Pyth3 s t e = absurd (omega (arith, e))
made part.Sratio s t e = absurd (omega (arith, e))
made part.Sum s t e = refl
made part.Mult s t e = refl

module _ (whole : List Part) (p : Part) (ps : List Part) (spots : List (Vector Polynomial)) (e : whole ≡ p ∷ ps) (h : AreWhole whole spots) where
  pub leaf-value : (f : Formed) → operands_of p ≡ 0 → bounded_leaf p spots ≡ Ok f → bounded_first whole spots ≡ Ok f
  leaf-value f z v = ap bounded_fraction (taking.leaf-is whole p ps spots e h z) ∙ v

  module _ (two : operands_of p ≡ 2) where
    abbrev second : Result Formed Limit
    second = bounded_fraction (first_of (behind_first (terms_of ps spots)))

    pub first-fails : (x : RatioFault) → Fails x (bounded_first ps spots) → Fails x (bounded_first whole spots)
    first-fails fault.OutOfMemory v = tt
    first-fails (fault.Limit l) v =
        ap bounded_fraction (taking.pair-first whole p ps spots e h two) ∙ made p _ _ two
        ∙ then-met (bounded_first ps spots) (λ x. and_then second (λ y. bounded_joined p x y)) l v

    module _ (n m : ℕ) (t : TakesFirst ps spots n m) (x : Formed) (first : bounded_first ps spots ≡ Ok x) where
      second-left : bounded_first whole spots ≡ and_then (bounded_first (drop n ps) (drop m spots)) (λ y. bounded_joined p x y)
      second-left =
          ap bounded_fraction (taking.pair-is whole p ps spots e h two n m t) ∙ made p _ _ two
          ∙ then-ok (bounded_first ps spots) x (λ x'. and_then (bounded_first (drop n ps) (drop m spots)) (λ y. bounded_joined p x' y)) first

      pub second-fails : (z : RatioFault) → Fails z (bounded_first (drop n ps) (drop m spots)) → Fails z (bounded_first whole spots)
      second-fails fault.OutOfMemory v = tt
      second-fails (fault.Limit l) v = second-left ∙ then-met (bounded_first (drop n ps) (drop m spots)) (λ y. bounded_joined p x y) l v

      module _ (y : Formed) (last : bounded_first (drop n ps) (drop m spots) ≡ Ok y) where
        joined-left : bounded_first whole spots ≡ bounded_joined p x y
        joined-left = second-left ∙ then-ok (bounded_first (drop n ps) (drop m spots)) y (λ y'. bounded_joined p x y') last

        pub joined-fails : (z : RatioFault) → Fails z (bounded_joined p x y) → Fails z (bounded_first whole spots)
        joined-fails z v = subst (Fails z) (sym joined-left) v

        pub joined-value : (f : Formed) → bounded_joined p x y ≡ Ok f → bounded_first whole spots ≡ Ok f
        joined-value f v = joined-left ∙ v
