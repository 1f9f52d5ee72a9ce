-- Where a claim that is so tells of a figure that it holds, the figure meets the statement.
use Rattle.std.proofs.Common.{◌≡◌, ℕ, List, [], ◌∷◌, refl, sym, ◌∙◌, ap, Bool, true, false, inl, inr}
use Rattle.std.specs.Prelude.{ℤ, Option, Some, None, ◌&&◌, if◌then◌else◌}
use Rattle.std.specs.List.{list_all}
use Rattle.poly_model.specs.Domain.{integers}
use Rattle.poly_model.specs.Integers.{integers_domain}
use Rattle.poly_model.specs.Polynomial.{Polynomial}
use Rattle.poly_model.specs.Zeros.{AllZero, NoneZero}
use Rattle.gcl_reader.specs.declared.word.Statement.{Statement}
use Rattle.gcl_names.specs.declared.program.Act.{Act}
use Rattle.gcl_names.specs.Sound.{AllFollow, AreMade, after_all, nothing}
use Rattle.proof_steps.specs.declared.problem.Problem.{Problem}
use Rattle.algebraize.specs.Equations.{Mean}
use Rattle.algebraize.specs.Figure.{Figure, Meets, MeetsStatement}
use Rattle.algebraize.specs.Formed.{equations}
use Rattle.verdicts.specs.Claims.{Claims, HoldsUnder}
use Rattle.verdicts.specs.declared.verdict.Verdict.{Verdict}
use Rattle.verdicts.specs.declared.verdict.Verdict.TheVariants as verdict
use Rattle.sample_point.specs.Sampling.{has_value, has_zero, has_other}
use Rattle.sample_point.proofs.Shown.{all-zero, none-zero}
use Rattle.placement.specs.Carrying.{CarriedIsMet, claim_of, told_at, told_of, told_by}
use Rattle.placement.specs.Images.{image_before, is_flat}
use Rattle.placement.specs.Placing.{free_points, image_point}
use Rattle.placement.specs.declared.carried.Carried.{Carried}
use Rattle.placement.specs.declared.carried.Carried.TheVariants as carried
use Rattle.placement.specs.declared.image.Image.TheVariants as image
use Rattle.placement.proofs.Flat.{flat_cannot_be_placed}
use Rattle.placement.proofs.Placed as law

-- where it holds at a point, the hypotheses are zero there, and no condition is
at-point : (hyps cs : List Polynomial) (point : List ℤ) → told_at hyps cs point ≡ carried.Holds
    → (list_all (has_zero point) hyps ≡ true) × (list_all (has_other point) cs ≡ true)
at-point hyps cs point h =
    by (list_all (has_value point) hyps && list_all (has_value point) cs) (list_all (has_zero point) hyps) (list_all (has_other point) cs) h where
      by : (values zeros others : Bool)
          → (if values then (if zeros then (if others then carried.Holds else carried.SideCondition) else carried.NoFigure) else carried.Past) ≡ carried.Holds
          → (zeros ≡ true) × (others ≡ true)
      by true true true e = (refl, refl)
      by true true false e = cc
      by true false others e = cc
      by false zeros others e = cc

-- where it holds of a figure, that comes to stand somewhere
stands : (acts : List Act) (f : Figure ℤ) (hyps cs : List Polynomial) → told_of hyps cs (image_before acts f) ≡ carried.Holds
    → (is_flat f (free_points acts) ≡ false) × (told_at hyps cs (image_point integers acts f) ≡ carried.Holds)
stands acts f hyps cs h = by (is_flat f (free_points acts)) h where
  by : (b : Bool) → told_of hyps cs (if b then image.Flat else image.Point (image_point integers acts f)) ≡ carried.Holds
      → (b ≡ false) × (told_at hyps cs (image_point integers acts f) ≡ carried.Holds)
  by true e = cc
  by false e = (refl, e)

of_claim : (acts : List Act) (s : Statement) (points : List ℕ) (f : Figure ℤ) (problem : Problem) (cs : List Polynomial) → AllFollow nothing acts
    → AreMade (after_all nothing acts) points → Mean integers acts s points (equations problem) → HoldsUnder integers problem cs
    → told_of problem.hyps cs (image_before acts f) ≡ carried.Holds → Meets integers f acts × MeetsStatement integers f s points
of_claim acts s points f problem cs follow made mean claim h =
    let at = stands acts f problem.hyps cs h in
    let point = image_point integers acts f in
    let t = at-point problem.hyps cs point at.1 in
    let zero = all-zero point problem.hyps t.0 in
    let can = (flat_cannot_be_placed acts f).0 at.0 in (
      (law.constructions integers_domain acts f follow can).1 ((mean.hypotheses point).0 zero),
      (law.statements integers_domain acts f s points follow can made).1
          ((mean.conclusions point).0 (claim point zero (none-zero point cs t.1))),
    )

pub carried_is_met : CarriedIsMet
carried_is_met acts s points f problem verdict.Proved follow made mean claims h = of_claim acts s points f problem [] follow made mean claims h
carried_is_met acts s points f problem (verdict.Under cs) follow made mean claims h = of_claim acts s points f problem cs follow made mean claims h
carried_is_met acts s points f problem (verdict.NotProved path k r) follow made mean claims h = cc
carried_is_met acts s points f problem (verdict.Degenerate path) follow made mean claims h = cc
carried_is_met acts s points f problem (verdict.Left path reason) follow made mean claims h = cc
