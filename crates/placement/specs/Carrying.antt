-- What the claim of a prove tells of a figure, wherever it stands.
use Rattle.std.specs.Prelude.{◌≡◌, ℕ, ℤ, List, [], Option, Some, None, ◌&&◌, if◌then◌else◌}
use Rattle.std.specs.List.{list_all}
use Rattle.poly_model.specs.Domain.{integers}
use Rattle.poly_model.specs.Polynomial.{Polynomial}
use Rattle.gcl_reader.specs.declared.word.Statement.{Statement}
use Rattle.gcl_names.specs.declared.program.Act.{Act}
use Rattle.gcl_names.specs.Sound.{AllFollow, AreMade, after_all, nothing}
use Rattle.proof_steps.specs.declared.problem.Problem.{Problem}
use Rattle.algebraize.specs.Equations.{Mean}
use Rattle.algebraize.specs.Figure.{Figure, Meets, MeetsStatement}
use Rattle.algebraize.specs.Formed.{equations}
use Rattle.verdicts.specs.Claims.{Claims}
use Rattle.verdicts.specs.declared.verdict.Verdict.{Verdict}
use Rattle.verdicts.specs.declared.verdict.Verdict.TheVariants as verdict
use Rattle.sample_point.specs.Sampling.{has_value, has_zero, has_other}
use Rattle.placement.specs.Images.{image_before, image_of}
use Rattle.placement.specs.declared.carried.Carried.{Carried}
use Rattle.placement.specs.declared.carried.Carried.TheVariants as carried
use Rattle.placement.specs.declared.image.Image.{Image}
use Rattle.placement.specs.declared.image.Image.TheVariants as image

-- The conditions under which a verdict claims that the conclusions are zero; none where it claims nothing.
abbrev pub claim_of : Verdict → Option (List Polynomial)
claim_of verdict.Proved = Some []
claim_of (verdict.Under cs) = Some cs
claim_of (verdict.NotProved path k r) = None
claim_of (verdict.Degenerate path) = None
claim_of (verdict.Left path reason) = None

-- What a claim about these hypotheses, under these conditions, tells of the figure that comes to stand at the point.
abbrev pub told_at : (hyps cs : List Polynomial) → List ℤ → Carried
told_at hyps cs point =
    if list_all (has_value point) hyps && list_all (has_value point) cs
    then (if list_all (has_zero point) hyps then (if list_all (has_other point) cs then carried.Holds else carried.SideCondition) else carried.NoFigure)
    else carried.Past

-- What it tells of a figure that comes to stand there, if it does.
abbrev pub told_of : (hyps cs : List Polynomial) → Image → Carried
told_of hyps cs image.Flat = carried.Flat
told_of hyps cs (image.Point point) = told_at hyps cs point

-- What a verdict tells of it.
abbrev pub told_by : List Polynomial → Option (List Polynomial) → Image → Carried
told_by hyps None i = carried.NoClaim
told_by hyps (Some cs) i = told_of hyps cs i

-- What the verdict of the prove number k, counted from 0, tells of a figure.
abbrev pub carried_of : List Act → ℕ → Figure ℤ → Problem → Verdict → Carried
carried_of acts k f problem v = told_by problem.hyps (claim_of v) (image_of acts k f)

-- Where a verdict's claim is so, over the whole numbers, and tells of a figure that it holds, the figure meets the commands
-- before the prove and its statement.
abbrev pub CarriedIsMet : Type 0
CarriedIsMet =
    (acts : List Act) (s : Statement) (points : List ℕ) (f : Figure ℤ) (problem : Problem) (v : Verdict) → AllFollow nothing acts
    → AreMade (after_all nothing acts) points → Mean integers acts s points (equations problem) → Claims integers problem v
    → told_by problem.hyps (claim_of v) (image_before acts f) ≡ carried.Holds → Meets integers f acts × MeetsStatement integers f s points
