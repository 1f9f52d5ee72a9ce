use Rattle.std.proofs.Common.{inl, inr}
use Rattle.always_answers.proofs.Shown.{done_alone}
use Rattle.always_answers.proofs.laws.always_usage.Goals as goal

pub returns : goal.returns
returns g c old new shown = elim (done_alone _ old new _ shown) [ inl e ↦ absurd (cc) | inr e ↦ absurd (cc) ]
