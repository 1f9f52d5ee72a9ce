use Rattle.std.proofs.Common.{sym, subst}
use Rattle.std.specs.Prelude.{IfSome}
use Rattle.line_clip.specs.Sizes.{AreNear}
use Rattle.line_clip.proofs.Near.{ends_near}
use Rattle.line_clip.proofs.part.near_part.Goals as goal

pub returns-clause-near : goal.returns-clause-near
returns-clause-near c =
    subst (λ o. IfSome o (λ e. AreNear e)) (sym c.line_part.ensures.value) (ends_near c.args.a.now c.args.l.now c.requires.area c.requires.line)
