use Rattle.std.proofs.Common.{sym, subst, ap, ℕ}
use Rattle.std.specs.Prelude.{All}
use Rattle.picture.specs.Drawing.{Sketch}
use Rattle.picture.specs.Shapes.{IsNamed, IsWritten}
use Rattle.picture.proofs.Sketches.{one_more}
use Rattle.picture.proofs.canvas.Canvas.add.Goals as goal

pub invariant_of-self-2 : goal.invariant_of-self-2
invariant_of-self-2 c =
    subst (All (IsWritten c.self.inside.names)) (sym c.in_ok-push.ensures.items)
    (one_more c.self.inside.names c.self.inside.ink c.args.shape c.self.inside.shapes.items c.self.invariant c.requires.near
    (subst (λ n. IsNamed n c.args.shape) (ap (λ (v : ℕ × Sketch). v.0) (sym c.self.view_is)) c.requires.named))
