use Rattle.std.proofs.Common.{◌∙◌, ◌≡◌, length, min, sym, arith}
use Rattle.proof_steps.proofs.Paths.{lengths_decide}
use Rattle.proof_steps.proofs.path.Path.preorder.Goals as goal

pub returns : goal.returns
returns c =
    let p = c.letters-mine.result.now in
    let q = c.letters-theirs.result.now in
    let all : c.loop-i.i ≡ min (length p) (length q) = omega arith in
    rw (← c.letters-mine.ensures, ← c.letters-theirs.ensures) (c.cmp.ensures ∙ sym (lengths_decide p q c.loop-i.i all) ∙ c.loop-i.invariant)
