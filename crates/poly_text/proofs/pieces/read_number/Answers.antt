use Rattle.std.proofs.Common.{arith, sym, ◌∙◌}
use Rattle.poly_text.proofs.Numbers.{one_more}
use Rattle.poly_text.proofs.pieces.read_number.Goals as goal

pub loop-b-preserved : goal.loop-b-preserved
loop-b-preserved c =
    one_more c.loop-b.value c.in-Some.b.now c.saturating_add-value.result c.in-Some.after.now c.args.text.now
    (rw c.in-Some.ensures.cases.0 at c.loop-b.invariant) (sym c.is_digit.ensures ∙ c.if-not-is_digit.false) (omega arith)
