use Rattle.poly_text.proofs.Numbers.{too_large}
use Rattle.poly_text.proofs.pieces.read_short.Goals as goal

pub returns-then-value-most-clause-read : goal.returns-then-value-most-clause-read
returns-then-value-most-clause-read c = too_large _ _ c.in_ok-value.rest.now c.args.text.now c.if-value-most.true c.in_ok-value.ensures.part
