use Rattle.std.proofs.Common.{◌∙◌, sym, ap}
use Rattle.poly_model.specs.Standard.{polynomial_of}
use Rattle.poly_text.proofs.Unique.{no_empty_text, zero_only}
use Rattle.poly_text.proofs.reading.read_list.Goals as goal

pub returns-then-is_empty-clause-refuses : goal.returns-then-is_empty-clause-refuses
returns-then-is_empty-clause-refuses c bad p = no_empty_text _ _ c.requires (sym c.if-is_empty.ensures) p

pub returns-then-same_bytes-clause-only : goal.returns-then-same_bytes-clause-only
returns-then-same_bytes-clause-only c p s o e =
    zero_only _ _ c.requires (c.same_bytes.ensures.0 c.if-same_bytes.true) p s o e ∙ sym (ap polynomial_of c.new.ensures.items)
