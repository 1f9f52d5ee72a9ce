use Rattle.std.proofs.Common.{arith, sym, ◌∙◌, ap, true, false, ◌≡◌}
use Rattle.poly_model.specs.Standard.{is_standard}
use Rattle.ratio_eq.proofs.Numbers.{natural-standard}
use Rattle.ratio_eq.proofs.arith.number.Goals as goal

pub unreachable-requires : goal.unreachable-requires
unreachable-requires c =
    let f : true ≡ false = sym (natural-standard c.args.k (omega (arith, c.ranges.k.fits))) ∙ ap is_standard (sym c.in_ok-terms.ensures.terms) ∙ c.in-Err.ensures.err.0 in cc
