use Rattle.std.proofs.Common.{◌-◌, max, ap, ◌∙◌}
use Rattle.poly_text.proofs.Places.{not_before}
use Rattle.poly_text.proofs.terms.place_from.Goals as goal

pub loop-i-init : goal.loop-i-init
loop-i-init c =
    not_before _ _ _ _ c.len-i-end.ensures.numbered
    (c.max-i.ensures ∙ ap (max c.args.from) (c.saturating_sub-before.ensures ∙ ap (λ n. n - 1) c.number.ensures))
