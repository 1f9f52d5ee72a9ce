use Rattle.sample_point.proofs.Shown as shown
use Rattle.sample_point.proofs.laws.found_points_show.Goals as goal

pub returns : goal.returns
returns c = record { values = shown.values_right; shown = shown.founds_show; proved = shown.proved_is_not_refuted }
