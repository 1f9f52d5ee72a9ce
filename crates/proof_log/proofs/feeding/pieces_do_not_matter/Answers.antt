use Rattle.std.proofs.Common.{refl, sym, ◌∙◌, []}
use Rattle.proof_log.proofs.Held.{same_lines}
use Rattle.proof_log.proofs.feeding.pieces_do_not_matter.Goals as goal

pub returns : goal.returns
returns c front other r q bytes f g = (same_lines [] front other r.held.items q.held.items refl f.lines g.lines f.unended g.unended (sym f.text ∙ g.text)).0
