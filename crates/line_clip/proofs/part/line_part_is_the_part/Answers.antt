use Rattle.line_clip.proofs.Turning.{the-part}
use Rattle.line_clip.proofs.part.line_part_is_the_part.Goals as goal

pub returns : goal.returns
returns c = the-part
