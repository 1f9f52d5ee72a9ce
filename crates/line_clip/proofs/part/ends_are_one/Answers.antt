use Rattle.line_clip.proofs.Alike.{ends-are-one}
use Rattle.line_clip.proofs.part.ends_are_one.Goals as goal

pub returns : goal.returns
returns c = ends-are-one
