use Rattle.desk_io.proofs.Writing.{closed}
use Rattle.command_line.proofs.carried_lines.put_whole_lines.Goals as goal

pub returns-in-Ok-clause-bytes : goal.returns-in-Ok-clause-bytes
returns-in-Ok-clause-bytes g c = closed c.close.result _ _ _ _ _ _ c.requires c.in-Ok.ensures.bytes c.close.ensures.bytes
