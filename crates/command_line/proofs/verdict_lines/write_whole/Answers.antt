use Rattle.desk_io.proofs.Writing.{closed}
use Rattle.command_line.proofs.verdict_lines.write_whole.Goals as goal

pub returns-in-Ok : goal.returns-in-Ok
returns-in-Ok c = closed c.close.result _ _ _ _ _ _ c.requires.pen c.in-Ok.ensures.bytes c.close.ensures.bytes
