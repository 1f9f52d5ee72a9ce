use Rattle.fixed_point.proofs.Again.{again}
use Rattle.fixed_point.proofs.fix.written_is_read_back.Goals as goal

pub returns : goal.returns
returns c = again
