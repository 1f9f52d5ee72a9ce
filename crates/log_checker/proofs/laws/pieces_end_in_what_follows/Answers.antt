use Rattle.log_checker.proofs.Inside.{piece_read, piece_written}
use Rattle.log_checker.proofs.laws.pieces_end_in_what_follows.Goals as goal

pub returns-clause-ends : goal.returns-clause-ends
returns-clause-ends c version cons n p w path = piece_read version cons n p w path

pub returns-clause-written : goal.returns-clause-written
returns-clause-written c version cons n p ms h = piece_written version cons n p ms h
