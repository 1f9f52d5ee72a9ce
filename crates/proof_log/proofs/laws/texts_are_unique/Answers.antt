use Rattle.proof_log.proofs.OneLine.{one_line}
use Rattle.proof_log.proofs.OneText.{one_log_text}
use Rattle.proof_log.proofs.laws.texts_are_unique.Goals as goal

pub returns-clause-lines : goal.returns-clause-lines
returns-clause-lines c names l m n f g e = one_line names l m n f g e

pub returns-clause-logs : goal.returns-clause-logs
returns-clause-logs c h other ps qs a b v w f g e = one_log_text h other ps qs a b v w f g e
