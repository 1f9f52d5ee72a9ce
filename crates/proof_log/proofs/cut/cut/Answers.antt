use Rattle.proof_log.proofs.Cutting.{cut_front, cut_behind}
use Rattle.proof_log.proofs.cut.cut.Goals as goal

pub returns-clause-front : goal.returns-clause-front
returns-clause-front c = cut_front c.args.byte c.front_len.result c.args.text.now c.split_at.result.0.now c.front_len.ensures c.split_at.ensures.front

pub returns-clause-behind : goal.returns-clause-behind
returns-clause-behind c = cut_behind c.args.byte c.front_len.result c.args.text.now c.split_at.result.1.now c.front_len.ensures c.split_at.ensures.back
