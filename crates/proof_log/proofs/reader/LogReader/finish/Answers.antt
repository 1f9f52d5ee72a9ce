use Rattle.std.proofs.Common.{sym, ◌∙◌}
use Rattle.proof_log.proofs.Pieced.{ends_whole, ends_held, ends_early}
use Rattle.proof_log.proofs.reader.LogReader.finish.Goals as goal

pub returns-then-not-is_empty-clause-whole : goal.returns-then-not-is_empty-clause-whole
returns-then-not-is_empty-clause-whole c bytes front f = ends_held c.args.self front bytes c.in_default.is (sym c.is_empty.ensures ∙ c.if-not-is_empty.true) f

pub returns-then-not-is_done-clause-whole : goal.returns-then-not-is_done-clause-whole
returns-then-not-is_done-clause-whole c bytes front f = ends_early c.args.self front bytes c.in_default.is (sym c.is_done.ensures ∙ c.if-not-is_done.true) f

pub returns-clause-whole : goal.returns-clause-whole
returns-clause-whole c bytes front f = ends_whole tt c.args.self front bytes c.in_default.is (sym c.is_empty.ensures ∙ c.if-not-is_empty.false) (sym c.is_done.ensures ∙ c.if-not-is_done.false) f
