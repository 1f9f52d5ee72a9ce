use Rattle.std.proofs.Common.{sym, ◌∙◌}
use Rattle.gcl_reader.proofs.Named.{named-found, named-missed, named-none}
use Rattle.gcl_reader.proofs.table.named.Goals as goal

pub returns-then-eq : goal.returns-then-eq
returns-then-eq g c = named-found g.X.Written.written c.args.text.now c.candidate-item.result c.loop-rest.rest.now c.in-len1-up.len_at_least c.candidate-item.is (rw c.text.ensures at (sym c.eq.ensures ∙ c.if-eq.true)) ∙ c.loop-rest.invariant

pub loop-rest-preserved : goal.loop-rest-preserved
loop-rest-preserved g c = named-missed g.X.Written.written c.args.text.now c.candidate-item.result c.loop-rest.rest.now c.in-len1-up.len_at_least c.candidate-item.is (rw c.text.ensures at (sym c.eq.ensures ∙ c.if-eq.false)) ∙ c.loop-rest.invariant

pub returns : goal.returns
returns g c = named-none g.X.Written.written c.args.text.now c.loop-rest.rest.now c.in_default.len_below ∙ c.loop-rest.invariant
