use Rattle.std.proofs.Common.{sym, ◌∙◌, arith}
use Rattle.proof_log.proofs.Spelled.{number_none, number_low, number_more, number_reads}
use Rattle.proof_log.proofs.Plain.{none_left, some_left}
use Rattle.proof_log.proofs.field.number_of.Goals as goal

pub returns-in_default-clause-refuses : goal.returns-in_default-clause-refuses
returns-in_default-clause-refuses c = number_none c.args.least c.args.most c.args.text.now c.requires c.in_default.ensures.read

pub returns-then-n-least-clause-refuses : goal.returns-then-n-least-clause-refuses
returns-then-n-least-clause-refuses c = let low = c.if-n-least.true in number_low c.args.least c.args.most c.in-Some.n c.args.text.now c.in-Some.rest.now c.requires c.in-Some.ensures.read (omega (arith, low))

pub returns-then-is_empty-clause-reads : goal.returns-then-is_empty-clause-reads
returns-then-is_empty-clause-reads c = let low = c.if-n-least.false in
    number_reads c.args.least c.args.most c.in-Some.n c.args.text.now c.in-Some.rest.now c.requires c.in-Some.ensures.read (omega (arith, low)) (none_left c.in-Some.rest.now (sym c.is_empty.ensures ∙ c.if-is_empty.true))

pub returns-else-is_empty-clause-refuses : goal.returns-else-is_empty-clause-refuses
returns-else-is_empty-clause-refuses c =
    number_more c.args.least c.args.most c.in-Some.n c.args.text.now c.in-Some.rest.now c.requires c.in-Some.ensures.read (some_left c.in-Some.rest.now (sym c.is_empty.ensures ∙ c.if-is_empty.false))
