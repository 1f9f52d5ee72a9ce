use Rattle.std.proofs.Common.{sym, subst}
use Rattle.proof_log.proofs.Items.{Going, none_read}
use Rattle.proof_log.proofs.Rows.{fields, no_blank, no_field, one_field, fields_read, fields_only}
use Rattle.proof_log.proofs.field.fields_at.Goals as goal

pub loop-kind-init : goal.loop-kind-init
loop-kind-init c = subst (Going fields c.args.kinds.now c.args.kinds.now c.args.text.now c.args.text.now) (sym c.new-fields.ensures.items) (none_read fields c.args.kinds.now c.args.text.now)

pub returns-in_default-behind_blank-clause-refuses : goal.returns-in_default-behind_blank-clause-refuses
returns-in_default-behind_blank-clause-refuses c bad =
    no_blank c.args.kinds.now c.args.text.now c.loop-kind.rest.now c.loop-kind.fields.items c.in-Some.kind.now c.in-Some.after.now c.loop-kind.left.now c.loop-kind.invariant c.in-Some.ensures.cases.0 c.in_default-behind_blank.ensures

pub returns-in_default-field_of-clause-refuses : goal.returns-in_default-field_of-clause-refuses
returns-in_default-field_of-clause-refuses c bad =
    no_field c.args.kinds.now c.args.text.now c.loop-kind.rest.now c.loop-kind.fields.items c.in-Some.kind.now c.in-Some.after.now c.loop-kind.left.now c.in-Some-behind_blank.behind.now c.cut.result.0.now c.cut.result.1.now c.loop-kind.invariant
    c.in-Some.ensures.cases.0 c.in-Some-behind_blank.ensures c.cut.ensures.parts c.cut.ensures.front c.cut.ensures.behind c.in_default-field_of.ensures.refuses

pub loop-kind-preserved : goal.loop-kind-preserved
loop-kind-preserved c =
    one_field c.args.kinds.now c.args.text.now c.loop-kind.rest.now c.loop-kind.fields.items c.in-Some.kind.now c.in-Some.after.now c.loop-kind.left.now c.in-Some-behind_blank.behind.now c.cut.result.0.now c.cut.result.1.now c.in-Some-field_of.field
    c.push.new.self.items c.loop-kind.invariant c.in-Some.ensures.cases.0 c.in-Some-behind_blank.ensures c.cut.ensures.parts c.cut.ensures.front c.cut.ensures.behind c.in-Some-field_of.ensures.reads.0 c.in-Some-field_of.ensures.reads.1 c.in-Ok.ensures.items

pub returns-clause-reads : goal.returns-clause-reads
returns-clause-reads c = fields_read c.args.kinds.now c.args.text.now c.loop-kind.rest.now c.loop-kind.fields.items c.loop-kind.left.now c.loop-kind.invariant c.in_default.ensures.cases

pub returns-clause-only : goal.returns-clause-only
returns-clause-only c = fields_only c.args.kinds.now c.args.text.now c.loop-kind.rest.now c.loop-kind.fields.items c.loop-kind.left.now c.loop-kind.invariant c.in_default.ensures.cases
