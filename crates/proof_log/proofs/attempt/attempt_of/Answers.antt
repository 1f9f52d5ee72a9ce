use Rattle.std.proofs.Common.{[], sym, ◌∙◌, ap, Err}
use Rattle.proof_log.specs.Kinds.{attempt_word_of}
use Rattle.proof_log.specs.Text.{attempt_fields}
use Rattle.proof_log.proofs.Plain.{same_err, some_left}
use Rattle.proof_log.proofs.Worded.{attempt_cut, attempt_parts}
use Rattle.proof_log.proofs.attempt.attempt_of.Goals as goal

pub returns-in_default-clause-refuses : goal.returns-in_default-clause-refuses
returns-in_default-clause-refuses c bad a fits e =
    c.in_default.ensures.refuses (attempt_word_of a) (attempt_cut c.args.text.now c.cut.result.0.now c.cut.result.1.now a c.cut.ensures.parts c.cut.ensures.front c.cut.ensures.behind e).0

pub returns-then-not-is_empty-clause-refuses : goal.returns-then-not-is_empty-clause-refuses
returns-then-not-is_empty-clause-refuses c bad a fits e =
    let p = attempt_parts c.args.text.now c.cut.result.0.now c.cut.result.1.now c.in-Some.word c.kinds_of.result.now a c.cut.ensures.parts c.cut.ensures.front c.cut.ensures.behind c.in-Some.ensures.reads c.kinds_of.ensures fits e in
    some_left c.in-Ok.rest.now (sym c.is_empty.ensures ∙ c.if-not-is_empty.true) (c.in-Ok.ensures.only (attempt_fields a) [] p.0 tt p.1).1

pub returns-clause-refuses : goal.returns-clause-refuses
returns-clause-refuses c bad a fits e =
    let p = attempt_parts c.args.text.now c.cut.result.0.now c.cut.result.1.now c.in-Some.word c.kinds_of.result.now a c.cut.ensures.parts c.cut.ensures.front c.cut.ensures.behind c.in-Some.ensures.reads c.kinds_of.ensures fits e in
    c.in-Err.ensures.refuses (ap Err (same_err _ _ bad)) (attempt_fields a) [] p.0 tt p.1
