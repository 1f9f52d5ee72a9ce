use Rattle.std.proofs.Common.{◌∙◌, ap, codes, sym}
use Rattle.std.specs.String.{string_bytes}
use Rattle.command_line.specs.Table.{form_of}
use Rattle.command_line.proofs.Words.{first_word}
use Rattle.command_line.proofs.invocation.read_command.Goals as goal

pub returns-in-show-clause-form : goal.returns-in-show-clause-form
returns-in-show-clause-form c =
    c.read_text-in-show.ensures.form
    ∙ sym (ap form_of (first_word string_bytes c.args.words.now c.word-item.result (codes "show") c.in-len1-up.len_at_least c.word-item.is (sym c.as_str.ensures.value ∙ c.in-show.is)))

pub returns-in-sample-clause-form : goal.returns-in-sample-clause-form
returns-in-sample-clause-form c =
    c.read_text-in-sample.ensures.form
    ∙ sym (ap form_of (first_word string_bytes c.args.words.now c.word-item.result (codes "sample") c.in-len1-up.len_at_least c.word-item.is (sym c.as_str.ensures.value ∙ c.in-sample.is)))
