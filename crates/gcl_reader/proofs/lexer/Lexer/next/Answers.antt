use Rattle.std.proofs.Common.{arith, sym, ◌∙◌}
use Rattle.gcl_reader.proofs.Cut.{none-ahead, word-cut, brace-cut, other-cut, cut-next}
use Rattle.gcl_reader.proofs.lexer.Lexer.next.Goals as goal

pub returns-in_default : goal.returns-in_default
returns-in_default c = let s = c.pass_blanks.new.self in
    (sym c.pass_blanks.ensures.same ∙ none-ahead s.line s.last s.at s.rest.now (omega arith), c.pass_blanks.ensures.same)

pub returns-then-is_word : goal.returns-then-is_word
returns-then-is_word c = let s = c.pass_blanks.new.self in
    cut-next (sym c.pass_blanks.ensures.same ∙ word-cut s.line s.last s.at s.rest.now (omega arith) (sym c.is_word.ensures ∙ c.if-is_word.true))
    (rw (← c.word_len-len.ensures) c.cut.ensures.token) (rw (← c.word_len-len.ensures) c.cut.ensures.ahead)

pub returns-then-is_brace : goal.returns-then-is_brace
returns-then-is_brace c = let s = c.pass_blanks.new.self in
    cut-next (sym c.pass_blanks.ensures.same ∙ brace-cut s.line s.last s.at s.rest.now (omega arith) (sym c.is_word.ensures ∙ c.if-is_word.false) (sym c.is_brace.ensures ∙ c.if-is_brace.true))
    c.cut-then-is_brace.ensures.token c.cut-then-is_brace.ensures.ahead

pub returns : goal.returns
returns c = let s = c.pass_blanks.new.self in
    cut-next (sym c.pass_blanks.ensures.same ∙ other-cut s.line s.last s.at s.rest.now (omega arith) (sym c.is_word.ensures ∙ c.if-is_word.false) (sym c.is_brace.ensures ∙ c.if-is_brace.false) c.pass_blanks.ensures.begins)
    c.cut-2.ensures.token c.cut-2.ensures.ahead
