use Rattle.std.proofs.Common.{◌≡◌, ◌≤◌, length}
use Rattle.gcl_reader.specs.Tokens.{Comment}
use Rattle.gcl_reader.specs.Ahead.{ahead_in}
use Rattle.gcl_reader.proofs.lexer.Lexer.pass_comment.Given as goal

abbrev pub invariant-loop-self : goal.invariant-loop-self
invariant-loop-self l = (ahead_in Comment l.self ≡ ahead_in Comment l.initial.self) × (length l.self.rest.now ≤ length l.initial.self.rest.now)

abbrev pub decreases-loop-self : goal.decreases-loop-self
decreases-loop-self l = length l.self.rest.now
