-- Where tokens stand, and the refusal of one.
use Rattle.gcl_reader.specs.declared.span.Span.{Span}
use Rattle.gcl_reader.specs.declared.refusal.Kind.{Kind}
use Rattle.gcl_reader.specs.declared.refusal.Refusal.{Refusal}
use Rattle.gcl_reader.specs.declared.file.Arg.{Arg}
use Rattle.gcl_reader.specs.declared.file.Command.{Command}

-- The refusal of the token that stands at a span.
abbrev pub refusal : Kind → Span → Refusal
refusal k s = record { line = s.line; kind = k; at = s.at; len = s.len }

-- Where an argument's token stands.
abbrev pub span_of_arg : Arg → Span
span_of_arg a = record { line = a.line; at = a.at; len = a.len }

-- Where a command's word stands.
abbrev pub span_of_command : Command → Span
span_of_command c = record { line = c.line; at = c.at; len = c.len }
