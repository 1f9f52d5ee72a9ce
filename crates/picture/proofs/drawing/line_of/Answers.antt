use Rattle.std.proofs.Common.{rules, sym, subst}
use Rattle.line_clip.specs.Sizes.{IsLine}
use Rattle.picture.proofs.Lines.{is_line}
use Rattle.picture.proofs.drawing.line_of.Goals as goal

pub returns-clause-value : goal.returns-clause-value
returns-clause-value c = search rules

pub returns-clause-line : goal.returns-clause-line
returns-clause-line c = subst IsLine (sym (returns-clause-value c)) (is_line c.args.l.now c.requires)
