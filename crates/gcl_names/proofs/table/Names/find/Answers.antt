use Rattle.gcl_names.proofs.Entries.{find-some, find-late, find-none}
use Rattle.gcl_names.proofs.table.Names.find.Goals as goal

pub returns-then-i-first : goal.returns-then-i-first
returns-then-i-first c = find-some c.args.text.now c.self.inside.map.entries c.args.self.now c.self.view_is c.args.first c.in-Some.i c.in-Some.meaning.now c.in-Some.ensures.index c.in-Some.ensures.value c.if-i-first.true

pub returns-else-i-first : goal.returns-else-i-first
returns-else-i-first c = find-late c.args.text.now c.self.inside.map.entries c.args.self.now c.self.view_is c.args.first c.in-Some.i c.in-Some.ensures.index c.if-i-first.false

pub returns-in-None : goal.returns-in-None
returns-in-None c = find-none c.args.text.now c.self.inside.map.entries c.args.self.now c.self.view_is c.args.first c.in-None.ensures.value
