use Rattle.std.proofs.Common.{ap, sym, ◌∙◌, is_some, Option}
use Rattle.gcl_names.specs.Scope.{meaning_in}
use Rattle.gcl_names.specs.declared.meaning.Meaning.{Meaning}
use Rattle.gcl_names.proofs.Entries.{meaning-lookup}
use Rattle.gcl_names.proofs.table.Names.has.Goals as goal

pub returns : goal.returns
returns c = c.contains_key.ensures ∙ ap (λ (r : Option Meaning). is_some r) (sym (meaning-lookup c.args.text.now c.self.inside.map.entries) ∙ ap (meaning_in c.args.text.now) c.self.view_is)
