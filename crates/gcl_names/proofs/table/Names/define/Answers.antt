use Rattle.std.proofs.Common.{◌++◌, ◌∷◌, [], List, ℕ, ◌∙◌, ap}
use Rattle.indexmap.proofs.CallerLemmas.{insert_entry-new}
use Rattle.gcl_names.proofs.Entries.{names-push, absent}
use Rattle.gcl_names.specs.View.{names_of}
use Rattle.gcl_names.specs.declared.meaning.Meaning.{Meaning}
use Rattle.gcl_names.proofs.table.Names.define.Goals as goal

pub returns-clause-ok : goal.returns-clause-ok
returns-clause-ok c = let map = c.self.inside.map in
    ap names_of (c.in_ok-insert.ensures.entries ∙ insert_entry-new _ map c.args.text c.args.meaning (absent c.args.text.now map.entries c.args.self.now c.self.view_is c.requires))
    ∙ names-push map.entries c.args.text c.args.meaning
    ∙ ap (λ (l : List (List ℕ × Meaning)). l ++ (c.args.text.now, c.args.meaning) ∷ []) c.self.view_is
