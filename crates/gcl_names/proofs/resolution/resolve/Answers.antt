use Rattle.std.proofs.Common.{◌≡◌, Ok, rules}
use Rattle.gcl_names.specs.Program.{resolved}
use Rattle.gcl_names.specs.declared.program.Program.{Program}
use Rattle.gcl_names.proofs.SoundActs.{resolved-sound}
use Rattle.gcl_names.proofs.Naming.{resolved-named}
use Rattle.gcl_names.proofs.resolution.resolve.Goals as goal

pub returns-clause-sound : goal.returns-clause-sound
unfolding resolved
returns-clause-sound c =
    let program : Program = record { acts = c.from_vec.result; points = c.into_row.result; lines = c.acts_in.new.scope.lines; circles = c.acts_in.new.scope.circles; proves = c.acts_in.new.scope.proves } in
    let gives : resolved c.args.file.now.commands ≡ Ok program = search rules in
    (resolved-sound c.args.file.now.commands program c.requires gives).0

pub returns-clause-whole : goal.returns-clause-whole
unfolding resolved
returns-clause-whole c =
    let program : Program = record { acts = c.from_vec.result; points = c.into_row.result; lines = c.acts_in.new.scope.lines; circles = c.acts_in.new.scope.circles; proves = c.acts_in.new.scope.proves } in
    let gives : resolved c.args.file.now.commands ≡ Ok program = search rules in
    (resolved-sound c.args.file.now.commands program c.requires gives).1

pub returns-clause-named : goal.returns-clause-named
unfolding resolved
returns-clause-named c =
    let program : Program = record { acts = c.from_vec.result; points = c.into_row.result; lines = c.acts_in.new.scope.lines; circles = c.acts_in.new.scope.circles; proves = c.acts_in.new.scope.proves } in
    let gives : resolved c.args.file.now.commands ≡ Ok program = search rules in
    resolved-named c.args.file.now.commands program c.requires gives
