-- The form that the program takes the words for.
use Rattle.std.specs.Prelude.{ℕ, Option, Some, None}
use Rattle.std.specs.Option.{option_copied}
use Rattle.command_line.specs.Table.{Form, TextOf, ProveOf, CheckOf, CarryOf, TrialOf}
use Rattle.command_line.specs.Command.{Command}
use Rattle.command_line.specs.Pipeline.{svg_of, latex_of, system_of, show_of}
use Rattle.command_line.specs.Samples.{sample_of}
use Rattle.command_line.specs.declared.invocation.TextForm.{TextForm}
use Rattle.command_line.specs.declared.invocation.TextForm.TheVariants.{Svg, Latex, System, Show, Sample}
use Rattle.command_line.specs.declared.invocation.Invocation.{Invocation}
use Rattle.command_line.specs.declared.invocation.Invocation.TheVariants.{Wrong, Text, Prove, ProveTogether, Check, Carry, Trial}

-- The command of a form that makes a text of one file.
abbrev pub command_of : TextForm → Command
command_of Svg = svg_of
command_of Latex = latex_of
command_of System = system_of
command_of Show = show_of
command_of Sample = sample_of

abbrev pub form_seen : Invocation → Option Form
form_seen Wrong = None
form_seen (Text form name) = Some (TextOf (command_of form) name.now)
form_seen (Prove name) = Some (ProveOf name.now)
form_seen (ProveTogether name workers) = Some (ProveOf name.now)
form_seen (Check log file) = Some (CheckOf log.now (option_copied file))
form_seen (Carry log file figure) = Some (CarryOf log.now file.now figure.now)
form_seen (Trial number workers) = Some (TrialOf number)

-- How many workers the program hands over to the prover; nothing where no thread is started.
abbrev pub workers_seen : Invocation → Option ℕ
workers_seen Wrong = None
workers_seen (Text form name) = None
workers_seen (Prove name) = None
workers_seen (ProveTogether name workers) = Some workers.count
workers_seen (Check log file) = None
workers_seen (Carry log file figure) = None
workers_seen (Trial number workers) = Some workers.count
