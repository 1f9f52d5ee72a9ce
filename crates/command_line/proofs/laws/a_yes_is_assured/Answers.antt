use Rattle.desk_io.specs.Causes.{Rose}
use Rattle.command_line.proofs.Headline.{headline}
use Rattle.command_line.proofs.laws.a_yes_is_assured.Goals as goal

pub returns : goal.returns
returns g c = λ form held before now out_old out_new notes_old notes_new status answered.
    headline g.D.Domain.operations c.trees_cover.ensures c.verdicts_hold.ensures c.equations_mean_their_figure.ensures
    (record {
      cover = c.trees_cover-2.ensures;
      hold = c.verdicts_hold-2.ensures;
      mean = c.equations_mean_their_figure-2.ensures;
      met = c.carried_is_met.ensures;
    })
    form held (Rose before now) out_old out_new notes_old notes_new status answered
