use Rattle.std.proofs.Common.{Some, sym, ap, refl, subst}
use Rattle.proof_log.specs.Grammar.{IsUnended, names_behind}
use Rattle.proof_log.specs.Settings.{setting_behind, AreOf}
use Rattle.proof_log.specs.Places.{run}
use Rattle.proof_log.specs.Text.{text_of, AreLines}
use Rattle.proof_log.proofs.reader.LogReader.new.Goals as goal

pub returns-clause-fed : goal.returns-clause-fed
unfolding text_of run AreLines names_behind setting_behind AreOf
returns-clause-fed c = (
  record {
    text = sym c.new.ensures.items;
    unended = subst IsUnended (sym c.new.ensures.items) tt;
    lines = tt;
    place = ap Some (sym c.start.ensures);
    names = (rw c.unwrap.ensures at c.from_names.ensures.some).1;
    setting = c.unsettled.ensures;
    own = tt;
    count = refl;
    well = refl;
  },
  refl,
)
