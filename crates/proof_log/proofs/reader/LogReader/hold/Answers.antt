use Rattle.std.proofs.Common.{sym, ◌∙◌, ap, subst, [], ◌++◌, append_assoc}
use Rattle.proof_log.specs.Grammar.{IsUnended}
use Rattle.proof_log.specs.Text.{text_of}
use Rattle.proof_log.proofs.Bytes.{avoids-append}
use Rattle.proof_log.proofs.reader.LogReader.hold.Goals as goal

pub returns-clause-ok : goal.returns-clause-ok
returns-clause-ok c bytes lines fed = record {
  text = ap (λ t. t ++ c.args.front.now) fed.text ∙ append_assoc (text_of [] lines) c.args.self.now.held.items c.args.front.now ∙ ap (λ t. text_of [] lines ++ t) (sym c.in-Ok.ensures.items);
  unended = subst IsUnended (sym c.in-Ok.ensures.items) (avoids-append 10 _ _ fed.unended c.requires.unended);
  lines = fed.lines;
  place = fed.place;
  names = fed.names;
  setting = fed.setting;
  own = fed.own;
  count = fed.count;
  well = fed.well;
}
