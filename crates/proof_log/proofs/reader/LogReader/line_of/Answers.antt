use Rattle.std.proofs.Common.{sym, ◌∙◌, ap, true, false, ◌≡◌}
use Rattle.proof_log.specs.Settings.{is_of}
use Rattle.proof_log.specs.Places.{goes}
use Rattle.proof_log.proofs.OneLine.{one_line}
use Rattle.proof_log.proofs.reader.LogReader.line_of.Goals as goal

pub returns-then-not-has-clause-refuses : goal.returns-then-not-has-clause-refuses
returns-then-not-has-clause-refuses c bad l fits own e =
    let same = one_line c.args.self.now.vars l c.in-Ok.line c.len.ensures.numbered fits c.in-Ok.ensures.reads.0 (sym e ∙ c.in-Ok.ensures.reads.1) in
    let h : true ≡ false = sym own ∙ ap (λ x. is_of c.args.self.now.setting x) same ∙ sym c.has.ensures ∙ c.if-not-has.true in
    cc

pub returns-in-None-clause-refuses : goal.returns-in-None-clause-refuses
returns-in-None-clause-refuses c bad l fits own e =
    ap (goes c.args.self.now.place) (one_line c.args.self.now.vars l c.in-Ok.line c.len.ensures.numbered fits c.in-Ok.ensures.reads.0 (sym e ∙ c.in-Ok.ensures.reads.1))
    ∙ sym c.goes.ensures ∙ c.in-None.is
