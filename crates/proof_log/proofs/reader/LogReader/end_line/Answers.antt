use Rattle.std.proofs.Common.{◌+◌, sym, ◌∙◌, ap, refl, subst, arith, ◌∷◌, [], ◌++◌, length-append, append_assoc, Err}
use Rattle.proof_log.specs.Settings.{unsettled, is_of, setting_after}
use Rattle.proof_log.specs.Grammar.{Refuses}
use Rattle.proof_log.specs.Text.{names_after, text_of, IsLine}
use Rattle.proof_log.proofs.Held.{behind_lines, next_text, refuses_line, names_snoc, lines_snoc, setting_snoc, own_snoc}
use Rattle.proof_log.proofs.Logs.{run_snoc}
use Rattle.proof_log.proofs.Pieced.{starved}
use Rattle.proof_log.proofs.reader.LogReader.end_line.Goals as goal

pub returns-in_default-clause-line : goal.returns-in_default-clause-line
returns-in_default-clause-line c bytes front fed unended = (c.in_default.ensures.items, refl, starved front c.args.self.now bytes (c.args.text.now ++ 10 ∷ []) fed)

pub returns-in-Ok-push-clause-line : goal.returns-in-Ok-push-clause-line
returns-in-Ok-push-clause-line c bytes front fed unended =
    let l = c.in-Ok.line in
    let r = c.in-Ok.ensures.reads in
    let whole = behind_lines front bytes c.args.self.now.held.items c.args.text.now fed.text c.requires.empty in (
      l,
      c.in-Ok-push.ensures.items,
      record {
        text = sym (append_assoc bytes c.args.text.now (10 ∷ []))
            ∙ next_text front (bytes ++ c.args.text.now) c.args.text.now c.args.self.now.vars l whole fed.names r.1
            ∙ ap (λ t. text_of [] (front ++ l ∷ []) ++ t) (sym c.requires.empty);
        unended = fed.unended;
        lines = lines_snoc [] front l fed.lines (subst (λ v. IsLine v l) fed.names r.0);
        place = run_snoc c.args.self.now.place c.in-Ok.place front l fed.place r.2;
        setting = c.after-setting.ensures ∙ ap (λ v. setting_after v l) fed.setting ∙ sym (setting_snoc unsettled front l);
        own = own_snoc unsettled front l fed.own (ap (λ v. is_of v l) (sym fed.setting) ∙ r.3);
        names = c.names_after-vars.ensures ∙ ap (λ v. names_after v l) fed.names ∙ sym (names_snoc [] front l);
        count = let n = length-append front (l ∷ []) in let m = fed.count in omega (arith, n, m);
        well = fed.well;
      },
    )

pub returns-in-Err-Malformed-clause-line : goal.returns-in-Err-Malformed-clause-line
returns-in-Err-Malformed-clause-line c bytes front fed unended =
    let whole = behind_lines front bytes c.args.self.now.held.items c.args.text.now fed.text c.requires.empty in (
      refl,
      refl,
      record {
        refuses = subst (Refuses front) (append_assoc bytes c.args.text.now (10 ∷ []))
            (refuses_line front (bytes ++ c.args.text.now) c.args.text.now c.args.self.now.vars c.args.self.now.setting c.args.self.now.place whole fed.names fed.setting unended fed.lines fed.own fed.place
            (c.in-Err-Malformed.ensures.refuses (ap Err c.in-Err-Malformed.field-0-is)));
        number = ap (λ n. n + 1) fed.count;
      },
    )

pub returns-in-Err-OutOfMemory-clause-line : goal.returns-in-Err-OutOfMemory-clause-line
returns-in-Err-OutOfMemory-clause-line c bytes front fed unended = (refl, refl, starved front c.args.self.now bytes (c.args.text.now ++ 10 ∷ []) fed)
