use Rattle.std.proofs.Common.{◌≡◌, ◌∷◌, [], ◌++◌, Some, refl, sym, ◌∙◌, ap, subst, append_assoc, append-nil}
use Rattle.proof_log.specs.Feeding.{Ended, FedWith}
use Rattle.proof_log.specs.Grammar.{IsUnended}
use Rattle.proof_log.specs.Text.{text_of}
use Rattle.proof_log.proofs.Pieced.{starved}
use Rattle.proof_log.proofs.reader.LogReader.take_line.Goals as goal

pub returns-in-Err-clause-line : goal.returns-in-Err-clause-line
returns-in-Err-clause-line c bytes ls fed = (
  refl,
  c.in-Err.ensures.err.1 ∙ ap Some (sym c.in-Err.ensures.err.0),
  subst (λ f. FedWith (Some f) ls c.hold.new.self (bytes ++ (c.args.front.now ++ 10 ∷ []))) (sym c.in-Err.ensures.err.0)
      (starved ls c.args.self.now bytes (c.args.front.now ++ 10 ∷ []) fed),
)

pub returns-clause-line : goal.returns-clause-line
returns-clause-line c bytes ls fed =
    let h = c.in-Ok.ensures.ok bytes ls fed in
    let empty : c.replace-held.new.dest.items ≡ [] = ap (λ v. v.items) c.replace-held.ensures.after ∙ c.new.ensures.items in
    let taken = c.deref.ensures.value ∙ ap (λ v. v.items) c.replace-held.ensures.value in
    let done = c.end_line-2.ensures.line (text_of [] ls)
    ls (record {
      text = sym (ap (λ t. text_of [] ls ++ t) empty ∙ append-nil (text_of [] ls));
      unended = subst IsUnended (sym empty) tt;
      lines = h.lines;
      place = h.place;
      names = h.names;
      setting = h.setting;
      own = h.own;
      count = h.count;
      well = h.well;
    }) (subst IsUnended (sym taken) h.unended) in
    subst (Ended c.end_line-2.result c.args.lines.now.items c.end_line-2.new.lines.items ls c.end_line-2.new.self)
    (ap (λ t. text_of [] ls ++ (t ++ 10 ∷ [])) taken ∙ sym (append_assoc (text_of [] ls) _ (10 ∷ [])) ∙ ap (λ t. t ++ 10 ∷ []) (sym h.text) ∙ append_assoc bytes c.args.front.now (10 ∷ [])) done
