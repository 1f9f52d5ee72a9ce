use Rattle.std.proofs.Common.{◌≡◌, ◌++◌, codes, decimal, append_assoc, sym, ◌∙◌, ap}
use Rattle.desk_io.proofs.Growth.{Grew-then}
use Rattle.desk_io.proofs.Writing.{first_failed, next_failed, last_writes}
use Rattle.algebraize.specs.System.{names_text}
use Rattle.algebraize.proofs.Texts as lines
use Rattle.algebraize.proofs.system.write_head.Goals as goal

pub returns-in_err-push-clause-bytes : goal.returns-in_err-push-clause-bytes
returns-in_err-push-clause-bytes g c =
    first_failed _ _ _ _ _ (codes "prove ") (decimal c.args.number ++ (codes "\nvars" ++ names_text c.args.vars.now)) _ c.from_residual.ensures.0 c.in_err-push.ensures.bytes
    (lines.four_right (codes "prove ") (decimal c.args.number) (codes "\nvars") (names_text c.args.vars.now))

pub returns-in_err-push-2-clause-bytes : goal.returns-in_err-push-2-clause-bytes
returns-in_err-push-2-clause-bytes g c =
    let text : c.as_bytes.result.now ≡ decimal c.args.number = c.as_bytes.ensures.value ∙ c.format.ensures.text in
    next_failed _ _ _ _ _ _ _ (codes "prove ") c.as_bytes.result.now (codes "\nvars" ++ names_text c.args.vars.now) _ c.from_residual-in_err-push-2.ensures.0
    c.in_ok-push.ensures.bytes c.in_err-push-2.ensures.bytes
    (ap (λ l. codes "prove " ++ l ++ codes "\nvars" ++ names_text c.args.vars.now) (sym text)
    ∙ append_assoc (codes "prove " ++ c.as_bytes.result.now) (codes "\nvars") (names_text c.args.vars.now))

pub returns-in_err-push-3-clause-bytes : goal.returns-in_err-push-3-clause-bytes
returns-in_err-push-3-clause-bytes g c =
    let text : c.as_bytes.result.now ≡ decimal c.args.number = c.as_bytes.ensures.value ∙ c.format.ensures.text in
    next_failed _ _ _ _ _ _ _ (codes "prove " ++ c.as_bytes.result.now) (codes "\nvars") (names_text c.args.vars.now) _ c.from_residual-in_err-push-3.ensures.0
    (Grew-then _ _ _ _ _ _ _ _ c.in_ok-push.ensures.bytes c.in_ok-push-2.ensures.bytes) c.in_err-push-3.ensures.bytes
    (ap (λ l. codes "prove " ++ l ++ codes "\nvars" ++ names_text c.args.vars.now) (sym text))

pub returns-clause-bytes : goal.returns-clause-bytes
returns-clause-bytes g c =
    let text : c.as_bytes.result.now ≡ decimal c.args.number = c.as_bytes.ensures.value ∙ c.format.ensures.text in
    last_writes c.write_names.result _ _ _ _ _ _ (codes "prove " ++ c.as_bytes.result.now ++ codes "\nvars") (names_text c.args.vars.now) _
    (Grew-then _ _ _ _ _ _ _ _ (Grew-then _ _ _ _ _ _ _ _ c.in_ok-push.ensures.bytes c.in_ok-push-2.ensures.bytes) c.in_ok-push-3.ensures.bytes) c.write_names.ensures.bytes
    (ap (λ l. codes "prove " ++ l ++ codes "\nvars" ++ names_text c.args.vars.now) (sym text))
