use Rattle.std.proofs.Common.{ap, append_assoc, codes, length, sym, ◌++◌, ◌∙◌}
use Rattle.desk_io.proofs.Growth.{Grew-then}
use Rattle.desk_io.proofs.Writing.{first_failed, next_failed, last_writes}
use Rattle.proof_log.specs.Headings.{heading}
use Rattle.proof_log.specs.declared.line.LineWord.TheVariants as word
use Rattle.proof_log.specs.Writing.{count_text, heading_text, proofs_text, log_text}
use Rattle.proof_log.proofs.Whole.{whole_log}
use Rattle.proof_log.proofs.writing.write_log.Goals as goal

pub returns-in_err-write_heading-clause-bytes : goal.returns-in_err-write_heading-clause-bytes
returns-in_err-write_heading-clause-bytes g c =
    let ps = c.as_slice-proofs.result.now in
    let whole = whole_log (heading c.args.log.now.version c.args.log.now.fuel) c.args.log.now.proofs ∙ ap (log_text (heading c.args.log.now.version c.args.log.now.fuel)) (sym c.as_slice-proofs.ensures) in
    first_failed _ _ _ _ _ (heading_text (heading c.args.log.now.version c.args.log.now.fuel)) ((count_text word.Proves (length ps)) ++ ((proofs_text 1 ps) ++ (codes "end\n"))) _ c.from_residual.ensures.0 c.in_err-write_heading.ensures.bytes
    (whole ∙ append_assoc ((heading_text (heading c.args.log.now.version c.args.log.now.fuel)) ++ (count_text word.Proves (length ps))) (proofs_text 1 ps) (codes "end\n") ∙ append_assoc (heading_text (heading c.args.log.now.version c.args.log.now.fuel)) (count_text word.Proves (length ps)) ((proofs_text 1 ps) ++ (codes "end\n")))

pub returns-in_err-write_count-clause-bytes : goal.returns-in_err-write_count-clause-bytes
returns-in_err-write_count-clause-bytes g c =
    let ps = c.as_slice-proofs.result.now in
    let whole = whole_log (heading c.args.log.now.version c.args.log.now.fuel) c.args.log.now.proofs ∙ ap (log_text (heading c.args.log.now.version c.args.log.now.fuel)) (sym c.as_slice-proofs.ensures) in
    next_failed _ _ _ _ _ _ _ (heading_text (heading c.args.log.now.version c.args.log.now.fuel)) (count_text word.Proves (length ps)) ((proofs_text 1 ps) ++ (codes "end\n")) _ c.from_residual-in_err-write_count.ensures.0
    c.in_ok-write_heading.ensures.bytes c.in_err-write_count.ensures.bytes
    (whole ∙ append_assoc ((heading_text (heading c.args.log.now.version c.args.log.now.fuel)) ++ (count_text word.Proves (length ps))) (proofs_text 1 ps) (codes "end\n"))

pub returns-in_err-write_proofs-clause-bytes : goal.returns-in_err-write_proofs-clause-bytes
returns-in_err-write_proofs-clause-bytes g c =
    let ps = c.as_slice-proofs.result.now in
    let whole = whole_log (heading c.args.log.now.version c.args.log.now.fuel) c.args.log.now.proofs ∙ ap (log_text (heading c.args.log.now.version c.args.log.now.fuel)) (sym c.as_slice-proofs.ensures) in
    next_failed _ _ _ _ _ _ _ ((heading_text (heading c.args.log.now.version c.args.log.now.fuel)) ++ (count_text word.Proves (length ps))) (proofs_text 1 ps) (codes "end\n") _ c.from_residual-in_err-write_proofs.ensures.0
    (Grew-then _ _ _ _ _ _ _ _ c.in_ok-write_heading.ensures.bytes c.in_ok-write_count.ensures.bytes) c.in_err-write_proofs.ensures.bytes
    (whole)

pub returns-clause-bytes : goal.returns-clause-bytes
returns-clause-bytes g c =
    let ps = c.as_slice-proofs.result.now in
    let whole = whole_log (heading c.args.log.now.version c.args.log.now.fuel) c.args.log.now.proofs ∙ ap (log_text (heading c.args.log.now.version c.args.log.now.fuel)) (sym c.as_slice-proofs.ensures) in
    last_writes c.push.result _ _ _ _ _ _ ((heading_text (heading c.args.log.now.version c.args.log.now.fuel)) ++ (count_text word.Proves (length ps)) ++ (proofs_text 1 ps)) (codes "end\n") _
    (Grew-then _ _ _ _ _ _ _ _ (Grew-then _ _ _ _ _ _ _ _ c.in_ok-write_heading.ensures.bytes c.in_ok-write_count.ensures.bytes) c.in_ok-write_proofs.ensures.bytes) c.push.ensures.bytes
    (whole)
