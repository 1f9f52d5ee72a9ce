use Rattle.std.proofs.Common.{◌+◌, ◌++◌, ◌∷◌, [], map, take, drop, sym, ◌∙◌, ap, arith}
use Rattle.desk_io.proofs.Growth.{Grew-more}
use Rattle.desk_io.proofs.Writing.{next_failed}
use Rattle.proof_log.specs.Text.{letter_text}
use Rattle.proof_log.proofs.Written.{map_more, map_split}
use Rattle.proof_log.proofs.line_writing.write_letters.Goals as goal

pub returns-in_err-push-clause-bytes : goal.returns-in_err-push-clause-bytes
returns-in_err-push-clause-bytes g c =
    let path = c.args.path.now in
    let front = map letter_text (take c.loop-i.i path) in
    let rest = map letter_text (drop (c.loop-i.i + 1) path) in
    next_failed _ _ _ _ _ _ _ front c.letter_text.result.now rest _ c.from_residual.ensures.0 c.loop-i.invariant.grew c.in_err-push.ensures.bytes
    (map_split letter_text path c.loop-i.i c.at.result (omega arith)
    ∙ (λ i. front ++ (letter_text (sym c.at.ensures i) ∷ []) ++ rest)
    ∙ ap (λ l. front ++ l ++ rest) (sym c.letter_text.ensures))

pub loop-i-preserved : goal.loop-i-preserved
loop-i-preserved g c =
    let path = c.args.path.now in
    let front = map letter_text (take c.loop-i.i path) in
    record {
      later = omega (arith, c.in_ok-push.ensures.cause.later);
      grew = Grew-more _ _ _ _ _ _ _ _ _ c.loop-i.invariant.grew c.in_ok-push.ensures.bytes
          (map_more letter_text path c.loop-i.i c.at.result (omega arith)
          ∙ (λ i. front ++ letter_text (sym c.at.ensures i) ∷ [])
          ∙ ap (λ l. front ++ l) (sym c.letter_text.ensures));
    }
