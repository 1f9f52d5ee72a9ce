use Rattle.std.proofs.Common.{[], append_assoc, decimal, sym, ◌++◌, ◌∙◌, ◌∷◌}
use Rattle.desk_io.proofs.Growth.{Grew-then}
use Rattle.desk_io.proofs.Writing.{first_failed, next_failed, last_writes}
use Rattle.proof_log.specs.Text.{word_text}
use Rattle.proof_log.proofs.writing.write_count.Goals as goal

pub returns-in_err-push-clause-bytes : goal.returns-in_err-push-clause-bytes
returns-in_err-push-clause-bytes g c =
    first_failed _ _ _ _ _ c.word_text.result.now ((32 ∷ []) ++ ((decimal c.args.n) ++ (10 ∷ []))) _ c.from_residual.ensures.0 c.in_err-push.ensures.bytes
    (append_assoc ((word_text c.args.word) ++ (32 ∷ [])) (decimal c.args.n) (10 ∷ []) ∙ append_assoc (word_text c.args.word) (32 ∷ []) ((decimal c.args.n) ++ (10 ∷ [])) ∙ (λ j. ((sym c.word_text.ensures) j) ++ ((32 ∷ []) ++ ((decimal c.args.n) ++ (10 ∷ [])))))

pub returns-in_err-push-2-clause-bytes : goal.returns-in_err-push-2-clause-bytes
returns-in_err-push-2-clause-bytes g c =
    next_failed _ _ _ _ _ _ _ c.word_text.result.now (32 ∷ []) ((decimal c.args.n) ++ (10 ∷ [])) _ c.from_residual-in_err-push-2.ensures.0
    c.in_ok-push.ensures.bytes c.in_err-push-2.ensures.bytes
    (append_assoc ((word_text c.args.word) ++ (32 ∷ [])) (decimal c.args.n) (10 ∷ []) ∙ (λ j. ((sym c.word_text.ensures) j) ++ (32 ∷ []) ++ ((decimal c.args.n) ++ (10 ∷ []))))

pub returns-in_err-write_number-clause-bytes : goal.returns-in_err-write_number-clause-bytes
returns-in_err-write_number-clause-bytes g c =
    next_failed _ _ _ _ _ _ _ (c.word_text.result.now ++ (32 ∷ [])) (decimal c.args.n) (10 ∷ []) _ c.from_residual-in_err-write_number.ensures.0
    (Grew-then _ _ _ _ _ _ _ _ c.in_ok-push.ensures.bytes c.in_ok-push-2.ensures.bytes) c.in_err-write_number.ensures.bytes
    ((λ j. ((sym c.word_text.ensures) j) ++ (32 ∷ []) ++ (decimal c.args.n) ++ (10 ∷ [])))

pub returns-clause-bytes : goal.returns-clause-bytes
returns-clause-bytes g c =
    last_writes c.push-3.result _ _ _ _ _ _ (c.word_text.result.now ++ (32 ∷ []) ++ (decimal c.args.n)) (10 ∷ []) _
    (Grew-then _ _ _ _ _ _ _ _ (Grew-then _ _ _ _ _ _ _ _ c.in_ok-push.ensures.bytes c.in_ok-push-2.ensures.bytes) c.in_ok-write_number.ensures.bytes) c.push-3.ensures.bytes
    ((λ j. ((sym c.word_text.ensures) j) ++ (32 ∷ []) ++ (decimal c.args.n) ++ (10 ∷ [])))
