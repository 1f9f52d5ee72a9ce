use Rattle.std.proofs.Common.{◌≡◌, ◌+◌, ◌++◌, ℕ, length, sym, ◌∙◌, ap, arith, subst, List, length-append, Ok, Err}
use Rattle.std.proofs.lemmas.Bool.{eqb-true}
use Rattle.std.proofs.lemmas.Result.{err_from_is_err_and}
use Rattle.proof_log.specs.Feeding.{Finished}
use Rattle.log_checker.specs.Answers.{IsMalformed}
use Rattle.log_checker.specs.Checked.{Judged}
use Rattle.log_checker.proofs.Passes.{as_fed, passed_more, passed_fault, ends_ill, none_passed, all_passed, both_parts}
use Rattle.log_checker.proofs.Tellings.{ends_well}
use Rattle.log_checker.proofs.checking.check_bytes.Goals as goal

counted : (fed : ℕ) (bytes done rest : List ℕ) → fed + length rest ≡ length bytes → bytes ≡ done ++ rest → length done ≡ fed
counted fed bytes done rest e f = let h = ap length f in let l = length-append done rest in omega (arith, e, h, l)

pub loop-rest-init : goal.loop-rest-init
loop-rest-init c = record {
  count = let h = c.in-Ok.ensures.fed.1 in omega (arith, h);
  passed = none_passed c.args.bytes.now c.in-Ok.reader c.in-Ok-new.progress c.in-Ok.ensures.fed.0 c.in-Ok.ensures.well c.in-Ok-new.ensures;
}

pub returns-in_err-seen : goal.returns-in_err-seen
returns-in_err-seen c =
    let l = c.loop-rest in
    let p = l.invariant.passed in
    let cut = c.split_at in
    let whole = both_parts c.min.result l.rest.now _ _ cut.ensures.front cut.ensures.back in
    let count = counted l.reader.fed c.args.bytes.now p.done l.rest.now l.invariant.count p.parts in
    let told = err_from_is_err_and c.from_residual.result c.from_residual.ensures.1 in
    subst (λ x. Judged x c.args.bytes.now) (sym (told.1 ∙ ap Err told.2))
    (passed_fault c.args.bytes.now l.rest.now cut.result.0.now cut.result.1.now l.reader l.progress l.seen _ p whole
    (c.in_err-seen.ensures.done p.done p.front count (as_fed p.front l.reader p.done p.fed) p.behind))

pub loop-rest-preserved : goal.loop-rest-preserved
loop-rest-preserved c =
    let l = c.loop-rest in
    let p = l.invariant.passed in
    let cut = c.split_at in
    let next = c.in_ok-seen in
    let whole = both_parts c.min.result l.rest.now _ _ cut.ensures.front cut.ensures.back in
    let count = counted l.reader.fed c.args.bytes.now p.done l.rest.now l.invariant.count p.parts in
    let both = length-append cut.result.0.now cut.result.1.now in
    let sum = ap length whole in
    let fed = next.ensures.fed in
    let all = l.invariant.count in
    record {
      count = omega (arith, sum, both, fed, all);
      passed = passed_more c.args.bytes.now l.rest.now cut.result.0.now cut.result.1.now l.reader c.check_piece.new.reader l.progress c.check_piece.new.progress l.seen next.seen p whole
          (next.ensures.done p.done p.front count (as_fed p.front l.reader p.done p.fed) p.behind);
    }

pub returns-in-Ok-finish : goal.returns-in-Ok-finish
returns-in-Ok-finish c =
    let l = c.loop-rest in
    let p = l.invariant.passed in
    let none : length l.rest.now ≡ 0 = eqb-true (length l.rest.now) 0 (sym c.is_empty.ensures ∙ c.loop-rest-test.false) in
    let ends = c.in-Ok-finish.ensures.whole p.done p.front (as_fed p.front l.reader p.done p.fed) in
    subst (Judged (Ok c.checked.result)) (all_passed c.args.bytes.now l.rest.now l.reader l.progress l.seen p none)
    (ends_well p.front l.progress p.done l.seen c.checked.result ends p.behind c.checked.ensures.problems c.checked.ensures.verdicts)

pub returns-in-Err-Malformed : goal.returns-in-Err-Malformed
returns-in-Err-Malformed c =
    let l = c.loop-rest in
    let p = l.invariant.passed in
    let n = c.in-Err-Malformed.n in
    let none : length l.rest.now ≡ 0 = eqb-true (length l.rest.now) 0 (sym c.is_empty.ensures ∙ c.loop-rest-test.false) in
    let ends = c.in-Err-Malformed.ensures.whole p.done p.front (as_fed p.front l.reader p.done p.fed) in
    subst (IsMalformed n) (all_passed c.args.bytes.now l.rest.now l.reader l.progress l.seen p none)
    (ends_ill p.front l.progress p.done l.seen n (subst (λ f. Finished (Err f) p.front p.done) c.in-Err-Malformed.field-0-is ends) p.behind)
