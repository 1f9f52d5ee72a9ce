use Rattle.std.proofs.Common.{◌≡◌, ◌+◌, ◌++◌, ◌∙◌, [], ◌∷◌, vec_len, ap, arith}
use Rattle.std.specs.List.{flat_map}
use Rattle.proof_log.specs.Own.{IsOwn}
use Rattle.proof_log.proofs.Written.{all_first, all_others}
use Rattle.command_line.specs.VerdictLines.{verdict_line, verdict_lines, problems_in, verdicts_in}
use Rattle.command_line.proofs.VerdictLines.{next_line}
use Rattle.command_line.proofs.verdict_lines.all_verdict_lines.Goals as goal

pub verdict_line-requires : goal.verdict_line-requires
verdict_line-requires c = all_first IsOwn _ _ _ c.in-Some.ensures.cases.0 c.loop-proof.invariant.own

pub loop-proof-preserved : goal.loop-proof-preserved
loop-proof-preserved c =
    let lines = c.loop-proof.lines.items in
    let line = c.in_ok-line.line in
    let others = c.in-Some.others.now in
    let proof = c.in-Some.proof.now in
    let items : c.push.new.self.items ≡ lines ++ line ∷ [] = c.in_ok-push.ensures.items in
    let len : vec_len c.push.new.self ≡ vec_len c.loop-proof.lines + 1 = c.in_ok-push.ensures.len in
    let made : line.items ≡ verdict_line (vec_len c.loop-proof.lines + 1) proof.problem.vars proof.verdict =
    c.in_ok-line.ensures ∙ ap (λ n. verdict_line (n + 1) proof.problem.vars proof.verdict) c.len.ensures in
    record {
      number = omega (arith, c.in-Some.ensures.cases.1, c.loop-proof.invariant.number, len);
      own = all_others IsOwn _ _ _ c.in-Some.ensures.cases.0 c.loop-proof.invariant.own;
      whole = ap (λ ls. flat_map (λ l. l.items) ls ++ flat_map (λ l. l) (verdict_lines (vec_len c.push.new.self + 1) (problems_in others) (verdicts_in others))) items
          ∙ ap (λ n. flat_map (λ l. l.items) (lines ++ line ∷ []) ++ flat_map (λ l. l) (verdict_lines (n + 1) (problems_in others) (verdicts_in others))) len
          ∙ next_line (λ l. l.items) lines line (vec_len c.loop-proof.lines + 1) _ others proof _ c.in-Some.ensures.cases.0 made c.loop-proof.invariant.whole;
    }
