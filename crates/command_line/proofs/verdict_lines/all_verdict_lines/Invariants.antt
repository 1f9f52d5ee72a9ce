use Rattle.std.proofs.Common.{◌≡◌, ◌+◌, ◌++◌, All, length, vec_len}
use Rattle.std.specs.List.{flat_map}
use Rattle.proof_log.specs.Own.{IsOwn}
use Rattle.command_line.specs.VerdictLines.{verdict_lines, verdicts_text, problems_in, verdicts_in}
use Rattle.command_line.proofs.verdict_lines.all_verdict_lines.Given as goal

abbrev pub invariant-loop-proof : goal.invariant-loop-proof
invariant-loop-proof l = record {
  number : vec_len l.lines + length l.rest ≡ length l.fn.proofs;
  own : All IsOwn l.rest;
  whole : flat_map (λ line. line.items) l.lines.items ++ flat_map (λ line. line) (verdict_lines (vec_len l.lines + 1) (problems_in l.rest) (verdicts_in l.rest))
      ≡ verdicts_text (problems_in l.fn.proofs) (verdicts_in l.fn.proofs);
}

abbrev pub decreases-loop-proof : goal.decreases-loop-proof
decreases-loop-proof l = length l.rest
