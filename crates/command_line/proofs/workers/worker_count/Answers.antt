use Rattle.std.proofs.Common.{◌≡◌, ◌+◌, ◌-◌, ◌∙◌, true, false, sym, arith}
use Rattle.std.specs.Prelude.{decimal}
use Rattle.std.specs.Str.{bytes_eq}
use Rattle.prove_run.specs.declared.many.TheConstants.{MOST_WORKERS}
use Rattle.command_line.proofs.Counts.{told_first, told_later}
use Rattle.command_line.proofs.workers.worker_count.Goals as goal

pub returns-then-eq-clause-number : goal.returns-then-eq-clause-number
returns-then-eq-clause-number c =
    let k = c.loop-count.count in
    let hit : bytes_eq (decimal k) c.args.word.now ≡ true = cc (c.eq.ensures, c.format.ensures.text, c.if-eq.true) in
    sym (told_first (MOST_WORKERS + 1 - k) k c.args.word.now (omega arith) hit) ∙ c.loop-count.invariant

pub loop-count-preserved : goal.loop-count-preserved
loop-count-preserved c =
    let k = c.loop-count.count in
    let miss : bytes_eq (decimal k) c.args.word.now ≡ false = cc (c.eq.ensures, c.format.ensures.text, c.if-eq.false) in
    sym (told_later (MOST_WORKERS + 1 - k) (MOST_WORKERS + 1 - (k + 1)) k c.args.word.now (omega arith) miss) ∙ c.loop-count.invariant
