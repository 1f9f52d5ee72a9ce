use Rattle.std.proofs.Common.{◌≡◌, ◌+◌, ◌++◌, ◌∙◌, [], ◌∷◌, ap, sym, arith, append_assoc}
use Rattle.command_line.specs.Carrying.{all_carried}
use Rattle.command_line.proofs.CarryingFacts.{first_carried}
use Rattle.command_line.proofs.carried_lines.carry_all.Goals as goal

pub loop-problem-preserved : goal.loop-problem-preserved
loop-problem-preserved c =
    let acts = c.args.program.now.acts in
    let f = c.args.figure.now in
    let k = c.loop-problem.number in
    let all = c.loop-problem.all.items in
    let carried = c.in_ok-carried.carried in
    let rest = all_carried acts f (k + 1) c.in-Some.others.now c.in-Some-split_first.more.now in
    let items : c.push.new.self.items ≡ all ++ carried ∷ [] = c.in_ok-push.ensures.items in
    record {
      number = omega (arith, c.in-Some.ensures.cases.1, c.loop-problem.invariant.number);
      value = ap (λ l. l ++ rest) items ∙ append_assoc all (carried ∷ []) rest ∙ ap (λ x. all ++ x ∷ rest) c.in_ok-carried.ensures
          ∙ ap (λ l. all ++ l) (sym (first_carried acts f k _ _ _ _ _ _ c.in-Some.ensures.cases.0 c.in-Some-split_first.ensures.cases.0))
          ∙ c.loop-problem.invariant.value;
    }
