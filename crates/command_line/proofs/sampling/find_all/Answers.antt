use Rattle.std.proofs.Common.{◌≡◌, ◌++◌, ◌∙◌, [], ◌∷◌, ap, sym, arith, append_assoc}
use Rattle.proof_log.proofs.Written.{all_first, all_others}
use Rattle.prove_run.specs.Whole.{HasCounts}
use Rattle.command_line.specs.Samples.{all_found}
use Rattle.command_line.proofs.sampling.find_all.Goals as goal

pub find-requires : goal.find-requires
find-requires c = let h = all_first HasCounts _ _ _ c.in-Some.ensures.cases.0 c.loop-proof.invariant.counts in omega (arith, h.conclusions)

pub loop-proof-preserved : goal.loop-proof-preserved
loop-proof-preserved c =
    let all = c.loop-proof.all.items in
    let found = c.in_ok-found.found in
    let others = c.in-Some.others.now in
    let items : c.push.new.self.items ≡ all ++ found ∷ [] = c.in_ok-push.ensures.items in
    record {
      value = ap (λ l. l ++ all_found others) items ∙ append_assoc all (found ∷ []) (all_found others)
          ∙ ap (λ f. all ++ f ∷ all_found others) c.in_ok-found.ensures
          ∙ ap (λ ps. all ++ all_found ps) (sym c.in-Some.ensures.cases.0) ∙ c.loop-proof.invariant.value;
      counts = all_others HasCounts _ _ _ c.in-Some.ensures.cases.0 c.loop-proof.invariant.counts;
    }
