use Rattle.std.proofs.Common.{◌≡◌, ◌+◌, ◌-◌, drop, max, [], ◌∙◌, ap, arith}
use Rattle.std.specs.Prelude.{if◌then◌else◌}
use Rattle.poly_model.specs.Reduction.{class_of, reaches}
use Rattle.proof_steps.specs.Chain.{reducing_class}
use Rattle.log_checker.proofs.Dues as dues
use Rattle.log_checker.proofs.Reducing as reducing
use Rattle.log_checker.proofs.due.reducing_class.Goals as goal

pub loop-i-preserved : goal.loop-i-preserved
loop-i-preserved c =
    let E = c.args.eqs.now in
    let p = c.args.p.now in
    let i = c.loop-i.i - 1 in
    let step : c.loop-i.i ≡ i + 1 = omega arith in
    let f = dues.there E i _ [] _ (omega (arith, c.loop-i.invariant.within)) c.index-eqs-i.is in
    record {
      within = omega (arith, c.loop-i.invariant.within);
      value = reducing.reducing-next E p i c.greater-greatest.result (omega (arith, c.loop-i.invariant.within))
          (c.greater-greatest.ensures ∙ (λ j. max (if reaches p (f j) then class_of (f j) else 0) ((c.loop-i.invariant.value ∙ ap (λ k. reducing_class (drop k E) p) step) j)));
    }
