use Rattle.std.proofs.Common.{◌≡◌, ℕ, ◌+◌, ◌<◌, ◌≤◌, zero, suc, List, ◌++◌, sym, ◌∙◌, ap, append_assoc, append-nil, arith, length}
use Rattle.trial_file.specs.Draws.{after_four, choice}
use Rattle.trial_file.specs.Trial.{free_points, step_text, steps_of, steps_text, trial_text}
use Rattle.trial_file.specs.declared.choice.Choice.{Choice}
use Rattle.trial_file.proofs.Accepting.{trial-short}
use Rattle.trial_file.proofs.text.trial_file.Goals as goal

-- One construction more.
one-more : (text new whole : List ℕ) (i m end s t : ℕ) (d : Choice) → i < end → i + m ≡ end → text ++ steps_text m i s ≡ whole → d ≡ choice i s → t ≡ after_four s →
    new ≡ text ++ step_text i d → (n : ℕ) × (i + 1 + n ≡ end) × (new ++ steps_text n (i + 1) t ≡ whole)
unfolding steps_text
one-more text new whole i zero end s t d below count rest is state grown = absurd (omega (arith, below, count))
one-more text new whole i (suc n) end s t d below count rest is state grown = (
  n,
  omega (arith, count),
  ap (λ x. x ++ steps_text n (i + 1) t) grown ∙ ap (λ x. (text ++ step_text i x) ++ steps_text n (i + 1) t) is
      ∙ ap (λ x. (text ++ step_text i (choice i s)) ++ steps_text n (i + 1) x) state
      ∙ append_assoc text (step_text i (choice i s)) (steps_text n (i + 1) (after_four s)) ∙ rest,
)

-- Nothing is left.
none-left : (text whole : List ℕ) (i m end s : ℕ) → end ≤ i → i + m ≡ end → text ++ steps_text m i s ≡ whole → text ≡ whole
unfolding steps_text
none-left text whole i zero end s past count rest = sym (append-nil text) ∙ rest
none-left text whole i (suc n) end s past count rest = absurd (omega (arith, past, count))

pub loop-i-init : goal.loop-i-init
unfolding trial_text
loop-i-init c =
    let n = steps_of c.args.number in (
      n,
      omega (arith, c.from-i-end.ensures),
      ap (λ x. x ++ steps_text n 3 c.from-draws.result.state) c.in_ok-text.ensures.items ∙ ap (λ s. free_points ++ steps_text n 3 s) c.from-draws.ensures,
    )

pub loop-i-preserved : goal.loop-i-preserved
loop-i-preserved c =
    let before = c.loop-i.invariant in
    one-more _ _ _ c.loop-i.i before.0 _ c.loop-i.draws.state _ c.choose-choice.result c.loop-i-test.true before.1 before.2 c.choose-choice.ensures.choice
    c.choose-choice.ensures.state c.in_ok-push_step.ensures

pub returns-clause-text : goal.returns-clause-text
returns-clause-text c =
    let before = c.loop-i.invariant in none-left _ _ c.loop-i.i before.0 _ c.loop-i.draws.state c.loop-i-test.false before.1 before.2

pub returns-clause-short : goal.returns-clause-short
returns-clause-short c =
    let before = c.loop-i.invariant in
    let whole = none-left _ _ c.loop-i.i before.0 _ c.loop-i.draws.state c.loop-i-test.false before.1 before.2 in
    omega (arith, ap length whole, trial-short c.args.number)
