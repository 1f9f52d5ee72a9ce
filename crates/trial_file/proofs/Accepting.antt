-- The file of each number is accepted.
use Rattle.std.proofs.Common.{◌≡◌, ℕ, ◌+◌, ◌*◌, ◌<◌, ◌≤◌, List, length, Ok, Result, refl, sym, ap, ◌∙◌, arith, length-append, lit<, zero, suc}
use Rattle.gcl_reader.specs.Grammar.{◌>>=◌, file_of}
use Rattle.gcl_reader.proofs.ShownAgain.{shown-is-read}
use Rattle.gcl_reader.specs.declared.refusal.Refusal.{Refusal}
use Rattle.gcl_reader.specs.declared.file.Command.{Command}
use Rattle.gcl_reader.specs.declared.limits.TheConstants.{MOST_BYTES}
use Rattle.gcl_names.specs.Scope.{nothing_defined}
use Rattle.gcl_names.specs.Program.{program_with, resolved}
use Rattle.algebraize.specs.Problem.{proves_in}
use Rattle.trial_file.specs.Draws.{after_four, choice}
use Rattle.trial_file.specs.Trial.{made_by, step_text, steps_text, steps_of, free_points, trial_text}
use Rattle.trial_file.specs.Accepted.{IsAccepted, TrialsAreAccepted}
use Rattle.trial_file.specs.declared.choice.Construction.{Construction}
use Rattle.trial_file.specs.declared.choice.Construction.TheVariants.{Midpoint, Foot, Translate}
use Rattle.trial_file.proofs.Looks.{most, points-are-short, lines-are-short}
use Rattle.trial_file.proofs.Spelling.{trial_commands, trial-shown, trial-fits, chosen-earlier, few-steps}
use Rattle.trial_file.proofs.Steps.{Grows, trial-grows}
use Rattle.trial_file.proofs.Layouts.{all-posed}

-- ---- the length
made-short : (c : Construction) (i a b d : ℕ) → i < most → a < i → b < i → d < i → length (made_by c i a b d) ≤ 100
made-short c i a b d few first second third =
    let pi = points-are-short i few in
    let pa = points-are-short a (omega (arith, few, first)) in
    let pb = points-are-short b (omega (arith, few, second)) in
    let pd = points-are-short d (omega (arith, few, third)) in
    let li = lines-are-short i few in
    elim c as (λ k. length (made_by k i a b d) ≤ 100) [
      | Midpoint ↦ simp length-append (omega (arith, pi, pa, pb))
      | Foot ↦ simp length-append (omega (arith, pi, pa, pb, pd, li))
      | Translate ↦ simp length-append (omega (arith, pi, pa, pb, pd))
    ]

steps-short : (n i s : ℕ) → 0 < i → i + n ≤ most → length (steps_text n i s) ≤ 100 * n
unfolding steps_text
steps-short zero i s some few = omega arith
steps-short (suc n) i s some few =
    let d = choice i s in
    let e = chosen-earlier i s some in
    let here = made-short d.construction i d.a d.b d.c (omega (arith, few)) e.first e.second e.third in
    let more = steps-short n (i + 1) (after_four s) (omega arith) (omega (arith, few)) in
    rw (length-append (step_text i d) (steps_text n (i + 1) (after_four s))) (omega (arith, here, more))

pub trial-short : (n : ℕ) → length (trial_text n) ≤ MOST_BYTES
unfolding trial_text
trial-short n =
    let few = few-steps n in
    let steps = steps-short (steps_of n) 3 n (lit< tt) (omega (arith, few)) in
    rw (length-append free_points (steps_text (steps_of n) 3 n)) (omega (arith, few, steps))

-- ---- the program
again-accepted : (bytes : List ℕ) (es : List Command) → length bytes ≤ MOST_BYTES → file_of bytes ≡ Ok es → Grows es nothing_defined most → IsAccepted bytes
unfolding resolved
again-accepted bytes es short read grown =
    let program = program_with grown.0 grown.1 in
    let posed = all-posed grown.0 0 (proves_in grown.0) (omega (arith, grown.3)) in
    record {
      short = short;
      program = program;
      resolved = ap (λ (r : Result (List Command) Refusal). r >>= resolved) read ∙ rw grown.2 refl;
      problems = posed.0;
      stated = posed.1;
    }

pub trials-are-accepted : TrialsAreAccepted
trials-are-accepted n =
    let shown = shown-is-read (trial_commands n) (trial-fits n) in
    let read : file_of (trial_text n) ≡ Ok shown.0 = ap file_of (sym (trial-shown n)) ∙ shown.1 in
    again-accepted (trial_text n) shown.0 (trial-short n) read (trial-grows n 1 shown.0 shown.2)
