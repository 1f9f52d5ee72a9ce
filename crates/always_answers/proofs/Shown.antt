-- The empty file is shown, or memory ran out.
use Rattle.std.proofs.Common.{◌≡◌, ◌⊎◌, ℕ, zero, suc, List, [], ◌∷◌, Some, Result, Ok, refl, inl, inr, sym, ◌∙◌, ap, codes}
use Rattle.gcl_reader.specs.Tokens.{lexed, tokens_from, last_line}
use Rattle.gcl_reader.specs.Grammar.{◌>>=◌, commands_at, first_at}
use Rattle.gcl_reader.specs.Show.{show_text}
use Rattle.gcl_reader.specs.declared.file.Command.{Command}
use Rattle.gcl_reader.specs.declared.limits.TheConstants.{MOST_COMMANDS}
use Rattle.gcl_reader.specs.declared.refusal.Refusal.{Refusal}
use Rattle.command_line.specs.Answer.{Answer, text_answer, answer_from}
use Rattle.command_line.specs.Contract.{Lent, Views}
use Rattle.command_line.specs.Pipeline.{show_of}
use Rattle.command_line.specs.Table.{IsAnswer, TextOf}
use Rattle.command_line.specs.declared.status.Status.{Status}
use Rattle.command_line.specs.declared.status.Status.TheVariants.{Done, OutOfMemory}
use Rattle.always_answers.specs.Shown.{Shown, empty_file}

-- Where no byte is, no command is, however many there may be.
no_command : (n : ℕ) → commands_at n (lexed []) ≡ Ok []
unfolding commands_at first_at tokens_from last_line
no_command zero = refl
no_command (suc n) = refl

no_text : show_of [] ≡ Ok []
unfolding show_of
no_text = ap (λ (r : Result (List Command) Refusal). r >>= (λ (commands : List Command). Ok (show_text commands))) (no_command MOST_COMMANDS)

-- The answer to the form is the one of no text.
answer_is_done : (a : Answer) → IsAnswer (Some (TextOf show_of (codes "f"))) empty_file a → a ≡ text_answer []
answer_is_done a e = e ∙ ap (λ (r : Result (List ℕ) Refusal). answer_from text_answer [] r) no_text

pub done_alone : {K S N : Type 0} (v : Views K S N) (old new : Lent K S N) (status : Status)
    → Shown v old new status → (status ≡ Done) ⊎ (status ≡ OutOfMemory)
done_alone v old new status s = elim (s.kept.complete empty_file s.told s.reads s.puts s.says) [
  | inl w ↦ inl (w.2.status_is ∙ ap (λ (a : Answer). a.status) (answer_is_done w.0 w.1))
  | inr n ↦ inr n.status_is
]
