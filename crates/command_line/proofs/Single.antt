-- No form has two answers over the same files.
use Rattle.std.proofs.Common.{◌≡◌, ℕ, List, [], ◌∷◌, length, get_or, Option, None, Some, Result, Ok, Err, Bool, true, false, nat_lt, inl, inr, sym, ◌∙◌, ap, subst}
use Rattle.std.specs.Prelude.{ℤ, ◌⊎◌}
use Rattle.gcl_reader.specs.Figure.{figure_of}
use Rattle.gcl_reader.specs.declared.refusal.Refusal.{Refusal}
use Rattle.algebraize.specs.Equations.{Equations}
use Rattle.algebraize.specs.Figure.{Figure}
use Rattle.log_checker.specs.Answers.{Finding}
use Rattle.log_checker.proofs.Exact.{one_finding}
use Rattle.command_line.specs.Answer.{Answer, too_large}
use Rattle.command_line.specs.Carrying.{Posed, IsCarriedBy, IsCarriedFor, IsCarriedWith, carried_to, posed_in}
use Rattle.command_line.specs.Checking.{answer_to, HasProblems, other_problems, IsChecked, IsAnswerAgainst, IsCompared, IsComparedWith, stated_in}
use Rattle.command_line.specs.Table.{Form, TextOf, ProveOf, CheckOf, CarryOf, TrialOf, Source, OfFile, OfSources, IsAnswerOver, IsAnswerOf, sources_of}
use Rattle.command_line.specs.Readings.{Reading}

-- There is at most one answer.
abbrev AtMostOne : (Answer → Type 0) → Type 0
AtMostOne Is = (a b : Answer) → Is a → Is b → a ≡ b

-- ---- checked logs
checked_one : (log : List ℕ) → AtMostOne (IsChecked log)
checked_one log a b p q = p.answer ∙ ap answer_to (one_finding log p.finding q.finding p.found q.found) ∙ sym q.answer

against_one : (stated : List Equations) (finding : Finding) → AtMostOne (IsAnswerAgainst stated finding)
against_one stated finding a b (inl p) (inl q) = p.1 ∙ sym q.1
against_one stated finding a b (inl p) (inr q) = absurd (q.0 p.0)
against_one stated finding a b (inr p) (inl q) = absurd (p.0 q.0)
against_one stated finding a b (inr p) (inr q) = p.1 ∙ sym q.1

compared_one : (stated : List Equations) (log : List ℕ) → AtMostOne (IsCompared stated log)
compared_one stated log a b p q =
    against_one stated q.finding a b (subst (λ f. IsAnswerAgainst stated f a) (one_finding log p.finding q.finding p.found q.found) p.answer) q.answer

compared_with_one : (read : Result (List Equations) Refusal) (log file : List ℕ) → AtMostOne (IsComparedWith read log file)
compared_with_one (Ok stated) log file a b p q = compared_one stated log a b p q
compared_with_one (Err refusal) log file a b p q = p ∙ sym q

-- ---- carried figures
carried_by_one : (posed : Posed) (f : Figure ℤ) (log : List ℕ) → AtMostOne (IsCarriedBy posed f log)
carried_by_one posed f log a b p q =
    both q.finding (subst (λ n. CarriedAnswer n a) (one_finding log p.finding q.finding p.found q.found) p.answer) q.answer where
      CarriedAnswer : Finding → Answer → Type 0
      CarriedAnswer n c = (HasProblems posed.stated n × (c ≡ carried_to posed.program.acts f n)) ⊎ ((HasProblems posed.stated n → ⊥) × (c ≡ other_problems))

      both : (n : Finding) → CarriedAnswer n a → CarriedAnswer n b → a ≡ b
      both n (inl x) (inl y) = x.1 ∙ sym y.1
      both n (inl x) (inr y) = absurd (y.0 x.0)
      both n (inr x) (inl y) = absurd (x.0 y.0)
      both n (inr x) (inr y) = x.1 ∙ sym y.1

carried_for_one : (posed : Posed) (drawn : Result (Figure ℤ) Refusal) (log figure : List ℕ) → AtMostOne (IsCarriedFor posed drawn log figure)
carried_for_one posed (Ok f) log figure a b p q = carried_by_one posed f log a b p q
carried_for_one posed (Err refusal) log figure a b p q = p ∙ sym q

pub carried_with_one : (read : Result Posed Refusal) (log file figure : List ℕ) → AtMostOne (IsCarriedWith read log file figure)
carried_with_one (Ok posed) log file figure a b p q = carried_for_one posed (figure_of posed.program.points figure) log figure a b p q
carried_with_one (Err refusal) log file figure a b p q = p ∙ sym q

-- ---- forms
by_size : (bytes : List ℕ) (Next : List ℕ → Answer → Type 0) → AtMostOne (Next bytes) → (t : Bool)
    → AtMostOne (λ a. elim t [ true ↦ a ≡ too_large | false ↦ Next bytes a ])
by_size bytes Next one true a b p q = p ∙ sym q
by_size bytes Next one false a b p q = one a b p q

over_file : (most : ℕ) (o : Option (List ℕ)) (Next : List ℕ → Answer → Type 0) → ((bytes : List ℕ) → AtMostOne (Next bytes)) → AtMostOne (OfFile most o Next)
over_file most None Next one a b p q = p ∙ sym q
over_file most (Some bytes) Next one a b p q = by_size bytes Next (one bytes) (nat_lt most (length bytes)) a b p q

over_sources : (sources : List Source) (Over : List (List ℕ) → Answer → Type 0) → ((files : List (List ℕ)) → AtMostOne (Over files)) → (readings : List Reading)
    → AtMostOne (OfSources sources Over readings)
over_sources [] Over one readings a b p q = one [] a b p q
over_sources (s ∷ sources) Over one [] a b p q = absurd p
over_sources (s ∷ sources) Over one (reading ∷ readings) a b p q =
    over_file s.most reading (λ bytes c. OfSources sources (λ others d. Over (bytes ∷ others) d) readings c)
    (λ bytes. over_sources sources (λ others d. Over (bytes ∷ others) d) (λ others. one (bytes ∷ others)) readings) a b p q

over_form : (form : Form) (files : List (List ℕ)) → AtMostOne (IsAnswerOver form files)
over_form (TextOf command file) files a b p q = p ∙ sym q
over_form (ProveOf file) files a b p q = p ∙ sym q
over_form (TrialOf number) files a b p q = p ∙ sym q
over_form (CarryOf log file figure) files a b p q =
    carried_with_one (posed_in (get_or files 1 [])) (get_or files 0 []) (get_or files 1 []) (get_or files 2 []) a b p q
over_form (CheckOf log None) files a b p q = checked_one (get_or files 0 []) a b p q
over_form (CheckOf log (Some file)) files a b p q = compared_with_one (stated_in (get_or files 1 [])) (get_or files 0 []) (get_or files 1 []) a b p q

pub one_answer : (form : Option Form) (readings : List Reading) (a b : Answer) → IsAnswerOf form readings a → IsAnswerOf form readings b → a ≡ b
one_answer None readings a b p q = p ∙ sym q
one_answer (Some form) readings a b p q = over_sources (sources_of form) (IsAnswerOver form) (over_form form) readings a b p q
