-- Where a run that carries a figure is done, the figure meets what is written to hold.
use Rattle.std.proofs.Common.{◌≡◌, ◌≤◌, ◌+◌, ℕ, List, [], ◌∷◌, ◌++◌, length, map, take, All, true, Result, Ok, Err, inl, inr, refl, sym, ◌∙◌, ap, subst}
use Rattle.std.specs.Prelude.{ℤ, ◌⊎◌}
use Rattle.poly_model.specs.Domain.{integers}
use Rattle.gcl_reader.specs.Figure.{figure_of}
use Rattle.gcl_reader.specs.declared.refusal.Refusal.{Refusal}
use Rattle.gcl_reader.specs.declared.word.Statement.{Statement}
use Rattle.gcl_reader.proofs.Bind.{bind-ok, ok-is}
use Rattle.gcl_names.specs.Program.{program_of}
use Rattle.gcl_names.specs.Sound.{AllFollow, AreMade, Follows, after_all, nothing}
use Rattle.gcl_names.specs.declared.program.Act.{Act}
use Rattle.gcl_names.specs.declared.program.Deed.TheVariants as deed
use Rattle.gcl_names.specs.declared.program.Program.{Program}
use Rattle.algebraize.specs.Equations.{Equations, Mean}
use Rattle.algebraize.specs.Figure.{Figure, Meets, MeetsStatement}
use Rattle.algebraize.specs.Formed.{equations}
use Rattle.algebraize.specs.Problem.{acts_before, is_prove, problems_of, proves_in}
use Rattle.assurance.specs.Assured.{TreesCover, VerdictsHold}
use Rattle.proof_log.specs.declared.log.Proof.{Proof}
use Rattle.log_checker.specs.Answers.{Finding, Accepted, Malformed, Rejected, IsFound, IsAcceptedText}
use Rattle.placement.specs.Carrying.{CarriedIsMet, carried_of, claim_of, told_by}
use Rattle.placement.specs.Images.{image_before}
use Rattle.placement.specs.declared.carried.Carried.TheVariants as carried
use Rattle.placement.proofs.Figures.{follow-front}
use Rattle.command_line.specs.Answer.{Answer, text_answer}
use Rattle.command_line.specs.Assured.{IsAssuredLog, IsAssuredProof}
use Rattle.command_line.specs.Carrying.{Posed, CarriesOf, HoldsAreMet, IsCarried, IsCarriedBy, IsCarriedFor, IsCarriedWith, carried_text, carried_to, posed_in}
use Rattle.command_line.specs.Checking.{HasProblems}
use Rattle.command_line.specs.VerdictLines.{problems_in, verdicts_in}
use Rattle.command_line.specs.declared.status.Status.TheVariants.{Done}
use Rattle.command_line.proofs.Assured.{spelled, log_assured}
use Rattle.command_line.proofs.Figures.{AllMean, before-prove, equations-given, proof-assured, proof-behind, stated_by, take-front}
use Rattle.command_line.proofs.FileLogs.{program-sound}

-- the acts before a prove, and the points of its statement
prove-follows : (before after : List Act) (prove : Act) (s : Statement) (points : List ℕ) → prove.deed ≡ deed.Prove s points
    → AllFollow nothing (before ++ prove ∷ after) → AllFollow nothing before × AreMade (after_all nothing before) points
unfolding AllFollow
prove-follows before after prove s points asks h =
    let w = follow-front nothing before (prove ∷ after) h in
    let f : Follows (after_all nothing before) (deed.Prove s points) = subst (Follows (after_all nothing before)) asks w.1.0 in
    (w.0, f.1)

front-of : (before after : List Act) (prove : Act) (k : ℕ) → is_prove prove.deed ≡ true → k ≡ proves_in before
    → take (acts_before k (before ++ prove ∷ after)) (before ++ prove ∷ after) ≡ before
front-of before after prove k asks place =
    let acts = before ++ prove ∷ after in
    ap (λ n. take (acts_before n acts) acts) place ∙ ap (λ n. take n acts) (before-prove before after prove asks) ∙ take-front before (prove ∷ after)

holds-met : CarriedIsMet → AllMean integers → (acts : List Act) (f : Figure ℤ) (proofs : List Proof) → AllFollow nothing acts
    → problems_of acts ≡ Ok (stated_by proofs) → All (IsAssuredProof integers) proofs → HoldsAreMet acts f proofs
holds-met met means acts f proofs follow stated assured = record { each = each } where
  each : (before after : List Act) (prove : Act) (s : Statement) (points : List ℕ)
      → acts ≡ before ++ prove ∷ after → prove.deed ≡ deed.Prove s points
      → (earlier later : List Proof) (p : Proof) → proofs ≡ earlier ++ p ∷ later → length earlier ≡ proves_in before
      → carried_of acts (length earlier) f p.problem p.verdict ≡ carried.Holds → Meets integers f before × MeetsStatement integers f s points
  each before after prove s points is asks earlier later p parts place holds =
      let same = proof-behind acts proofs stated before after prove s points is asks earlier later p parts place in
      let given = equations-given before prove s points (equations p.problem) same in
      let mean = subst (Mean integers before s points) (sym given.1) (means before s points given.0) in
      let made = prove-follows before after prove s points asks (subst (AllFollow nothing) is follow) in
      let front : take (acts_before (length earlier) acts) acts ≡ before =
      ap (λ l. take (acts_before (length earlier) l) l) is ∙ front-of before after prove (length earlier) (ap is_prove asks) place in
      met before s points f p.problem p.verdict made.0 made.1 mean (proof-assured integers proofs assured earlier later p parts).claims
      (ap (λ l. told_by p.problem.hyps (claim_of p.verdict) (image_before l f)) (sym front) ∙ holds)

-- what was found is an accepted log with the problems of the file
record WasCarried (posed : Posed) (f : Figure ℤ) (log : List ℕ) : Type 0 where
  proofs : List Proof
  text : IsAcceptedText proofs log
  stated : map equations (problems_in proofs) ≡ posed.stated

was_carried : (posed : Posed) (f : Figure ℤ) (log : List ℕ) (a : Answer) → IsCarriedBy posed f log a → a.status ≡ Done → WasCarried posed f log
was_carried posed f log a h done = elim h.answer [
  | inl p ↦ by h.finding h.found p.0 (sym (ap (λ (b : Answer). b.status) p.1) ∙ done)
  | inr p ↦ let e = sym (ap (λ (b : Answer). b.status) p.1) ∙ done in cc
] where
  by : (n : Finding) → IsFound n log → HasProblems posed.stated n → (carried_to posed.program.acts f n).status ≡ Done → WasCarried posed f log
  by (Accepted proofs) text has e = record { proofs = proofs; text = text; stated = has }
  by (Malformed n) text has e = cc
  by (Rejected n w) text has e = cc

module _ (cover : TreesCover integers) (hold : VerdictsHold integers) (means : AllMean integers) (met : CarriedIsMet) where
  of_places : (log file figure : List ℕ) (program : Program) (stated : List Equations) (f : Figure ℤ) → program_of file ≡ Ok program
      → problems_of program.acts ≡ Ok stated → posed_in file ≡ Ok (record { program = program; stated = stated })
      → figure_of program.points figure ≡ Ok f → WasCarried (record { program = program; stated = stated }) f log → CarriesOf log file figure
  of_places log file figure program stated f read asked posed drawn w =
      let assured = log_assured integers cover hold log w.proofs w.text in
      let same : w.proofs ≡ assured.proofs = assured.only w.proofs (spelled log w.proofs w.text) in
      let p : Posed = record { program = program; stated = stated } in
      let told = text_answer (carried_text program.acts f (problems_in w.proofs) (verdicts_in w.proofs)) in
      let by : IsCarriedBy p f log told = record { finding = Accepted w.proofs; found = w.text; answer = inl (w.stated, refl) } in
      let for_it : IsCarriedFor p (figure_of program.points figure) log figure told = subst (λ r. IsCarriedFor p r log figure told) (sym drawn) by in
      let with_it : IsCarried log file figure told = subst (λ r. IsCarriedWith r log file figure told) (sym posed) for_it in
      record {
        program = program;
        read = read;
        places = f;
        drawn = drawn;
        assured = assured;
        text = subst (λ ps. IsCarried log file figure (text_answer (carried_text program.acts f (problems_in ps) (verdicts_in ps)))) same with_it;
        met = holds-met met means program.acts f assured.proofs (program-sound file program read).follow
            (asked ∙ ap Ok (sym w.stated) ∙ ap (λ ps. Ok (stated_by ps)) same) assured.assured;
      }

  of_figure : (log file figure : List ℕ) (a : Answer) (p : Posed) (drawn : Result (Figure ℤ) Refusal) → program_of file ≡ Ok p.program
      → problems_of p.program.acts ≡ Ok p.stated → posed_in file ≡ Ok p → figure_of p.program.points figure ≡ drawn
      → IsCarriedFor p drawn log figure a → a.status ≡ Done → CarriesOf log file figure
  of_figure log file figure a p (Ok f) read asked posed is h done =
      of_places log file figure p.program p.stated f read asked posed is (was_carried p f log a h done)
  of_figure log file figure a p (Err refusal) read asked posed is h done = let e = sym (ap (λ (b : Answer). b.status) h) ∙ done in cc

  pub carries : (log file figure : List ℕ) (a : Answer) → IsCarried log file figure a → a.status ≡ Done → CarriesOf log file figure
  unfolding posed_in
  carries log file figure a h done = by (posed_in file) refl h where
    by : (read : Result Posed Refusal) → posed_in file ≡ read → IsCarriedWith read log file figure a → CarriesOf log file figure
    by (Ok p) is k =
        let program = bind-ok (program_of file) _ p is in
        let stated = bind-ok (problems_of program.0.acts) _ p program.2 in
        let same : record { program = program.0; stated = stated.0 } ≡ p = ok-is stated.2 in
        of_figure log file figure a p (figure_of p.program.points figure) (program.1 ∙ ap (λ (q : Posed). Ok q.program) same)
        (ap (λ (q : Posed). problems_of q.program.acts) (sym same) ∙ stated.1 ∙ ap (λ (q : Posed). Ok q.stated) same) is refl k done
    by (Err refusal) is k = let e = sym (ap (λ (b : Answer). b.status) k) ∙ done in cc
