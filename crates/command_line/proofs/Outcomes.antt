-- How a run ends, by what is made of the file.
use Rattle.std.proofs.Common.{◌≡◌, List, [], ℕ, Option, Result, Ok, Err, MatchResult, inl, inr, refl, sym, ◌∙◌, ap, append-nil, subst}
use Rattle.std.specs.Io.KnownBytes.{append_known}
use Rattle.desk_io.specs.Bytes.{GrewByFront, Puts}
use Rattle.desk_io.proofs.Growth.{append_known-none}
use Rattle.gcl_reader.specs.declared.refusal.Refusal.{Refusal}
use Rattle.gcl_reader.specs.declared.refusal.GclFault.{GclFault}
use Rattle.gcl_reader.specs.declared.refusal.GclFault.TheVariants as fault
use Rattle.gcl_reader.specs.Grammar.{Fails}
use Rattle.command_line.specs.Answer.{Answer, refused, answer_from}
use Rattle.command_line.specs.Run.{Ends}
use Rattle.command_line.specs.declared.status.Status.{Status}
use Rattle.command_line.specs.declared.status.Status.TheVariants.{WriteFault}

-- what is made of the file is written
pub made_ends : {A : Type 0} (answer : A → Answer) (bytes : List ℕ) (x : A) (made : Result A Refusal) (out0 out1 notes0 notes1 : Option (List ℕ)) (status : Status) → made ≡ Ok x
    → Ends (answer x) out0 out1 notes0 notes1 status → Ends (answer_from answer bytes made) out0 out1 notes0 notes1 status
made_ends answer bytes x made out0 out1 notes0 notes1 status e ends = subst (λ m. Ends (answer_from answer bytes m) out0 out1 notes0 notes1 status) (sym e) ends

-- the file is refused
pub refused_ends : {A : Type 0} (answer : A → Answer) (bytes : List ℕ) (refusal : Refusal) (made : Result A Refusal) (out0 out1 notes0 notes1 : Option (List ℕ)) (status : Status)
    (f : GclFault) → f ≡ fault.Refused refusal → Fails f made
    → Ends (refused bytes refusal) out0 out1 notes0 notes1 status → Ends (answer_from answer bytes made) out0 out1 notes0 notes1 status
refused_ends answer bytes refusal made out0 out1 notes0 notes1 status f e fails ends =
    let is : made ≡ Err refusal = subst (λ x. Fails x made) e fails in
    subst (λ m. Ends (answer_from answer bytes m) out0 out1 notes0 notes1 status) (sym is) ends

-- The text was put, and the lines behind it were put, or a front of them.
pub told_ends : {T E : Type 0} (answer : Answer) (told : Status) (r : Result T E) (out_old out_new notes_old notes_new : Option (List ℕ)) (lines : List ℕ) (status : Status)
    → answer.status ≡ told → answer.notes ≡ lines → out_new ≡ append_known out_old answer.out → Puts notes_old notes_new r lines
    → MatchResult r (λ _. status ≡ told) (λ _. status ≡ WriteFault) → Ends answer out_old out_new notes_old notes_new status
told_ends answer told (Ok x) out_old out_new notes_old notes_new lines status s n out put e =
    inl (record { status_is = e ∙ sym s; out = out; notes = put ∙ ap (append_known notes_old) (sym n) })
told_ends answer told (Err x) out_old out_new notes_old notes_new lines status s n out put e = inr (inl (record {
  status_is = e;
  out = record { front = answer.out; rest = []; parts = sym (append-nil answer.out); written = out };
  notes = subst (λ l. GrewByFront notes_old notes_new l) (sym n) put;
  order = inl out;
}))

-- A front of the text was put, and nothing behind it.
pub put_failed_ends : (answer : Answer) (out_old out_new notes : Option (List ℕ)) → GrewByFront out_old out_new answer.out → Ends answer out_old out_new notes notes WriteFault
put_failed_ends answer out_old out_new notes front = inr (inl (record {
  status_is = refl;
  out = front;
  notes = record { front = []; rest = answer.notes; parts = refl; written = append_known-none notes };
  order = inr refl;
}))
