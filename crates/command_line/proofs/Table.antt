-- What the table of forms says of each status.
use Rattle.std.proofs.Common.{◌≡◌, List, [], ℕ, Bool, true, false, if◌then◌else◌, Result, Ok, Err, refl}
use Rattle.std.specs.List.{list_all}
use Rattle.gcl_reader.specs.declared.refusal.Refusal.{Refusal}
use Rattle.proof_log.specs.declared.log.Proof.{Proof}
use Rattle.command_line.specs.Answer.{Answer, text_answer, answer_from}
use Rattle.command_line.specs.Proving.{proves, proved}
use Rattle.command_line.specs.Run.{IsSilent}
use Rattle.command_line.specs.declared.status.Status.TheVariants.{Done, Unproved, WriteFault}

-- a text is done
pub silent_text : (text : List ℕ) → IsSilent (text_answer text)
silent_text text done unproved = absurd (done refl)

-- a refusal has nothing on out
pub silent_from : {A : Type 0} (answer : A → Answer) (bytes : List ℕ) (made : Result A Refusal) → ((x : A) → IsSilent (answer x)) → IsSilent (answer_from answer bytes made)
silent_from answer bytes (Ok x) silent = silent x
silent_from answer bytes (Err refusal) silent = λ done unproved. refl

-- no answer's own status is that of a failed put
pub proper_text : (text : List ℕ) → (text_answer text).status ≡ WriteFault → ⊥
proper_text text e = cc

pub proper_from : {A : Type 0} (answer : A → Answer) (bytes : List ℕ) (made : Result A Refusal) → ((x : A) → (answer x).status ≡ WriteFault → ⊥)
    → (answer_from answer bytes made).status ≡ WriteFault → ⊥
proper_from answer bytes (Ok x) proper = proper x
proper_from answer bytes (Err refusal) proper = λ e. cc

-- a log is done, or done and not proved
by_status : (out : List ℕ) (b : Bool) → ((if b then Done else Unproved) ≡ Done → ⊥) → ((if b then Done else Unproved) ≡ Unproved → ⊥) → out ≡ []
by_status out true done unproved = absurd (done refl)
by_status out false done unproved = absurd (unproved refl)

pub silent_proved : (proofs : List Proof) → IsSilent (proved proofs)
silent_proved proofs = by_status (proved proofs).out (list_all (λ (p : Proof). proves p.verdict) proofs)

no_fault : (b : Bool) → (if b then Done else Unproved) ≡ WriteFault → ⊥
no_fault true e = cc
no_fault false e = cc

pub proper_proved : (proofs : List Proof) → (proved proofs).status ≡ WriteFault → ⊥
proper_proved proofs = no_fault (list_all (λ (p : Proof). proves p.verdict) proofs)
