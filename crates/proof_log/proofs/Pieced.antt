-- A piece of a log that has been fed in part, and the end of a log.
use Rattle.std.proofs.Common.{◌≡◌, ℕ, ◌+◌, List, [], ◌∷◌, ◌++◌, length, true, false, ◌==◌, nat_eq, refl, sym, ◌∙◌, ap, arith, Some, None, Result, Ok, Err, append_assoc, append-nil, subst, length-append, vec_len, inr, ◌⊎◌}
use Rattle.std.specs.Prelude.{OnOk, IfErr}
use Rattle.std.proofs.lemmas.Bool.{eqb-true}
use Rattle.proof_log.specs.declared.line.LogLine.{LogLine}
use Rattle.proof_log.specs.declared.place.Part.{Part}
use Rattle.proof_log.specs.declared.place.Part.TheVariants as part
use Rattle.proof_log.specs.declared.reader.LogReader.{LogReader}
use Rattle.proof_log.specs.declared.reader.LogFault.{LogFault}
use Rattle.proof_log.specs.declared.reader.LogFault.TheVariants as fault
use Rattle.proof_log.specs.Cuts.{EndsAt}
use Rattle.proof_log.specs.Feeding.{Fed, FedWith, IsFed, Ended, FedTo, Starved, Whole}
use Rattle.proof_log.specs.Grammar.{Refuses, EndsEarly}
use Rattle.proof_log.specs.Places.{is_done, number}
use Rattle.proof_log.specs.Text.{text_of}
use Rattle.proof_log.proofs.Held.{begins_with, begins_more, refuses_more}
use Rattle.proof_log.proofs.Logs.{front_is, whole_is, whole_done}
use Rattle.proof_log.proofs.Plain.{none_of}
use Rattle.proof_log.proofs.Steps.{same_part}

pub record Sofar (old : LogReader) (old_lines : List LogLine) (piece rest : List ℕ) (r : LogReader) (lines : List LogLine) : Type 0 where
  pub done : List ℕ
  pub parts : piece ≡ done ++ rest
  pub fed : (bytes : List ℕ) (front : List LogLine) → Fed front old bytes → (added : List LogLine) × (lines ≡ old_lines ++ added) × Fed (front ++ added) r (bytes ++ done)

pub none_yet : (r : LogReader) (lines : List LogLine) (piece : List ℕ) → Sofar r lines piece piece r lines
none_yet r lines piece = record { done = []; parts = refl; fed = λ bytes front f. ([], sym (append-nil lines), subst (λ t. Fed t r (bytes ++ [])) (sym (append-nil front)) (subst (λ b. Fed front r b) (sym (append-nil bytes)) f)) }

-- bytes were held
held_more : (old r q : LogReader) (old_lines lines : List LogLine) (piece rest front behind : List ℕ) → Sofar old old_lines piece rest r lines → rest ≡ front ++ behind
    → ((bytes : List ℕ) (ls : List LogLine) → Fed ls r bytes → Fed ls q (bytes ++ front)) → Sofar old old_lines piece behind q lines
held_more old r q old_lines lines piece rest front behind s e more = record {
  done = s.done ++ front;
  parts = s.parts ∙ ap (λ t. s.done ++ t) e ∙ sym (append_assoc s.done front behind);
  fed = λ bytes ls f. let g = s.fed bytes ls f in (g.0, g.1, subst (λ b. Fed (ls ++ g.0) q b) (append_assoc bytes s.done front) (more (bytes ++ s.done) (ls ++ g.0) g.2));
}

-- a line was ended
through : (front after done : List ℕ) → done ++ (front ++ 10 ∷ after) ≡ (done ++ (front ++ 10 ∷ [])) ++ after
through front after done = ap (λ t. done ++ t) (sym (append_assoc front (10 ∷ []) after)) ∙ sym (append_assoc done (front ++ 10 ∷ []) after)

pub line_more : (old r q : LogReader) (old_lines lines new : List LogLine) (piece front after : List ℕ) → Sofar old old_lines piece (front ++ 10 ∷ after) r lines
    → ((bytes : List ℕ) (ls : List LogLine) → Fed ls r bytes → (l : LogLine) × (new ≡ lines ++ l ∷ []) × Fed (ls ++ l ∷ []) q (bytes ++ (front ++ 10 ∷ []))) → Sofar old old_lines piece after q new
line_more old r q old_lines lines new piece front after s more = record {
  done = s.done ++ (front ++ 10 ∷ []);
  parts = s.parts ∙ through front after s.done;
  fed = λ bytes ls f.
      let g = s.fed bytes ls f in
      let h = more (bytes ++ s.done) (ls ++ g.0) g.2 in (
        g.0 ++ h.0 ∷ [],
        h.1 ∙ ap (λ t. t ++ h.0 ∷ []) g.1 ∙ append_assoc old_lines g.0 (h.0 ∷ []),
        subst (λ t. Fed t q (bytes ++ (s.done ++ (front ++ 10 ∷ [])))) (append_assoc ls g.0 (h.0 ∷ []))
            (subst (λ b. Fed ((ls ++ g.0) ++ h.0 ∷ []) q b) (append_assoc bytes s.done (front ++ 10 ∷ [])) h.2),
      );
}

abbrev pub Goal : Result (Unit {0}) LogFault → LogReader → List LogLine → List ℕ → LogReader → List LogLine → Type 0
Goal result old old_lines piece r lines = (bytes : List ℕ) (front : List LogLine) → IsFed front old bytes → (added : List LogLine) × (lines ≡ old_lines ++ added) × FedTo result (front ++ added) r (bytes ++ piece)

going : (old : LogReader) (front : List LogLine) (bytes : List ℕ) → old.fault ≡ None → IsFed front old bytes → Fed front old bytes
going old front bytes e f = subst (λ o. FedWith o front old bytes) e f

pub starved : (front : List LogLine) (r : LogReader) (bytes more : List ℕ) → Fed front r bytes → Starved front (bytes ++ more)
starved front r bytes more f = (r.held.items ++ more, begins_with front bytes r.held.items more r.place f.text f.lines f.own f.place)

all_fed : (u : Unit {0}) (old r : LogReader) (old_lines lines : List LogLine) (piece rest : List ℕ) → old.fault ≡ None → rest ≡ [] → Sofar old old_lines piece rest r lines → Goal (Ok u) old old_lines piece r lines
all_fed u old r old_lines lines piece rest e none s bytes front f =
    let g = s.fed bytes front (going old front bytes e f) in
    (g.0, g.1, subst (λ t. Fed (front ++ g.0) r (bytes ++ t)) (sym (s.parts ∙ ap (λ t. s.done ++ t) none ∙ append-nil s.done)) g.2)

no_memory : (x : LogFault) (old r q : LogReader) (old_lines lines : List LogLine) (piece rest : List ℕ) → old.fault ≡ None → Sofar old old_lines piece rest r lines → x ≡ fault.OutOfMemory → q.fault ≡ Some fault.OutOfMemory
    → Goal (Err x) old old_lines piece q lines
no_memory x old r q old_lines lines piece rest e s isx isq bytes front f =
    let g = s.fed bytes front (going old front bytes e f) in
    let b = subst (Starved (front ++ g.0)) (append_assoc bytes s.done rest ∙ ap (λ t. bytes ++ t) (sym s.parts)) (starved (front ++ g.0) r (bytes ++ s.done) rest g.2) in
    (g.0, g.1, (isq ∙ ap Some (sym isx), subst (λ o. FedWith o (front ++ g.0) q (bytes ++ piece)) (sym isq) b))

-- the last bytes were held, or there was no memory for them
pub held_last : (o : Result (Unit {0}) LogFault) (old r q : LogReader) (old_lines lines : List LogLine) (piece rest front behind : List ℕ) → old.fault ≡ None → behind ≡ [] → rest ≡ front ++ behind → Sofar old old_lines piece rest r lines
    → OnOk o ((bytes : List ℕ) (ls : List LogLine) → Fed ls r bytes → Fed ls q (bytes ++ front)) → IfErr o (λ x. (x ≡ fault.OutOfMemory) × (q.fault ≡ Some fault.OutOfMemory)) → Goal o old old_lines piece q lines
held_last (Ok u) old r q old_lines lines piece rest front behind e none k s more err = all_fed u old q old_lines lines piece behind e none (held_more old r q old_lines lines piece rest front behind s k more)
held_last (Err x) old r q old_lines lines piece rest front behind e none k s more err = no_memory x old r q old_lines lines piece rest e s err.0 err.1

further : (y : LogFault) (front : List LogLine) (r : LogReader) (bytes more : List ℕ) → FedWith (Some y) front r bytes → FedWith (Some y) front r (bytes ++ more)
further (fault.Malformed n) front r bytes more s = record { refuses = refuses_more front bytes more s.refuses; number = s.number }
further fault.OutOfMemory front r bytes more s = (s.0 ++ more, begins_more front s.0 bytes more s.1)

pub line_fault : (x : LogFault) (old r q : LogReader) (old_lines lines new : List LogLine) (piece text after : List ℕ) → old.fault ≡ None → Sofar old old_lines piece (text ++ 10 ∷ after) r lines
    → ((bytes : List ℕ) (ls : List LogLine) → Fed ls r bytes → Ended (Err x) lines new ls q (bytes ++ (text ++ 10 ∷ []))) → Goal (Err x) old old_lines piece q new
line_fault x old r q old_lines lines new piece text after e s more bytes front f =
    let g = s.fed bytes front (going old front bytes e f) in
    let h = more (bytes ++ s.done) (front ++ g.0) g.2 in
    let k = further x (front ++ g.0) q ((bytes ++ s.done) ++ (text ++ 10 ∷ [])) after h.2 in
    let whole : ((bytes ++ s.done) ++ (text ++ 10 ∷ [])) ++ after ≡ bytes ++ piece =
    sym (through text after (bytes ++ s.done)) ∙ append_assoc bytes s.done (text ++ 10 ∷ after) ∙ ap (λ t. bytes ++ t) (sym s.parts) in
    (g.0, h.0 ∙ g.1, (h.1, subst (λ o. FedWith o (front ++ g.0) q (bytes ++ piece)) (sym h.1) (subst (λ b. FedWith (Some x) (front ++ g.0) q b) whole k)))

-- a reader that has stopped
pub stopped_still : (x : LogFault) (old : LogReader) (lines : List LogLine) (piece : List ℕ) → old.fault ≡ Some x → Goal (Err x) old lines piece old lines
stopped_still x old lines piece e bytes front f = (
  [],
  sym (append-nil lines),
  (
    e,
    subst (λ o. FedWith o (front ++ []) old (bytes ++ piece)) (sym e)
        (subst (λ t. FedWith (Some x) t old (bytes ++ piece)) (sym (append-nil front)) (further x front old bytes piece (subst (λ o. FedWith o front old bytes) e f))),
  ),
)

-- ---- the end
done_is : (p : Part) → is_done p ≡ true → p ≡ part.Done
done_is p e = same_part part.Done p (let h : number p ≡ 11 = eqb-true (number p) 11 e in ap (λ n. nat_eq 11 n) h)

counted : (r : LogReader) → length r.held.items ≡ vec_len r.held
counted r = let h = r.held.ok in omega (arith, h)

pub ends_whole : (u : Unit {0}) (r : LogReader) (front : List LogLine) (bytes : List ℕ) → r.fault ≡ None → (vec_len r.held == 0) ≡ true → is_done r.place.part ≡ true → IsFed front r bytes → Whole front bytes
ends_whole u r front bytes e none d f =
    let g = going r front bytes e f in
    let empty = none_of r.held.items (counted r ∙ eqb-true (vec_len r.held) 0 none) in
    record {
      lines = g.lines;
      own = g.own;
      whole = whole_is r.place front g.place (done_is r.place.part d);
      text = g.text ∙ ap (λ t. text_of [] front ++ t) empty ∙ append-nil (text_of [] front);
    }

early : (r : LogReader) (front : List LogLine) (bytes : List ℕ) → Fed front r bytes → (r.held.items ≡ [] → is_done r.place.part ≡ true → ⊥) → EndsEarly front bytes
early r front bytes g not_yet = record {
  rest = r.held.items;
  begins = record { lines = g.lines; own = g.own; grammar = front_is r.place front g.place; text = g.text };
  unended = g.unended;
  early = λ none w. not_yet none (ap is_done (whole_done r.place front g.place w));
}

pub ends_held : (r : LogReader) (front : List LogLine) (bytes : List ℕ) → r.fault ≡ None → (vec_len r.held == 0) ≡ false → IsFed front r bytes → (Refuses front bytes ⊎ EndsEarly front bytes) × (r.lines + 1 ≡ length front + 1)
ends_held r front bytes e some f =
    let g = going r front bytes e f in
    (inr (early r front bytes g (λ none d. let h : true ≡ false = sym (ap (λ (t : List ℕ). length t == 0) none) ∙ ap (λ n. n == 0) (counted r) ∙ some in cc)), ap (λ n. n + 1) g.count)

pub ends_early : (r : LogReader) (front : List LogLine) (bytes : List ℕ) → r.fault ≡ None → is_done r.place.part ≡ false → IsFed front r bytes → (Refuses front bytes ⊎ EndsEarly front bytes) × (r.lines + 1 ≡ length front + 1)
ends_early r front bytes e some f =
    let g = going r front bytes e f in
    (inr (early r front bytes g (λ none d. let h : true ≡ false = sym d ∙ some in cc)), ap (λ n. n + 1) g.count)

-- ---- what stands behind a line
pub lf_first : (behind after : List ℕ) (b : ℕ) → EndsAt 10 behind → behind ≡ b ∷ after → behind ≡ 10 ∷ after
lf_first behind after b ends e = e ∙ ap (λ c. c ∷ after) (subst (EndsAt 10) e ends)

pub count_more : (fed0 fed1 start piece : ℕ) (rest front behind after : List ℕ) (b : ℕ) → rest ≡ front ++ behind → behind ≡ b ∷ after → fed1 ≡ fed0 + length front + 1 → fed0 + length rest ≡ start + piece
    → fed1 + length after ≡ start + piece
count_more fed0 fed1 start piece rest front behind after b e k f h =
    let l = ap length e ∙ ap (λ t. length (front ++ t)) k ∙ length-append front (b ∷ after) in
    omega (arith, l, f, h)

-- a line stands first
pub to_lf : (old r : LogReader) (old_lines lines : List LogLine) (piece rest front behind after : List ℕ) (b : ℕ) → rest ≡ front ++ behind → EndsAt 10 behind → behind ≡ b ∷ after → Sofar old old_lines piece rest r lines
    → Sofar old old_lines piece (front ++ 10 ∷ after) r lines
to_lf old r old_lines lines piece rest front behind after b e ends is s = subst (λ t. Sofar old old_lines piece t r lines) (e ∙ ap (λ t. front ++ t) (lf_first behind after b ends is)) s
