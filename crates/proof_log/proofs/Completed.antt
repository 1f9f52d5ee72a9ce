-- What lies before a place begins some log: it is finished by a few lines.
use Rattle.std.proofs.Common.{◌≡◌, ℕ, ◌+◌, zero, suc, List, [], ◌∷◌, ◌++◌, length, Bool, refl, sym, ◌∙◌, ap, arith, append_assoc, append-nil, length-append, true, false}
use Rattle.proof_steps.specs.declared.piece.LeafStatus.TheVariants as status
use Rattle.proof_steps.specs.declared.piece.Outcome.TheVariants as outcome
use Rattle.verdicts.specs.declared.verdict.Verdict.TheVariants as verdict
use Rattle.proof_log.specs.declared.line.LogLine.{LogLine}
use Rattle.proof_log.specs.declared.line.LogLine.TheVariants as line
use Rattle.proof_log.specs.declared.log.Proof.{Proof}
use Rattle.proof_log.specs.declared.place.Part.{Part}
use Rattle.proof_log.specs.declared.place.Part.TheVariants as part
use Rattle.proof_log.specs.declared.place.Place.{Place}
use Rattle.proof_log.specs.Grammar.{AreProofs, IsLog, IsFront, IsWhole}
use Rattle.proof_log.specs.Headings.{Heading}
use Rattle.proof_log.specs.Lines.{heading_lines, proofs_lines, LogWritten}
use Rattle.proof_log.proofs.Fronts.{begun, Between, Cons, Hyps, Steps, Nes, Chained, Behind, proofs_append, logs_append, add_proves, add_vars, first_con, first_node}
use Rattle.proof_log.proofs.Steps.{Headed, add_head, add_fuel, end_close, end_open, end_system, as_nes, as_chain, conclude, At_part, At}

pub front_of_front : (ls : List LogLine) (l : LogLine) → IsFront (ls ++ l ∷ []) → IsFront ls
front_of_front ls l f = record { heading = f.heading; log = f.log; fits = f.fits; more = l ∷ f.more; begins = f.begins ∙ append_assoc ls (l ∷ []) f.more }

filler : Proof
filler = record {
  problem = record { vars = []; hyps = []; cons = [] ∷ [] };
  tree = record { pieces = record { path = []; steps = []; eqs = []; nes = []; outcome = outcome.Close 0 } ∷ [] };
  verdict = verdict.Proved;
}

fillers : ℕ → List Proof
fillers zero = []
fillers (suc n) = filler ∷ fillers n

fillers_many : (n : ℕ) → length (fillers n) ≡ n
unfolding fillers
fillers_many zero = refl
fillers_many (suc n) = ap suc (fillers_many n)

fillers_size : (n : ℕ) → AreProofs (fillers n)
unfolding fillers filler AreProofs
fillers_size zero = tt
fillers_size (suc n) = (record { hyps = omega arith; one = omega arith; two = omega arith }, omega arith, fillers_size n)

fillers_written : (n : ℕ) → LogWritten (fillers n)
unfolding fillers filler
fillers_written zero = tt
fillers_written (suc n) = (((refl, refl), tt), fillers_written n)

fillers_fit : (n : ℕ) → IsLog (fillers n)
fillers_fit n = record { proofs = fillers_size n; written = fillers_written n }

whole_front : (ls : List LogLine) → IsWhole ls → IsFront ls
whole_front ls w = record { heading = w.heading; log = w.log; fits = w.fits; more = []; begins = sym w.whole ∙ sym (append-nil ls) }

between_front : (n left : ℕ) (ls : List LogLine) → Between n left ls → IsFront ls
between_front n left ls a =
    let done = a.before.done in
    let more = proofs_lines (1 + length done) (fillers left) ++ line.End ∷ [] in
    let l = length-append done (fillers left) in
    let m = fillers_many left in
    let c = a.before.count in
    record {
      heading = a.before.heading;
      log = done ++ fillers left;
      fits = logs_append done (fillers left) a.before.fits (fillers_fit left);
      more = more;
      begins = ap (λ k. heading_lines a.before.heading ++ (line.Proves k ∷ (proofs_lines 1 (done ++ fillers left) ++ line.End ∷ []))) (let e : length (done ++ fillers left) ≡ n = omega (arith, l, m, c) in e)
          ∙ ap (λ t. heading_lines a.before.heading ++ (line.Proves n ∷ (t ++ line.End ∷ []))) (proofs_append 1 done (fillers left))
          ∙ ap (λ t. heading_lines a.before.heading ++ (line.Proves n ∷ t)) (append_assoc (proofs_lines 1 done) (proofs_lines (1 + length done) (fillers left)) (line.End ∷ []))
          ∙ sym (append_assoc (heading_lines a.before.heading) (line.Proves n ∷ proofs_lines 1 done) more)
          ∙ ap (λ t. t ++ more) (sym a.lines);
    }

behind_front : (n left : ℕ) (ls : List LogLine) → Behind n left ls → IsFront ls
behind_front n left ls a = front_of_front ls (line.Verdict verdict.Proved) (between_front n left _ (conclude n left verdict.Proved ls a))

steps_front : (n left : ℕ) (ls : List LogLine) → Steps n left ls → IsFront ls
steps_front n left ls a = front_of_front ls (line.Close 0) (behind_front n left _ (end_close n left 0 ls a))

cons_front : (n left c : ℕ) (ls : List LogLine) → Cons n left c ls → IsFront ls
cons_front n left c ls a = front_of_front ls (line.Node []) (steps_front n left _ (first_node n left c [] ls a))

hyps_front : (n left h : ℕ) (ls : List LogLine) → Hyps n left h ls → IsFront ls
hyps_front n left h ls a = front_of_front ls (line.Con []) (cons_front n left 1 _ (first_con n left h [] ls a))

chain_front : (n left : ℕ) (ls : List LogLine) → Chained n left ls → IsFront ls
chain_front n left ls a = front_of_front ls line.Proved (behind_front n left _ (end_system n left status.Proved ls a tt))

nes_front : (whole : Bool) (n left : ℕ) (ls : List LogLine) → Nes whole n left ls → IsFront ls
nes_front true n left ls a = behind_front n left ls (end_open n left ls a)
nes_front false n left ls a = chain_front n left ls (as_chain n left ls a)

stated_front : (h : Heading) (ls : List LogLine) → ls ≡ heading_lines h → IsFront ls
stated_front h ls e = front_of_front ls (line.Proves 0) (between_front 0 0 _ (add_proves h 0 ls e))

head_front : (w : Bool) (ls : List LogLine) → Headed w ls → IsFront ls
head_front true ls a = stated_front a.0 ls a.1
head_front false ls a = let b = add_fuel 0 ls a in front_of_front ls (line.Fuel 0) (stated_front b.0 _ b.1)

front_at : (p : Part) (n left h c : ℕ) (w : Bool) (ls : List LogLine) → At_part p n left h c w ls → IsFront ls
front_at part.Start n left h c w ls a = front_of_front ls (line.Head 0) (head_front true _ (add_head 0 ls a))
front_at part.Head n left h c w ls a = head_front w ls a
front_at part.Between n left h c w ls a = between_front n left ls a
front_at part.Prove n left h c w ls a = front_of_front ls (line.Vars []) (hyps_front n left 0 _ (add_vars n left [] ls a.0))
front_at part.Hyps n left h c w ls a = hyps_front n left h ls a.0
front_at part.Cons n left h c w ls a = cons_front n left c ls a
front_at part.Steps n left h c w ls a = steps_front n left ls a
front_at part.Eqs n left h c w ls a = nes_front w n left ls (as_nes w n left ls a)
front_at part.Nes n left h c w ls a = nes_front w n left ls a
front_at part.Chain n left h c w ls a = chain_front n left ls a
front_at part.Pieces n left h c w ls a = behind_front n left ls a
front_at part.Done n left h c w ls a = whole_front ls a

pub is_front : (s : Place) (ls : List LogLine) → At s ls → IsFront ls
is_front s ls a = front_at s.part s.proofs s.left s.hyps s.cons s.whole ls a
