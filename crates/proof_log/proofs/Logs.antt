-- The machine takes the lines of each log, and each front of them.
use Rattle.std.proofs.Common.{◌≡◌, ℕ, ◌+◌, ◌-◌, ◌<◌, ◌≤◌, suc, List, [], ◌∷◌, ◌++◌, map, length, Bool, true, false, not, ◌⊎◌, inl, inr, nat_lt, nat_eq, refl, sym, ◌∙◌, ap, arith, Option, Some, None, append_assoc, append-nil, subst}
use Rattle.std.specs.List.{flat_map}
use Rattle.std.proofs.lemmas.Bool.Decides.{nat_tests}
use Rattle.poly_model.specs.Polynomial.{Polynomial}
use Rattle.poly_model.specs.declared.limits.TheConstants.{MOST_HYPOTHESES, MOST_CONCLUSIONS}
use Rattle.verdicts.specs.declared.verdict.Verdict.{Verdict}
use Rattle.proof_log.specs.declared.line.LogLine.{LogLine}
use Rattle.proof_log.specs.declared.line.LogLine.TheVariants as line
use Rattle.proof_log.specs.declared.log.Proof.{Proof}
use Rattle.proof_log.specs.declared.place.Part.{Part}
use Rattle.proof_log.specs.declared.place.Part.TheVariants as part
use Rattle.proof_log.specs.declared.place.Place.{Place}
use Rattle.proof_log.specs.Grammar.{IsSized, AreProofs, IsFront, IsWhole}
use Rattle.proof_steps.specs.Rules.{has_second}
use Rattle.proof_log.specs.Headings.{Heading, fuel_lines}
use Rattle.proof_log.specs.Lines.{piece_lines, problem_lines, proof_lines, proofs_lines, log_lines}
use Rattle.proof_log.specs.Places.{goes, start, run}
use Rattle.proof_log.proofs.Completed.{is_front}
use Rattle.proof_log.proofs.Runs.{at, run_from, one, IsEnd, run_pieces}
use Rattle.proof_log.proofs.Steps.{At, At_part, steps_on, stepped}

module _ (n left : ℕ) where
  hyp_goes : (h c : ℕ) (w : Bool) (p : Polynomial) → h < MOST_HYPOTHESES → goes (at part.Hyps n left h c w) (line.Hyp p) ≡ Some (at part.Hyps n left (h + 1) c w)
  unfolding goes
  hyp_goes h c w p few = let e : nat_lt h MOST_HYPOTHESES ≡ true = grind (arith, nat_tests) in rw e refl

  run_hyps : (h c : ℕ) (w : Bool) (ps : List Polynomial) (rest : List LogLine) → h + length ps ≤ MOST_HYPOTHESES
      → run (at part.Hyps n left h c w) (map line.Hyp ps ++ rest) ≡ run (at part.Hyps n left (h + length ps) c w) rest
  run_hyps h c w [] rest few = ap (λ k. run (at part.Hyps n left k c w) rest) (let e : h ≡ h + 0 = omega arith in e)
  run_hyps h c w (p ∷ ps) rest few =
      one (at part.Hyps n left h c w) (at part.Hyps n left (h + 1) c w) (line.Hyp p) (map line.Hyp ps ++ rest) (hyp_goes h c w p (omega (arith, few)))
      ∙ run_hyps (h + 1) c w ps rest (omega (arith, few)) ∙ ap (λ k. run (at part.Hyps n left k c w) rest) (let e : h + 1 + length ps ≡ h + suc (length ps) = omega arith in e)

  con_goes : (q : Part) (h c : ℕ) (w : Bool) (p : Polynomial) → (q ≡ part.Hyps) ⊎ (q ≡ part.Cons) → c < MOST_CONCLUSIONS → goes (at q n left h c w) (line.Con p) ≡ Some (at part.Cons n left h (c + 1) true)
  unfolding goes
  con_goes q h c w p (inl e) few = let f : nat_lt c MOST_CONCLUSIONS ≡ true = grind (arith, nat_tests) in rw (e, f) refl
  con_goes q h c w p (inr e) few = let f : nat_lt c MOST_CONCLUSIONS ≡ true = grind (arith, nat_tests) in rw (e, f) refl

  run_more : (h c : ℕ) (ps : List Polynomial) (rest : List LogLine) → c + length ps ≤ MOST_CONCLUSIONS → run (at part.Cons n left h c true) (map line.Con ps ++ rest) ≡ run (at part.Cons n left h (c + length ps) true) rest
  run_more h c [] rest few = ap (λ k. run (at part.Cons n left h k true) rest) (let e : c ≡ c + 0 = omega arith in e)
  run_more h c (p ∷ ps) rest few =
      one (at part.Cons n left h c true) (at part.Cons n left h (c + 1) true) (line.Con p) (map line.Con ps ++ rest) (con_goes part.Cons h c true p (inr refl) (omega (arith, few)))
      ∙ run_more h (c + 1) ps rest (omega (arith, few)) ∙ ap (λ k. run (at part.Cons n left h k true) rest) (let e : c + 1 + length ps ≡ c + suc (length ps) = omega arith in e)

  run_cons : (h : ℕ) (w : Bool) (ps : List Polynomial) (rest : List LogLine) → 1 ≤ length ps → length ps ≤ MOST_CONCLUSIONS
      → run (at part.Hyps n left h 0 w) (map line.Con ps ++ rest) ≡ run (at part.Cons n left h (length ps) true) rest
  run_cons h w [] rest some few = absurd (omega (arith, some))
  run_cons h w (p ∷ ps) rest some few =
      one (at part.Hyps n left h 0 w) (at part.Cons n left h 1 true) (line.Con p) (map line.Con ps ++ rest) (con_goes part.Hyps h 0 w p (inl refl) (omega arith))
      ∙ run_more h 1 ps rest (omega (arith, few)) ∙ ap (λ k. run (at part.Cons n left h k true) rest) (let e : 1 + length ps ≡ suc (length ps) = omega arith in e)

  verdict_goes : (h c : ℕ) (p : Part) (v : Verdict) → IsEnd n left h c p → goes (at p n left h c true) (line.Verdict v) ≡ Some (at part.Between n left h c true)
  unfolding goes
  verdict_goes h c p v (inl e) = ap (λ q. goes (at q n left h c true) (line.Verdict v)) e
  verdict_goes h c p v (inr (inl e)) = ap (λ q. goes (at q n left h c true) (line.Verdict v)) e
  verdict_goes h c p v (inr (inr e)) = ap (λ q. goes (at q n left h c true) (line.Verdict v)) e

  prove_goes : (h c k : ℕ) (w : Bool) → 0 < k → k + left ≡ n → goes (at part.Between n (suc left) h c w) (line.Prove k) ≡ Some (at part.Prove n left 0 0 w)
  unfolding goes
  prove_goes h c k w some e =
      let a : nat_eq k ((n - suc left) + 1) ≡ true = grind (arith, nat_tests) in
      let b : nat_lt 0 (suc left) ≡ true = grind (arith, nat_tests) in
      rw (a, b) (ap (λ m. Some (at part.Prove n m 0 0 w)) (let f : suc left - 1 ≡ left = omega arith in f))

  vars_goes : (w : Bool) (names : List Rattle.poly_model.specs.declared.vars.VarName.VarName) → goes (at part.Prove n left 0 0 w) (line.Vars names) ≡ Some (at part.Hyps n left 0 0 w)
  unfolding goes
  vars_goes w names = refl

  regroup : (a b c d rest : List LogLine) → ((a ++ b) ++ (c ++ d)) ++ rest ≡ a ++ (b ++ (c ++ (d ++ rest)))
  regroup a b c d rest = simp append_assoc

  run_proof : (h c k : ℕ) (w : Bool) (p : Proof) (rest : List LogLine) → 0 < k → k + left ≡ n → IsSized p.problem → 1 ≤ length p.tree.pieces
      → run (at part.Between n (suc left) h c w) (proof_lines k p ++ rest) ≡ run (at part.Between n left (length p.problem.hyps) (length p.problem.cons) true) rest
  run_proof h c k w p rest some e sized has =
      let hyps = map line.Hyp p.problem.hyps in
      let cons = map line.Con p.problem.cons in
      let pieces = flat_map piece_lines p.tree.pieces in
      let m = length p.problem.hyps in
      let j = length p.problem.cons in
      let few = sized.hyps in
      let r = run_pieces n left m j p.tree.pieces (line.Verdict p.verdict ∷ rest) has in
      one (at part.Between n (suc left) h c w) (at part.Prove n left 0 0 w) (line.Prove k) ((problem_lines p.problem ++ (pieces ++ line.Verdict p.verdict ∷ [])) ++ rest) (prove_goes h c k w some e)
      ∙ one (at part.Prove n left 0 0 w) (at part.Hyps n left 0 0 w) (line.Vars p.problem.vars) (((hyps ++ cons) ++ (pieces ++ line.Verdict p.verdict ∷ [])) ++ rest) (vars_goes w p.problem.vars)
      ∙ ap (run (at part.Hyps n left 0 0 w)) (regroup hyps cons pieces (line.Verdict p.verdict ∷ []) rest)
      ∙ run_hyps 0 0 w p.problem.hyps (cons ++ (pieces ++ line.Verdict p.verdict ∷ rest)) (omega (arith, few))
      ∙ ap (λ i. run (at part.Hyps n left i 0 w) (cons ++ (pieces ++ line.Verdict p.verdict ∷ rest))) (let f : 0 + m ≡ m = omega arith in f)
      ∙ run_cons m w p.problem.cons (pieces ++ line.Verdict p.verdict ∷ rest) sized.one sized.two
      ∙ r.runs
      ∙ one (at r.to n left m j true) (at part.Between n left m j true) (line.Verdict p.verdict) rest (verdict_goes m j r.to p.verdict r.is)

pub record Arrives (s : Place) (ls : List LogLine) (p : Part) : Type 0 where
  pub to : Place
  pub runs : run s ls ≡ Some to
  pub is : to.part ≡ p

run_proofs : (n h c k : ℕ) (w : Bool) (ps : List Proof) → 0 < k → k + length ps ≡ n + 1 → AreProofs ps → Arrives (at part.Between n (length ps) h c w) (proofs_lines k ps ++ line.End ∷ []) part.Done
unfolding goes run proofs_lines AreProofs
run_proofs n h c k w [] some e fits = record { to = at part.Done n 0 h c w; runs = refl; is = refl }
run_proofs n h c k w (p ∷ ps) some e fits =
    let more = run_proofs n (length p.problem.hyps) (length p.problem.cons) (suc k) true ps (omega arith) (omega (arith, e)) fits.2 in
    record {
      to = more.to;
      runs = ap (run (at part.Between n (suc (length ps)) h c w)) (append_assoc (proof_lines k p) (proofs_lines (suc k) ps) (line.End ∷ []))
          ∙ run_proof n (length ps) h c k w p (proofs_lines (suc k) ps ++ line.End ∷ []) some (omega (arith, e)) fits.0 fits.1 ∙ more.runs;
      is = more.is;
    }

pub run_log : (h : Heading) (log : List Proof) → AreProofs log → Arrives start (log_lines h log) part.Done
unfolding goes
run_log h log fits = by (has_second h.version) refl
  where
    behind : Arrives (at part.Head 0 0 0 0 true) (line.Proves (length log) ∷ (proofs_lines 1 log ++ line.End ∷ [])) part.Done
    behind =
        let more = run_proofs (length log) 0 0 1 true log (omega arith) (omega arith) fits in
        record {
          to = more.to;
          runs = one (at part.Head 0 0 0 0 true) (at part.Between (length log) (length log) 0 0 true) (line.Proves (length log)) (proofs_lines 1 log ++ line.End ∷ []) refl ∙ more.runs;
          is = more.is;
        }

    headed : (b : Bool) → has_second h.version ≡ b → goes start (line.Head h.version) ≡ Some (at part.Head 0 0 0 0 (not b))
    headed b e = ap (λ (c : Bool). Some (at part.Head 0 0 0 0 (not c))) e

    by : (b : Bool) → has_second h.version ≡ b → Arrives start (log_lines h log) part.Done
    by true e = record {
      to = behind.to;
      runs = one start (at part.Head 0 0 0 0 false) (line.Head h.version) (fuel_lines (has_second h.version) h.fuel ++ (line.Proves (length log) ∷ (proofs_lines 1 log ++ line.End ∷ []))) (headed true e)
          ∙ ap (λ c. run (at part.Head 0 0 0 0 false) (fuel_lines c h.fuel ++ (line.Proves (length log) ∷ (proofs_lines 1 log ++ line.End ∷ [])))) e
          ∙ one (at part.Head 0 0 0 0 false) (at part.Head 0 0 0 0 true) (line.Fuel h.fuel) (line.Proves (length log) ∷ (proofs_lines 1 log ++ line.End ∷ [])) refl ∙ behind.runs;
      is = behind.is;
    }
    by false e = record {
      to = behind.to;
      runs = one start (at part.Head 0 0 0 0 true) (line.Head h.version) (fuel_lines (has_second h.version) h.fuel ++ (line.Proves (length log) ∷ (proofs_lines 1 log ++ line.End ∷ []))) (headed false e)
          ∙ ap (λ c. run (at part.Head 0 0 0 0 true) (fuel_lines c h.fuel ++ (line.Proves (length log) ∷ (proofs_lines 1 log ++ line.End ∷ [])))) e ∙ behind.runs;
      is = behind.is;
    }

-- ---- fronts
pub run_append : (s t : Place) (a b : List LogLine) → run s a ≡ Some t → run s (a ++ b) ≡ run t b
unfolding run
run_append s t [] b e = ap (λ o. run_from o b) e
run_append s t (l ∷ a) b e = elim (goes s l) as (λ o. run_from o a ≡ Some t → run_from o (a ++ b) ≡ run t b) [ None ↦ λ h. cc | Some u ↦ λ h. run_append u t a b h ] e

-- a line behind which a log may go on is let through
pub no_front : (s : Place) (ls : List LogLine) (l : LogLine) → run start ls ≡ Some s → goes s l ≡ None → IsFront (ls ++ l ∷ []) → ⊥
unfolding run
no_front s ls l r none f =
    let through = run_log f.heading f.log f.fits.proofs in
    let e : run s (l ∷ f.more) ≡ Some through.to = sym (run_append start s ls (l ∷ f.more) r) ∙ ap (run start) (sym (append_assoc ls (l ∷ []) f.more)) ∙ ap (run start) (sym f.begins) ∙ through.runs in
    let g : ◌≡◌ {A = Option Place} None (Some through.to) = ap (λ o. run_from o f.more) (sym none) ∙ e in cc

-- a log that is whole ends at the last place, and one that ends there is whole
pub whole_done : (s : Place) (ls : List LogLine) → run start ls ≡ Some s → IsWhole ls → s.part ≡ part.Done
whole_done s ls r w =
    let through = run_log w.heading w.log w.fits.proofs in
    let e : ◌≡◌ {A = Option Place} (Some s) (Some through.to) = sym r ∙ ap (run start) w.whole ∙ through.runs in
    let f : s ≡ through.to = cc in ap (λ (p : Place). p.part) f ∙ through.is

pub run_snoc : (s t : Place) (ls : List LogLine) (l : LogLine) → run start ls ≡ Some s → goes s l ≡ Some t → run start (ls ++ l ∷ []) ≡ Some t
unfolding run
run_snoc s t ls l r g = run_append start s ls (l ∷ []) r ∙ ap (λ o. run_from o []) g

same : (s t : Place) → Some s ≡ Some t → s ≡ t
same s t e = cc

at_run : (s t : Place) (a b : List LogLine) → At s a → run s b ≡ Some t → At t (a ++ b)
unfolding run
at_run s t a [] p e = subst (λ ls. At t ls) (sym (append-nil a)) (subst (λ u. At u a) (same s t e) p)
at_run s t a (l ∷ b) p e = elim (goes s l) as (λ o. goes s l ≡ o → run_from o b ≡ Some t → At t (a ++ l ∷ b)) [
  | None ↦ λ g h. cc
  | Some u ↦ λ g h. subst (λ ls. At t ls) (append_assoc a (l ∷ []) b) (at_run u t (a ++ l ∷ []) b (steps_on s u a l (stepped s l u g) p) h)
] refl e

pub front_is : (s : Place) (ls : List LogLine) → run start ls ≡ Some s → IsFront ls
front_is s ls r = is_front s ls (at_run start s [] ls refl r)

pub whole_is : (s : Place) (ls : List LogLine) → run start ls ≡ Some s → s.part ≡ part.Done → IsWhole ls
whole_is s ls r e = subst (λ p. At_part p s.proofs s.left s.hyps s.cons s.whole ls) e (at_run start s [] ls refl r)
