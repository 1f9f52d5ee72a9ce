-- The lines of proofs are lines of the first version.
use Rattle.std.proofs.Common.{◌≡◌, ℕ, suc, List, [], ◌∷◌, ◌++◌, map, refl, subst, sym, true, append_assoc}
use Rattle.std.specs.List.{flat_map}
use Rattle.poly_model.specs.Polynomial.{Polynomial}
use Rattle.proof_steps.specs.declared.piece.ChainStep.{ChainStep}
use Rattle.proof_steps.specs.declared.piece.LeafStatus.{LeafStatus}
use Rattle.proof_steps.specs.declared.piece.LeafStatus.TheVariants as status
use Rattle.proof_steps.specs.declared.piece.Outcome.{Outcome}
use Rattle.proof_steps.specs.declared.piece.Outcome.TheVariants as outcome
use Rattle.proof_steps.specs.declared.piece.Piece.{Piece}
use Rattle.proof_steps.specs.declared.step.Step.{Step}
use Rattle.proof_steps.specs.declared.step.Step.TheVariants as step
use Rattle.proof_log.specs.Lines.{step_line, status_line, list_lines, outcome_lines, piece_lines, proof_lines, proofs_lines}
use Rattle.proof_log.specs.Settings.{is_first}
use Rattle.proof_log.specs.declared.line.LogLine.{LogLine}
use Rattle.proof_log.specs.declared.line.LogLine.TheVariants as line
use Rattle.proof_log.specs.declared.log.Proof.{Proof}
use Rattle.proof_log.proofs.Settled.{AreFirst}

first-append : (a b : List LogLine) → AreFirst a → AreFirst b → AreFirst (a ++ b)
unfolding AreFirst
first-append [] b h k = k
first-append (l ∷ a) b h k = (h.0, first-append a b h.1 k)

polynomials-first : (line : Polynomial → LogLine) → ((p : Polynomial) → is_first (line p) ≡ true) → (ps : List Polynomial) → AreFirst (map line ps)
unfolding AreFirst
polynomials-first line h [] = tt
polynomials-first line h (p ∷ ps) = (h p, polynomials-first line h ps)

steps-first : (steps : List Step) → AreFirst (map step_line steps)
unfolding AreFirst
steps-first [] = tt
steps-first (step.Drop i ∷ steps) = (refl, steps-first steps)
steps-first (step.Red g f m r ∷ steps) = (refl, steps-first steps)
steps-first (step.Tail f r ∷ steps) = (refl, steps-first steps)

chain-first : (chain : List ChainStep) → AreFirst (map line.Chain chain)
unfolding AreFirst
chain-first [] = tt
chain-first (c ∷ chain) = (refl, chain-first chain)

status-first : (s : LeafStatus) → AreFirst (status_line s ∷ [])
unfolding AreFirst
status-first status.Proved = (refl, tt)
status-first (status.Remainder k r) = (refl, tt)
status-first (status.Unreduced k why f) = (refl, tt)

lists-first : (p : Piece) → AreFirst (list_lines p)
lists-first p = first-append (map line.Eq p.eqs) (map line.Ne p.nes) (polynomials-first line.Eq (λ q. refl) p.eqs) (polynomials-first line.Ne (λ q. refl) p.nes)

outcome-first : (p : Piece) (x : Outcome) → AreFirst (outcome_lines p x)
unfolding AreFirst
outcome-first p (outcome.Split f initial) = (refl, tt)
outcome-first p (outcome.Close i) = (refl, tt)
outcome-first p (outcome.Clash i j) = (refl, tt)
outcome-first p (outcome.System chain s) = (refl, first-append (list_lines p) _ (lists-first p) (first-append (map line.Chain chain) _ (chain-first chain) (status-first s)))
outcome-first p (outcome.Open why what) = (refl, lists-first p)

pieces-first : (ps : List Piece) → AreFirst (flat_map piece_lines ps)
unfolding AreFirst
pieces-first [] = tt
pieces-first (p ∷ ps) =
    first-append (piece_lines p) (flat_map piece_lines ps) (refl, first-append (map step_line p.steps) _ (steps-first p.steps) (outcome-first p p.outcome)) (pieces-first ps)

proof-first : (k : ℕ) (p : Proof) → AreFirst (proof_lines k p)
unfolding AreFirst
proof-first k p =
    let hyps = polynomials-first line.Hyp (λ q. refl) p.problem.hyps in
    let cons = polynomials-first line.Con (λ q. refl) p.problem.cons in
    let behind =
    first-append (map line.Hyp p.problem.hyps ++ map line.Con p.problem.cons) (flat_map piece_lines p.tree.pieces ++ line.Verdict p.verdict ∷ [])
    (first-append (map line.Hyp p.problem.hyps) (map line.Con p.problem.cons) hyps cons)
    (first-append (flat_map piece_lines p.tree.pieces) (line.Verdict p.verdict ∷ []) (pieces-first p.tree.pieces) (refl, tt))
    in (refl, (refl, behind))

pub proofs-first : (k : ℕ) (ps : List Proof) → AreFirst (proofs_lines k ps ++ line.End ∷ [])
unfolding AreFirst proofs_lines
proofs-first k [] = (refl, tt)
proofs-first k (p ∷ ps) =
    subst AreFirst (sym (append_assoc (proof_lines k p) (proofs_lines (suc k) ps) (line.End ∷ []))) (first-append (proof_lines k p) _ (proof-first k p) (proofs-first (suc k) ps))

pub head-first : (version n : ℕ) (rest : List LogLine) → AreFirst rest → AreFirst (line.Head version ∷ line.Proves n ∷ rest)
unfolding AreFirst
head-first version n rest h = (refl, (refl, h))
