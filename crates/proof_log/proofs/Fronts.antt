-- The places between lines, and what of a log lies before them.
use Rattle.std.proofs.Common.{◌≡◌, ℕ, ◌+◌, ◌-◌, ◌<◌, ◌≤◌, suc, List, [], ◌∷◌, ◌++◌, map, length, Bool, true, false, refl, sym, ◌∙◌, ap, arith, append_assoc, append-nil, subst, length-append}
use Rattle.std.specs.List.{flat_map}
use Rattle.std.proofs.lemmas.List.{map-append}
use Rattle.poly_model.specs.Polynomial.{Polynomial}
use Rattle.poly_model.specs.declared.limits.TheConstants.{MOST_HYPOTHESES, MOST_CONCLUSIONS}
use Rattle.poly_model.specs.declared.limits.Reason.{Reason}
use Rattle.poly_model.specs.declared.vars.VarName.{VarName}
use Rattle.proof_steps.specs.declared.piece.Piece.{Piece}
use Rattle.proof_steps.specs.declared.piece.ChainStep.{ChainStep}
use Rattle.proof_steps.specs.declared.problem.Problem.{Problem}
use Rattle.proof_steps.specs.declared.step.Attempt.{Attempt}
use Rattle.proof_steps.specs.declared.step.Step.{Step}
use Rattle.proof_log.specs.declared.line.LogLine.{LogLine}
use Rattle.proof_log.specs.declared.line.LogLine.TheVariants as line
use Rattle.proof_log.specs.declared.log.Proof.{Proof}
use Rattle.proof_log.specs.Grammar.{IsSized, AreProofs, IsLog}
use Rattle.proof_log.specs.Headings.{Heading}
use Rattle.proof_log.specs.Lines.{heading_lines, step_line, piece_lines, problem_lines, proof_lines, proofs_lines, PieceWritten, PiecesWritten, LogWritten}

-- ---- what lies before a place, where a log has n proofs and so many are left
pub record Before (n left : ℕ) : Type 0 where
  pub heading : Heading
  pub done : List Proof
  pub fits : IsLog done
  pub count : length done + left ≡ n

abbrev pub begun : (n left : ℕ) → Before n left → List LogLine
begun n left b = heading_lines b.heading ++ (line.Proves n ∷ proofs_lines 1 b.done)

pub record Between (n left : ℕ) (ls : List LogLine) : Type 0 where
  pub before : Before n left
  pub lines : ls ≡ begun n left before

-- the number of the proof that has begun
abbrev pub this : (n left : ℕ) → Before n (suc left) → ℕ
this n left b = suc (length b.done)

pub record Named (n left : ℕ) (ls : List LogLine) : Type 0 where
  pub before : Before n (suc left)
  pub lines : ls ≡ begun n (suc left) before ++ line.Prove (this n left before) ∷ []

abbrev pub head_lines : ℕ → List VarName → List Polynomial → List Polynomial → List LogLine
head_lines k vars hyps cons = line.Prove k ∷ line.Vars vars ∷ (map line.Hyp hyps ++ map line.Con cons)

pub record Hyps (n left h : ℕ) (ls : List LogLine) : Type 0 where
  pub before : Before n (suc left)
  pub vars : List VarName
  pub hyps : List Polynomial
  pub few : length hyps ≤ MOST_HYPOTHESES
  pub counted_so : h ≡ length hyps
  pub lines : ls ≡ begun n (suc left) before ++ line.Prove (this n left before) ∷ line.Vars vars ∷ map line.Hyp hyps

pub record Cons (n left c : ℕ) (ls : List LogLine) : Type 0 where
  pub before : Before n (suc left)
  pub problem : Problem
  pub sized : IsSized problem
  pub counted_so : c ≡ length problem.cons
  pub lines : ls ≡ begun n (suc left) before ++ line.Prove (this n left before) ∷ problem_lines problem

-- a proof with its problem, pieces, and the lines of a piece that has begun
pub record Pieces (n left : ℕ) (ls tail : List LogLine) : Type 0 where
  pub before : Before n (suc left)
  pub problem : Problem
  pub sized : IsSized problem
  pub pieces : List Piece
  pub written : PiecesWritten problem.cons pieces
  pub lines : ls ≡ begun n (suc left) before ++ ((line.Prove (this n left before) ∷ problem_lines problem) ++ (flat_map piece_lines pieces ++ tail))

abbrev pub steps_tail : List Bool → List Step → List LogLine
steps_tail path steps = line.Node path ∷ map step_line steps

pub record Steps (n left : ℕ) (ls : List LogLine) : Type 0 where
  pub path : List Bool
  pub steps : List Step
  pub before : Pieces n left ls (steps_tail path steps)

-- the line that lists stand behind: of a system, or of an open node, which is whole with its lists
abbrev pub Opens : Bool → LogLine → Type 0
Opens false o = o ≡ line.System
Opens true o = (reason : Reason) × (what : Attempt) × (o ≡ line.Open reason what)

pub record Eqs (whole : Bool) (n left : ℕ) (ls : List LogLine) : Type 0 where
  pub path : List Bool
  pub steps : List Step
  pub opener : LogLine
  pub opens : Opens whole opener
  pub eqs : List Polynomial
  pub before : Pieces n left ls (steps_tail path steps ++ opener ∷ map line.Eq eqs)

pub record Nes (whole : Bool) (n left : ℕ) (ls : List LogLine) : Type 0 where
  pub path : List Bool
  pub steps : List Step
  pub opener : LogLine
  pub opens : Opens whole opener
  pub eqs : List Polynomial
  pub nes : List Polynomial
  pub before : Pieces n left ls (steps_tail path steps ++ opener ∷ (map line.Eq eqs ++ map line.Ne nes))

pub record Chained (n left : ℕ) (ls : List LogLine) : Type 0 where
  pub path : List Bool
  pub steps : List Step
  pub eqs : List Polynomial
  pub nes : List Polynomial
  pub chain : List ChainStep
  pub before : Pieces n left ls (steps_tail path steps ++ line.System ∷ ((map line.Eq eqs ++ map line.Ne nes) ++ map line.Chain chain))

pub record Behind (n left : ℕ) (ls : List LogLine) : Type 0 where
  pub before : Pieces n left ls []
  pub some : 1 ≤ length before.pieces

-- ---- one line further
pub flat_snoc : (ps : List Piece) (p : Piece) → flat_map piece_lines (ps ++ p ∷ []) ≡ flat_map piece_lines ps ++ piece_lines p
flat_snoc [] p = append-nil (piece_lines p)
flat_snoc (q ∷ ps) p = ap (λ t. piece_lines q ++ t) (flat_snoc ps p) ∙ sym (append_assoc (piece_lines q) (flat_map piece_lines ps) (piece_lines p))

pub proofs_append : (k : ℕ) (a b : List Proof) → proofs_lines k (a ++ b) ≡ proofs_lines k a ++ proofs_lines (k + length a) b
unfolding proofs_lines
proofs_append k [] b = ap (λ j. proofs_lines j b) (let e : k ≡ k + 0 = omega arith in e)
proofs_append k (p ∷ a) b = ap (λ t. proof_lines k p ++ t) (proofs_append (suc k) a b ∙ ap (λ j. proofs_lines (suc k) a ++ proofs_lines j b) (let e : suc k + length a ≡ k + suc (length a) = omega arith in e)) ∙ sym (append_assoc (proof_lines k p) (proofs_lines (suc k) a) (proofs_lines (k + suc (length a)) b))

proofs_fit : (a b : List Proof) → AreProofs a → AreProofs b → AreProofs (a ++ b)
unfolding AreProofs
proofs_fit [] b f g = g
proofs_fit (p ∷ a) b f g = (f.0, f.1, proofs_fit a b f.2 g)

log_written : (a b : List Proof) → LogWritten a → LogWritten b → LogWritten (a ++ b)
log_written [] b f g = g
log_written (p ∷ a) b f g = (f.0, log_written a b f.1 g)

pub logs_append : (a b : List Proof) → IsLog a → IsLog b → IsLog (a ++ b)
logs_append a b f g = record { proofs = proofs_fit a b f.proofs g.proofs; written = log_written a b f.written g.written }

pieces_written : (cons : List Polynomial) (a : List Piece) (p : Piece) → PiecesWritten cons a → PieceWritten cons p → PiecesWritten cons (a ++ p ∷ [])
pieces_written cons [] p f g = (g, tt)
pieces_written cons (q ∷ a) p f g = (f.0, pieces_written cons a p f.1 g)

pub no_proofs : IsLog []
unfolding AreProofs
no_proofs = record { proofs = tt; written = tt }

pub one_log : (p : Proof) → IsSized p.problem → 1 ≤ length p.tree.pieces → PiecesWritten p.problem.cons p.tree.pieces → IsLog (p ∷ [])
unfolding AreProofs
one_log p s some w = record { proofs = (s, some, tt); written = (w, tt) }

pub one_proof : (k : ℕ) (p : Proof) → proofs_lines k (p ∷ []) ≡ proof_lines k p
unfolding proofs_lines
one_proof k p = append-nil (proof_lines k p)

pub add_proves : (h : Heading) (n : ℕ) (ls : List LogLine) → ls ≡ heading_lines h → Between n n (ls ++ line.Proves n ∷ [])
unfolding proofs_lines
add_proves h n ls e = record {
  before = record { heading = h; done = []; fits = no_proofs; count = omega arith };
  lines = ap (λ t. t ++ line.Proves n ∷ []) e;
}

pub add_prove : (n left m k : ℕ) (ls : List LogLine) → Between n left ls → left ≡ suc m → k ≡ n - left + 1 → Named n m (ls ++ line.Prove k ∷ [])
add_prove n left m k ls a e f =
    let g = a.before.count in
    let j : k ≡ suc (length a.before.done) = omega (arith, e, f, g) in
    record {
      before = record { heading = a.before.heading; done = a.before.done; fits = a.before.fits; count = omega (arith, e, g) };
      lines = ap (λ t. t ++ line.Prove k ∷ []) a.lines ∙ ap (λ i. begun n left a.before ++ line.Prove i ∷ []) j;
    }

pub add_vars : (n left : ℕ) (names : List VarName) (ls : List LogLine) → Named n left ls → Hyps n left 0 (ls ++ line.Vars names ∷ [])
add_vars n left names ls a = record {
  before = a.before;
  vars = names;
  hyps = [];
  few = omega arith;
  counted_so = refl;
  lines = ap (λ t. t ++ line.Vars names ∷ []) a.lines ∙ append_assoc (begun n (suc left) a.before) (line.Prove (this n left a.before) ∷ []) (line.Vars names ∷ []);
}

pub add_hyp : (n left h : ℕ) (p : Polynomial) (ls : List LogLine) → Hyps n left h ls → h < MOST_HYPOTHESES → Hyps n left (h + 1) (ls ++ line.Hyp p ∷ [])
add_hyp n left h p ls a few =
    let c = a.counted_so in
    let l = length-append a.hyps (p ∷ []) in
    record {
      before = a.before;
      vars = a.vars;
      hyps = a.hyps ++ p ∷ [];
      few = omega (arith, few, c, l);
      counted_so = omega (arith, c, l);
      lines = ap (λ t. t ++ line.Hyp p ∷ []) a.lines ∙ append_assoc (begun n (suc left) a.before) (line.Prove (this n left a.before) ∷ line.Vars a.vars ∷ map line.Hyp a.hyps) (line.Hyp p ∷ [])
          ∙ ap (λ t. begun n (suc left) a.before ++ line.Prove (this n left a.before) ∷ line.Vars a.vars ∷ t) (sym (map-append line.Hyp a.hyps (p ∷ [])));
    }

pub first_con : (n left h : ℕ) (p : Polynomial) (ls : List LogLine) → Hyps n left h ls → Cons n left 1 (ls ++ line.Con p ∷ [])
first_con n left h p ls a =
    let problem : Problem = record { vars = a.vars; hyps = a.hyps; cons = p ∷ [] } in
    record {
      before = a.before;
      problem = problem;
      sized = record { hyps = a.few; one = omega arith; two = omega arith };
      counted_so = refl;
      lines = ap (λ t. t ++ line.Con p ∷ []) a.lines ∙ append_assoc (begun n (suc left) a.before) (line.Prove (this n left a.before) ∷ line.Vars a.vars ∷ map line.Hyp a.hyps) (line.Con p ∷ []);
    }

pub next_con : (n left c : ℕ) (p : Polynomial) (ls : List LogLine) → Cons n left c ls → c < MOST_CONCLUSIONS → Cons n left (c + 1) (ls ++ line.Con p ∷ [])
next_con n left c p ls a few =
    let problem : Problem = record { vars = a.problem.vars; hyps = a.problem.hyps; cons = a.problem.cons ++ p ∷ [] } in
    let k = a.counted_so in
    let l = length-append a.problem.cons (p ∷ []) in
    record {
      before = a.before;
      problem = problem;
      sized = record { hyps = a.sized.hyps; one = omega (arith, l); two = omega (arith, few, k, l) };
      counted_so = omega (arith, k, l);
      lines = ap (λ t. t ++ line.Con p ∷ []) a.lines ∙ append_assoc (begun n (suc left) a.before) (line.Prove (this n left a.before) ∷ problem_lines a.problem) (line.Con p ∷ [])
          ∙ ap (λ t. begun n (suc left) a.before ++ line.Prove (this n left a.before) ∷ line.Vars a.problem.vars ∷ t)
          (append_assoc (map line.Hyp a.problem.hyps) (map line.Con a.problem.cons) (line.Con p ∷ []) ∙ ap (λ t. map line.Hyp a.problem.hyps ++ t) (sym (map-append line.Con a.problem.cons (p ∷ []))));
    }

pub first_node : (n left c : ℕ) (path : List Bool) (ls : List LogLine) → Cons n left c ls → Steps n left (ls ++ line.Node path ∷ [])
first_node n left c path ls a = record {
  path = path;
  steps = [];
  before = record {
    before = a.before;
    problem = a.problem;
    sized = a.sized;
    pieces = [];
    written = tt;
    lines = ap (λ t. t ++ line.Node path ∷ []) a.lines ∙ append_assoc (begun n (suc left) a.before) (line.Prove (this n left a.before) ∷ problem_lines a.problem) (line.Node path ∷ []);
  };
}

-- a line behind the lines of a piece
snoc : (a b c d e : List LogLine) → (a ++ (b ++ (c ++ d))) ++ e ≡ a ++ (b ++ (c ++ (d ++ e)))
snoc a b c d e = simp append_assoc

pub added : (n left : ℕ) (ls tail next : List LogLine) (l : LogLine) (a : Pieces n left ls tail) → tail ++ l ∷ [] ≡ next
    → ls ++ l ∷ [] ≡ begun n (suc left) a.before ++ ((line.Prove (this n left a.before) ∷ problem_lines a.problem) ++ (flat_map piece_lines a.pieces ++ next))
added n left ls tail next l a e = ap (λ t. t ++ l ∷ []) a.lines ∙ snoc (begun n (suc left) a.before) (line.Prove (this n left a.before) ∷ problem_lines a.problem) (flat_map piece_lines a.pieces) tail (l ∷ [])
    ∙ ap (λ t. begun n (suc left) a.before ++ ((line.Prove (this n left a.before) ∷ problem_lines a.problem) ++ (flat_map piece_lines a.pieces ++ t))) e

abbrev pub add : (n left : ℕ) (ls tail next : List LogLine) (l : LogLine) → Pieces n left ls tail → tail ++ l ∷ [] ≡ next → Pieces n left (ls ++ l ∷ []) next
add n left ls tail next l a e = record { before = a.before; problem = a.problem; sized = a.sized; pieces = a.pieces; written = a.written; lines = added n left ls tail next l a e }

pub tail_is : (n left : ℕ) (ls tail next : List LogLine) → Pieces n left ls tail → tail ≡ next → Pieces n left ls next
tail_is n left ls tail next a e = subst (Pieces n left ls) e a

-- the lines of a piece that is whole
pub whole_piece : (n left : ℕ) (ls tail : List LogLine) (p : Piece) (a : Pieces n left ls tail) → tail ≡ piece_lines p → PieceWritten a.problem.cons p → Behind n left ls
whole_piece n left ls tail p a e w = record {
  before = record {
    before = a.before;
    problem = a.problem;
    sized = a.sized;
    pieces = a.pieces ++ p ∷ [];
    written = pieces_written a.problem.cons a.pieces p a.written w;
    lines = a.lines ∙ ap (λ t. begun n (suc left) a.before ++ ((line.Prove (this n left a.before) ∷ problem_lines a.problem) ++ t))
        (ap (λ t. flat_map piece_lines a.pieces ++ t) e ∙ sym (append-nil _ ∙ flat_snoc a.pieces p));
  };
  some = let l = length-append a.pieces (p ∷ []) in omega (arith, l);
}
