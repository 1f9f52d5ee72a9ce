-- The chain of the conclusions in the middle of the work.
use Rattle.std.specs.Prelude.{◌≡◌, ◌≤◌, ◌+◌, ◌-◌, ℕ, suc, List, ◌∷◌, ◌++◌, length, Option, Some, None}
use Rattle.poly_model.specs.Polynomial.{Polynomial}
use Rattle.proof_steps.specs.Chain.{chain_of, chain_within}
use Rattle.proof_steps.specs.declared.piece.ChainStep.{ChainStep}
use Rattle.proof_steps.specs.declared.piece.LeafStatus.{LeafStatus}

-- The steps that were made, and the chain of what is left with what is left of the fuel, are the chain of the conclusions.
pub record Chains (E cons : List Polynomial) (fuel k : ℕ) (ps : List Polynomial) (steps : List ChainStep) (left : ℕ) : Type 0 where
  pub paid : left + length steps ≤ fuel
  pub same : chain_of E cons fuel
      ≡ (steps ++ (chain_within (suc (fuel - length steps)) E k ps left).0, (chain_within (suc (fuel - length steps)) E k ps left).1)

-- What the reduction of the k-th conclusion comes to: it is 0, and the next ones are left, or the chain is done.
abbrev pub Ends : (E cons : List Polynomial) → (fuel k : ℕ) → List Polynomial → List ChainStep → ℕ → Option LeafStatus → Type 0
Ends E cons fuel k rest steps left None = Chains E cons fuel (suc k) rest steps left
Ends E cons fuel k rest steps left (Some status) = chain_of E cons fuel ≡ (steps, status)

-- The same for all conclusions that may follow.
abbrev pub Comes : List Polynomial → ℕ → Polynomial → List ChainStep → ℕ → List ChainStep → ℕ → Option LeafStatus → Type 0
Comes E k p before fuel after left o =
    (cons rest : List Polynomial) → (whole : ℕ) → Chains E cons whole k (p ∷ rest) before fuel → Ends E cons whole k rest after left o

-- The polynomial is reduced so far to another one.
abbrev pub Goes : List Polynomial → ℕ → Polynomial → List ChainStep → ℕ → Polynomial → List ChainStep → ℕ → Type 0
Goes E k p before fuel q after left =
    (cons rest : List Polynomial) → (whole : ℕ) → Chains E cons whole k (p ∷ rest) before fuel → Chains E cons whole k (q ∷ rest) after left
