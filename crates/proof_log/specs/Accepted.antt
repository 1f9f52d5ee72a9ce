-- Accepted logs.
use Rattle.std.specs.Prelude.{◌≡◌, ℕ, List, [], ◌∷◌, length, IsTrue}
use Rattle.std.specs.List.{list_all}
use Rattle.proof_log.specs.Headings.{Heading, share_of}
use Rattle.proof_steps.specs.Stated.{is_own_part}
use Rattle.proof_steps.specs.Trees.{is_tree_of}
use Rattle.verdicts.specs.Verdicts.{verdict_of}
use Rattle.proof_log.specs.declared.log.Proof.{Proof}

-- A proof by rules of a version, with so much fuel.
pub record IsAcceptedProof (version fuel : ℕ) (p : Proof) : Type 0 where
  pub hyps : IsTrue (list_all is_own_part p.problem.hyps)
  pub cons : IsTrue (list_all is_own_part p.problem.cons)
  pub tree : IsTrue (is_tree_of version p.problem fuel p.tree.pieces)
  pub verdict : p.verdict ≡ verdict_of p.tree.pieces

unfoldable pub AreAccepted : (version fuel : ℕ) → List Proof → Type 0
AreAccepted version fuel [] = Unit {0}
AreAccepted version fuel (p ∷ ps) = IsAcceptedProof version fuel p × AreAccepted version fuel ps

-- An accepted log: each proof has an equal share of the fuel.
abbrev pub IsAccepted : Heading → List Proof → Type 0
IsAccepted h log = AreAccepted h.version (share_of h.fuel (length log)) log
