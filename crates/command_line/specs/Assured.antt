-- What the checker's yes says of a log, whoever wrote it: over the operations of a domain, of each of its proofs.
use Rattle.std.specs.Prelude.{◌≡◌, ℕ, List, [], All}
use Rattle.poly_model.specs.Domain.{Operations}
use Rattle.verdicts.specs.Claims.{Covers, Claims}
use Rattle.proof_log.specs.Headings.{Heading, IsHeading}
use Rattle.proof_log.specs.Lines.{log_lines, LogWritten}
use Rattle.proof_log.specs.Text.{AreLines, text_of}
use Rattle.proof_log.specs.declared.log.Proof.{Proof}

-- The bytes are the text of a log of these proofs.
pub record Spells (bytes : List ℕ) (proofs : List Proof) : Type 0 where
  pub heading : Heading
  pub stated : IsHeading heading
  pub written : LogWritten proofs
  pub lines : AreLines [] (log_lines heading proofs)
  pub text : bytes ≡ text_of [] (log_lines heading proofs)

-- A point is a zero of the problem's hypotheses exactly if it satisfies the equations and conditions of some listed leaf.
-- And what the verdict claims is so: proved, or proved under C, says that each zero of the hypotheses at which no
-- polynomial of C is zero is a zero of the conclusions.
pub record IsAssuredProof {M : Type 0} (o : Operations M) (p : Proof) : Type 0 where
  pub covers : Covers o p.problem p.tree.pieces
  pub claims : Claims o p.problem p.verdict

-- The bytes are the text of a log of some proofs and of no others, and each of these is assured.
pub record IsAssuredLog {M : Type 0} (o : Operations M) (bytes : List ℕ) : Type 0 where
  pub proofs : List Proof
  pub spelled : Spells bytes proofs
  pub only : (others : List Proof) → Spells bytes others → others ≡ proofs
  pub assured : All (IsAssuredProof o) proofs
