-- Each proof of an accepted log is assured, and its text is that of no other.
use Rattle.std.proofs.Common.{ℕ, List, [], ◌∷◌, length, sym, ◌∙◌, subst}
use Rattle.std.specs.List.{AllByRecursion}
use Rattle.std.proofs.lemmas.List.Elements.{All-from_recursion}
use Rattle.poly_model.specs.Domain.{Operations}
use Rattle.assurance.specs.Assured.{TreesCover, VerdictsHold}
use Rattle.verdicts.specs.Claims.{Claims}
use Rattle.proof_log.specs.Accepted.{AreAccepted}
use Rattle.proof_log.specs.Headings.{share_of}
use Rattle.proof_log.specs.declared.log.Proof.{Proof}
use Rattle.proof_log.proofs.OneText.{one_log_text}
use Rattle.log_checker.specs.Answers.{IsAcceptedText}
use Rattle.command_line.specs.Assured.{Spells, IsAssuredProof, IsAssuredLog}

each_assured : {M : Type 0} (o : Operations M) → TreesCover o → VerdictsHold o → (version fuel : ℕ) (ps : List Proof)
    → AreAccepted version fuel ps → AllByRecursion (IsAssuredProof o) ps
unfolding AreAccepted
each_assured o cover hold version fuel [] a = tt
each_assured o cover hold version fuel (p ∷ ps) a = (
  record {
    covers = cover version p.problem fuel p.tree.pieces a.0.tree;
    claims = subst (Claims o p.problem) (sym a.0.verdict) (hold version p.problem fuel p.tree.pieces a.0.tree);
  },
  each_assured o cover hold version fuel ps a.1,
)

pub spelled : (bytes : List ℕ) (log : List Proof) → IsAcceptedText log bytes → Spells bytes log
spelled bytes log t = record { heading = t.heading; stated = t.stated; written = t.fits.written; lines = t.lines; text = t.text }

pub log_assured : {M : Type 0} (o : Operations M) → TreesCover o → VerdictsHold o → (bytes : List ℕ) (log : List Proof)
    → IsAcceptedText log bytes → IsAssuredLog o bytes
log_assured o cover hold bytes log t = record {
  proofs = log;
  spelled = spelled bytes log t;
  only = λ others s. (one_log_text s.heading t.heading others log s.stated t.stated s.written t.fits.written s.lines t.lines (sym s.text ∙ t.text)).1;
  assured = All-from_recursion (IsAssuredProof o) log (each_assured o cover hold t.heading.version (share_of t.heading.fuel (length log)) log t.accepted);
}
