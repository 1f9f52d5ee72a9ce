use Rattle.std.proofs.Common.{rules, ◌≡◌, ◌<◌, sym, ◌∙◌, subst}
use Rattle.std.specs.Prelude.{unsigned_abs}
use Rattle.std.proofs.lemmas.Int.{to_z-of_z}
use Rattle.std.proofs.lemmas.Nat.Gcd.{same_from_IsGcd}
use mir.Syntax.{w128}
use mir.Val.{SFits}
use Rattle.poly_model.specs.Content.{gcd}
use Rattle.poly_model.proofs.Contents.{gcd-is}
use Rattle.sample_point.proofs.Tried.{divisor-positive, size-positive}
use Rattle.sample_point.proofs.tries.common_divisor.Goals as goal

pub returns-clause-value : goal.returns-clause-value
returns-clause-value c =
    let a = c.size_of-size.result in
    let b = c.size_of-other.result in
    let first : SFits w128 c.args.d = search rules in
    let second : SFits w128 c.args.n = search rules in
    let d : a ≡ unsigned_abs c.args.d = simp to_z-of_z at c.size_of-size.ensures in
    let n : b ≡ unsigned_abs c.args.n = simp to_z-of_z at c.size_of-other.ensures in
    same_from_IsGcd a b _ _ c.gcd.ensures (gcd-is a b) ∙ (λ i. gcd (d i) (n i))

pub returns-clause-some : goal.returns-clause-some
returns-clause-some c far =
    let first : SFits w128 c.args.d = search rules in
    let d : c.size_of-size.result ≡ unsigned_abs c.args.d = simp to_z-of_z at c.size_of-size.ensures in
    divisor-positive c.size_of-size.result c.gcd.result (subst (λ n. 0 < n) (sym d) (size-positive c.args.d far)) c.gcd.ensures.0
