-- A line that a construction makes is one.
use Rattle.std.proofs.Common.{◌≢◌, ◌⊎◌, inl, inr, zero, suc, arith}
use Rattle.std.specs.Prelude.{ℤ, pos, negsuc, ◌*ℤ◌, ◌+ℤ◌, ◌<ℤ◌}
use Rattle.std.proofs.lemmas.Int.{ints}
use Rattle.fixed_point.specs.declared.curve.LineEq.{LineEq}
use Rattle.circle_cut.specs.Vectors.{sq, dot}
use Rattle.circle_cut.specs.Lines.{normal}
use Rattle.circle_cut.specs.Sizes.{IsLaid}
use Rattle.line_clip.specs.Sizes.{IsLine}
use Rattle.picture.specs.Drawing.{line_of}

two-ways : (a b : ℤ) → pos 0 <ℤ (a *ℤ a +ℤ b *ℤ b) → (a ≢ pos 0) ⊎ (b ≢ pos 0)
two-ways (pos zero) (pos zero) p = absurd (omega (arith, ints, p))
two-ways (pos zero) (pos (suc b)) p = inr (λ e. cc)
two-ways (pos zero) (negsuc b) p = inr (λ e. cc)
two-ways (pos (suc a)) b p = inl (λ e. cc)
two-ways (negsuc a) b p = inl (λ e. cc)

pub some_way : (l : LineEq) → pos 0 <ℤ sq (normal l) → (l.n1 ≢ pos 0) ⊎ (l.n2 ≢ pos 0)
unfolding sq dot normal
some_way l p = two-ways l.n1 l.n2 p

pub is_line : (l : LineEq) → IsLaid l → IsLine (line_of l)
is_line l h = record { some = some_way l h.some; size_1 = h.plain.n1; size_2 = h.plain.n2; size_c = h.plain.c }
