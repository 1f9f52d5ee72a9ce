use Rattle.std.proofs.Common.{◌≡◌, ◌+◌, ℕ, List, sym, ap, ◌∙◌, arith}
use Rattle.fixed_point.specs.declared.spot.Spot.{Spot}
use Rattle.desk_io.proofs.Growth.{Grew-more}
use Rattle.desk_io.proofs.Writing.{next_failed}
use Rattle.picture.specs.declared.shape.Ink.{Ink}
use Rattle.latex_out.specs.Dashes.{length_of, gaps_in}
use Rattle.latex_out.specs.Latex.{in_turn, dash_text, dashed_text}
use Rattle.latex_out.proofs.Turns.{turn-more, turn-split, Grew-start}
use Rattle.latex_out.proofs.writing.write_dashed.Goals as goal

-- the dashes between n gaps
dashed-is : (ink : Ink) (a b : Spot) (n : ℕ) → n ≡ gaps_in (length_of a b) → dashed_text ink a b ≡ in_turn (dash_text ink a b (n + 1 + n)) (n + 1)
unfolding dashed_text
dashed-is ink a b n e = ap (λ k. in_turn (dash_text ink a b (k + 1 + k)) (k + 1)) (sym e)

pub loop-i-init : goal.loop-i-init
loop-i-init g c = record {
  within = omega arith;
  later = omega arith;
  grew = Grew-start (dash_text c.args.ink c.args.a.now c.args.b.now (c.gaps_in-gaps.result + 1 + c.gaps_in-gaps.result)) _ _;
}

pub returns-in_err-write_dash-clause-bytes : goal.returns-in_err-write_dash-clause-bytes
returns-in_err-write_dash-clause-bytes g c =
    let gaps : ℕ = c.gaps_in-gaps.result in
    let text : ℕ → List ℕ = dash_text c.args.ink c.args.a.now c.args.b.now (gaps + 1 + gaps) in
    let s = turn-split text c.loop-i.i (gaps + 1) (omega arith) in
    next_failed _ _ _ _ _ _ _ (in_turn text c.loop-i.i) (text c.loop-i.i) s.0 _ c.from_residual.ensures.0 c.loop-i.invariant.grew c.in_err-write_dash.ensures.bytes
    (dashed-is c.args.ink c.args.a.now c.args.b.now gaps c.gaps_in-gaps.ensures.value ∙ s.1)

pub loop-i-preserved : goal.loop-i-preserved
loop-i-preserved g c =
    let gaps : ℕ = c.gaps_in-gaps.result in
    let text : ℕ → List ℕ = dash_text c.args.ink c.args.a.now c.args.b.now (gaps + 1 + gaps) in
    record {
      within = omega arith;
      later = omega (arith, c.in_ok-write_dash.ensures.cause.later);
      grew = Grew-more _ _ _ _ _ _ (in_turn text c.loop-i.i) (text c.loop-i.i) _ c.loop-i.invariant.grew c.in_ok-write_dash.ensures.bytes (turn-more text c.loop-i.i);
    }
