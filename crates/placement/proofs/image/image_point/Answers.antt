use Rattle.std.proofs.Common.{◌≡◌, ◌+◌, ◌++◌, suc, sym, ◌∙◌, ap, subst, arith, refl}
use Rattle.poly_model.specs.Domain.{integers}
use Rattle.placement.specs.Images.{AreBounded}
use Rattle.placement.specs.Placing.{frame_with, listed, listed_to}
use Rattle.placement.proofs.image.image_point.Goals as goal

pub loop-i-init : goal.loop-i-init
unfolding listed_to
loop-i-init c = record { value = c.new-point.ensures.items; bounded = subst AreBounded (sym c.new-point.ensures.items) refl }

pub loop-i-preserved : goal.loop-i-preserved
unfolding listed_to
loop-i-preserved c =
    let r = frame_with c.frame_of-frame.result.0 c.frame_of-frame.result.1 in
    let figure = c.args.figure.now in
    let frees = c.args.frees.now in
    let more : suc c.loop-i.i ≡ c.loop-i.i + 1 = omega arith in
    record {
      value = c.in_ok-push_listed.ensures.items
          ∙ ap (λ l. l ++ listed integers r figure frees c.loop-i.i) c.loop-i.invariant.value
          ∙ ap (listed_to integers r figure frees) more;
      bounded = c.in_ok-push_listed.ensures.bounded;
    }

pub returns : goal.returns
returns c =
    let figure = c.args.figure.now in
    let frees = c.args.frees.now in
    let all : c.loop-i.i ≡ c.args.count = omega (arith, c.loop-i-test.false, c.loop-i.auto.i-end) in
    record {
      value = c.loop-i.invariant.value
          ∙ ap (λ r. listed_to integers r figure frees c.loop-i.i) c.frame_of-frame.ensures.value
          ∙ ap (listed_to integers _ figure frees) all;
      bounded = c.loop-i.invariant.bounded;
    }
