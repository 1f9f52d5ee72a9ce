use Rattle.std.proofs.Common.{◌≡◌, ◌∙◌, ap, arith, refl, sym}
use Rattle.gcl_names.specs.Sound.{nothing}
use Rattle.algebraize.specs.Layout.{new_points}
use Rattle.placement.specs.Images.{count_of}
use Rattle.placement.proofs.Counting.{left-next, left-few, left-none}
use Rattle.placement.proofs.image.points_made.Goals as goal

pub loop-act-init : goal.loop-act-init
loop-act-init c = record { before = nothing; points = refl; follow = c.requires.follow; all = refl }

pub overflow_add-count : goal.overflow_add-count
overflow_add-count c =
    let made : count_of (new_points c.in-Some.act.now.deed) ≡ c.count_of-count.result =
    ap count_of (sym c.new_points.ensures) ∙ sym c.count_of-count.ensures.value in
    let next = left-next _ _ _ _ _ c.in-Some.act.now c.in-Some.ensures.cases.0 made c.loop-act.invariant in
    omega (arith, left-few _ _ _ next, c.requires.few)

pub loop-act-preserved : goal.loop-act-preserved
loop-act-preserved c =
    let made : count_of (new_points c.in-Some.act.now.deed) ≡ c.count_of-count.result =
    ap count_of (sym c.new_points.ensures) ∙ sym c.count_of-count.ensures.value in
    left-next _ _ _ _ _ c.in-Some.act.now c.in-Some.ensures.cases.0 made c.loop-act.invariant

pub returns : goal.returns
returns c = left-none _ _ _ c.in_default.ensures.cases c.loop-act.invariant
