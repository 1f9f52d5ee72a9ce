use Rattle.std.proofs.Common.{◌≤◌, length, sym, ap, subst, arith}
use Rattle.std.proofs.lemmas.List.{length-take-le}
use Rattle.gcl_names.specs.Sound.{Counts, AllFollow, after_all, nothing}
use Rattle.placement.proofs.Before.{follow-take, points-take, place-within}
use Rattle.placement.proofs.image.image_of.Goals as goal

pub slice_bounds-image_before-end : goal.slice_bounds-image_before-end
slice_bounds-image_before-end c =
    let acts = c.as_slice-acts.result.now in
    let within = subst (λ i. i ≤ length acts) (sym c.acts_before.ensures) (place-within c.args.prove acts) in
    sym (length-take-le c.acts_before.result acts within)

pub image_before-requires-clause-follow : goal.image_before-requires-clause-follow
image_before-requires-clause-follow c =
    follow-take nothing c.acts_before.result c.as_slice-acts.result.now (subst (AllFollow nothing) (sym c.as_slice-acts.ensures) c.requires.sound.follow)

pub image_before-requires-clause-few : goal.image_before-requires-clause-few
image_before-requires-clause-few c =
    let grown = points-take nothing c.acts_before.result c.as_slice-acts.result.now in
    let same = ap (λ acts. (after_all nothing acts).points) c.as_slice-acts.ensures in
    let counted = ap (λ (n : Counts). n.points) c.requires.sound.counts in
    omega (arith, grown, same, counted, c.requires.sound.points)
