use Rattle.std.proofs.Common.{◌≡◌, ◌<◌, ◌∙◌, ℕ, get_or, length, List, ap, sym, subst, arith}
use Rattle.construct.specs.Spots.{positions_of}
use Rattle.gcl_names.specs.declared.program.Act.{Act}
use Rattle.picture.specs.Drawing.{Sketch, blank, drawn_from}
use Rattle.picture.proofs.Sounding.{draws-sound, names-sound}
use Rattle.picture.proofs.Steps.{drawn-next, drawn-all}
use Rattle.picture.proofs.drawing.sketch.Goals as goal

pub draw_deed-requires-clause-used : goal.draw_deed-requires-clause-used
draw_deed-requires-clause-used c =
    let acts = c.as_slice-acts.ensures in
    let lt : c.loop-act.act-index < length c.args.program.now.acts = subst (λ l. c.loop-act.act-index < length l) acts (omega arith) in
    draws-sound c.args.program.now (positions_of c.args.spots.now) c.loop-act.act-index c.act-item.result c.requires.sound c.requires.placed lt
    (subst (λ (l : List Act). c.act-item.result ≡ get_or l c.loop-act.act-index c.act-item.result) acts c.act-item.is)

pub draw_deed-requires-clause-named : goal.draw_deed-requires-clause-named
draw_deed-requires-clause-named c =
    omega (arith, names-sound c.args.program.now (positions_of c.args.spots.now) c.requires.sound c.requires.placed, c.loop-act.invariant.names)

pub loop-act-preserved : goal.loop-act-preserved
loop-act-preserved c = record {
  rest = drawn-next c.args.a.now (positions_of c.args.spots.now) c.as_slice-acts.result.now c.loop-act.act-index c.act-item.result _ _ (omega arith) c.act-item.is
      (ap (λ (v : ℕ × Sketch). v.1) c.in_ok-draw_deed.ensures) ∙ c.loop-act.invariant.rest;
  names = ap (λ (v : ℕ × Sketch). v.0) c.in_ok-draw_deed.ensures ∙ c.loop-act.invariant.names;
}

pub returns : goal.returns
returns c =
    let shapes = sym (drawn-all c.args.a.now (positions_of c.args.spots.now) c.as_slice-acts.result.now c.loop-act.act-index c.loop-act.canvas.1 (omega arith))
    ∙ c.loop-act.invariant.rest ∙ ap (λ l. drawn_from c.args.a.now (positions_of c.args.spots.now) l blank) c.as_slice-acts.ensures in
    λ i. (c.loop-act.invariant.names i, shapes i)
