use Rattle.std.proofs.Common.{◌≡◌, ◌<◌, ◌∙◌, get_or, length, List, ap, sym, subst, arith}
use Rattle.gcl_names.specs.declared.program.Act.{Act}
use Rattle.picture.specs.Drawing.{area_of}
use Rattle.picture.proofs.Sounding.{sized-sound}
use Rattle.picture.proofs.Steps.{area-next, area-all}
use Rattle.picture.proofs.drawing.area_of.Goals as goal

pub sized-a-requires-clause-size : goal.sized-a-requires-clause-size
sized-a-requires-clause-size c =
    let acts = c.as_slice-acts.ensures in
    let lt : c.loop-act.act-index < length c.args.program.now.acts = subst (λ l. c.loop-act.act-index < length l) acts (omega arith) in
    sized-sound c.args.program.now c.loop-act.act-index c.act-item.result c.requires lt
    (subst (λ (l : List Act). c.act-item.result ≡ get_or l c.loop-act.act-index c.act-item.result) acts c.act-item.is)

pub loop-act-preserved : goal.loop-act-preserved
loop-act-preserved c = record {
  rest = area-next c.as_slice-acts.result.now c.loop-act.act-index c.act-item.result _ _ (omega arith) c.act-item.is c.sized-a.ensures.value ∙ c.loop-act.invariant.rest;
  area = c.sized-a.ensures.area;
}

pub returns-clause-value : goal.returns-clause-value
returns-clause-value c =
    sym (area-all c.as_slice-acts.result.now c.loop-act.act-index _ (omega arith)) ∙ c.loop-act.invariant.rest ∙ ap area_of c.as_slice-acts.ensures
