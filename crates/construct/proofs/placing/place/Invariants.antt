use Rattle.std.proofs.Common.{◌≡◌, drop}
use Rattle.construct.specs.Placing.{after_acts, constructed_by}
use Rattle.construct.proofs.Acts.{SoFar}
use Rattle.construct.proofs.placing.place.Given as goal

abbrev pub invariant-loop-act : goal.invariant-loop-act
invariant-loop-act l = record {
  rest : after_acts (drop l.act-index l.acts) l.f ≡ constructed_by l.acts;
  so_far : SoFar l.f (drop l.act-index l.acts);
}
