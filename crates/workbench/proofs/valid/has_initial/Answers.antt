use Rattle.std.proofs.Common.{◌∙◌, sym}
use Rattle.poly_model.specs.Reduction.{has_polynomial}
use Rattle.term_store.proofs.Making as making
use Rattle.workbench.proofs.Owning as owning
use Rattle.workbench.proofs.Benches as benches
use Rattle.workbench.proofs.Choice as choice
use Rattle.workbench.proofs.Validity as validity
use Rattle.workbench.proofs.valid.has_initial.Goals as goal

pub is_equation-found-requires-clause-hs : goal.is_equation-found-requires-clause-hs
is_equation-found-requires-clause-hs g c =
    choice.found-within (g.S.TermStore.state c.args.s.now) (g.S.TermStore.state c.primitive_initial-initial.new.s) c.args.hs.now (owning.within-makes _ _ _ c.primitive_initial-initial.ensures.makes) c.requires.hs

pub is_equation-found-requires-clause-p : goal.is_equation-found-requires-clause-p
is_equation-found-requires-clause-p g c = benches.gives-poly _ _ _ _ c.primitive_initial-initial.ensures

pub give_up-requires : goal.give_up-requires
give_up-requires g c = making.makes-live _ _ _ c.primitive_initial-initial.ensures.makes

pub returns-clause-value : goal.returns-clause-value
returns-clause-value g c =
    let s = g.S.TermStore.state c.args.s.now in
    let t = g.S.TermStore.state c.primitive_initial-initial.new.s in
    let eqs = benches.seen-held t s c.args.hs.now (owning.within-makes s t _ c.primitive_initial-initial.ensures.makes) (validity.found-live s c.args.hs.now c.requires.hs) in
    c.is_equation-found.ensures ∙ (λ i. has_polynomial (sym eqs i) (c.primitive_initial-initial.ensures.value i))

pub returns-clause-kept : goal.returns-clause-kept
returns-clause-kept g c = making.makes-freed _ _ _ _ c.primitive_initial-initial.ensures.makes c.give_up.ensures.lists c.give_up.ensures.spare
