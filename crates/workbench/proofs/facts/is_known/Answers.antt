use Rattle.std.proofs.Common.{◌∙◌, sym}
use Rattle.poly_model.specs.Reduction.{is_nonzero_constant, has_polynomial}
use Rattle.std.specs.Prelude.{◌||◌}
use Rattle.term_store.proofs.Making as making
use Rattle.workbench.proofs.Owning as owning
use Rattle.workbench.proofs.Benches as benches
use Rattle.workbench.proofs.facts.is_known.Goals as goal

pub is_given-known-requires-clause-held : goal.is_given-known-requires-clause-held
is_given-known-requires-clause-held g c = benches.held-within _ _ _ (owning.within-makes _ _ _ c.primitive_initial-initial.ensures.makes) c.requires.held

pub is_given-known-requires-clause-p : goal.is_given-known-requires-clause-p
is_given-known-requires-clause-p g c = benches.gives-poly _ _ _ _ c.primitive_initial-initial.ensures

pub give_up-requires : goal.give_up-requires
give_up-requires g c = making.makes-live _ _ _ c.primitive_initial-initial.ensures.makes

pub returns-clause-value : goal.returns-clause-value
returns-clause-value g c =
    let s = g.S.TermStore.state c.args.s.now in
    let t = g.S.TermStore.state c.primitive_initial-initial.new.s in
    let nes = benches.seen t s c.args.nes.now (owning.within-makes _ _ _ c.primitive_initial-initial.ensures.makes) c.requires.held.live in
    c.is_given-known.ensures ∙ (λ i. is_nonzero_constant (c.primitive_initial-initial.ensures.value i) || has_polynomial (sym nes i) (c.primitive_initial-initial.ensures.value i))

pub returns-clause-kept : goal.returns-clause-kept
returns-clause-kept g c = making.makes-freed _ _ _ _ c.primitive_initial-initial.ensures.makes c.give_up.ensures.lists c.give_up.ensures.spare
