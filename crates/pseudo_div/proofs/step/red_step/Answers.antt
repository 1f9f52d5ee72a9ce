use Rattle.std.proofs.Common.{◌∙◌, ap, subst, arith}
use Rattle.std.specs.Prelude.{Ok}
use Rattle.poly_model.specs.Reduction.{class_of, reaches, factor_of, initial_of, parts_of}
use Rattle.poly_model.specs.Bounded.{bounded_cross, bounded_reduction, and_then}
use Rattle.term_store.proofs.Making as making
use Rattle.polynomials.specs.Held.{slot_of, polynomial_at}
use Rattle.polynomials.proofs.Results as results
use Rattle.pseudo_div.specs.Answers.{Reduces}
use Rattle.pseudo_div.proofs.Reducing as reducing
use Rattle.pseudo_div.proofs.step.red_step.Goals as goal

pub factor-beside-requires-clause-g : goal.factor-beside-requires-clause-g
factor-beside-requires-clause-g g c = results.kept-poly _ _ (slot_of c.initial-lead.result) c.args.g c.initial-lead.ensures.makes c.requires.g

pub factor-beside-requires-clause-f : goal.factor-beside-requires-clause-f
factor-beside-requires-clause-f g c = results.kept-poly _ _ (slot_of c.initial-lead.result) c.args.f c.initial-lead.ensures.makes c.requires.f

pub factor-beside-requires-clause-class : goal.factor-beside-requires-clause-class
factor-beside-requires-clause-class g c =
    ap class_of (results.kept-value _ _ (slot_of c.initial-lead.result) c.args.f c.initial-lead.ensures.makes c.requires.f) ∙ c.requires.class

pub factor-beside-requires-clause-reaches : goal.factor-beside-requires-clause-reaches
factor-beside-requires-clause-reaches g c =
    let makes = c.initial-lead.ensures.makes in
    (λ i. reaches (results.kept-value _ _ (slot_of c.initial-lead.result) c.args.g makes c.requires.g i) (results.kept-value _ _ (slot_of c.initial-lead.result) c.args.f makes c.requires.f i))
    ∙ c.requires.reaches

pub factor-beside-requires-clause-room : goal.factor-beside-requires-clause-room
factor-beside-requires-clause-room g c =
    let spare = results.gives-spare _ _ c.initial-lead.result _ c.initial-lead.ensures in
    omega (arith, spare, c.requires.room)

pub reduce-outcome-requires-clause-g : goal.reduce-outcome-requires-clause-g
reduce-outcome-requires-clause-g g c =
    results.kept-poly _ _ (slot_of c.factor-beside.result) c.args.g c.factor-beside.ensures.makes
    (results.kept-poly _ _ (slot_of c.initial-lead.result) c.args.g c.initial-lead.ensures.makes c.requires.g)

pub reduce-outcome-requires-clause-f : goal.reduce-outcome-requires-clause-f
reduce-outcome-requires-clause-f g c =
    results.kept-poly _ _ (slot_of c.factor-beside.result) c.args.f c.factor-beside.ensures.makes
    (results.kept-poly _ _ (slot_of c.initial-lead.result) c.args.f c.initial-lead.ensures.makes c.requires.f)

pub reduce-outcome-requires-clause-lead : goal.reduce-outcome-requires-clause-lead
reduce-outcome-requires-clause-lead g c =
    results.kept-poly _ _ (slot_of c.factor-beside.result) c.initial-lead.result c.factor-beside.ensures.makes (results.made-poly _ _ _ _ c.initial-lead.ensures)

pub reduce-outcome-requires-clause-beside : goal.reduce-outcome-requires-clause-beside
reduce-outcome-requires-clause-beside g c = results.made-poly _ _ _ _ c.factor-beside.ensures

pub reduce-outcome-requires-clause-room : goal.reduce-outcome-requires-clause-room
reduce-outcome-requires-clause-room g c =
    let one = results.gives-spare _ _ c.initial-lead.result _ c.initial-lead.ensures in
    let two = results.gives-spare _ _ c.factor-beside.result _ c.factor-beside.ensures in
    omega (arith, one, two, c.requires.room)

pub free-requires : goal.free-requires
free-requires g c =
    results.live-at _ _ _ c.slot.ensures (reducing.reduces-live _ _ (slot_of c.factor-beside.result) _ _ c.reduce-outcome.ensures.answer (making.makes-live _ _ _ c.factor-beside.ensures.makes))

pub free-requires-2 : goal.free-requires-2
free-requires-2 g c =
    let s = g.S.TermStore.state c.args.s.now in
    let t = g.S.TermStore.state c.initial-lead.new.s in
    let u = g.S.TermStore.state c.factor-beside.new.s in
    let w = g.S.TermStore.state c.reduce-outcome.new.s in
    let x = g.S.TermStore.state c.free.new.self in
    let G = polynomial_at s c.args.g in
    let F = polynomial_at s c.args.f in
    let lead = c.initial-lead.result in
    let beside = c.factor-beside.result in
    let g-first = results.kept-value s t (slot_of lead) c.args.g c.initial-lead.ensures.makes c.requires.g in
    let f-first = results.kept-value s t (slot_of lead) c.args.f c.initial-lead.ensures.makes c.requires.f in
    let g-second = results.kept-value t u (slot_of beside) c.args.g c.factor-beside.ensures.makes (results.kept-poly s t (slot_of lead) c.args.g c.initial-lead.ensures.makes c.requires.g) ∙ g-first in
    let f-second = results.kept-value t u (slot_of beside) c.args.f c.factor-beside.ensures.makes (results.kept-poly s t (slot_of lead) c.args.f c.initial-lead.ensures.makes c.requires.f) ∙ f-first in
    let initial-second = results.kept-value t u (slot_of beside) lead c.factor-beside.ensures.makes (results.made-poly s t lead (initial_of F) c.initial-lead.ensures) ∙ c.initial-lead.ensures.value in
    let factor-second = c.factor-beside.ensures.value ∙ (λ i. factor_of (g-first i) (f-first i)) in
    let outcome = subst (Reduces u w c.reduce-outcome.result)
    (λ i. and_then (bounded_cross (initial-second i) (g-second i) (factor-second i) (f-second i)) (λ p. Ok (parts_of p))) c.reduce-outcome.ensures.answer in
    let freed = results.freed w x _ _ c.slot.ensures c.free.ensures.lists c.free.ensures.spare in
    let once = reducing.reduces-freed t u w x beside c.reduce-outcome.result (bounded_reduction G F) c.factor-beside.ensures.makes outcome freed in
    results.live-at _ _ _ c.slot-2.ensures (reducing.reduces-live t x (slot_of lead) c.reduce-outcome.result (bounded_reduction G F) once (making.makes-live s t (slot_of lead) c.initial-lead.ensures.makes))

pub returns-clause-answer : goal.returns-clause-answer
returns-clause-answer g c =
    let s = g.S.TermStore.state c.args.s.now in
    let t = g.S.TermStore.state c.initial-lead.new.s in
    let u = g.S.TermStore.state c.factor-beside.new.s in
    let w = g.S.TermStore.state c.reduce-outcome.new.s in
    let x = g.S.TermStore.state c.free.new.self in
    let G = polynomial_at s c.args.g in
    let F = polynomial_at s c.args.f in
    let lead = c.initial-lead.result in
    let beside = c.factor-beside.result in
    let g-first = results.kept-value s t (slot_of lead) c.args.g c.initial-lead.ensures.makes c.requires.g in
    let f-first = results.kept-value s t (slot_of lead) c.args.f c.initial-lead.ensures.makes c.requires.f in
    let g-second = results.kept-value t u (slot_of beside) c.args.g c.factor-beside.ensures.makes (results.kept-poly s t (slot_of lead) c.args.g c.initial-lead.ensures.makes c.requires.g) ∙ g-first in
    let f-second = results.kept-value t u (slot_of beside) c.args.f c.factor-beside.ensures.makes (results.kept-poly s t (slot_of lead) c.args.f c.initial-lead.ensures.makes c.requires.f) ∙ f-first in
    let initial-second = results.kept-value t u (slot_of beside) lead c.factor-beside.ensures.makes (results.made-poly s t lead (initial_of F) c.initial-lead.ensures) ∙ c.initial-lead.ensures.value in
    let factor-second = c.factor-beside.ensures.value ∙ (λ i. factor_of (g-first i) (f-first i)) in
    let outcome = subst (Reduces u w c.reduce-outcome.result)
    (λ i. and_then (bounded_cross (initial-second i) (g-second i) (factor-second i) (f-second i)) (λ p. Ok (parts_of p))) c.reduce-outcome.ensures.answer in
    let freed = results.freed w x _ _ c.slot.ensures c.free.ensures.lists c.free.ensures.spare in
    let once = reducing.reduces-freed t u w x beside c.reduce-outcome.result (bounded_reduction G F) c.factor-beside.ensures.makes outcome freed in
    let y = g.S.TermStore.state c.free-2.new.self in
    let freed-again = results.freed x y _ _ c.slot-2.ensures c.free-2.ensures.lists c.free-2.ensures.spare in
    reducing.reduces-freed s t x y lead c.reduce-outcome.result (bounded_reduction G F) c.initial-lead.ensures.makes once freed-again
