use Rattle.std.proofs.Common.{◌≡◌, ◌-◌, ◌≤◌, List, [], map, sym, ◌∙◌, ap, subst, arith}
use Rattle.proof_steps.specs.Chain.{chain_of}
use Rattle.proof_steps.specs.Rules.{size_of}
use Rattle.proof_steps.specs.declared.piece.Outcome.TheVariants as outcome
use Rattle.proof_steps.specs.declared.piece.ChainStep.{ChainStep}
use Rattle.proof_steps.specs.declared.piece.LeafStatus.{LeafStatus}
use Rattle.polynomials.specs.Held.{polynomial_at}
use Rattle.workbench.specs.Standing.{AreHeld, beneath, node_at, poly_of}
use Rattle.workbench.proofs.Owning as owning
use Rattle.workbench.proofs.Benches as benches
use Rattle.workbench.proofs.Choice as choice
use Rattle.proof_steps.specs.Classes.{HaveOwnClasses}
use Rattle.triangular.proofs.Beside as beside
use Rattle.workbench.proofs.Opened as opened
use Rattle.wang_split.proofs.Concluded as concluded
use Rattle.wang_split.proofs.concluding.solved.Goals as goal

pub reduce_conclusions-requires-clause-eqs : goal.reduce_conclusions-requires-clause-eqs
reduce_conclusions-requires-clause-eqs g c =
    let s = g.S.TermStore.state c.args.s.now in
    let b = c.args.bench.now in
    let list = c.deref-2.ensures.value ∙ c.in_ok-eqs.ensures ∙ ap (map poly_of) c.deref.ensures.value in
    subst (AreHeld s) (sym list) (concluded.held-of s b.eqs.items (choice.found-all _ s [] b c.requires.stands))

pub reduce_conclusions-requires-clause-own : goal.reduce_conclusions-requires-clause-own
reduce_conclusions-requires-clause-own g c =
    let s = g.S.TermStore.state c.args.s.now in
    let b = c.args.bench.now in
    let list = c.deref-2.ensures.value ∙ c.in_ok-eqs.ensures ∙ ap (map poly_of) c.deref.ensures.value in
    let E = ap (map (polynomial_at s)) list ∙ sym (opened.held-eqs s b.eqs.items) in
    subst HaveOwnClasses (sym E) (concluded.own (node_at s b) c.requires.due)

pub reduce_conclusions-requires-clause-room : goal.reduce_conclusions-requires-clause-room
reduce_conclusions-requires-clause-room g c =
    let e = benches.room-left _ _ c.args.bench.now c.requires.stands in
    let r = c.requires.room in
    omega (arith, e, r)

pub listed-requires-clause-eqs : goal.listed-requires-clause-eqs
listed-requires-clause-eqs g c =
    let s = g.S.TermStore.state c.args.s.now in
    let t = g.S.TermStore.state c.reduce_conclusions.new.s in
    let b = c.args.bench.now in
    choice.found-within s t b.eqs.items (owning.within-keeps s t c.in_ok-chain.ensures.kept) (choice.found-all _ s [] b c.requires.stands)

pub listed-requires-clause-nes : goal.listed-requires-clause-nes
listed-requires-clause-nes g c =
    let s = g.S.TermStore.state c.args.s.now in
    let t = g.S.TermStore.state c.reduce_conclusions.new.s in
    let b = c.args.bench.now in
    benches.held-keeps s t b.nes.items c.in_ok-chain.ensures.kept (benches.conditions-held _ s [] b c.requires.stands)

pub returns-clause-rests : goal.returns-clause-rests
returns-clause-rests g c =
    let s = g.S.TermStore.state c.args.s.now in
    let t = g.S.TermStore.state c.reduce_conclusions.new.s in
    let b = c.args.bench.now in
    let here = node_at s b in
    let cons = c.args.cons.now in
    let steps = c.args.steps.items in
    let chain = c.from_vec-chain.result in
    let status = c.in_ok-chain.status in
    let list = c.deref-2.ensures.value ∙ c.in_ok-eqs.ensures ∙ ap (map poly_of) c.deref.ensures.value in
    let E : map (polynomial_at s) c.deref-2.result.now ≡ here.eqs = ap (map (polynomial_at s)) list ∙ sym (opened.held-eqs s b.eqs.items) in
    let size = c.requires.stands.size in
    let enough : size_of here ≤ b.fuel = (let e = c.requires.stands.fuel in omega (arith, size, e)) in
    let made : ◌≡◌ {A = List ChainStep × LeafStatus} (chain, status) (chain_of here.eqs cons (b.fuel - size_of here)) =
    ap (λ l. (l, status)) c.from_vec-chain.ensures ∙ c.in_ok-chain.ensures.chain ∙ (λ i. chain_of (E i) cons (b.fuel - size i)) in
    let node = (benches.turn (beneath s b) s t b c.requires.stands c.in_ok-chain.ensures.kept).node in
    beside.ok-map _ _ c.listed.result
    (λ p e. concluded.solved cons here steps chain status p enough c.requires.due made (concluded.listing-at (node_at t b) here steps (outcome.System chain status) p node e)) c.listed.ensures
