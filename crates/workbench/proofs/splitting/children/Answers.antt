use Rattle.std.proofs.Common.{◌≡◌, ◌+◌, ◌-◌, ◌<◌, length, map, ◌∷◌, [], refl, sym, ◌∙◌, ap, arith}
use Rattle.std.proofs.lemmas.List.{length-map}
use Rattle.polynomials.specs.Held.{polynomial_at}
use Rattle.workbench.specs.Standing.{node_at, held_at}
use Rattle.workbench.proofs.Benches as benches
use Rattle.workbench.proofs.Sharing as sharing
use Rattle.workbench.proofs.Sharing.{Counted}
use Rattle.workbench.proofs.splitting.children.Goals as goal

pub overflow_sub-minus_size : goal.overflow_sub-minus_size
overflow_sub-minus_size g c =
    let s = g.S.TermStore.state c.args.s.now in
    let b = c.args.bench.now in
    let l : length (map (held_at s) b.eqs.items) ≡ length b.eqs.items = length-map b.eqs.items (held_at s) in
    let t = ap (λ y. y.terms) c.index.ensures ∙ (benches.tell-at _ b.eqs.items (node_at s b).eqs c.args.at c.index.result.now c.requires.has c.requires.tell).terms in
    let less = benches.sizes-without (node_at s b).eqs c.args.at (let h = c.requires.has in omega (arith, l, h)) in
    let z = c.requires.size in
    omega (arith, t, less, z)

pub returns-in_default : goal.returns-in_default
returns-in_default g c =
    let s = g.S.TermStore.state c.args.s.now in
    let b = c.args.bench.now in
    let l : length (map (held_at s) b.eqs.items) ≡ length b.eqs.items = length-map b.eqs.items (held_at s) in
    let t = ap (λ y. y.terms) c.index.ensures ∙ (benches.tell-at _ b.eqs.items (node_at s b).eqs c.args.at c.index.result.now c.requires.has c.requires.tell).terms in
    let within : c.args.at < length (node_at s b).eqs = (let h = c.requires.has in omega (arith, l, h)) in
    let less = benches.sizes-without (node_at s b).eqs c.args.at within in
    let z = c.requires.size in
    let counted : Counted (node_at s b) c.args.at (polynomial_at s c.args.j) (polynomial_at s c.args.r) b.size c.index.result.now.terms c.term_count-gain.result (b.size - c.index.result.now.terms + c.term_count-terms.result + (1 + c.term_count-gain.result)) = record {
      whole = c.requires.size;
      within = within;
      terms = t;
      gained = (let e = c.term_count-gain.ensures in omega (arith, e));
      second = (let e = c.term_count-terms.ensures in omega (arith, e, t, less, z));
    } in
    (refl, sharing.share-none (node_at s b) c.args.at (polynomial_at s c.args.j) (polynomial_at s c.args.r) b.size c.index.result.now.terms c.term_count-gain.result _ counted c.in_default.ensures)

pub returns : goal.returns
returns g c =
    let s = g.S.TermStore.state c.args.s.now in
    let b = c.args.bench.now in
    let l : length (map (held_at s) b.eqs.items) ≡ length b.eqs.items = length-map b.eqs.items (held_at s) in
    let t = ap (λ y. y.terms) c.index.ensures ∙ (benches.tell-at _ b.eqs.items (node_at s b).eqs c.args.at c.index.result.now c.requires.has c.requires.tell).terms in
    let within : c.args.at < length (node_at s b).eqs = (let h = c.requires.has in omega (arith, l, h)) in
    let less = benches.sizes-without (node_at s b).eqs c.args.at within in
    let z = c.requires.size in
    let counted : Counted (node_at s b) c.args.at (polynomial_at s c.args.j) (polynomial_at s c.args.r) b.size c.index.result.now.terms c.term_count-gain.result (b.size - c.index.result.now.terms + c.term_count-terms.result + (1 + c.term_count-gain.result)) = record {
      whole = c.requires.size;
      within = within;
      terms = t;
      gained = (let e = c.term_count-gain.ensures in omega (arith, e));
      second = (let e = c.term_count-terms.ensures in omega (arith, e, t, less, z));
    } in
    let f = sharing.share-some (node_at s b) c.args.at (polynomial_at s c.args.j) (polynomial_at s c.args.r) b.size c.index.result.now.terms c.term_count-gain.result _ c.in-Some.fuels.plus c.in-Some.fuels.minus counted c.in-Some.ensures.0 c.in-Some.ensures.1 c.in-Some.ensures.2 in
    (c.in_ok-initial.ensures, f.0 ∙ (λ i. sym c.in_ok-plus.ensures i ∷ sym c.in_ok-minus.ensures i ∷ []), f.1)
