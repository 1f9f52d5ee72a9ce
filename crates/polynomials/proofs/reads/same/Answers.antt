use Rattle.std.proofs.Common.{true, false, not, ◌≡◌, sym, ◌∙◌, ap, arith}
use Rattle.std.proofs.lemmas.Bool.{not-false}
use Rattle.poly_model.proofs.Same.{term_decides}
use Rattle.term_store.specs.States.{list_at}
use Rattle.polynomials.proofs.Reading as reading
use Rattle.polynomials.proofs.reads.same.Goals as goal

pub returns-then-count-len : goal.returns-then-count-len
returns-then-count-len g c =
    let xs = list_at (g.S.TermStore.state c.args.s.now).lists c.args.a.slot.0 in
    let ys = list_at (g.S.TermStore.state c.args.s.now).lists c.args.b.slot.0 in
    sym (reading.same-longer xs ys (λ e. omega (arith, e)))

pub returns-then-ne : goal.returns-then-ne
returns-then-ne g c =
    let xs = list_at (g.S.TermStore.state c.args.s.now).lists c.args.a.slot.0 in
    let ys = list_at (g.S.TermStore.state c.args.s.now).lists c.args.b.slot.0 in
    let t = c.get.result in
    let u = c.get-in-loop-i.result in
    sym (reading.same-differs xs ys c.loop-i.i t u (omega arith) c.get.ensures c.get-in-loop-i.ensures
    (λ h. let f : true ≡ false = sym c.if-ne.true ∙ c.ne.ensures ∙ ap not ((term_decides t u).1 h) in cc))

pub loop-i-preserved : goal.loop-i-preserved
loop-i-preserved g c =
    let xs = list_at (g.S.TermStore.state c.args.s.now).lists c.args.a.slot.0 in
    let ys = list_at (g.S.TermStore.state c.args.s.now).lists c.args.b.slot.0 in
    let t = c.get.result in
    let u = c.get-in-loop-i.result in
    let one = (term_decides t u).0 (not-false _ (sym c.ne.ensures ∙ c.if-ne.false)) in
    reading.same-next xs ys c.loop-i.i t u (omega arith) c.get.ensures (omega arith) c.get-in-loop-i.ensures one ∙ c.loop-i.invariant
