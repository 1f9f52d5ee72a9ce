use Rattle.std.proofs.Common.{◌≡◌, ◌+◌, ◌++◌, ◌∷◌, [], drop, length, length-append, append_assoc, sym, ◌∙◌, ap, arith, refl, get_or}
use Rattle.std.specs.FinMap.{insert}
use Rattle.term_store.specs.States.{list_at}
use Rattle.term_store.proofs.Making as making
use Rattle.polynomials.proofs.Steps as steps
use Rattle.polynomials.proofs.rows.copy_rest.Goals as goal

pub loop-i-init : goal.loop-i-init
loop-i-init g c = ([], making.extends-none _ _ c.requires.new c.requires.newest, refl)

pub get-term-requires-clause-live : goal.get-term-requires-clause-live
get-term-requires-clause-live g c = making.extends-other-live _ _ _ _ _ c.loop-i.invariant.1 c.requires.apart c.requires.live

pub get-term-requires-clause-below : goal.get-term-requires-clause-below
get-term-requires-clause-below g c = omega (arith, ap length (making.extends-other _ _ _ _ _ c.loop-i.invariant.1 c.requires.apart))

pub push-requires-clause-spare : goal.push-requires-clause-spare
push-requires-clause-spare g c =
    let qs = list_at (g.S.TermStore.state c.args.s.now).lists c.args.q.0 in
    let all = ap length c.loop-i.invariant.2 in
    let parts = length-append c.loop-i.invariant.0 (drop c.loop-i.i qs) in
    omega (arith, all, parts, steps.dropped-length qs c.loop-i.i (omega arith), steps.dropped-length qs c.args.from (omega arith), c.loop-i.invariant.1.spare)

pub loop-i-preserved : goal.loop-i-preserved
loop-i-preserved g c =
    let qs = list_at (g.S.TermStore.state c.args.s.now).lists c.args.q.0 in
    let t = c.get-term.result in
    let at : t ≡ get_or qs c.loop-i.i t = c.get-term.ensures ∙ ap (λ l. get_or l c.loop-i.i t) (making.extends-other _ _ _ _ _ c.loop-i.invariant.1 c.requires.apart) in
    let xs = c.loop-i.invariant.0 in (
      xs ++ t ∷ [],
      making.extends-push _ _ _ _ xs t c.loop-i.invariant.1 c.push.ensures.lists c.push.ensures.spare c.push.ensures.newest,
      append_assoc xs (t ∷ []) (drop (c.loop-i.i + 1) qs) ∙ ap (λ l. xs ++ l) (sym (steps.dropped qs c.loop-i.i t (omega arith) at)) ∙ c.loop-i.invariant.2,
    )

pub returns : goal.returns
returns g c =
    let qs = list_at (g.S.TermStore.state c.args.s.now).lists c.args.q.0 in
    let xs = c.loop-i.invariant.0 in
    let whole : xs ≡ drop c.args.from qs = sym (steps.nothing xs) ∙ ap (λ l. xs ++ l) (sym (steps.all-dropped qs c.loop-i.i (omega arith))) ∙ c.loop-i.invariant.2 in
    let e = c.loop-i.invariant.1 in
    record {
      lists = e.lists ∙ ap (λ l. insert (g.S.TermStore.state c.args.s.now).lists c.args.out.0 (list_at (g.S.TermStore.state c.args.s.now).lists c.args.out.0 ++ l)) whole;
      spare = omega (arith, ap length whole, e.spare);
      newest = e.newest;
    }
