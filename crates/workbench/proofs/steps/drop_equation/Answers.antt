use Rattle.std.proofs.Common.{◌≡◌, ◌+◌, ◌-◌, refl, arith}
use Rattle.workbench.proofs.Benches as benches
use Rattle.workbench.proofs.steps.drop_equation.Goals as goal

pub give_up-requires : goal.give_up-requires
give_up-requires g c = benches.place-live _ _ c.args.bench.now.eqs.items c.args.i c.remove-gone.result _ c.requires.has c.remove-gone.ensures.value c.requires.stands.owns

pub overflow_sub-bench : goal.overflow_sub-bench
overflow_sub-bench g c = let e = benches.terms-within _ _ c.args.bench.now _ c.args.i c.remove-gone.result c.requires.stands c.requires.has c.remove-gone.ensures.value in omega (arith, e)

pub overflow_sub-bench-2 : goal.overflow_sub-bench-2
overflow_sub-bench-2 g c = let e = benches.terms-within _ _ c.args.bench.now _ c.args.i c.remove-gone.result c.requires.stands c.requires.has c.remove-gone.ensures.value in omega (arith, e)

pub returns : goal.returns
returns g c =
    let e = benches.terms-within _ _ c.args.bench.now _ c.args.i c.remove-gone.result c.requires.stands c.requires.has c.remove-gone.ensures.value in
    let z : c.args.bench.now.size - c.remove-gone.result.terms - 1 + (c.remove-gone.result.terms + 1) ≡ c.args.bench.now.size = omega (arith, e) in
    benches.dropping _ _ (g.S.TermStore.state c.give_up.new.s) c.args.bench.now _ c.args.i c.remove-gone.result c.requires.stands c.requires.has c.remove-gone.ensures.value c.give_up.ensures.lists c.give_up.ensures.spare refl c.remove-gone.ensures.items refl z refl
