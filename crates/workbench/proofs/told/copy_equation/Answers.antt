use Rattle.std.proofs.Common.{◌≡◌, ◌∙◌}
use Rattle.std.specs.Prelude.{IfOk, Result, Ok, Err}
use Rattle.workbench.proofs.Benches as benches
use Rattle.workbench.proofs.told.copy_equation.Goals as goal

pub copy_out-requires : goal.copy_out-requires
copy_out-requires g c = benches.equation-poly _ _ _ c.args.bench.now _ c.index.result.now c.requires.stands c.requires.has c.index.ensures

same-copy : {A E : Type 0} (p q : A) (r : Result A E) → p ≡ q → IfOk r (λ x. x ≡ p) → IfOk r (λ x. x ≡ q)
same-copy p q (Ok x) e h = h ∙ e
same-copy p q (Err x) e h = tt

pub returns : goal.returns
returns g c =
    same-copy _ _ c.copy_out.result (benches.equation-at (g.S.TermStore.state c.args.s.now) c.args.bench.now.eqs.items _ c.index.result.now c.requires.has c.index.ensures) c.copy_out.ensures
