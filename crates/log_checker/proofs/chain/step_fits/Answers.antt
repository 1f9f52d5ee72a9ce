use Rattle.std.proofs.Common.{◌∙◌, ◌<◌, ◌-◌, ap, sym, subst, refl, suc, [], length, get_or}
use Rattle.std.specs.Prelude.{None, IfOk}
use Rattle.std.proofs.Common.{◌≡◌, FitsSigned}
use mir.Syntax.{w128}
use Rattle.std.proofs.lemmas.Int.{to_z-of_z}
use Rattle.log_checker.specs.Trials.{reduces_to}
use Rattle.std.proofs.lemmas.List.{get_or_read_under}
use Rattle.proof_steps.specs.Chain.{chain_reason}
use Rattle.proof_steps.specs.Numbers.{item}
use Rattle.proof_steps.specs.Reasons.{same_reason}
use Rattle.log_checker.specs.Turns.{conclusion}
use Rattle.log_checker.proofs.Chains as chains
use Rattle.log_checker.proofs.chain.step_fits.Goals as goal

pub returns-then-not-has_numbers : goal.returns-then-not-has_numbers
returns-then-not-has_numbers g c =
    let y = c.args.system.now in
    chains.other-numbers _ _ (same_reason (chain_reason (conclusion y.cons c.args.at) (item y.lists.eqs c.args.f) y.fuel) None) (sym c.has_numbers.ensures ∙ c.if-not-has_numbers.true)

pub returns-then-is_short : goal.returns-then-is_short
returns-then-is_short g c =
    let y = c.args.system.now in
    chains.no-fuel-for-step y.lists.eqs (suc c.args.at) c.args.f (conclusion y.cons c.args.at) c.args.told.now y.fuel (sym c.is_short.ensures ∙ c.if-is_short.true)

pub returns : goal.returns
returns g c =
    let y = c.args.system.now in
    let range : FitsSigned w128 c.args.told.now.m = search in
    let ps = c.as_slice.result.now in
    let qs = c.as_slice-2.result.now in
    let p-is = get_or_read_under ps c.args.at (length ps) c.index-as_slice-at.result [] c.index-as_slice-at.is (subst (λ l. c.args.at < length l) (sym c.as_slice.ensures) c.requires.at) refl ∙ ap (λ l. get_or l c.args.at []) c.as_slice.ensures in
    let q-is = get_or_read_under qs (c.args.f - 1) (length qs) c.index-as_slice-f.result [] c.index-as_slice-f.is (subst (λ l. c.args.f - 1 < length l) (sym c.as_slice-2.ensures) c.requires.reduces.below) refl ∙ ap (λ l. get_or l (c.args.f - 1) []) c.as_slice-2.ensures in
    chains.fuel-for-step c.reduces_to.result y.lists.eqs (suc c.args.at) c.args.f (conclusion y.cons c.args.at) c.index-as_slice-at.result c.index-as_slice-f.result c.args.told.now y.fuel (sym c.has_numbers.ensures ∙ c.if-not-has_numbers.false)
    (sym c.is_short.ensures ∙ c.if-is_short.false) p-is q-is
    (subst (λ m. IfOk c.reduces_to.result (λ told. told ≡ reduces_to c.index-as_slice-at.result c.index-as_slice-f.result m c.args.told.now.r)) (to_z-of_z w128 c.args.told.now.m range) c.reduces_to.ensures.ok)
