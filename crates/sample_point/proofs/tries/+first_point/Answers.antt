use Rattle.std.proofs.Common.{◌≡◌, ◌+◌, ◌-◌, suc, sym, ◌∙◌, ap, subst, arith}
use Rattle.std.specs.Option.{option_map}
use Rattle.std.specs.Result.{IfOk}
use Rattle.sample_point.specs.declared.values.Values.{Values}
use Rattle.sample_point.proofs.Tried.{first-more}
use Rattle.sample_point.proofs.tries.+first_point.Goals as goal

pub returns-in-None : goal.returns-in-None
returns-in-None t c =
    let some : c.args.left ≡ suc (c.args.left - 1) = omega arith in
    let one : c.args.j + 1 ≡ suc c.args.j = omega arith in
    let none = sym c.in_ok-values.ensures ∙ ap (option_map (λ (v : Values). v.numbers.items)) c.in-None.is in
    subst (λ z. IfOk c.first_point.result (λ q. option_map (λ (v : Values). v.numbers.items) q ≡ z))
    (sym (first-more c.args.problem.now c.args.leaf.now c.args.j c.args.left (c.args.j + 1) (c.args.left - 1) some one none))
    c.first_point.ensures
