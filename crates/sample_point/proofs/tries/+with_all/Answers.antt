use Rattle.std.proofs.Common.{◌≡◌, ◌+◌, ◌-◌, suc, sym, ◌∙◌, ap, subst, arith}
use Rattle.std.specs.Option.{option_map}
use Rattle.std.specs.Result.{IfOk}
use Rattle.sample_point.specs.Seen.{partial_of}
use Rattle.sample_point.proofs.Tried.{all-more}
use Rattle.sample_point.proofs.tries.+with_all.Goals as goal

pub returns : goal.returns
returns t c =
    let some : c.args.left ≡ suc (c.args.left - 1) = omega arith in
    let one : c.args.i + 1 ≡ suc c.args.i = omega arith in
    let next = sym c.in_ok-next.ensures.value ∙ ap (option_map partial_of) c.in-Some.is in
    subst (λ z. IfOk c.with_all.result (λ q. option_map partial_of q ≡ z))
    (sym (all-more c.args.equations.now c.args.j c.args.i c.args.left (c.args.i + 1) (c.args.left - 1) (partial_of c.args.values) (partial_of c.in-Some.next) some one next))
    c.with_all.ensures
