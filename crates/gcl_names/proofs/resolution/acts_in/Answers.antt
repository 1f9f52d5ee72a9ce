use Rattle.std.proofs.Common.{arith, ◌∙◌}
use Rattle.std.proofs.lemmas.Result.{err_from_is_err_and}
use Rattle.std.proofs.lemmas.List.{length-take, length-drop}
use Rattle.gcl_names.specs.Program.{acts_in}
use Rattle.gcl_names.proofs.Front.{acts-more, acts-fail, acts-done}
use Rattle.gcl_names.proofs.resolution.acts_in.Goals as goal

pub returns-in_err-act : goal.returns-in_err-act
returns-in_err-act c = let s = c.loop-rest in
    let p = err_from_is_err_and c.from_residual.result c.from_residual.ensures.1 in
    rw (p.1, p.2) (acts-fail c.in_err-act.field-0.0 s.acts.items c.command-item.result s.rest.now s.scope (acts_in c.args.commands.now c.args.scope.now)
    c.in-len1-up.len_at_least c.command-item.is c.in_err-act.ensures.value s.invariant.resolved)

pub loop-rest-preserved : goal.loop-rest-preserved
loop-rest-preserved c = let s = c.loop-rest in
    let m = c.in-len1-up.len_at_least in record {
      lines = simp (length-take, length-drop) (omega (arith, c.in_ok-act.ensures.lines, s.invariant.lines, m));
      circles = simp (length-take, length-drop) (omega (arith, c.in_ok-act.ensures.circles, s.invariant.circles, m));
      resolved = rw c.in_ok-push_act.ensures (acts-more s.acts.items c.command-item.result s.rest.now s.scope c.act_in.new.scope c.in_ok-act.act
          m c.command-item.is c.in_ok-act.ensures.value ∙ s.invariant.resolved);
    }

pub returns : goal.returns
returns c = let s = c.loop-rest in
    acts-done s.acts.items s.rest.now s.scope (acts_in c.args.commands.now c.args.scope.now) c.in_default.len_below s.invariant.resolved
