use Rattle.std.proofs.Common.{◌+◌, ◌-◌, [], ◌∷◌, arith, map, refl, sym, ◌∙◌, ap, subst}
use Rattle.std.specs.Prelude.{All}
use Rattle.std.specs.List.{list_all}
use Rattle.std.proofs.lemmas.List.Elements.{All-push}
use Rattle.proof_steps.specs.Stated.{IsStated}
use Rattle.std.proofs.lemmas.List.Folds.{list_all-append}
use Rattle.std.proofs.lemmas.List.{map_push}
use Rattle.std.proofs.lemmas.Result.{err_from_is_err_and}
use Rattle.gcl_reader.specs.Grammar.{Fails}
use Rattle.gcl_names.specs.Sound.{Counts}
use Rattle.algebraize.specs.Formed.{equations, is_own, is_quadratic}
use Rattle.algebraize.specs.Problem.{problems_from}
use Rattle.algebraize.proofs.Proves.{behind}
use Rattle.std.specs.Cmp.Derive.{both_true}
use Rattle.algebraize.proofs.Proves as proves
use Rattle.algebraize.proofs.problem.problems.Goals as goal

pub returns-in_err-system_of-clause-value : goal.returns-in_err-system_of-clause-value
returns-in_err-system_of-clause-value c =
    let p = err_from_is_err_and c.from_residual.result c.from_residual.ensures.1 in
    let acts = c.args.program.now.acts in
    let n = c.args.program.now.proves in
    let all = proves.counted acts n (ap (λ (k : Counts). k.proves) c.requires.counts) in
    rw (p.1, p.2) (subst (λ k. Fails c.in_err-system_of.field-0.0 (problems_from acts 0 k)) (sym all)
    (proves.problems-fail acts c.loop-prove.prove n (map equations c.loop-prove.problems.items) c.in_err-system_of.field-0.0 (problems_from acts 0 n)
    (omega arith) c.in_err-system_of.ensures.value c.loop-prove.invariant.value))

pub loop-prove-preserved : goal.loop-prove-preserved
loop-prove-preserved c =
    let acts = c.args.program.now.acts in
    let n = c.args.program.now.proves in
    let k = c.loop-prove.prove in
    let front = c.loop-prove.problems.items in
    let problem = c.in_ok-system_of.field-0 in
    let grown = c.in_ok-push.ensures.items in
    record {
      within = omega arith;
      value = ap (λ l. behind (map equations l) (problems_from acts (k + 1) (n - (k + 1)))) grown
          ∙ ap (λ l. behind l (problems_from acts (k + 1) (n - (k + 1)))) (map_push equations front problem)
          ∙ proves.problems-more acts k n (map equations front) (equations problem) (problems_from acts 0 n) (omega arith) c.in_ok-system_of.ensures.value c.loop-prove.invariant.value;
      own = ap (list_all is_own) grown ∙ list_all-append is_own front (problem ∷ [])
          ∙ both_true c.loop-prove.invariant.own (both_true c.in_ok-system_of.ensures.own refl);
      stated = subst (All IsStated) (sym grown) (All-push IsStated front problem c.loop-prove.invariant.stated c.in_ok-system_of.ensures.stated);
      quadratic = ap (list_all is_quadratic) grown ∙ list_all-append is_quadratic front (problem ∷ [])
          ∙ both_true c.loop-prove.invariant.quadratic (both_true c.in_ok-system_of.ensures.quadratic refl);
    }

pub returns-clause-value : goal.returns-clause-value
returns-clause-value c =
    let acts = c.args.program.now.acts in
    let n = c.args.program.now.proves in
    let all = proves.counted acts n (ap (λ (k : Counts). k.proves) c.requires.counts) in
    ap (problems_from acts 0) all
    ∙ proves.problems-done acts c.loop-prove.prove n (map equations c.loop-prove.problems.items) (problems_from acts 0 n) (omega arith) c.loop-prove.invariant.value
