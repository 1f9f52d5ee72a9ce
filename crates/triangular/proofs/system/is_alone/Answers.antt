use Rattle.std.proofs.Common.{map, sym, ◌∙◌, ap, not}
use Rattle.std.specs.Prelude.{◌==◌, count_by, ◌||◌}
use Rattle.std.specs.List.{list_all}
use Rattle.poly_model.specs.Reduction.{class_of, is_constant}
use Rattle.proof_steps.specs.Rules.{has_known_initial}
use Rattle.polynomials.specs.Held.{polynomial_at}
use Rattle.triangular.proofs.Counted as counted
use Rattle.triangular.proofs.system.is_alone.Goals as goal

pub returns-then-not-is_single-clause-value : goal.returns-then-not-is_single-clause-value
returns-then-not-is_single-clause-value g c =
    let s = g.S.TermStore.state c.args.s.now in
    let P = polynomial_at s c.args.p in
    let E = map (polynomial_at s) c.args.eqs.now in
    counted.not-third (not (is_constant P)) (count_by (λ q. class_of q == class_of P) E == 1) (list_all (λ q. not (class_of q == class_of P) || has_known_initial (map (polynomial_at s) c.args.nes.now) q) E) (sym c.is_single.ensures ∙ c.if-not-is_single.true)

pub returns-clause-value : goal.returns-clause-value
returns-clause-value g c =
    let s = g.S.TermStore.state c.args.s.now in
    counted.then-third _ _ _ _ (sym c.is_single.ensures ∙ c.if-not-is_single.false)
    (c.all_known.ensures.value ∙ ap (λ x. list_all (λ q. not (class_of q == x) || has_known_initial (map (polynomial_at s) c.args.nes.now) q) (map (polynomial_at s) c.args.eqs.now)) c.class_number-x.ensures.class)
