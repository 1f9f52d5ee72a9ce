use Rattle.std.proofs.Common.{◌+◌, drop, sym, ◌∙◌, ap, arith, refl}
use Rattle.poly_model.specs.Standard.{polynomial_of}
use Rattle.poly_model.specs.declared.limits.TheConstants.{MOST_VARIABLES}
use Rattle.term_store.specs.States.{list_at}
use Rattle.poly_model.specs.Bounded.{degrees_of, exponents_max}
use Rattle.poly_model.proofs.Within.{within-of}
use Rattle.polynomials.proofs.Steps as steps
use Rattle.polynomials.proofs.Raising as raising
use Rattle.polynomials.proofs.degrees.degrees.Goals as goal

pub loop-i-init : goal.loop-i-init
loop-i-init g c =
    let p = polynomial_of (list_at (g.S.TermStore.state c.args.s.now).lists c.args.a.0) in
    record { value = raising.zeros-left MOST_VARIABLES (degrees_of p) (raising.degrees-length p (within-of p c.requires.standard).descending); whole = refl }

pub loop-i-preserved : goal.loop-i-preserved
loop-i-preserved g c =
    let xs = list_at (g.S.TermStore.state c.args.s.now).lists c.args.a.0 in
    let t = c.get.result in
    record {
      whole = c.raise.ensures.whole;
      value = ap (λ l. exponents_max l (degrees_of (polynomial_of (drop (c.loop-i.i + 1) xs)))) c.raise.ensures.raised
          ∙ raising.degrees-next c.loop-i.highest t.exps (polynomial_of (drop c.loop-i.i xs)) (polynomial_of (drop (c.loop-i.i + 1) xs)) t.coef (ap polynomial_of (steps.dropped xs c.loop-i.i t (omega arith) c.get.ensures))
          ∙ c.loop-i.invariant.value;
    }

pub returns : goal.returns
returns g c =
    let xs = list_at (g.S.TermStore.state c.args.s.now).lists c.args.a.0 in
    sym (raising.zeros-right MOST_VARIABLES c.loop-i.highest c.loop-i.invariant.whole)
    ∙ ap (λ l. exponents_max c.loop-i.highest (degrees_of (polynomial_of l))) (sym (steps.all-dropped xs c.loop-i.i (omega arith))) ∙ c.loop-i.invariant.value
