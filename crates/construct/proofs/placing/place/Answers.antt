use Rattle.std.proofs.Common.{◌∙◌, ap, Ok, arith, refl, sym, subst}
use Rattle.std.proofs.lemmas.Result.{err_from_is_err_and}
use Rattle.gcl_reader.specs.Grammar.{◌>>=◌, Fails}
use Rattle.gcl_names.specs.Sound.{AllFollow, nothing}
use Rattle.construct.specs.Placing.{constructed_by, after_acts, positions_in}
use Rattle.construct.proofs.Acts.{SoFar, no-spots, placed-next, placed-refused, placed-all, so_far-uses, so_far-more}
use Rattle.construct.proofs.placing.place.Goals as goal

pub loop-act-init : goal.loop-act-init
loop-act-init c =
    record {
      rest = ap (λ f. after_acts c.as_slice-acts.result.now f) c.new-f.ensures;
      so_far = subst (λ f. SoFar f c.as_slice-acts.result.now) (sym c.new-f.ensures)
          (record { counts = nothing; counted = record { points = refl; lines = refl; circles = refl }; follow = subst (AllFollow nothing) (sym c.as_slice-acts.ensures) c.requires.follow });
    }

pub place_act-requires : goal.place_act-requires
place_act-requires c =
    so_far-uses c.as_slice-acts.result.now c.loop-act.act-index c.act-item.result _ (omega arith) c.act-item.is c.loop-act.invariant.so_far

pub returns-in_err-place_act : goal.returns-in_err-place_act
returns-in_err-place_act c =
    let p = err_from_is_err_and c.from_residual.result c.from_residual.ensures.1 in
    rw (p.1, p.2) (no-spots c.args.program.now.acts c.in_err-place_act.field-0.0 (subst (Fails c.in_err-place_act.field-0.0) (c.loop-act.invariant.rest ∙ ap constructed_by c.as_slice-acts.ensures)
    (placed-refused c.as_slice-acts.result.now c.loop-act.act-index c.act-item.result _ c.in_err-place_act.field-0.0 (omega arith) c.act-item.is c.in_err-place_act.ensures)))

pub loop-act-preserved : goal.loop-act-preserved
loop-act-preserved c =
    record {
      rest = placed-next c.as_slice-acts.result.now c.loop-act.act-index c.act-item.result _ _ (omega arith) c.act-item.is c.in_ok-place_act.ensures ∙ c.loop-act.invariant.rest;
      so_far = so_far-more c.as_slice-acts.result.now c.loop-act.act-index c.act-item.result _ _ (omega arith) c.act-item.is c.loop-act.invariant.so_far c.in_ok-place_act.ensures;
    }

pub returns : goal.returns
returns c =
    let all = ap constructed_by (sym c.as_slice-acts.ensures) ∙ sym c.loop-act.invariant.rest ∙ placed-all c.as_slice-acts.result.now c.loop-act.act-index _ (omega arith) in
    ap (λ r. r >>= λ f. Ok (positions_in f)) all ∙ ap Ok (sym c.into_spots.ensures)
