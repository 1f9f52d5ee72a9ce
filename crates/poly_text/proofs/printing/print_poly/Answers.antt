use Rattle.std.proofs.Common.{sym, arith, subst, List, ℕ}
use Rattle.desk_io.specs.Bytes.{Grew, Writes}
use Rattle.desk_io.proofs.Going.{begun, wrote, stopped, ended}
use Rattle.poly_text.proofs.Parts.{entry_next, terms_done, poly_of_terms}
use Rattle.poly_text.proofs.printing.print_poly.Goals as goal

pub loop-i-init : goal.loop-i-init
loop-i-init g c = record { later = omega arith; going = begun _ _ _ }

pub returns-in_err-push-clause-bytes : goal.returns-in_err-push-clause-bytes
returns-in_err-push-clause-bytes g c =
    let P : List ℕ → Type 0 = λ text. Writes (g.S.Sink.written c.args.sink.now) (g.S.Sink.written c.push-in-loop-i.new.sink) c.args.pen.now c.push-in-loop-i.new.self c.from_residual.result text in
    subst P (sym (poly_of_terms c.args.vars.now c.terms-terms.result.now c.args.p.now c.terms-terms.ensures.terms (sym c.if-is_empty.ensures)))
    (stopped _ _ _ _ _ _ _ _ _ _ _ c.from_residual.ensures.0 c.loop-i.invariant.going (entry_next c.args.vars.now c.terms-terms.result.now c.loop-i.i _ _ (omega arith) c.entry.ensures) c.in_err-push.ensures.bytes)

pub loop-i-preserved : goal.loop-i-preserved
loop-i-preserved g c = record {
  later = omega (arith, c.in_ok-push.ensures.cause.later);
  going = wrote _ _ _ _ _ _ _ _ _ _ c.loop-i.invariant.going (entry_next c.args.vars.now c.terms-terms.result.now c.loop-i.i _ _ (omega arith) c.entry.ensures) c.in_ok-push.ensures.bytes;
}

pub returns-clause-bytes : goal.returns-clause-bytes
returns-clause-bytes g c =
    let P : List ℕ → Type 0 = λ text. Grew (g.S.Sink.written c.args.sink.now) (g.S.Sink.written c.loop-i.sink) c.args.pen.now c.loop-i.pen text in
    subst P (sym (poly_of_terms c.args.vars.now c.terms-terms.result.now c.args.p.now c.terms-terms.ensures.terms (sym c.if-is_empty.ensures)))
    (ended _ _ _ _ _ _ c.loop-i.invariant.going (terms_done _ c.args.vars.now c.terms-terms.result.now c.loop-i.i (omega arith)))
