use Rattle.std.proofs.lemmas.Result.{err_from_is_err_and}
use Rattle.gcl_reader.specs.Ahead.{ahead}
use Rattle.gcl_reader.specs.Figure.{places_at}
use Rattle.gcl_reader.proofs.Places.{small-more, places-more, places-fail, places-done, end-fails}
use Rattle.gcl_reader.proofs.figure.places_at.Goals as goal

pub returns-in_err-place-clause-value : goal.returns-in_err-place-clause-value
returns-in_err-place-clause-value c =
    let p = err_from_is_err_and c.from_residual.result c.from_residual.ensures.1 in
    let s = c.loop-name in
    rw (p.1, p.2) (places-fail c.in_err-place.field-0.0 s.places.items s.rest.now c.in-Some.after.now c.in-Some.name.now (ahead s.lexer) (places_at c.args.names.now (ahead c.args.lexer.now))
    c.in-Some.ensures.cases.0 c.in_err-place.ensures.value s.invariant.value)

pub loop-name-preserved : goal.loop-name-preserved
loop-name-preserved c = let s = c.loop-name in record {
  value = rw c.in_ok-push.ensures.items (places-more s.places.items s.rest.now c.in-Some.after.now c.in-Some.name.now (ahead s.lexer) (ahead c.place_at.new.lexer) c.in_ok-place.place
      (places_at c.args.names.now (ahead c.args.lexer.now)) c.in-Some.ensures.cases.0 c.in_ok-place.ensures.value s.invariant.value);
  small = rw c.in_ok-push.ensures.items (small-more s.places.items c.in_ok-place.place s.invariant.small c.in_ok-place.ensures.size);
}

pub returns-in_err-end_at-clause-value : goal.returns-in_err-end_at-clause-value
returns-in_err-end_at-clause-value c =
    let p = err_from_is_err_and c.from_residual-in_err-end_at.result c.from_residual-in_err-end_at.ensures.1 in
    let s = c.loop-name in
    rw (p.1, p.2) (end-fails c.in_err-end_at.field-0.0 s.places.items s.rest.now (ahead s.lexer) (places_at c.args.names.now (ahead c.args.lexer.now)) c.in_default.ensures.cases c.in_err-end_at.ensures s.invariant.value)

pub returns-clause-value : goal.returns-clause-value
returns-clause-value c =
    let s = c.loop-name in
    places-done s.places.items s.rest.now (ahead s.lexer) (places_at c.args.names.now (ahead c.args.lexer.now)) c.in_default.ensures.cases c.in_ok-end_at.ensures s.invariant.value
