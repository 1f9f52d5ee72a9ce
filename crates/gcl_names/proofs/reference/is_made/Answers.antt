use Rattle.std.proofs.Common.{sym, ◌∙◌}
use Rattle.gcl_names.proofs.Made.{made-here, made-later, made-none, made-short}
use Rattle.gcl_names.proofs.reference.is_made.Goals as goal

pub returns-in_default-rest_args : goal.returns-in_default-rest_args
returns-in_default-rest_args c = let s = c.loop-rest_parameters in
    sym (made-short c.args.name.now s.rest_parameters.now s.rest_args.now c.in_default-rest_args.len_below) ∙ s.invariant

pub returns-then-makes : goal.returns-then-makes
returns-then-makes c = let s = c.loop-rest_parameters in
    sym (made-here c.args.name.now _ s.rest_parameters.now c.arg-item.result s.rest_args.now c.in-len1-up.len_at_least
    c.in-len1-up-rest_args.len_at_least c.arg-item.is (sym c.makes.ensures ∙ c.if-makes.true)) ∙ s.invariant

pub loop-rest_parameters-preserved : goal.loop-rest_parameters-preserved
loop-rest_parameters-preserved c = let s = c.loop-rest_parameters in
    made-later c.args.name.now _ s.rest_parameters.now c.arg-item.result s.rest_args.now c.in-len1-up.len_at_least
    c.in-len1-up-rest_args.len_at_least c.arg-item.is (sym c.makes.ensures ∙ c.if-makes.false) ∙ s.invariant

pub returns : goal.returns
returns c = let s = c.loop-rest_parameters in
    sym (made-none c.args.name.now s.rest_parameters.now s.rest_args.now c.in_default.len_below) ∙ s.invariant
