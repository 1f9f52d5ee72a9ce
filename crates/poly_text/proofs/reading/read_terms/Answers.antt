use Rattle.std.proofs.Common.{◌≡◌, ◌==◌, ◌∷◌, [], ◌∙◌, sym, ap, arith, subst, length, vec_len}
use Rattle.std.proofs.lemmas.List.{length-map, map-append}
use Rattle.poly_model.specs.Standard.{entry_of, polynomial_of}
use Rattle.poly_text.proofs.Progress.{TermsRead, read_whole, read_only, past_the_limit, no_entry, next_entry}
use Rattle.poly_text.proofs.reading.read_terms.Goals as goal

pub returns-then-len-ge-MOST_TERMS-clause-refuses : goal.returns-then-len-ge-MOST_TERMS-clause-refuses
returns-then-len-ge-MOST_TERMS-clause-refuses c bad p =
    past_the_limit _ _ _ _ c.requires c.loop-rest.invariant.read (sym c.loop-rest-test.ensures) (omega (arith, length-map c.loop-rest.terms.items entry_of)) p

pub returns-in_default-clause-refuses : goal.returns-in_default-clause-refuses
returns-in_default-clause-refuses c bad p =
    let count : vec_len c.loop-rest.terms ≡ length (polynomial_of c.loop-rest.terms.items) = omega (arith, length-map c.loop-rest.terms.items entry_of) in
    no_entry _ _ _ _ c.requires c.loop-rest.invariant.read (sym c.loop-rest-test.ensures) _ (c.is_empty-in-loop-rest.ensures ∙ ap (λ n. n == 0) count) c.in_default.ensures p

pub loop-rest-preserved : goal.loop-rest-preserved
loop-rest-preserved c =
    let count : vec_len c.loop-rest.terms ≡ length (polynomial_of c.loop-rest.terms.items) = omega (arith, length-map c.loop-rest.terms.items entry_of) in
    let more = next_entry _ _ _ _ c.requires c.loop-rest.invariant.read (sym c.loop-rest-test.ensures) _ (c.is_empty-in-loop-rest.ensures ∙ ap (λ n. n == 0) count)
    (entry_of c.in-Some.term) c.in-Some.after.now c.in-Some.ensures
    in
    record {
      few = omega (arith, c.in-Ok.ensures.len);
      read = subst (λ done. TermsRead c.args.vars.now c.args.text.now c.in-Some.after.now done)
          (sym (ap polynomial_of c.in-Ok.ensures.items ∙ map-append entry_of c.loop-rest.terms.items (c.in-Some.term ∷ []))) more;
    }

pub returns-clause-spells : goal.returns-clause-spells
returns-clause-spells c = read_whole _ _ _ _ c.requires c.loop-rest.invariant.read (sym c.loop-rest-test.ensures)

pub returns-clause-only : goal.returns-clause-only
returns-clause-only c p = read_only _ _ _ _ c.requires c.loop-rest.invariant.read (sym c.loop-rest-test.ensures) p
