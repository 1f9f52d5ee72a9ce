use Rattle.std.proofs.Common.{◌≡◌, ◌≤◌, length, subst, arith, nat_le, true, ℕ}
use Rattle.std.proofs.lemmas.Bool.Decides.{nat_tests}
use Rattle.poly_model.specs.declared.limits.TheConstants.{MOST_TERMS}
use Rattle.term_store.specs.States.{list_at}
use Rattle.poly_model.specs.Bounded.{bounded_sum}
use Rattle.poly_model.proofs.Within.{within-of, bounded_sum-standard}
use Rattle.polynomials.specs.Held.{Outcome, polynomial_at}
use Rattle.polynomials.proofs.Steps as steps
use Rattle.polynomials.proofs.Outcomes as outcomes
use Rattle.polynomials.proofs.sums.add.Goals as goal

le_of : (a b : ℕ) → nat_le a b ≡ true → a ≤ b
le_of a b e = grind (arith, nat_tests)

pub sum_in-requires : goal.sum_in-requires
sum_in-requires g c =
    let p = polynomial_at (g.S.TermStore.state c.args.s.now) c.args.a in
    let q = polynomial_at (g.S.TermStore.state c.args.s.now) c.args.b in
    let a = within-of p c.requires.a.standard in
    let b = within-of q c.requires.b.standard in
    record {
      live_a = c.requires.a.live;
      live_b = c.requires.b.live;
      descending_a = a.descending;
      descending_b = b.descending;
      bounded_a = a.bounded;
      bounded_b = b.bounded;
      room = omega (arith, le_of (length p) MOST_TERMS a.short, le_of (length q) MOST_TERMS b.short, steps.polynomial-length (list_at (g.S.TermStore.state c.args.s.now).lists c.args.a.slot.0), steps.polynomial-length (list_at (g.S.TermStore.state c.args.s.now).lists c.args.b.slot.0));
    }

pub returns-in-Ok : goal.returns-in-Ok
returns-in-Ok g c =
    let s = g.S.TermStore.state c.args.s.now in
    let p = polynomial_at s c.args.a in
    let q = polynomial_at s c.args.b in
    outcomes.answers-of _ _ c.in-Ok.slot (bounded_sum p q) (subst (λ r. Outcome s (g.S.TermStore.state c.sum_in.new.s) r (bounded_sum p q)) c.in-Ok.is c.sum_in.ensures)
    (λ r e. bounded_sum-standard p q r c.requires.a.standard c.requires.b.standard e)

pub returns-in-Err : goal.returns-in-Err
returns-in-Err g c =
    let s = g.S.TermStore.state c.args.s.now in
    let whole = bounded_sum (polynomial_at s c.args.a) (polynomial_at s c.args.b) in
    outcomes.answers-limit _ _ c.in-Err.limit whole (subst (λ r. Outcome s (g.S.TermStore.state c.sum_in.new.s) r whole) c.in-Err.is c.sum_in.ensures)
