use Rattle.std.proofs.Common.{◌++◌, ◌∷◌, [], ◌+◌, length, length-append, drop, sym, ◌∙◌, ap, subst, arith}
use Rattle.poly_model.specs.Standard.{polynomial_of}
use Rattle.term_store.specs.States.{State, list_at}
use Rattle.term_store.specs.Changes.{Makes}
use Rattle.term_store.proofs.Making as making
use Rattle.polynomials.specs.Pieces.{pieces_of, piece_of}
use Rattle.polynomials.proofs.Steps as steps
use Rattle.polynomials.proofs.Changing as changing
use Rattle.polynomials.proofs.change.changed.Goals.{in-Some, in_default}
use Rattle.polynomials.proofs.change.changed.Goals as goal

pub loop-i-init : goal.loop-i-init
loop-i-init g c =
    let m = making.makes-fresh _ _ _ c.fresh-out.ensures.vacant c.fresh-out.ensures.lists c.fresh-out.ensures.spare in
    let pieces = pieces_of (g.C.Change.piece c.args.change.now) in
    record {
      made = m.0;
      newest = c.fresh-out.ensures.newest;
      long = omega (arith, ap length m.1);
      value = ap (λ l. polynomial_of l ++ pieces (polynomial_of (list_at (g.S.TermStore.state c.args.s.now).lists c.args.q.0))) m.1;
    }

pub get-term-requires-clause-live : goal.get-term-requires-clause-live
get-term-requires-clause-live g c = making.makes-other-live _ _ _ _ c.loop-i.invariant.made c.requires.live

pub get-term-requires-clause-below : goal.get-term-requires-clause-below
get-term-requires-clause-below g c = steps.readable _ _ _ _ _ c.loop-i.invariant.made c.requires.live (omega arith)

pub of-requires : goal.of-requires
of-requires g c =
    let qs = list_at (g.S.TermStore.state c.args.s.now).lists c.args.q.0 in
    let t = c.get-term.result in
    let at = steps.read _ _ _ _ _ t c.loop-i.invariant.made c.requires.live (omega arith) c.get-term.ensures in
    changing.test-at (g.C.Change.takes c.args.change.now) qs c.loop-i.i t (omega arith) at c.requires.takes

pub loop-i-preserved : goal.loop-i-preserved
loop-i-preserved g c =
    let state = g.S.TermStore.state in
    let qs = list_at (state c.args.s.now).lists c.args.q.0 in
    let out = list_at (state c.loop-i.s).lists c.fresh-out.result.0 in
    let piece = g.C.Change.piece c.args.change.now in
    let k = c.fresh-out.result.0 in
    let i = c.loop-i.i in
    let t = c.get-term.result in
    let rest = pieces_of piece (polynomial_of (drop (i + 1) qs)) in
    let at = steps.read _ _ _ _ _ t c.loop-i.invariant.made c.requires.live (omega arith) c.get-term.ensures in
    elim c.match-of.branch [
      | in-Some w ↦
          let x = w.in-Some.other in
          let same = ap state w.s-is in
          let m = making.makes-push _ _ _ _ x c.loop-i.invariant.made w.push.ensures.lists w.push.ensures.spare in
          let long = ap (λ (u : State). length (list_at u.lists k)) same ∙ ap length m.1 ∙ length-append out (x ∷ []) in
          record {
            made = subst (λ (u : State). Makes (state c.args.s.now) u k) (sym same) m.0;
            newest = ap (λ (u : State). u.newest) same ∙ w.push.ensures.newest;
            long = omega (arith, long, c.loop-i.invariant.long);
            value = ap (λ (u : State). polynomial_of (list_at u.lists k) ++ rest) same ∙ ap (λ l. polynomial_of l ++ rest) m.1
                ∙ changing.change-some piece out qs i t x (omega arith) at (sym (ap piece_of w.in-Some.is) ∙ c.of.ensures) ∙ c.loop-i.invariant.value;
          }
      | in_default w ↦
          let same = ap state w.s-is in
          record {
            made = subst (λ (u : State). Makes (state c.args.s.now) u k) (sym same) c.loop-i.invariant.made;
            newest = ap (λ (u : State). u.newest) same ∙ c.loop-i.invariant.newest;
            long = let l = ap (λ (u : State). length (list_at u.lists k)) same in omega (arith, l, c.loop-i.invariant.long);
            value = ap (λ (u : State). polynomial_of (list_at u.lists k) ++ rest) same
                ∙ changing.change-none piece out qs i t (omega arith) at (sym (ap piece_of w.in_default.is) ∙ c.of.ensures) ∙ c.loop-i.invariant.value;
          }
    ]

pub returns-clause-value : goal.returns-clause-value
returns-clause-value g c =
    let qs = list_at (g.S.TermStore.state c.args.s.now).lists c.args.q.0 in
    changing.change-end (g.C.Change.piece c.args.change.now) _ qs c.loop-i.i _ (omega arith) c.loop-i.invariant.value
