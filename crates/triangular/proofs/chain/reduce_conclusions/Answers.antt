use Rattle.std.proofs.Common.{◌≡◌, ◌+◌, [], ◌∷◌, ℕ, List, length, map, refl, sym, ◌∙◌, ap, subst, arith, suc}
use Rattle.poly_model.specs.Polynomial.{Polynomial}
use Rattle.poly_model.specs.Standard.{polynomial_of}
use Rattle.term_store.specs.States.{list_at}
use Rattle.term_store.specs.Changes.{Keeps, given_up}
use Rattle.term_store.proofs.Making as making
use Rattle.polynomials.specs.Held.{polynomial_at, slot_of}
use Rattle.polynomials.proofs.Results as results
use Rattle.workbench.specs.Standing.{AllTell, held_at, poly_of}
use Rattle.workbench.proofs.Owning as owning
use Rattle.triangular.specs.Chains.{Chains, Comes, Ends}
use Rattle.proof_steps.specs.Classes.{HaveOwnClasses}
use Rattle.triangular.proofs.Chained as chained
use Rattle.triangular.proofs.Beside as beside
use Rattle.triangular.proofs.chain.reduce_conclusions.Goals as goal

pub reduce_one-requires-clause-p : goal.reduce_one-requires-clause-p
reduce_one-requires-clause-p g c =
    results.made-poly _ _ _ _ c.copy_in-p.ensures

pub reduce_one-requires-clause-found : goal.reduce_one-requires-clause-found
reduce_one-requires-clause-found g c =
    let s = g.S.TermStore.state c.args.s.now in
    let a = g.S.TermStore.state c.all_held.new.s in
    let t = g.S.TermStore.state c.loop-first.s in
    let u = g.S.TermStore.state c.copy_in-p.new.s in
    let p = c.copy_in-p.result in
    let b = given_up u (slot_of p) in
    let under : Keeps a b = owning.keeps-then a t b c.loop-first.invariant.kept (making.makes-freed t u b (slot_of p) c.copy_in-p.ensures.makes refl refl) in
    let whole = owning.keeps-then s a b c.in_ok-hs.ensures.kept under in
    let hs = c.deref.result.now in
    let polys : map poly_of hs ≡ c.args.eqs.now = ap (map poly_of) c.deref.ensures.value ∙ c.in_ok-hs.ensures.polys in
    let tell : AllTell [] hs (map (held_at s) hs) = subst (λ l. AllTell [] l (map (held_at s) l)) (sym c.deref.ensures.value) c.in_ok-hs.ensures.tell in
    let k = beside.kept s b hs c.args.eqs.now whole polys tell c.requires.eqs in
    k.found

pub reduce_one-requires-clause-tell : goal.reduce_one-requires-clause-tell
reduce_one-requires-clause-tell g c =
    let s = g.S.TermStore.state c.args.s.now in
    let a = g.S.TermStore.state c.all_held.new.s in
    let t = g.S.TermStore.state c.loop-first.s in
    let u = g.S.TermStore.state c.copy_in-p.new.s in
    let p = c.copy_in-p.result in
    let b = given_up u (slot_of p) in
    let under : Keeps a b = owning.keeps-then a t b c.loop-first.invariant.kept (making.makes-freed t u b (slot_of p) c.copy_in-p.ensures.makes refl refl) in
    let whole = owning.keeps-then s a b c.in_ok-hs.ensures.kept under in
    let hs = c.deref.result.now in
    let polys : map poly_of hs ≡ c.args.eqs.now = ap (map poly_of) c.deref.ensures.value ∙ c.in_ok-hs.ensures.polys in
    let tell : AllTell [] hs (map (held_at s) hs) = subst (λ l. AllTell [] l (map (held_at s) l)) (sym c.deref.ensures.value) c.in_ok-hs.ensures.tell in
    let k = beside.kept s b hs c.args.eqs.now whole polys tell c.requires.eqs in
    k.tell

pub reduce_one-requires-clause-own : goal.reduce_one-requires-clause-own
reduce_one-requires-clause-own g c =
    let s = g.S.TermStore.state c.args.s.now in
    let a = g.S.TermStore.state c.all_held.new.s in
    let t = g.S.TermStore.state c.loop-first.s in
    let u = g.S.TermStore.state c.copy_in-p.new.s in
    let p = c.copy_in-p.result in
    let b = given_up u (slot_of p) in
    let under : Keeps a b = owning.keeps-then a t b c.loop-first.invariant.kept (making.makes-freed t u b (slot_of p) c.copy_in-p.ensures.makes refl refl) in
    let whole = owning.keeps-then s a b c.in_ok-hs.ensures.kept under in
    let hs = c.deref.result.now in
    let polys : map poly_of hs ≡ c.args.eqs.now = ap (map poly_of) c.deref.ensures.value ∙ c.in_ok-hs.ensures.polys in
    let tell : AllTell [] hs (map (held_at s) hs) = subst (λ l. AllTell [] l (map (held_at s) l)) (sym c.deref.ensures.value) c.in_ok-hs.ensures.tell in
    let k = beside.kept s b hs c.args.eqs.now whole polys tell c.requires.eqs in
    subst HaveOwnClasses (sym k.same) c.requires.own

pub returns-in_err-status-clause-kept : goal.returns-in_err-status-clause-kept
returns-in_err-status-clause-kept g c =
    let s = g.S.TermStore.state c.args.s.now in
    let a = g.S.TermStore.state c.all_held.new.s in
    let t = g.S.TermStore.state c.loop-first.s in
    let u = g.S.TermStore.state c.copy_in-p.new.s in
    let p = c.copy_in-p.result in
    let b = given_up u (slot_of p) in
    let under : Keeps a b = owning.keeps-then a t b c.loop-first.invariant.kept (making.makes-freed t u b (slot_of p) c.copy_in-p.ensures.makes refl refl) in
    let whole = owning.keeps-then s a b c.in_ok-hs.ensures.kept under in
    let hs = c.deref.result.now in
    owning.keeps-then s b _ whole c.reduce_one.ensures.kept

pub returns-in-Some-2-clause-kept : goal.returns-in-Some-2-clause-kept
returns-in-Some-2-clause-kept g c =
    let s = g.S.TermStore.state c.args.s.now in
    let a = g.S.TermStore.state c.all_held.new.s in
    let t = g.S.TermStore.state c.loop-first.s in
    let u = g.S.TermStore.state c.copy_in-p.new.s in
    let p = c.copy_in-p.result in
    let b = given_up u (slot_of p) in
    let under : Keeps a b = owning.keeps-then a t b c.loop-first.invariant.kept (making.makes-freed t u b (slot_of p) c.copy_in-p.ensures.makes refl refl) in
    let whole = owning.keeps-then s a b c.in_ok-hs.ensures.kept under in
    let hs = c.deref.result.now in
    owning.keeps-then s b _ whole c.reduce_one.ensures.kept

pub returns-in-Some-2-clause-chain : goal.returns-in-Some-2-clause-chain
returns-in-Some-2-clause-chain g c =
    let s = g.S.TermStore.state c.args.s.now in
    let a = g.S.TermStore.state c.all_held.new.s in
    let t = g.S.TermStore.state c.loop-first.s in
    let u = g.S.TermStore.state c.copy_in-p.new.s in
    let p = c.copy_in-p.result in
    let b = given_up u (slot_of p) in
    let under : Keeps a b = owning.keeps-then a t b c.loop-first.invariant.kept (making.makes-freed t u b (slot_of p) c.copy_in-p.ensures.makes refl refl) in
    let whole = owning.keeps-then s a b c.in_ok-hs.ensures.kept under in
    let hs = c.deref.result.now in
    let polys : map poly_of hs ≡ c.args.eqs.now = ap (map poly_of) c.deref.ensures.value ∙ c.in_ok-hs.ensures.polys in
    let tell : AllTell [] hs (map (held_at s) hs) = subst (λ l. AllTell [] l (map (held_at s) l)) (sym c.deref.ensures.value) c.in_ok-hs.ensures.tell in
    let k = beside.kept s b hs c.args.eqs.now whole polys tell c.requires.eqs in
    let E = map (polynomial_at s) c.args.eqs.now in
    let first = c.in-Some.first.now in
    let others = c.in-Some.after.now in
    let chain = c.loop-first.chain in
    let eqs : map (polynomial_at a) c.args.eqs.now ≡ E = ap (λ m. map (λ q. polynomial_of (list_at m (slot_of q))) c.args.eqs.now) c.in_ok-hs.ensures.kept.lists in
    let before : Chains E c.args.cons.now c.args.fuel c.loop-first.k (polynomial_at u p ∷ others) chain.steps.items chain.left =
    subst (λ q. Chains E c.args.cons.now c.args.fuel c.loop-first.k (q ∷ others) chain.steps.items chain.left) (sym c.copy_in-p.ensures.value)
    (subst (λ l. Chains l c.args.cons.now c.args.fuel c.loop-first.k (first ∷ others) chain.steps.items chain.left) eqs
    (subst (λ l. Chains (map (polynomial_at a) c.args.eqs.now) c.args.cons.now c.args.fuel c.loop-first.k l chain.steps.items chain.left) c.in-Some.ensures.cases.0 c.loop-first.invariant.chain)) in
    let after = c.reduce_one.new.chain in
    let comes = subst (λ l. Comes l c.loop-first.k (polynomial_at u p) chain.steps.items chain.left after.steps.items after.left c.in_ok-status.field-0) k.same c.in_ok-status.ensures.comes in
    sym (subst (Ends E c.args.cons.now c.args.fuel c.loop-first.k others after.steps.items after.left) c.in-Some-2.is (comes c.args.cons.now others c.args.fuel before))

pub loop-first-preserved : goal.loop-first-preserved
loop-first-preserved g c =
    let s = g.S.TermStore.state c.args.s.now in
    let a = g.S.TermStore.state c.all_held.new.s in
    let t = g.S.TermStore.state c.loop-first.s in
    let u = g.S.TermStore.state c.copy_in-p.new.s in
    let p = c.copy_in-p.result in
    let b = given_up u (slot_of p) in
    let under : Keeps a b = owning.keeps-then a t b c.loop-first.invariant.kept (making.makes-freed t u b (slot_of p) c.copy_in-p.ensures.makes refl refl) in
    let whole = owning.keeps-then s a b c.in_ok-hs.ensures.kept under in
    let hs = c.deref.result.now in
    let polys : map poly_of hs ≡ c.args.eqs.now = ap (map poly_of) c.deref.ensures.value ∙ c.in_ok-hs.ensures.polys in
    let tell : AllTell [] hs (map (held_at s) hs) = subst (λ l. AllTell [] l (map (held_at s) l)) (sym c.deref.ensures.value) c.in_ok-hs.ensures.tell in
    let k = beside.kept s b hs c.args.eqs.now whole polys tell c.requires.eqs in
    let E = map (polynomial_at s) c.args.eqs.now in
    let first = c.in-Some.first.now in
    let others = c.in-Some.after.now in
    let chain = c.loop-first.chain in
    let eqs : map (polynomial_at a) c.args.eqs.now ≡ E = ap (λ m. map (λ q. polynomial_of (list_at m (slot_of q))) c.args.eqs.now) c.in_ok-hs.ensures.kept.lists in
    let before : Chains E c.args.cons.now c.args.fuel c.loop-first.k (polynomial_at u p ∷ others) chain.steps.items chain.left =
    subst (λ q. Chains E c.args.cons.now c.args.fuel c.loop-first.k (q ∷ others) chain.steps.items chain.left) (sym c.copy_in-p.ensures.value)
    (subst (λ l. Chains l c.args.cons.now c.args.fuel c.loop-first.k (first ∷ others) chain.steps.items chain.left) eqs
    (subst (λ l. Chains (map (polynomial_at a) c.args.eqs.now) c.args.cons.now c.args.fuel c.loop-first.k l chain.steps.items chain.left) c.in-Some.ensures.cases.0 c.loop-first.invariant.chain)) in
    let after = c.reduce_one.new.chain in
    let comes = subst (λ l. Comes l c.loop-first.k (polynomial_at u p) chain.steps.items chain.left after.steps.items after.left c.in_ok-status.field-0) k.same c.in_ok-status.ensures.comes in
    let goes : Chains E c.args.cons.now c.args.fuel (suc c.loop-first.k) others after.steps.items after.left = subst (Ends E c.args.cons.now c.args.fuel c.loop-first.k others after.steps.items after.left) c.in_default-2.is (comes c.args.cons.now others c.args.fuel before) in
    let whole-list = ap length c.in-Some.ensures.cases.0 in
    record {
      kept = owning.keeps-then a b _ under c.reduce_one.ensures.kept;
      chain = subst (λ (l : List Polynomial × ℕ). Chains l.0 c.args.cons.now c.args.fuel l.1 others after.steps.items after.left) (λ i. (sym eqs i, (let z : suc c.loop-first.k ≡ c.loop-first.k + 1 = omega arith in z) i)) goes;
      count = (let n = c.loop-first.invariant.count in omega (arith, n, whole-list));
    }

pub returns-clause-chain : goal.returns-clause-chain
returns-clause-chain g c =
    let s = g.S.TermStore.state c.args.s.now in
    let a = g.S.TermStore.state c.all_held.new.s in
    let E = map (polynomial_at s) c.args.eqs.now in
    let chain = c.loop-first.chain in
    let eqs : map (polynomial_at a) c.args.eqs.now ≡ E = ap (λ m. map (λ q. polynomial_of (list_at m (slot_of q))) c.args.eqs.now) c.in_ok-hs.ensures.kept.lists in
    sym (chained.ended-at E c.args.cons.now c.args.fuel c.loop-first.k c.loop-first.rest.now chain.steps.items chain.left c.in_default.ensures.cases
    (subst (λ l. Chains l c.args.cons.now c.args.fuel c.loop-first.k c.loop-first.rest.now chain.steps.items chain.left) eqs c.loop-first.invariant.chain))
