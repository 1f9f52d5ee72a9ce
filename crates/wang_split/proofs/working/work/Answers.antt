use Rattle.std.proofs.Common.{◌≡◌, ◌≤◌, ◌<◌, ◌^◌, ◌∙◌, List, length, map, sym, subst, arith}
use Rattle.std.proofs.lemmas.List.{length-map}
use Rattle.term_store.specs.States.{State}
use Rattle.polynomials.specs.Held.{polynomial_at}
use Rattle.workbench.specs.declared.bench.Bench.{Bench}
use Rattle.wang_split.specs.Halts.{IsFew}
use Rattle.wang_split.specs.declared.taken.Taken.TheVariants.{Stepped, Stopped}
use Rattle.poly_model.specs.Polynomial.{Polynomial}
use Rattle.term_store.specs.Changes.{Keeps}
use Rattle.proof_steps.specs.Rules.{size_of}
use Rattle.tree_laws.proofs.Unfold.{Whole, start}
use Rattle.workbench.specs.declared.order.Next.TheVariants.{Try}
use Rattle.workbench.specs.Standing.{beneath, held_at, node_at}
use Rattle.wang_split.specs.Taking.{Takes}
use Rattle.workbench.proofs.Owning as owning
use Rattle.workbench.proofs.Benches as benches
use Rattle.wang_split.proofs.Turns as turns
use Rattle.wang_split.proofs.working.work.Goals as goal
use Rattle.proof_steps.specs.declared.version.TheConstants.{VERSION}

pub due-next-requires-clause-stands : goal.due-next-requires-clause-stands
due-next-requires-clause-stands g c = (benches.turn _ _ _ c.loop-attempt.bench c.loop-attempt.invariant.stands (owning.keeps-self _)).stands

pub due-next-requires-clause-room : goal.due-next-requires-clause-room
due-next-requires-clause-room g c =
    let e = benches.room-left _ _ c.loop-attempt.bench c.loop-attempt.invariant.stands in
    let r = c.requires.room in
    omega (arith, e, r)

few-of : (s : State) (b : Bench) → IsFew (node_at s b) → (length b.eqs.items < 2 ^ 16) × (length b.nes.items < 2 ^ 16)
few-of s b f =
    let e : length (map (held_at s) b.eqs.items) ≡ length b.eqs.items = length-map b.eqs.items (held_at s) in
    let n : length (map (polynomial_at s) b.nes.items) ≡ length b.nes.items = length-map b.nes.items (polynomial_at s) in
    let fe = f.eqs in
    let fn = f.nes in
    (omega (arith, e, fe), omega (arith, n, fn))

pub due-next-requires-clause-few : goal.due-next-requires-clause-few
due-next-requires-clause-few g c = (few-of (g.S.TermStore.state c.loop-attempt.s) c.loop-attempt.bench c.loop-attempt.invariant.few).0

pub due-next-requires-clause-few_nes : goal.due-next-requires-clause-few_nes
due-next-requires-clause-few_nes g c = (few-of (g.S.TermStore.state c.loop-attempt.s) c.loop-attempt.bench c.loop-attempt.invariant.few).1

pub returns-in_default : goal.returns-in_default
returns-in_default g c =
    let s0 = g.S.TermStore.state c.args.s.now in
    let s = g.S.TermStore.state c.loop-attempt.s in
    let t = g.S.TermStore.state c.due-next.new.s in
    let b = c.loop-attempt.bench in
    let n = node_at s0 c.args.bench.now in
    let k : Keeps s t = c.due-next.ensures.kept in
    let turn = benches.turn (beneath s0 c.args.bench.now) s t b c.loop-attempt.invariant.stands k in
    record {
      few = subst IsFew (sym turn.node) c.loop-attempt.invariant.few;
      stands = (benches.kept (beneath s0 c.args.bench.now) s t b c.loop-attempt.invariant.stands k).stands;
      halted = turns.ended n (node_at s b) (node_at t b) c.loop-attempt.steps.items c.due-next.result turn.node c.loop-attempt.invariant.whole c.due-next.ensures.next (turns.no-rule c.due-next.result c.in_default.not-Try);
    }

pub returns-then-not-is_step-clause-stands : goal.returns-then-not-is_step-clause-stands
returns-then-not-is_step-clause-stands g c =
    let s0 = g.S.TermStore.state c.args.s.now in
    let s = g.S.TermStore.state c.loop-attempt.s in
    let t = g.S.TermStore.state c.due-next.new.s in
    let b = c.loop-attempt.bench in
    let n = node_at s0 c.args.bench.now in
    let k : Keeps s t = c.in-Try.ensures.kept in
    let turn = benches.turn (beneath s0 c.args.bench.now) s t b c.loop-attempt.invariant.stands k in
    (benches.kept (beneath s0 c.args.bench.now) s t b c.loop-attempt.invariant.stands k).stands

pub returns-then-not-is_step-clause-halted : goal.returns-then-not-is_step-clause-halted
returns-then-not-is_step-clause-halted g c =
    let s0 = g.S.TermStore.state c.args.s.now in
    let s = g.S.TermStore.state c.loop-attempt.s in
    let t = g.S.TermStore.state c.due-next.new.s in
    let b = c.loop-attempt.bench in
    let n = node_at s0 c.args.bench.now in
    let k : Keeps s t = c.in-Try.ensures.kept in
    let turn = benches.turn (beneath s0 c.args.bench.now) s t b c.loop-attempt.invariant.stands k in
    turns.ended n (node_at s b) (node_at t b) c.loop-attempt.steps.items (Try c.in-Try.attempt) turn.node c.loop-attempt.invariant.whole c.in-Try.ensures.next (sym c.is_step.ensures ∙ c.if-not-is_step.true)

pub returns-then-not-is_step-clause-few : goal.returns-then-not-is_step-clause-few
returns-then-not-is_step-clause-few g c =
    let s0 = g.S.TermStore.state c.args.s.now in
    let s = g.S.TermStore.state c.loop-attempt.s in
    let t = g.S.TermStore.state c.due-next.new.s in
    let b = c.loop-attempt.bench in
    let n = node_at s0 c.args.bench.now in
    let k : Keeps s t = c.in-Try.ensures.kept in
    let turn = benches.turn (beneath s0 c.args.bench.now) s t b c.loop-attempt.invariant.stands k in
    subst IsFew (sym turn.node) c.loop-attempt.invariant.few

pub returns-in-Ok-Stopped-clause-few : goal.returns-in-Ok-Stopped-clause-few
returns-in-Ok-Stopped-clause-few g c =
    let s0 = g.S.TermStore.state c.args.s.now in
    let s = g.S.TermStore.state c.loop-attempt.s in
    let t = g.S.TermStore.state c.due-next.new.s in
    let b = c.loop-attempt.bench in
    let n = node_at s0 c.args.bench.now in
    let k : Keeps s t = c.in-Try.ensures.kept in
    let turn = benches.turn (beneath s0 c.args.bench.now) s t b c.loop-attempt.invariant.stands k in
    let u = g.S.TermStore.state c.take.new.s in
    turns.few-after (node_at s b) (node_at t b) (beneath t b) u c.take.new.bench c.in-Try.attempt (Stopped c.in-Ok-Stopped.why) turn.node c.loop-attempt.invariant.few (subst (λ x. Takes (beneath t b) (node_at t b) c.in-Try.attempt x u c.take.new.bench) c.in-Ok-Stopped.field-0-is c.in-Ok-Stopped.ensures)

pub take-requires-clause-stands : goal.take-requires-clause-stands
take-requires-clause-stands g c =
    let s0 = g.S.TermStore.state c.args.s.now in
    let s = g.S.TermStore.state c.loop-attempt.s in
    let t = g.S.TermStore.state c.due-next.new.s in
    let b = c.loop-attempt.bench in
    let n = node_at s0 c.args.bench.now in
    let k : Keeps s t = c.in-Try.ensures.kept in
    let turn = benches.turn (beneath s0 c.args.bench.now) s t b c.loop-attempt.invariant.stands k in
    turn.stands

pub take-requires-clause-valid : goal.take-requires-clause-valid
take-requires-clause-valid g c =
    let s0 = g.S.TermStore.state c.args.s.now in
    let s = g.S.TermStore.state c.loop-attempt.s in
    let t = g.S.TermStore.state c.due-next.new.s in
    let b = c.loop-attempt.bench in
    let n = node_at s0 c.args.bench.now in
    let k : Keeps s t = c.in-Try.ensures.kept in
    let turn = benches.turn (beneath s0 c.args.bench.now) s t b c.loop-attempt.invariant.stands k in
    turns.valid-there (node_at s b) (node_at t b) c.in-Try.attempt turn.node c.in-Try.ensures.next

pub take-requires-clause-room : goal.take-requires-clause-room
take-requires-clause-room g c =
    let s0 = g.S.TermStore.state c.args.s.now in
    let s = g.S.TermStore.state c.loop-attempt.s in
    let t = g.S.TermStore.state c.due-next.new.s in
    let b = c.loop-attempt.bench in
    let n = node_at s0 c.args.bench.now in
    let k : Keeps s t = c.in-Try.ensures.kept in
    let turn = benches.turn (beneath s0 c.args.bench.now) s t b c.loop-attempt.invariant.stands k in
    let r = c.requires.room in
    let e = turn.under.spare in
    omega (arith, r, e)

pub returns-in-Err-clause-stands : goal.returns-in-Err-clause-stands
returns-in-Err-clause-stands g c =
    let s0 = g.S.TermStore.state c.args.s.now in
    let s = g.S.TermStore.state c.loop-attempt.s in
    let t = g.S.TermStore.state c.due-next.new.s in
    let b = c.loop-attempt.bench in
    let n = node_at s0 c.args.bench.now in
    let k : Keeps s t = c.in-Try.ensures.kept in
    let turn = benches.turn (beneath s0 c.args.bench.now) s t b c.loop-attempt.invariant.stands k in
    let u = g.S.TermStore.state c.take.new.s in
    benches.restand (beneath s0 c.args.bench.now) (beneath t b) u c.take.new.bench turn.under c.in-Err.ensures

pub returns-in-Ok-Stopped-clause-stands : goal.returns-in-Ok-Stopped-clause-stands
returns-in-Ok-Stopped-clause-stands g c =
    let s0 = g.S.TermStore.state c.args.s.now in
    let s = g.S.TermStore.state c.loop-attempt.s in
    let t = g.S.TermStore.state c.due-next.new.s in
    let b = c.loop-attempt.bench in
    let n = node_at s0 c.args.bench.now in
    let k : Keeps s t = c.in-Try.ensures.kept in
    let turn = benches.turn (beneath s0 c.args.bench.now) s t b c.loop-attempt.invariant.stands k in
    let u = g.S.TermStore.state c.take.new.s in
    benches.restand (beneath s0 c.args.bench.now) (beneath t b) u c.take.new.bench turn.under (subst (λ x. Takes (beneath t b) (node_at t b) c.in-Try.attempt x u c.take.new.bench) c.in-Ok-Stopped.field-0-is c.in-Ok-Stopped.ensures).1.stands

pub returns-in-Ok-Stopped-clause-halted : goal.returns-in-Ok-Stopped-clause-halted
returns-in-Ok-Stopped-clause-halted g c =
    let s0 = g.S.TermStore.state c.args.s.now in
    let s = g.S.TermStore.state c.loop-attempt.s in
    let t = g.S.TermStore.state c.due-next.new.s in
    let b = c.loop-attempt.bench in
    let n = node_at s0 c.args.bench.now in
    let k : Keeps s t = c.in-Try.ensures.kept in
    let turn = benches.turn (beneath s0 c.args.bench.now) s t b c.loop-attempt.invariant.stands k in
    let u = g.S.TermStore.state c.take.new.s in
    turns.stopped n (node_at s b) (node_at t b) c.loop-attempt.steps.items c.in-Try.attempt c.in-Ok-Stopped.why (beneath t b) u c.take.new.bench turn.node c.loop-attempt.invariant.whole c.in-Try.ensures.next (subst (λ x. Takes (beneath t b) (node_at t b) c.in-Try.attempt x u c.take.new.bench) c.in-Ok-Stopped.field-0-is c.in-Ok-Stopped.ensures)

pub returns-in-Err-push-clause-stands : goal.returns-in-Err-push-clause-stands
returns-in-Err-push-clause-stands g c =
    let s0 = g.S.TermStore.state c.args.s.now in
    let s = g.S.TermStore.state c.loop-attempt.s in
    let t = g.S.TermStore.state c.due-next.new.s in
    let b = c.loop-attempt.bench in
    let n = node_at s0 c.args.bench.now in
    let k : Keeps s t = c.in-Try.ensures.kept in
    let turn = benches.turn (beneath s0 c.args.bench.now) s t b c.loop-attempt.invariant.stands k in
    let u = g.S.TermStore.state c.take.new.s in
    benches.restand (beneath s0 c.args.bench.now) (beneath t b) u c.take.new.bench turn.under (subst (λ x. Takes (beneath t b) (node_at t b) c.in-Try.attempt x u c.take.new.bench) c.in-Ok-Stepped.field-0-is c.in-Ok-Stepped.ensures).2.stands

pub loop-attempt-preserved : goal.loop-attempt-preserved
loop-attempt-preserved g c =
    let s0 = g.S.TermStore.state c.args.s.now in
    let s = g.S.TermStore.state c.loop-attempt.s in
    let t = g.S.TermStore.state c.due-next.new.s in
    let b = c.loop-attempt.bench in
    let n = node_at s0 c.args.bench.now in
    let k : Keeps s t = c.in-Try.ensures.kept in
    let turn = benches.turn (beneath s0 c.args.bench.now) s t b c.loop-attempt.invariant.stands k in
    let u = g.S.TermStore.state c.take.new.s in
    let a = turns.advanced n s t (beneath t b) u b c.take.new.bench c.loop-attempt.steps.items c.in-Try.attempt c.in-Ok-Stepped.step turn.node c.loop-attempt.invariant.whole c.in-Try.ensures.next (subst (λ x. Takes (beneath t b) (node_at t b) c.in-Try.attempt x u c.take.new.bench) c.in-Ok-Stepped.field-0-is c.in-Ok-Stepped.ensures) in
    record {
      few = turns.few-after (node_at s b) (node_at t b) (beneath t b) u c.take.new.bench c.in-Try.attempt (Stepped c.in-Ok-Stepped.step) turn.node c.loop-attempt.invariant.few (subst (λ x. Takes (beneath t b) (node_at t b) c.in-Try.attempt x u c.take.new.bench) c.in-Ok-Stepped.field-0-is c.in-Ok-Stepped.ensures);
      stands = benches.restand (beneath s0 c.args.bench.now) (beneath t b) u c.take.new.bench turn.under a.stands;
      whole = subst (λ l. (cons : List Polynomial) → Whole VERSION cons n (node_at u c.take.new.bench) l) (sym c.in-Ok.ensures.items) a.whole;
    }

pub loop-attempt-smaller : goal.loop-attempt-smaller
loop-attempt-smaller g c =
    let s0 = g.S.TermStore.state c.args.s.now in
    let s = g.S.TermStore.state c.loop-attempt.s in
    let t = g.S.TermStore.state c.due-next.new.s in
    let b = c.loop-attempt.bench in
    let n = node_at s0 c.args.bench.now in
    let k : Keeps s t = c.in-Try.ensures.kept in
    let turn = benches.turn (beneath s0 c.args.bench.now) s t b c.loop-attempt.invariant.stands k in
    let u = g.S.TermStore.state c.take.new.s in
    (turns.advanced n s t (beneath t b) u b c.take.new.bench c.loop-attempt.steps.items c.in-Try.attempt c.in-Ok-Stepped.step turn.node c.loop-attempt.invariant.whole c.in-Try.ensures.next (subst (λ x. Takes (beneath t b) (node_at t b) c.in-Try.attempt x u c.take.new.bench) c.in-Ok-Stepped.field-0-is c.in-Ok-Stepped.ensures)).less

pub loop-attempt-init : goal.loop-attempt-init
loop-attempt-init g c =
    let s = g.S.TermStore.state c.args.s.now in
    let b = c.args.bench.now in
    let enough : size_of (node_at s b) ≤ b.fuel = (let z = c.requires.stands.size in let f = c.requires.stands.fuel in omega (arith, z, f)) in
    record {
      few = c.requires.few;
      stands = c.requires.stands;
      whole = λ cons. subst (Whole VERSION cons (node_at s b) (node_at s b)) (sym c.requires.steps) (start VERSION cons (node_at s b) enough);
    }
