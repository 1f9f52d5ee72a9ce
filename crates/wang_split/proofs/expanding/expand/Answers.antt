use Rattle.std.proofs.Common.{◌∙◌, ap, arith}
use Rattle.term_store.specs.Changes.{Keeps}
use Rattle.workbench.specs.Standing.{beneath}
use Rattle.workbench.proofs.Owning as owning
use Rattle.workbench.proofs.Benches as benches
use Rattle.proof_steps.specs.Trees.{expansion_of}
use Rattle.proof_steps.specs.declared.piece.Node.{Node}
use Rattle.triangular.proofs.Beside as beside
use Rattle.wang_split.proofs.expanding.expand.Goals as goal
use Rattle.proof_steps.specs.declared.version.TheConstants.{VERSION}

pub finish-expanded-requires-clause-stands : goal.finish-expanded-requires-clause-stands
finish-expanded-requires-clause-stands g c = (benches.turn _ _ _ c.in_ok-bench.bench c.in_ok-bench.ensures.opened.stands (owning.keeps-self _)).stands

pub finish-expanded-requires-clause-room : goal.finish-expanded-requires-clause-room
finish-expanded-requires-clause-room g c =
    let s = g.S.TermStore.state c.args.s.now in
    let a = g.S.TermStore.state c.open.new.s in
    let turn = benches.turn s a a c.in_ok-bench.bench c.in_ok-bench.ensures.opened.stands (owning.keeps-self a) in
    let same = turn.under.spare in
    let room = c.requires.room in
    omega (arith, same, room)

pub release-requires : goal.release-requires
release-requires g c = (benches.turn _ _ _ c.finish-expanded.new.bench c.finish-expanded.ensures.stands (owning.keeps-self _)).stands.owns

pub returns-clause-kept : goal.returns-clause-kept
returns-clause-kept g c =
    let s = g.S.TermStore.state c.args.s.now in
    let a = g.S.TermStore.state c.open.new.s in
    let t = g.S.TermStore.state c.finish-expanded.new.s in
    let v = g.S.TermStore.state c.release.new.s in
    let first : Keeps s (beneath a c.in_ok-bench.bench) = (benches.turn s a a c.in_ok-bench.bench c.in_ok-bench.ensures.opened.stands (owning.keeps-self a)).under in
    let second : Keeps (beneath a c.in_ok-bench.bench) (beneath t c.finish-expanded.new.bench) =
    (benches.turn (beneath a c.in_ok-bench.bench) t t c.finish-expanded.new.bench c.finish-expanded.ensures.stands (owning.keeps-self t)).under in
    owning.keeps-then s (beneath a c.in_ok-bench.bench) v first (owning.keeps-then (beneath a c.in_ok-bench.bench) (beneath t c.finish-expanded.new.bench) v second c.release.ensures)

pub returns-clause-piece : goal.returns-clause-piece
returns-clause-piece g c =
    beside.ok-map _ _ c.finish-expanded.result (λ e r. r.0 ∙ ap (λ (m : Node). (expansion_of VERSION c.args.cons.now m).0) c.in_ok-bench.ensures.opened.node) c.finish-expanded.ensures.rests

pub returns-clause-children : goal.returns-clause-children
returns-clause-children g c =
    beside.ok-map _ _ c.finish-expanded.result (λ e r. r.1 ∙ ap (λ (m : Node). (expansion_of VERSION c.args.cons.now m).1) c.in_ok-bench.ensures.opened.node) c.finish-expanded.ensures.rests
