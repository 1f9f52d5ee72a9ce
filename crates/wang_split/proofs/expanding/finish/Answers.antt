use Rattle.std.proofs.Common.{sym, ◌∙◌, arith}
use Rattle.workbench.specs.Standing.{beneath}
use Rattle.workbench.proofs.Owning as owning
use Rattle.workbench.proofs.Benches as benches
use Rattle.triangular.proofs.Beside as beside
use Rattle.wang_split.proofs.expanding.finish.Goals as goal

pub conclude-requires-clause-stands : goal.conclude-requires-clause-stands
conclude-requires-clause-stands g c = (benches.turn _ _ _ c.work.new.bench c.in_ok-halt.ensures.stands (owning.keeps-self _)).stands

pub conclude-requires-clause-room : goal.conclude-requires-clause-room
conclude-requires-clause-room g c =
    let s = g.S.TermStore.state c.args.s.now in
    let t = g.S.TermStore.state c.work.new.s in
    let turn = benches.turn (beneath s c.args.bench.now) t t c.work.new.bench c.in_ok-halt.ensures.stands (owning.keeps-self t) in
    let same = turn.under.spare in
    let room = c.requires.room in
    omega (arith, same, room)

pub returns-clause-stands : goal.returns-clause-stands
returns-clause-stands g c =
    let s = g.S.TermStore.state c.args.s.now in
    let t = g.S.TermStore.state c.work.new.s in
    let u = g.S.TermStore.state c.conclude.new.s in
    (benches.kept (beneath s c.args.bench.now) t u c.work.new.bench c.in_ok-halt.ensures.stands c.conclude.ensures.kept).stands

pub returns-clause-rests : goal.returns-clause-rests
returns-clause-rests g c =
    let w = c.in_ok-halt.ensures.halted.whole c.args.cons.now in
    beside.ok-map _ _ c.conclude.result (λ e r. (r.0 ∙ sym w.piece, r.1 ∙ sym w.nodes)) c.conclude.ensures.rests
