use Rattle.std.proofs.Common.{sym, ◌∙◌, ap}
use Rattle.term_store.specs.Runs as store
use Rattle.term_region.specs.Pool.{seen}
use Rattle.term_region.proofs.Lists as lists
use Rattle.term_region.proofs.calls.TermRegionTermStore.fresh.Goals as goal

pub returns-clause-vacant : goal.returns-clause-vacant
returns-clause-vacant c =
    let s = c.args.self.now in
    lists.dead-slot s.terms.items s.runs.items c.seat-slot.result (sym (c.make_way.ensures.stays.lives c.seat-slot.result) ∙ c.seat-slot.ensures.was_dead)

pub returns-clause-lists : goal.returns-clause-lists
returns-clause-lists c =
    let s = c.args.self.now in
    lists.lists-fresh s.terms.items c.make_way.new.terms.items s.runs.items c.seat-slot.new.runs.items c.seat-slot.result _ _ c.seat-slot.ensures.here
    (λ j n. ap (λ r. store.run_at c.make_way.new.terms.items (seen r)) (c.seat-slot.ensures.others j n) ∙ c.make_way.ensures.stays.lists j)
