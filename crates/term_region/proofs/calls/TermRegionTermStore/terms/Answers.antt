use Rattle.std.proofs.Common.{◌≡◌, ◌∙◌, sym, ap, arith, refl, drop, take}
use Rattle.std.proofs.lemmas.List.{get_or_read_under}
use Rattle.term_region.specs.declared.run.Run.{Run}
use Rattle.term_region.specs.Pool.{no_run, run_at}
use Rattle.term_region.proofs.Sums.{live-below}
use Rattle.term_region.proofs.Lists as lists
use Rattle.term_region.proofs.calls.TermRegionTermStore.terms.Goals as goal

pub index-run-requires : goal.index-run-requires
index-run-requires c =
    let s = c.args.self.now in
    omega (arith, live-below s.runs.items c.args.slot.0 (lists.live-run s.terms.items s.runs.items c.args.slot.0 c.requires))

pub items-requires : goal.items-requires
items-requires c =
    let s = c.args.self.now in
    let live = lists.live-run s.terms.items s.runs.items c.args.slot.0 c.requires in
    let is : c.index-run.result.now ≡ run_at s.runs.items c.args.slot.0 = get_or_read_under s.runs.items c.args.slot.0 _ c.index-run.result.now no_run c.index-run.ensures (live-below s.runs.items c.args.slot.0 live) refl in
    omega (arith, ap (λ (r : Run). r.start) is, ap (λ (r : Run). r.len) is, s.kept.ordered.inside c.args.slot.0 live)

pub returns : goal.returns
returns c =
    let s = c.args.self.now in
    let live = lists.live-run s.terms.items s.runs.items c.args.slot.0 c.requires in
    let is : c.index-run.result.now ≡ run_at s.runs.items c.args.slot.0 = get_or_read_under s.runs.items c.args.slot.0 _ c.index-run.result.now no_run c.index-run.ensures (live-below s.runs.items c.args.slot.0 live) refl in
    c.items.ensures ∙ ap (λ l. take c.index-run.result.now.len (drop c.index-run.result.now.start l)) c.deref.ensures.value
    ∙ ap (λ (r : Run). take r.len (drop r.start s.terms.items)) is ∙ sym (lists.live-terms s.terms.items s.runs.items c.args.slot.0 c.requires)
