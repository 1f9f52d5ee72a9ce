use Rattle.std.proofs.Common.{◌≡◌, sym, ◌∙◌, ap, arith, refl}
use Rattle.std.proofs.lemmas.List.{get_or_read_under}
use Rattle.term_region.specs.declared.run.Run.{Run}
use Rattle.term_region.specs.Pool.{no_run, run_at}
use Rattle.term_region.proofs.Sums.{live-below}
use Rattle.term_region.proofs.Lists as lists
use Rattle.term_region.proofs.calls.TermRegionTermStore.len.Goals as goal

pub index-requires : goal.index-requires
index-requires c =
    let s = c.args.self.now in
    omega (arith, live-below s.runs.items c.args.slot.0 (lists.live-run s.terms.items s.runs.items c.args.slot.0 c.requires))

pub returns : goal.returns
returns c =
    let s = c.args.self.now in
    let live = lists.live-run s.terms.items s.runs.items c.args.slot.0 c.requires in
    let is : c.index.result.now ≡ run_at s.runs.items c.args.slot.0 = get_or_read_under s.runs.items c.args.slot.0 _ c.index.result.now no_run c.index.ensures (live-below s.runs.items c.args.slot.0 live) refl in
    ap (λ (r : Run). r.len) is ∙ sym (lists.live-length s.terms.items s.runs.items c.args.slot.0 (s.kept.ordered.inside c.args.slot.0 live) c.requires)
