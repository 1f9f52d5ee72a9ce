use Rattle.std.proofs.Common.{◌≡◌, ◌+◌, get_or, sym, ◌∙◌, ap, arith, refl}
use Rattle.std.proofs.lemmas.List.{get_or_read_under}
use Rattle.term_region.specs.declared.run.Run.{Run}
use Rattle.term_region.specs.Pool.{no_run, run_at}
use Rattle.term_region.proofs.Sums.{live-below}
use Rattle.term_region.proofs.Lists as lists
use Rattle.term_region.proofs.calls.TermRegionTermStore.get.Goals as goal

pub index-requires : goal.index-requires
index-requires c =
    let s = c.args.self.now in
    omega (arith, live-below s.runs.items c.args.slot.0 (lists.live-run s.terms.items s.runs.items c.args.slot.0 c.requires.live))

pub overflow_add-index : goal.overflow_add-index
overflow_add-index c =
    let s = c.args.self.now in
    let live = lists.live-run s.terms.items s.runs.items c.args.slot.0 c.requires.live in
    let is : c.index.result.now ≡ run_at s.runs.items c.args.slot.0 = get_or_read_under s.runs.items c.args.slot.0 _ c.index.result.now no_run c.index.ensures (live-below s.runs.items c.args.slot.0 live) refl in
    let inside = s.kept.ordered.inside c.args.slot.0 live in
    omega (arith, ap (λ (r : Run). r.start) is, inside, lists.live-length s.terms.items s.runs.items c.args.slot.0 inside c.requires.live, c.requires.below)

pub index-requires-2 : goal.index-requires-2
index-requires-2 c =
    let s = c.args.self.now in
    let live = lists.live-run s.terms.items s.runs.items c.args.slot.0 c.requires.live in
    let is : c.index.result.now ≡ run_at s.runs.items c.args.slot.0 = get_or_read_under s.runs.items c.args.slot.0 _ c.index.result.now no_run c.index.ensures (live-below s.runs.items c.args.slot.0 live) refl in
    let inside = s.kept.ordered.inside c.args.slot.0 live in
    omega (arith, ap (λ (r : Run). r.start) is, inside, lists.live-length s.terms.items s.runs.items c.args.slot.0 inside c.requires.live, c.requires.below)

pub returns : goal.returns
returns c =
    let s = c.args.self.now in
    let live = lists.live-run s.terms.items s.runs.items c.args.slot.0 c.requires.live in
    let is : c.index.result.now ≡ run_at s.runs.items c.args.slot.0 = get_or_read_under s.runs.items c.args.slot.0 _ c.index.result.now no_run c.index.ensures (live-below s.runs.items c.args.slot.0 live) refl in
    let inside = s.kept.ordered.inside c.args.slot.0 live in
    c.index-2.ensures ∙ ap (λ (r : Run). get_or s.terms.items (r.start + c.args.i) c.index-2.result.now) is
    ∙ sym (lists.live-item s.terms.items s.runs.items c.args.slot.0 c.args.i c.index-2.result.now (omega (arith, lists.live-length s.terms.items s.runs.items c.args.slot.0 inside c.requires.live, c.requires.below)) c.requires.live)
