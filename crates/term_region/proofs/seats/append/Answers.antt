use Rattle.std.proofs.Common.{◌≡◌, ◌+◌, ap, arith, refl, ◌∙◌, true, length, suc, nat_eq, ◌&&◌}
use Rattle.std.proofs.lemmas.Bool.{and_parts}
use Rattle.std.proofs.lemmas.List.{get_or_read_under}
use Rattle.term_region.specs.declared.run.Run.{Run}
use Rattle.term_region.specs.Pool.{no_run, run_at, units_of, one_of}
use Rattle.term_region.proofs.Sums.{sum-set, units-live, one-live}
use Rattle.term_region.proofs.seats.append.Goals as goal

pub returns-clause-units : goal.returns-clause-units
returns-clause-units c =
    let rs = c.args.runs.now.items in
    let p = c.index_mut.result.now in
    let is : p ≡ run_at rs c.args.slot = get_or_read_under rs c.args.slot _ p no_run c.index_mut.ensures.value c.requires.below refl in
    let live : (run_at rs c.args.slot).live ≡ true = (and_parts (run_at rs c.args.slot).live (nat_eq (suc (run_at rs c.args.slot).rank) c.args.entries && nat_eq ((run_at rs c.args.slot).start + (run_at rs c.args.slot).len) (length c.args.terms.now.items)) c.requires.last).0 in
    let q : Run = record { live = p.live; start = p.start; len = p.len + 1; rank = p.rank } in
    omega (arith, sum-set units_of rs c.args.slot q c.requires.below, units-live q (ap (λ (x : Run). x.live) is ∙ live), units-live (run_at rs c.args.slot) live, ap (λ (x : Run). x.len) is)

pub returns-clause-count : goal.returns-clause-count
returns-clause-count c =
    let rs = c.args.runs.now.items in
    let p = c.index_mut.result.now in
    let is : p ≡ run_at rs c.args.slot = get_or_read_under rs c.args.slot _ p no_run c.index_mut.ensures.value c.requires.below refl in
    let live : (run_at rs c.args.slot).live ≡ true = (and_parts (run_at rs c.args.slot).live (nat_eq (suc (run_at rs c.args.slot).rank) c.args.entries && nat_eq ((run_at rs c.args.slot).start + (run_at rs c.args.slot).len) (length c.args.terms.now.items)) c.requires.last).0 in
    let q : Run = record { live = p.live; start = p.start; len = p.len + 1; rank = p.rank } in
    omega (arith, sum-set one_of rs c.args.slot q c.requires.below, one-live q (ap (λ (x : Run). x.live) is ∙ live), one-live (run_at rs c.args.slot) live)
