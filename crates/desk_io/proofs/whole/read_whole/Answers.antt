use Rattle.std.proofs.Common.{◌≡◌, ◌≤◌, ◌+◌, length, vec_len, take, ap, sym, ◌∙◌, arith}
use Rattle.desk_io.specs.Files.{known_at}
use Rattle.desk_io.proofs.Reading.{front_whole, front_more}
use Rattle.desk_io.proofs.whole.read_whole.Goals as goal

pub returns-then-count-eq0-clause-whole : goal.returns-then-count-eq0-clause-whole
returns-then-count-eq0-clause-whole g c = λ file holds.
    let read = c.in-Ok.ensures.bytes file (ap (λ h. known_at h c.args.name.now) c.loop-count.invariant.same ∙ holds) in
    let le : length file ≤ c.len-from.result = read.end c.if-count-eq0.true (omega arith) in
    front_whole _ _ _ (c.loop-count.invariant.front file holds) (omega arith)

pub loop-count-preserved : goal.loop-count-preserved
loop-count-preserved g c =
    let more = c.in-Ok-extend_from_slice.ensures in
    let count = c.in-Ok.ensures.bound in
    let to : vec_len c.extend_from_slice.new.self ≡ vec_len c.loop-count.bytes + c.in-Ok.count = omega (arith, more.len, count) in
    record {
      same = c.in-Ok.ensures.same ∙ c.loop-count.invariant.same;
      later = omega (arith, c.in-Ok.ensures.later);
      fits = omega (arith, to);
      front = λ file holds.
          let read = c.in-Ok.ensures.bytes file (ap (λ h. known_at h c.args.name.now) c.loop-count.invariant.same ∙ holds) in
          more.items ∙ front_more _ _ file c.len-from.result _ _ (c.loop-count.invariant.front file holds ∙ ap (λ n. take n file) (sym c.len-from.ensures))
          read.bytes (omega (arith, to));
    }
