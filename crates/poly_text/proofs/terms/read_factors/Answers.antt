use Rattle.std.proofs.Common.{arith, true, length}
use Rattle.poly_text.proofs.Exponents.{none_yet, skipped_to, without, taken, none_left, all_read}
use Rattle.poly_text.proofs.terms.read_factors.Goals as goal

pub loop-next-init : goal.loop-next-init
loop-next-init c = (c.args.joined, none_yet _ _ _ _, c.read_next_name-next.ensures, omega arith, omega (arith, c.len.ensures.len, c.len.ensures.within))

pub returns-in_default-place_from : goal.returns-in_default-place_from
returns-in_default-place_from c =
    let h = c.loop-next.invariant in
    let only = rw c.in-Some.is at h.2 in
    all_read _ h.0 _ _ _ _ (length c.args.vars.now) (omega arith) (omega arith)
    (skipped_to _ _ _ _ _ _ _ _ _ _ _ h.3 (omega arith) h.4 c.in_default-place_from.ensures only h.1)

pub loop-next-preserved-in_default-read_exponent : goal.loop-next-preserved-in_default-read_exponent
loop-next-preserved-in_default-read_exponent c =
    let h = c.loop-next.invariant in
    let p = c.in-Some-place_from.ensures in
    let only = rw c.in-Some.is at h.2 in
    let at_place = skipped_to _ _ _ _ _ _ _ _ _ _ _ p.0 (omega (arith, p.1)) h.4 p.3 only h.1 in
    (h.0, without _ _ _ _ _ _ _ _ _ _ p.1 (omega (arith, p.1, h.4)) p.2 c.in_default-read_exponent.ensures only at_place, h.2, omega (arith, p.1), h.4)

pub loop-next-preserved : goal.loop-next-preserved
loop-next-preserved c =
    let h = c.loop-next.invariant in
    let p = c.in-Some-place_from.ensures in
    let only = rw c.in-Some.is at h.2 in
    let at_place = skipped_to _ _ _ _ _ _ _ _ _ _ _ p.0 (omega (arith, p.1)) h.4 p.3 only h.1 in
    (true, taken _ _ _ _ _ _ _ _ _ _ _ _ p.1 (omega (arith, p.1, h.4)) p.2 c.in-Some-read_exponent.ensures only at_place, c.read_next_name-next-in-Some.ensures, omega (arith, p.1), h.4)

pub returns : goal.returns
returns c =
    let h = c.loop-next.invariant in
    none_left _ h.0 _ _ _ _ _ h.3 h.4 (rw c.in_default.is at h.2) h.1
