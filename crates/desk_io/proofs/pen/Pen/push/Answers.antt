use Rattle.std.proofs.Common.{inl, inr, ◌⊎◌, ◌+◌, ◌≡◌, ◌≤◌, ◌<◌, List, ◌++◌, ℕ, length, refl, ◌∙◌, ap, arith}
use Rattle.std.proofs.lemmas.Result.{err_from_is_err_and}
use Rattle.desk_io.specs.declared.pen.TheConstants.{PEN_ROOM}
use Rattle.desk_io.proofs.Growth.{put_whole, put_front, cut_rest}
use Rattle.desk_io.proofs.pen.Pen.push.Goals as goal

-- a turn of the loop means that there was no room for all
over : {S : Type 0} (sink sink0 : S) (gathered gathered0 rest bytes0 : List ℕ) (P : Type 0)
    → (PEN_ROOM < length gathered0 + length bytes0) ⊎ ((sink ≡ sink0) × (gathered ≡ gathered0) × (rest ≡ bytes0))
    → PEN_ROOM < length gathered + length rest → PEN_ROOM < length gathered0 + length bytes0
over sink sink0 gathered gathered0 rest bytes0 P (inl lt) now = lt
over sink sink0 gathered gathered0 rest bytes0 P (inr same) now = omega (arith, ap length same.1, ap length same.2, now)

settled : {S : Type 0} (sink sink0 : S) (gathered gathered0 rest bytes0 all : List ℕ)
    → (PEN_ROOM < length gathered0 + length bytes0) ⊎ ((sink ≡ sink0) × (gathered ≡ gathered0) × (rest ≡ bytes0))
    → all ≡ gathered ++ rest → length gathered0 + length bytes0 ≤ PEN_ROOM → (all ≡ gathered0 ++ bytes0) × (sink ≡ sink0)
settled sink sink0 gathered gathered0 rest bytes0 all (inl lt) e le = absurd (omega (arith, lt, le))
settled sink sink0 gathered gathered0 rest bytes0 all (inr same) e le = (e ∙ ap (λ l. l ++ rest) same.1 ∙ ap (λ l. gathered0 ++ l) same.2, same.0)

pub returns-in_err-put-clause-gathers : goal.returns-in_err-put-clause-gathers
returns-in_err-put-clause-gathers g c = λ le.
    let lt : PEN_ROOM < length c.args.self.now + length c.args.bytes.now = over _ _ _ _ _ _ ℕ c.loop-rest.invariant.begun (omega arith) in
    absurd (omega (arith, lt, le))

pub returns-clause-gathers : goal.returns-clause-gathers
returns-clause-gathers g c = λ le. settled _ _ _ _ _ _ _ c.loop-rest.invariant.begun (grind arith) le

pub returns-in_err-put-clause-bytes : goal.returns-in_err-put-clause-bytes
returns-in_err-put-clause-bytes g c =
    let p = err_from_is_err_and c.from_residual.result c.from_residual.ensures.1 in
    let put : c.deref.result.now ≡ c.loop-rest.self-inside.gathered.items ++ c.split_at.result.0.now = grind arith in
    rw p.1 (put_front _ _ _ _ _ _ _ _ c.loop-rest.invariant.out (cut_rest _ _ _ _ _ _ _ c.split_at.ensures.front c.split_at.ensures.back put refl) c.in_err-put.ensures.bytes)

pub loop-rest-preserved : goal.loop-rest-preserved
loop-rest-preserved g c =
    let put : c.deref.result.now ≡ c.loop-rest.self-inside.gathered.items ++ c.split_at.result.0.now = grind arith in
    record {
      room = omega arith;
      capacity = omega arith;
      begun = inl (over _ _ _ _ _ _ ℕ c.loop-rest.invariant.begun (omega arith));
      later = omega (arith, c.in_ok-put.ensures.cause.later);
      out = put_whole _ _ _ _ _ _ _ _ c.loop-rest.invariant.out
          (cut_rest _ _ _ _ _ _ _ c.split_at.ensures.front c.split_at.ensures.back put (ap (λ l. l ++ c.split_at.result.1.now) c.clear.ensures.items))
          c.in_ok-put.ensures.bytes;
    }
