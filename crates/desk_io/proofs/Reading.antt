-- What reads of a file say of the bytes read so far.
use Rattle.std.proofs.Common.{◌≡◌, ◌≤◌, ◌<◌, ◌+◌, min, ℕ, List, ◌++◌, length, take, drop, sym, ◌∙◌, ap, arith}
use Rattle.std.proofs.lemmas.List.{take_all, take_at, take-append-drop, length-take, length-drop}
use Rattle.desk_io.specs.Files.{ReadsFile}
use Rattle.std.proofs.Math.Seq.{take-add}

-- a front of the file as long as the file is the file
pub front_whole : (bytes file : List ℕ) (n : ℕ) → bytes ≡ take n file → length file ≤ n → bytes ≡ file
front_whole bytes file n e le = e ∙ take_all n file le

-- a front of the file, and what was read behind it
pub front_more : (bytes piece file : List ℕ) (from n to : ℕ) → bytes ≡ take from file → take n piece ≡ take n (drop from file) → to ≡ from + n
    → bytes ++ take n piece ≡ take to file
front_more bytes piece file from n to e r t =
    ap (λ l. l ++ take n piece) e ∙ ap (λ l. take from file ++ l) r ∙ sym (take-add from n file) ∙ ap (λ k. take k file) (sym t)

-- the piece begins with as many bytes of the file as there was room for, and at most so many
pub reads_file : (before after bytes file : List ℕ) (from n most : ℕ) → 0 < most → bytes ≡ file → n ≡ length (take (min (length before) most) (drop from bytes))
    → after ≡ take (min (length before) most) (drop from bytes) ++ drop n before → length after ≡ length before → ReadsFile file from n after
reads_file before after bytes file from n most some same count e room =
    let rest : List ℕ = drop from bytes in
    let wide : ℕ = min (length before) most in
    let front : take n after ≡ take wide rest = ap (λ l. take n l) e ∙ take_at (take wide rest) (drop n before) n (sym count) in
    let all : take n rest ≡ take wide rest = ap (λ l. take n l) (sym (take-append-drop wide rest)) ∙ take_at (take wide rest) (drop wide rest) n (sym count) in
    record {
      bytes = front ∙ sym all ∙ ap (λ l. take n (drop from l)) same;
      end = λ none more. omega (arith, count, room, some, ap length same, length-take wide rest, length-drop from bytes);
    }
