-- The tokens of a file stand in it.
use Rattle.std.proofs.Common.{◌≡◌, ℕ, ◌+◌, List, [], ◌∷◌, ◌++◌, length, take, drop, Bool, true, false, ◌==◌, cond, refl, sym, ap, subst, ◌∙◌, arith, append_assoc, length-append}
use Rattle.std.specs.Prelude.{count_by, if◌then◌else◌}
use Rattle.std.specs.List.{AllByRecursion, take_while}
use Rattle.std.proofs.lemmas.List.Sums.{take_while-cons, sum_by-append}
use Rattle.std.proofs.lemmas.Grind.{common_steps}
use Rattle.gcl_reader.specs.Tokens.{Token, Mode, Between, tokens_from, mode_after, line_after, text_from, begins, is_word, is_brace}
use Rattle.desk_io.specs.Characters.{line_feed}
use Rattle.gcl_reader.specs.Standing.{is_line_feed, StandsIn, TokensStand}

drop-front : (front bs : List ℕ) → drop (length front) (front ++ bs) ≡ bs
drop-front front bs = grind (arith, common_steps)

take-front : (front bs : List ℕ) → take (length front) (front ++ bs) ≡ front
take-front front bs = grind (arith, common_steps)

run-step : (b : ℕ) (bs : List ℕ) (t : Bool) → is_word b ≡ t → take_while is_word bs ≡ take (length (take_while is_word bs)) bs →
    take_while is_word (b ∷ bs) ≡ take (length (take_while is_word (b ∷ bs))) (b ∷ bs)
run-step b bs true e h = rw (take_while-cons is_word b bs, e) (ap (λ (l : List ℕ). b ∷ l) h)
run-step b bs false e h = rw (take_while-cons is_word b bs, e) refl

-- A run stands in front.
run-front : (bs : List ℕ) → take_while is_word bs ≡ take (length (take_while is_word bs)) bs
run-front [] = grind (arith, common_steps)
run-front (b ∷ bs) = run-step b bs (is_word b) refl (run-front bs)

-- So does a token.
text-front : (b : ℕ) (bs : List ℕ) (w c : Bool) →
    let text : List ℕ = if w then (b ∷ take_while is_word bs) else (if c then b ∷ [] else []) in text ≡ take (length text) (b ∷ bs)
text-front b bs true c = ap (λ (l : List ℕ). b ∷ l) (run-front bs)
text-front b bs false true = refl
text-front b bs false false = refl

feeds-step : (line n : ℕ) (t : Bool) → line ≡ 1 + n → (if t then line + 1 else line) ≡ 1 + (n + (0 + cond t 1 0))
feeds-step line n true e = omega (arith, e)
feeds-step line n false e = omega (arith, e)

-- One more byte has one more line feed where it is one.
feeds-push : (front : List ℕ) (b line : ℕ) → line ≡ 1 + count_by is_line_feed front → line_after b line ≡ 1 + count_by is_line_feed (front ++ b ∷ [])
feeds-push front b line e =
    feeds-step line (count_by is_line_feed front) (b == line_feed) e
    ∙ ap (λ (n : ℕ). 1 + n) (sym (sum_by-append (λ (x : ℕ). cond (is_line_feed x) 1 0) front (b ∷ [])))

picked : (P : Token → Type 0) (c : Bool) (t : Token) (rest : List Token) → P t → AllByRecursion P rest → AllByRecursion P (if c then t ∷ rest else rest)
picked P true t rest h others = (h, others)
picked P false t rest h others = others

stand-from : (m : Mode) (front bs : List ℕ) (line at : ℕ) → at ≡ length front → line ≡ 1 + count_by is_line_feed front →
    AllByRecursion (StandsIn (front ++ bs)) (tokens_from m line at bs)
unfolding tokens_from
stand-from m front [] line at is_at is_line = tt
stand-from m front (b ∷ bs) line at is_at is_line =
    let whole : List ℕ = front ++ (b ∷ bs) in
    let next : at + 1 ≡ length (front ++ b ∷ []) = omega (arith, is_at, length-append front (b ∷ [])) in
    let rest = stand-from (mode_after m b) (front ++ b ∷ []) bs (line_after b line) (at + 1) next (feeds-push front b line is_line) in
    let others = subst (λ (l : List ℕ). AllByRecursion (StandsIn l) (tokens_from (mode_after m b) (line_after b line) (at + 1) bs)) (append_assoc front (b ∷ []) bs) rest in
    let text : text_from b bs ≡ take (length (text_from b bs)) (drop at whole) =
    text-front b bs (is_word b) (is_brace b) ∙ ap (take (length (text_from b bs))) (sym (drop-front front (b ∷ bs)) ∙ ap (λ k. drop k whole) (sym is_at)) in
    let above : line ≡ 1 + count_by is_line_feed (take at whole) =
    is_line ∙ ap (λ (l : List ℕ). 1 + count_by is_line_feed l) (sym (take-front front (b ∷ bs)) ∙ ap (λ k. take k whole) (sym is_at)) in
    picked (StandsIn whole) (begins m b) (record { line = line; at = at; text = text_from b bs })
    (tokens_from (mode_after m b) (line_after b line) (at + 1) bs) (text, above) others

pub tokens-stand : TokensStand
tokens-stand bytes = stand-from Between [] bytes 1 0 refl refl
