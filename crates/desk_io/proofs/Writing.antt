-- What a writer of several pieces owes at each exit: lemmas for whoever writes over a pen or puts several lines.
use Rattle.std.proofs.Common.{◌≡◌, ◌<◌, ◌+◌, List, [], ◌∷◌, ◌++◌, ℕ, Option, Result, Ok, Err, sym, ◌∙◌, ap, append_assoc, append-nil, subst, length, get_or, take, drop}
use Rattle.std.specs.List.{flat_map}
use Rattle.std.specs.Io.KnownBytes.{append_known}
use Rattle.std.proofs.lemmas.List.{take_more, take-append-drop}
use Rattle.std.proofs.lemmas.List.Concat.{flat_map-append}
use Rattle.std.specs.Result.{IsErr}
use Rattle.std.proofs.lemmas.Result.{MatchResult-from_err}
use Rattle.desk_io.specs.Bytes.{GrewByFront, Grew, Puts, Writes}
use Rattle.desk_io.proofs.Growth.{grown_twice, Grew-then, Grew-front, front_longer}

-- the first piece failed
pub first_failed : {T E : Type 0} (r : Result T E) (w0 w1 : Option (List ℕ)) (g0 g1 a rest text : List ℕ)
    → IsErr r → GrewByFront w0 w1 (g0 ++ a) → text ≡ a ++ rest → Writes w0 w1 g0 g1 r text
first_failed r w0 w1 g0 g1 a rest text failed f e =
    MatchResult-from_err r _ _ failed (λ _. subst (λ t. GrewByFront w0 w1 (g0 ++ t)) (sym e) (front_longer w0 w1 g0 a rest f))

-- pieces were written, and the next one failed
pub next_failed : {T E : Type 0} (r : Result T E) (w0 w1 w2 : Option (List ℕ)) (g0 g1 g2 a b rest text : List ℕ)
    → IsErr r → Grew w0 w1 g0 g1 a → GrewByFront w1 w2 (g1 ++ b) → text ≡ a ++ b ++ rest → Writes w0 w2 g0 g2 r text
next_failed r w0 w1 w2 g0 g1 g2 a b rest text failed grew f e =
    first_failed r w0 w2 g0 g2 (a ++ b) rest text failed (Grew-front w0 w1 w2 g0 g1 a b grew f) e

-- pieces were written, and the call ends with what the last writer answers
pub last_writes : {T E : Type 0} (r : Result T E) (w0 w1 w2 : Option (List ℕ)) (g0 g1 g2 a b text : List ℕ)
    → Grew w0 w1 g0 g1 a → Writes w1 w2 g1 g2 r b → text ≡ a ++ b → Writes w0 w2 g0 g2 r text
last_writes (Ok x) w0 w1 w2 g0 g1 g2 a b text grew w e =
    subst (λ t. Grew w0 w2 g0 g2 t) (sym e) (Grew-then w0 w1 w2 g0 g1 g2 a b grew w)
last_writes (Err x) w0 w1 w2 g0 g1 g2 a b text grew w e =
    subst (λ t. GrewByFront w0 w2 (g0 ++ t)) (sym e) (Grew-front w0 w1 w2 g0 g1 a b grew w)

-- the pen is closed
pub closed : {T E : Type 0} (r : Result T E) (w0 w1 w2 : Option (List ℕ)) (g0 g text : List ℕ) → g0 ≡ [] → Grew w0 w1 g0 g text → Puts w1 w2 r g → Puts w0 w2 r text
closed (Ok x) w0 w1 w2 g0 g text e grew p =
    grown_twice w0 w1 w2 grew.out g grew.written p ∙ ap (λ l. append_known w0 l) (grew.gathered_rest ∙ ap (λ l. l ++ text) e)
closed (Err x) w0 w1 w2 g0 g text e grew f = record {
  front = grew.out ++ f.front;
  rest = f.rest;
  parts = sym (grew.gathered_rest ∙ ap (λ l. l ++ text) e) ∙ ap (λ l. grew.out ++ l) f.parts ∙ sym (append_assoc grew.out f.front f.rest);
  written = grown_twice w0 w1 w2 grew.out f.front grew.written f.written;
}

-- the pieces of one more item
pub pieces_more : {X : Type 0} (piece : X → List ℕ) (xs : List X) (i : ℕ) (d : X) → i < length xs
    → flat_map piece (take (i + 1) xs) ≡ flat_map piece (take i xs) ++ piece (get_or xs i d)
pieces_more piece xs i d lt =
    ap (λ l. flat_map piece l) (take_more xs i d lt) ∙ flat_map-append piece (take i xs) (get_or xs i d ∷ [])
    ∙ ap (λ l. flat_map piece (take i xs) ++ l) (append-nil (piece (get_or xs i d)))

-- the pieces of the items before one, its own, and those of the items behind it
pub pieces_split : {X : Type 0} (piece : X → List ℕ) (xs : List X) (i : ℕ) (d : X) → i < length xs
    → flat_map piece xs ≡ flat_map piece (take i xs) ++ piece (get_or xs i d) ++ flat_map piece (drop (i + 1) xs)
pieces_split piece xs i d lt =
    ap (λ l. flat_map piece l) (sym (take-append-drop (i + 1) xs)) ∙ flat_map-append piece (take (i + 1) xs) (drop (i + 1) xs)
    ∙ ap (λ l. l ++ flat_map piece (drop (i + 1) xs)) (pieces_more piece xs i d lt)

-- pieces were put, each by a put of its own, and a front of the next
pub next_put_failed : {T E : Type 0} (r : Result T E) (w0 w1 w2 : Option (List ℕ)) (a b rest text : List ℕ)
    → IsErr r → w1 ≡ append_known w0 a → GrewByFront w1 w2 b → text ≡ a ++ b ++ rest → Puts w0 w2 r text
next_put_failed r w0 w1 w2 a b rest text failed grown f e =
    MatchResult-from_err r _ _ failed (λ _. record {
      front = a ++ f.front;
      rest = f.rest ++ rest;
      parts = e ∙ ap (λ l. (a ++ l) ++ rest) f.parts ∙ (simp append_assoc);
      written = grown_twice w0 w1 w2 a f.front grown f.written;
    })
