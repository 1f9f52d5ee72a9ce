-- A writer on its way: what it has written of a text, and what is left of it.
use Rattle.std.proofs.Common.{◌≡◌, ℕ, List, [], ◌++◌, Option, Result, refl, sym, ◌∙◌, ap, append_assoc, append-nil, subst}
use Rattle.std.specs.Result.{IsErr}
use Rattle.desk_io.specs.Bytes.{GrewByFront, Grew, Writes}
use Rattle.desk_io.proofs.Growth.{Grew-then, Grew-none}
use Rattle.desk_io.proofs.Writing.{next_failed, last_writes}

pub record Going (w0 w : Option (List ℕ)) (g0 g text left : List ℕ) : Type 0 where
  pub done : List ℕ
  pub grew : Grew w0 w g0 g done
  pub parts : text ≡ done ++ left

-- nothing is written yet
pub begun : (w : Option (List ℕ)) (g text : List ℕ) → Going w w g g text text
begun w g text = record { done = []; grew = Grew-none w g; parts = refl }

-- one more piece is written
pub wrote : (w0 w1 w2 : Option (List ℕ)) (g0 g1 g2 text left piece rest : List ℕ) → Going w0 w1 g0 g1 text left → left ≡ piece ++ rest → Grew w1 w2 g1 g2 piece → Going w0 w2 g0 g2 text rest
wrote w0 w1 w2 g0 g1 g2 text left piece rest going e grew = record {
  done = going.done ++ piece;
  grew = Grew-then w0 w1 w2 g0 g1 g2 going.done piece going.grew grew;
  parts = going.parts ∙ ap (λ l. going.done ++ l) e ∙ sym (append_assoc going.done piece rest);
}

-- nothing is to be written
pub same : (w0 w1 : Option (List ℕ)) (g0 g1 text left rest : List ℕ) → Going w0 w1 g0 g1 text left → left ≡ rest → Going w0 w1 g0 g1 text rest
same w0 w1 g0 g1 text left rest going e = record { done = going.done; grew = going.grew; parts = going.parts ∙ ap (λ l. going.done ++ l) e }

-- the next piece failed
pub stopped : {T E : Type 0} (r : Result T E) (w0 w1 w2 : Option (List ℕ)) (g0 g1 g2 text left piece rest : List ℕ)
    → IsErr r → Going w0 w1 g0 g1 text left → left ≡ piece ++ rest → GrewByFront w1 w2 (g1 ++ piece) → Writes w0 w2 g0 g2 r text
stopped r w0 w1 w2 g0 g1 g2 text left piece rest failed going e f =
    next_failed r w0 w1 w2 g0 g1 g2 going.done piece rest text failed going.grew f
    (going.parts ∙ ap (λ l. going.done ++ l) e ∙ sym (append_assoc going.done piece rest))

-- nothing is left
pub ended : (w0 w1 : Option (List ℕ)) (g0 g1 text left : List ℕ) → Going w0 w1 g0 g1 text left → left ≡ [] → Grew w0 w1 g0 g1 text
ended w0 w1 g0 g1 text left going e =
    subst (λ t. Grew w0 w1 g0 g1 t) (sym (going.parts ∙ ap (λ l. going.done ++ l) e ∙ append-nil going.done)) going.grew

-- the last piece decides
pub lasts : {T E : Type 0} (r : Result T E) (w0 w1 w2 : Option (List ℕ)) (g0 g1 g2 text left : List ℕ)
    → Going w0 w1 g0 g1 text left → Writes w1 w2 g1 g2 r left → Writes w0 w2 g0 g2 r text
lasts r w0 w1 w2 g0 g1 g2 text left going w = last_writes r w0 w1 w2 g0 g1 g2 going.done left text going.grew w going.parts
