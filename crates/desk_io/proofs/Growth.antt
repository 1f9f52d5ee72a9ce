-- How what is written and gathered grows, text after text.
use Rattle.std.proofs.Common.{◌≡◌, ℕ, List, [], ◌++◌, Option, None, Some, refl, sym, ◌∙◌, ap, append_assoc, append-nil, take, drop, subst}
use Rattle.std.proofs.lemmas.List.{take-append-drop}
use Rattle.std.specs.Io.KnownBytes.{append_known}
use Rattle.desk_io.specs.Bytes.{GrewByFront, Grew}

-- known bytes grow by two lists one after the other
pub append_known-append : (old : Option (List ℕ)) (a b : List ℕ) → append_known (append_known old a) b ≡ append_known old (a ++ b)
append_known-append None a b = refl
append_known-append (Some w) a b = ap Some (append_assoc w a b)

-- known bytes that grow by nothing
pub append_known-none : (old : Option (List ℕ)) → old ≡ append_known old []
append_known-none None = refl
append_known-none (Some w) = ap Some (sym (append-nil w))

-- two growths, one after the other
pub grown_twice : (w0 w1 w2 : Option (List ℕ)) (a b : List ℕ) → w1 ≡ append_known w0 a → w2 ≡ append_known w1 b → w2 ≡ append_known w0 (a ++ b)
grown_twice w0 w1 w2 a b p q = q ∙ ap (λ w. append_known w b) p ∙ append_known-append w0 a b

-- what is gathered begins with bytes that are put whole
pub put_whole : (w0 w w1 : Option (List ℕ)) (g0 g b back text : List ℕ) → Grew w0 w g0 g text → g ≡ b ++ back → w1 ≡ append_known w b → Grew w0 w1 g0 back text
put_whole w0 w w1 g0 g b back text grew e p = record {
  out = grew.out ++ b;
  written = grown_twice w0 w w1 grew.out b grew.written p;
  gathered_rest = append_assoc grew.out b back ∙ ap (λ l. grew.out ++ l) (sym e) ∙ grew.gathered_rest;
}

-- what is gathered begins with bytes of which a front is put
pub put_front : (w0 w w1 : Option (List ℕ)) (g0 g b back text : List ℕ) → Grew w0 w g0 g text → g ≡ b ++ back → GrewByFront w w1 b → GrewByFront w0 w1 (g0 ++ text)
put_front w0 w w1 g0 g b back text grew e f = record {
  front = grew.out ++ f.front;
  rest = f.rest ++ back;
  parts = sym grew.gathered_rest ∙ ap (λ l. grew.out ++ l) (e ∙ ap (λ l. l ++ back) f.parts)
      ∙ (simp append_assoc);
  written = grown_twice w0 w w1 grew.out f.front grew.written f.written;
}

-- bytes that were cut in two, the first part gathered
pub cut_rest : (gathered rest front back put left : List ℕ) (n : ℕ) → front ≡ take n rest → back ≡ drop n rest → put ≡ gathered ++ front → left ≡ back
    → gathered ++ rest ≡ put ++ left
cut_rest gathered rest front back put left n f b p e =
    ap (λ l. gathered ++ l) (sym (take-append-drop n rest)) ∙ sym (append_assoc gathered (take n rest) (drop n rest))
    ∙ ap (λ l. (gathered ++ l) ++ drop n rest) (sym f) ∙ ap (λ l. l ++ drop n rest) (sym p) ∙ ap (λ l. put ++ l) (sym b ∙ sym e)

-- one text after another
pub Grew-then : (w0 w1 w2 : Option (List ℕ)) (g0 g1 g2 a b : List ℕ) → Grew w0 w1 g0 g1 a → Grew w1 w2 g1 g2 b → Grew w0 w2 g0 g2 (a ++ b)
Grew-then w0 w1 w2 g0 g1 g2 a b first second = record {
  out = first.out ++ second.out;
  written = grown_twice w0 w1 w2 first.out second.out first.written second.written;
  gathered_rest = append_assoc first.out second.out g2 ∙ ap (λ l. first.out ++ l) second.gathered_rest
      ∙ sym (append_assoc first.out g1 b) ∙ ap (λ l. l ++ b) first.gathered_rest ∙ append_assoc g0 a b;
}

-- a text, and a front of the next
pub Grew-front : (w0 w1 w2 : Option (List ℕ)) (g0 g1 a b : List ℕ) → Grew w0 w1 g0 g1 a → GrewByFront w1 w2 (g1 ++ b) → GrewByFront w0 w2 (g0 ++ (a ++ b))
Grew-front w0 w1 w2 g0 g1 a b first second = record {
  front = first.out ++ second.front;
  rest = second.rest;
  parts = sym (append_assoc g0 a b) ∙ ap (λ l. l ++ b) (sym first.gathered_rest) ∙ append_assoc first.out g1 b
      ∙ ap (λ l. first.out ++ l) second.parts ∙ sym (append_assoc first.out second.front second.rest);
  written = grown_twice w0 w1 w2 first.out second.front first.written second.written;
}

-- a front of a text is a front of a longer text
pub front_longer : (w0 w1 : Option (List ℕ)) (g0 a b : List ℕ) → GrewByFront w0 w1 (g0 ++ a) → GrewByFront w0 w1 (g0 ++ (a ++ b))
front_longer w0 w1 g0 a b f = record {
  front = f.front;
  rest = f.rest ++ b;
  parts = sym (append_assoc g0 a b) ∙ ap (λ l. l ++ b) f.parts ∙ append_assoc f.front f.rest b;
  written = f.written;
}

-- nothing was written or gathered yet
pub Grew-none : (w : Option (List ℕ)) (g : List ℕ) → Grew w w g g []
Grew-none w g = record { out = []; written = append_known-none w; gathered_rest = sym (append-nil g) }

-- one text after another, which together are a text
pub Grew-more : (w0 w1 w2 : Option (List ℕ)) (g0 g1 g2 a b text : List ℕ) → Grew w0 w1 g0 g1 a → Grew w1 w2 g1 g2 b → text ≡ a ++ b → Grew w0 w2 g0 g2 text
Grew-more w0 w1 w2 g0 g1 g2 a b text first second e =
    subst (λ t. Grew w0 w2 g0 g2 t) (sym e) (Grew-then w0 w1 w2 g0 g1 g2 a b first second)
