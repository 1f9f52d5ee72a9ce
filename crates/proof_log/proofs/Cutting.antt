-- A text that is cut before the first byte of a kind.
use Rattle.std.proofs.Common.{◌≡◌, ◌≢◌, ℕ, zero, suc, ◌<◌, List, [], ◌∷◌, length, take, drop, Bool, true, false, not, ◌==◌, nat_eq, cond, refl, sym, ◌∙◌, ap, arith, subst}
use Rattle.std.specs.List.{take_while, prefix_len}
use Rattle.std.proofs.lemmas.Bool.{eqb-true, eq-eqb}
use Rattle.memchr.specs.Find.{Nowhere, Passes, is_byte}
use Rattle.std.proofs.lemmas.Bool.Decides.{nat_tests}
use Rattle.std.proofs.lemmas.Grind.{common_steps}
use Rattle.std.proofs.lemmas.List.Sums.{take_while-cons}
use Rattle.proof_log.specs.Cuts.{Avoids, EndsAt}

abbrev is_other : ℕ → ℕ → Bool
is_other byte b = not (b == byte)

other : (byte b : ℕ) → is_other byte b ≡ true → b ≢ byte
other byte b e h = let q : (b == byte) ≡ true = grind (arith, nat_tests) in let f : not true ≡ true = ap not (sym q) ∙ e in cc

not_other : (byte b : ℕ) → is_other byte b ≡ false → b ≡ byte
not_other byte b h = elim (nat_eq b byte) as (λ k. nat_eq b byte ≡ k → not k ≡ false → b ≡ byte) [ true ↦ λ e _. eqb-true b byte e | false ↦ λ _ f. cc ] refl h

front : (byte : ℕ) (t : List ℕ) → Avoids byte (take_while (is_other byte) t)
front byte [] = tt
front byte (b ∷ t) = rw (take_while-cons (is_other byte) b t) (elim (is_other byte b) as (λ c. is_other byte b ≡ c → Avoids byte (cond c (b ∷ take_while (is_other byte) t) [])) [
  | true ↦ λ e. (other byte b e, front byte t)
  | false ↦ λ e. tt
] refl)

behind : (byte : ℕ) (t : List ℕ) → EndsAt byte (drop (length (take_while (is_other byte) t)) t)
behind byte [] = tt
behind byte (b ∷ t) = rw (take_while-cons (is_other byte) b t) (elim (is_other byte b) as (λ c. is_other byte b ≡ c → EndsAt byte (drop (length (cond c (b ∷ take_while (is_other byte) t) [])) (b ∷ t))) [
  | true ↦ λ e. behind byte t
  | false ↦ λ e. not_other byte b e
] refl)

take_again : (k : ℕ) (t : List ℕ) → take (length (take k t)) t ≡ take k t
take_again k t = grind (arith, common_steps)

pub cut_front : (byte n : ℕ) (t a : List ℕ) → n ≡ length (take_while (is_other byte) t) → a ≡ take n t → Avoids byte a
cut_front byte n t a e f = subst (Avoids byte) (sym (f ∙ ap (λ k. take k t) e ∙ take_again (prefix_len (is_other byte) t) t)) (front byte t)

pub cut_behind : (byte n : ℕ) (t b : List ℕ) → n ≡ length (take_while (is_other byte) t) → b ≡ drop n t → EndsAt byte b
cut_behind byte n t b e f = subst (EndsAt byte) (sym (f ∙ ap (λ k. drop k t) e)) (behind byte t)

-- ---- before the first place of a byte
pub avoids-before : (byte n : ℕ) (t : List ℕ) → Nowhere (Passes (is_byte byte) t) 0 n → Avoids byte (take n t)
avoids-before byte zero t h = tt
avoids-before byte (suc n) [] h = tt
avoids-before byte (suc n) (b ∷ t) h = (
  λ e. h 0 (omega arith) (omega arith) (eq-eqb b byte e),
  avoids-before byte n t (λ k low high is. h (suc k) (omega arith) (omega arith) is),
)

pub ends-there : (byte n : ℕ) (t : List ℕ) → Passes (is_byte byte) t n → n < length t → EndsAt byte (drop n t)
ends-there byte n [] is h = absurd (omega (arith, h))
ends-there byte zero (b ∷ t) is h = eqb-true b byte is
ends-there byte (suc n) (b ∷ t) is h = ends-there byte n t is (omega (arith, h))

pub avoids-all : (byte : ℕ) (t : List ℕ) → Nowhere (Passes (is_byte byte) t) 0 (length t) → Avoids byte t
avoids-all byte [] h = tt
avoids-all byte (b ∷ t) h = (
  λ e. h 0 (omega arith) (omega arith) (eq-eqb b byte e),
  avoids-all byte t (λ k low high is. h (suc k) (omega arith) (omega arith) is),
)
