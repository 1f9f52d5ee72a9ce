-- A look-up among the entries of the table is one among the names.
use Rattle.std.proofs.Common.{◌≡◌, ℕ, zero, suc, ◌+◌, ◌<◌, ◌≤◌, List, [], ◌∷◌, ◌++◌, length, take, refl, ap, sym, ◌∙◌, arith, Bool, true, false, cond, Option, Some, None, nat_lt, position}
use Rattle.std.specs.List.{position_or_len}
use Rattle.std.specs.Str.{bytes_eq}
use Rattle.std.specs.Map.{lookup, keys_of}
use Rattle.std.proofs.lemmas.Grind.{common_steps}
use Rattle.std.proofs.lemmas.Bool.Decides.{nat_tests}
use Rattle.std.proofs.lemmas.List.{map_push}
use Rattle.gcl_names.specs.Scope.{meaning_in}
use Rattle.gcl_names.specs.View.{names_of, name_of_entry}
use Rattle.gcl_names.specs.declared.meaning.Meaning.{Meaning}
use denote.Ref.{Bor}

abbrev pub is_key : List ℕ → Bor (List ℕ) → Bool
is_key q k = bytes_eq q k.now

pub meaning-lookup : (q : List ℕ) (es : List (Bor (List ℕ) × Meaning)) → meaning_in q (names_of es) ≡ lookup (is_key q) es
unfolding meaning_in
meaning-lookup q [] = refl
meaning-lookup q (e ∷ es) = ap (λ (r : Option Meaning). cond (bytes_eq q e.0.now) (Some e.1) r) (meaning-lookup q es)

abbrev Found : List ℕ → List (Bor (List ℕ) × Meaning) → ℕ → Type 0
Found q es n = meaning_in q (take n (names_of es)) ≡ cond (nat_lt (position_or_len (is_key q) (keys_of es)) n) (lookup (is_key q) es) None

none-cond : (b : Bool) → let r : Option Meaning = None in r ≡ cond b r r
none-cond true = refl
none-cond false = refl

lt-suc : (m n : ℕ) → nat_lt m n ≡ nat_lt (1 + m) (suc n)
lt-suc m n = grind (arith, nat_tests)

lt-zero : (m : ℕ) → nat_lt m 0 ≡ false
lt-zero m = grind (arith, nat_tests)

lt-true : (m n : ℕ) → m < n → nat_lt m n ≡ true
lt-true m n h = grind (arith, nat_tests)

lt-false : (m n : ℕ) → n ≤ m → nat_lt m n ≡ false
lt-false m n h = grind (arith, nat_tests)

found-head : (q : List ℕ) (e : Bor (List ℕ) × Meaning) (es : List (Bor (List ℕ) × Meaning)) (n : ℕ) (b : Bool) → is_key q e.0 ≡ b → Found q es n → Found q (e ∷ es) (suc n)
unfolding meaning_in
found-head q e es n true t h = simp t (grind (arith, common_steps))
found-head q e es n false t h = simp t (h ∙ ap (λ (b : Bool). cond b (lookup (is_key q) es) None) (lt-suc (position_or_len (is_key q) (keys_of es)) n))

pub found : (q : List ℕ) (es : List (Bor (List ℕ) × Meaning)) (n : ℕ) → Found q es n
unfolding meaning_in
found q [] zero = none-cond (nat_lt 0 0)
found q [] (suc n) = none-cond (nat_lt 0 (suc n))
found q (e ∷ es) zero = sym (ap (λ (b : Bool). cond b (lookup (is_key q) (e ∷ es)) None) (lt-zero (position_or_len (is_key q) (keys_of (e ∷ es)))))
found q (e ∷ es) (suc n) = found-head q e es n (is_key q e.0) refl (found q es n)

pub place-is : {X : Type 0} (p : X → Bool) (xs : List X) (i : ℕ) → position p xs ≡ Some i → position_or_len p xs ≡ i
place-is p xs i e = by (nat_lt (position_or_len p xs) (length xs)) (position_or_len p xs) i e where
  by : (b : Bool) (n i : ℕ) → cond b (Some n) None ≡ Some i → n ≡ i
  by true n i e = cc
  by false n i e = cc

pub names-push : (es : List (Bor (List ℕ) × Meaning)) (k : Bor (List ℕ)) (m : Meaning) → names_of (es ++ (k, m) ∷ []) ≡ names_of es ++ (k.now, m) ∷ []
names-push es k m = map_push name_of_entry es (k, m)

module _ (q : List ℕ) (es : List (Bor (List ℕ) × Meaning)) (now : List (List ℕ × Meaning)) (view : names_of es ≡ now) where
  at-place : (n i : ℕ) → Some i ≡ position (is_key q) (keys_of es) → meaning_in q (take n now) ≡ cond (nat_lt i n) (lookup (is_key q) es) None
  at-place n i e = ap (λ x. meaning_in q (take n x)) (sym view) ∙ found q es n ∙ ap (λ p. cond (nat_lt p n) (lookup (is_key q) es) None) (place-is (is_key q) (keys_of es) i (sym e))

  pub find-some : (n i : ℕ) (m : Meaning) → Some i ≡ position (is_key q) (keys_of es) → Some m ≡ lookup (is_key q) es → i < n → Some m ≡ meaning_in q (take n now)
  find-some n i m e l h = l ∙ sym (at-place n i e ∙ ap (λ b. cond b (lookup (is_key q) es) None) (lt-true i n h))

  pub find-late : (n i : ℕ) → Some i ≡ position (is_key q) (keys_of es) → n ≤ i → None ≡ meaning_in q (take n now)
  find-late n i e h = sym (at-place n i e ∙ ap (λ b. cond b (lookup (is_key q) es) None) (lt-false i n h))

  pub find-none : (n : ℕ) → None ≡ lookup (is_key q) es → None ≡ meaning_in q (take n now)
  find-none n l = none-cond (nat_lt (position_or_len (is_key q) (keys_of es)) n) ∙ ap (λ (r : Option Meaning). cond (nat_lt (position_or_len (is_key q) (keys_of es)) n) r None) l
      ∙ sym (found q es n) ∙ ap (λ x. meaning_in q (take n x)) view

  pub absent : meaning_in q now ≡ None → lookup (is_key q) es ≡ None
  absent h = sym (meaning-lookup q es) ∙ ap (meaning_in q) view ∙ h
