-- The conditions of a verdict, one by one without repeats.
use Rattle.std.proofs.Common.{◌≡◌, List, [], ◌∷◌, ◌++◌, refl, sym, ◌∙◌, ap, Bool, true, false, cond, map, ◌&&◌, ◌||◌, not, append_assoc}
use Rattle.std.specs.Prelude.{filter, if◌then◌else◌}
use Rattle.std.proofs.lemmas.List.{append-nil}
use Rattle.std.proofs.lemmas.Bool.{not-false}
use Rattle.poly_model.specs.Polynomial.{Polynomial}
use Rattle.poly_model.specs.Equality.{same-is}
use Rattle.poly_model.specs.Reduction.{same, has_polynomial}
use Rattle.verdicts.specs.Tallies.{added}
use Rattle.proof_steps.specs.declared.piece.Piece.{Piece}
use Rattle.verdicts.specs.Verdicts.{has_minus, plus_part, gain_at, is_unproved, without_repeats}

-- The list with those of the others that are not there yet.
abbrev pub added_all : List Polynomial → List Polynomial → List Polynomial
added_all cs [] = cs
added_all cs (x ∷ xs) = added_all (added cs x) xs

filter-inside : (F G : Polynomial → Bool) (W : List Polynomial) → ((q : Polynomial) → G q ≡ false → F q ≡ false) → filter F (filter G W) ≡ filter F W
filter-inside F G [] h = refl
filter-inside F G (q ∷ W) h =
    elim (G q) as (λ b. G q ≡ b → filter F (cond b (q ∷ filter G W) (filter G W)) ≡ cond (F q) (q ∷ filter F W) (filter F W)) [
      | true ↦ λ e. ap (λ l. cond (F q) (q ∷ l) l) (filter-inside F G W h)
      | false ↦ λ e. filter-inside F G W h ∙ ap (λ b. cond b (q ∷ filter F W) (filter F W)) (sym (h q e))
    ] refl

filter-both : (H F G : Polynomial → Bool) (W : List Polynomial) → ((q : Polynomial) → H q ≡ (G q && F q)) → filter H W ≡ filter F (filter G W)
filter-both H F G [] h = refl
filter-both H F G (q ∷ W) h =
    ap (λ b. cond b (q ∷ filter H W) (filter H W)) (h q)
    ∙ elim (G q) as (λ b. cond (b && F q) (q ∷ filter H W) (filter H W) ≡ filter F (cond b (q ∷ filter G W) (filter G W))) [
      | true ↦ ap (λ l. cond (F q) (q ∷ l) l) (filter-both H F G W h)
      | false ↦ filter-both H F G W h
    ]

pub has-append : (cs : List Polynomial) (x q : Polynomial) → has_polynomial (cs ++ x ∷ []) q ≡ (has_polynomial cs q || same q x)
has-append [] x q = elim (same q x) as (λ b. (b || false) ≡ b) [ true ↦ refl | false ↦ refl ]
has-append (c ∷ cs) x q = elim (same q c) as (λ b. (b || has_polynomial (cs ++ x ∷ []) q) ≡ ((b || has_polynomial cs q) || same q x)) [ true ↦ refl | false ↦ has-append cs x q ]

unlike : (a b : Bool) → not (a || b) ≡ (not b && not a)
unlike true true = refl
unlike true false = refl
unlike false true = refl
unlike false false = refl

added-is : (xs cs : List Polynomial) → added_all cs xs ≡ cs ++ filter (λ q. not (has_polynomial cs q)) (without_repeats xs)
added-is [] cs = sym (append-nil cs)
added-is (x ∷ xs) cs = by (has_polynomial cs x) refl (added-is xs cs) (added-is xs (cs ++ x ∷ []))
  where
    F : Polynomial → Bool
    F q = not (has_polynomial cs q)

    G : Polynomial → Bool
    G q = not (same q x)

    by : (b : Bool) → has_polynomial cs x ≡ b
        → added_all cs xs ≡ cs ++ filter F (without_repeats xs)
        → added_all (cs ++ x ∷ []) xs ≡ (cs ++ x ∷ []) ++ filter (λ q. not (has_polynomial (cs ++ x ∷ []) q)) (without_repeats xs)
        → added_all (if b then cs else cs ++ x ∷ []) xs ≡ cs ++ cond (not (has_polynomial cs x)) (x ∷ filter F (filter G (without_repeats xs))) (filter F (filter G (without_repeats xs)))
    by true e here more =
        here ∙ ap (λ l. cs ++ l) (sym (filter-inside F G (without_repeats xs) (λ q g. ap not (ap (has_polynomial cs) (same-is q x (not-false (same q x) g)) ∙ e)))
        ∙ ap (λ b. cond (not b) (x ∷ filter F (filter G (without_repeats xs))) (filter F (filter G (without_repeats xs)))) (sym e))
    by false e here more =
        more ∙ append_assoc cs (x ∷ []) (filter (λ q. not (has_polynomial (cs ++ x ∷ []) q)) (without_repeats xs))
        ∙ ap (λ l. cs ++ (x ∷ l)) (filter-both (λ q. not (has_polynomial (cs ++ x ∷ []) q)) F G (without_repeats xs) (λ q. ap not (has-append cs x q) ∙ unlike (has_polynomial cs q) (same q x)))
        ∙ ap (λ b. cs ++ cond (not b) (x ∷ filter F (filter G (without_repeats xs))) (filter F (filter G (without_repeats xs)))) (sym e)

all-kept : (W : List Polynomial) → filter (λ q. true) W ≡ W
all-kept [] = refl
all-kept (q ∷ W) = ap (λ l. q ∷ l) (all-kept W)

pub added-repeats : (xs : List Polynomial) → added_all [] xs ≡ without_repeats xs
added-repeats xs = added-is xs [] ∙ all-kept (without_repeats xs)

-- The conditions that some of the pieces of a tree add.
abbrev pub conditions_from : List Piece → List Piece → List Polynomial
conditions_from pieces rest = map (λ p. gain_at pieces (plus_part p.path)) (filter (λ p. is_unproved p.outcome && has_minus p.path) rest)
