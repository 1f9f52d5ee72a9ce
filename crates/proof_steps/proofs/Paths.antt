-- How the comparisons of slices compare paths, and the laws of comparing paths.
use Rattle.std.proofs.Common.{◌≡◌, ℕ, List, [], ◌∷◌, Bool, true, false, length, drop, min, refl, sym, ap, ◌∙◌, arith, suc}
use Rattle.std.specs.Ordering.{nat_cmp}
use Rattle.std.specs.Cmp.Lexicographic.{pointwise}
use mathlib.Core.Bool.{beq}
use Rattle.std.proofs.lemmas.Bool.Decides.{nat_tests}
use Rattle.std.specs.declared.cmp.Ordering.TheVariants.{Equal}
use Rattle.std.specs.Cmp.{IsTotalOrder, bool_cmp_total}
use Rattle.std.proofs.lemmas.Cmp.{lists_total, back_total}
use mathlib.Core.Bool.{true≢false}
use Rattle.proof_steps.specs.Paths.{same_path, preorder_cmp, letter_cmp}

pub same_letters : (p q : List Bool) → pointwise beq p q ≡ same_path p q
same_letters [] [] = refl
same_letters [] (b ∷ q) = refl
same_letters (a ∷ p) [] = refl
same_letters (true ∷ p) (true ∷ q) = same_letters p q
same_letters (true ∷ p) (false ∷ q) = refl
same_letters (false ∷ p) (true ∷ q) = refl
same_letters (false ∷ p) (false ∷ q) = same_letters p q

one_more : (n m : ℕ) → nat_cmp n m ≡ nat_cmp (suc n) (suc m)
one_more n m = grind (arith, nat_tests)

-- behind the letters that both have, the lengths decide
pub lengths_decide : (p q : List Bool) (i : ℕ) → i ≡ min (length p) (length q) → preorder_cmp (drop i p) (drop i q) ≡ nat_cmp (length p) (length q)
lengths_decide [] [] i e = let z : i ≡ 0 = omega arith in rw z refl
lengths_decide [] (b ∷ q) i e = let z : i ≡ 0 = omega arith in rw z (grind (arith, nat_tests))
lengths_decide (a ∷ p) [] i e = let z : i ≡ 0 = omega arith in rw z (grind (arith, nat_tests))
lengths_decide (a ∷ p) (b ∷ q) i e =
    let z : i ≡ suc (min (length p) (length q)) = omega arith in
    rw z (lengths_decide p q (min (length p) (length q)) refl ∙ one_more (length p) (length q))

pub same_is : (p q : List Bool) → same_path p q ≡ true → p ≡ q
same_is [] [] e = refl
same_is [] (b ∷ q) e = absurd (true≢false (sym e))
same_is (a ∷ p) [] e = absurd (true≢false (sym e))
same_is (true ∷ p) (true ∷ q) e = ap (λ (l : List Bool). true ∷ l) (same_is p q e)
same_is (true ∷ p) (false ∷ q) e = absurd (true≢false (sym e))
same_is (false ∷ p) (true ∷ q) e = absurd (true≢false (sym e))
same_is (false ∷ p) (false ∷ q) e = ap (λ (l : List Bool). false ∷ l) (same_is p q e)

pub same_itself : (p : List Bool) → same_path p p ≡ true
same_itself [] = refl
same_itself (true ∷ p) = same_itself p
same_itself (false ∷ p) = same_itself p

-- only one path stands at a place in preorder
pub preorder_is : (p q : List Bool) → preorder_cmp p q ≡ Equal → p ≡ q
preorder_is [] [] e = refl
preorder_is [] (b ∷ q) e = cc
preorder_is (a ∷ p) [] e = cc
preorder_is (true ∷ p) (true ∷ q) e = ap (λ (l : List Bool). true ∷ l) (preorder_is p q e)
preorder_is (true ∷ p) (false ∷ q) e = cc
preorder_is (false ∷ p) (true ∷ q) e = cc
preorder_is (false ∷ p) (false ∷ q) e = ap (λ (l : List Bool). false ∷ l) (preorder_is p q e)

pub preorder_total : IsTotalOrder preorder_cmp
preorder_total = lists_total {R = letter_cmp} (back_total bool_cmp_total)
