-- Facts that the tries need.
use Rattle.std.proofs.Common.{◌≡◌, ◌≢◌, ◌<◌, ◌++◌, ◌==◌, length, ap, subst, ℕ, zero, suc, List, [], ◌∷◌, refl, sym, ◌∙◌, arith, Bool, true, false, cond}
use Rattle.std.specs.Prelude.{ℤ, ◌*ℤ◌, pos, negsuc, unsigned_abs, Option, Some, None, find, IsTrue}
use Rattle.std.specs.List.{list_all}
use Rattle.std.proofs.lemmas.Nat.Gcd.{mod-eq-zero_of_dvd}
use Prim.Native.Nat.{◌∣◌}
use Rattle.std.proofs.lemmas.Bool.{and_from}
use Rattle.std.proofs.lemmas.Option.{same_Some}
use Rattle.std.proofs.lemmas.Bool.Decides.{nat_tests}
use Rattle.std.proofs.lemmas.List.{append-nil}
use Rattle.poly_model.specs.Polynomial.{Polynomial}
use Rattle.poly_model.specs.Standard.{is_bounded}
use Rattle.proof_steps.specs.declared.piece.Piece.{Piece}
use Rattle.proof_steps.specs.declared.problem.Problem.{Problem}
use Rattle.sample_point.specs.Value.{and_then, in_bounds}
use Rattle.sample_point.specs.Sampling.{Partial, all_scaled, with_next, with_all, point_of, first_point}

-- what is found passes the test
pub found_passes : {X : Type 0} (p : X → Bool) (xs : List X) (x : X) → find p xs ≡ Some x → p x ≡ true
found_passes p [] x h = absurd (cc)
found_passes p (y ∷ ys) x h =
    elim (p y) as (λ b. p y ≡ b → cond b (Some y) (find p ys) ≡ Some x → p x ≡ true) [
      | true ↦ λ e q. (λ i. p (same_Some _ _ (sym q) i)) ∙ e
      | false ↦ λ e q. found_passes p ys x q
    ] refl h

pub size-positive : (c : ℤ) → c ≢ pos 0 → 0 < unsigned_abs c
size-positive (pos zero) n = absurd (n refl)
size-positive (pos (suc k)) n = omega arith
size-positive (negsuc k) n = omega arith

pub same-number : (a b : ℕ) → (a == b) ≡ true → a ≡ b
same-number a b h = grind (arith, nat_tests)

-- what is scaled in bounds is in bounds
bounded-in : (z : ℤ) (b : Bool) → is_bounded z ≡ b → (w : ℤ) → elim b as (λ _. Option ℤ) [ true ↦ Some z | false ↦ None ] ≡ Some w → IsTrue (is_bounded w)
bounded-in z true e w h = subst (λ x. IsTrue (is_bounded x)) (same_Some _ _ h) e
bounded-in z false e w h = absurd (cc)

all-bounded : (d : ℤ) (vs ws : List ℤ) → all_scaled d vs ≡ Some ws → IsTrue (list_all is_bounded ws)
all-bounded d [] ws h = subst (λ xs. IsTrue (list_all is_bounded xs)) (same_Some _ _ h) refl
all-bounded d (v ∷ vs) ws h = first (in_bounds (d *ℤ v)) (bounded-in (d *ℤ v) (is_bounded (d *ℤ v)) refl) (all-bounded d vs) h
  where
    others : (w : ℤ) → IsTrue (is_bounded w) → ((xs : List ℤ) → all_scaled d vs ≡ Some xs → IsTrue (list_all is_bounded xs)) → (r : Option (List ℤ))
        → all_scaled d vs ≡ r → and_then r (λ xs. Some (w ∷ xs)) ≡ Some ws → IsTrue (list_all is_bounded ws)
    others w small more None e g = absurd (cc)
    others w small more (Some xs) e g =
        subst (λ ys. IsTrue (list_all is_bounded ys)) (same_Some _ _ g) (and_from (is_bounded w) (list_all is_bounded xs) small (more xs e))

    first : (r : Option ℤ) → ((w : ℤ) → r ≡ Some w → IsTrue (is_bounded w)) → ((xs : List ℤ) → all_scaled d vs ≡ Some xs → IsTrue (list_all is_bounded xs))
        → and_then r (λ w. and_then (all_scaled d vs) (λ xs. Some (w ∷ xs))) ≡ Some ws → IsTrue (list_all is_bounded ws)
    first None small more g = absurd (cc)
    first (Some w) small more g = others w (small w refl) more (all_scaled d vs) refl g

pub scaled-bounded : (d : ℤ) (rest front all : List ℤ) → length rest < 1 → and_then (all_scaled d rest) (λ ws. Some (front ++ ws)) ≡ all_scaled d all
    → IsTrue (list_all is_bounded front)
scaled-bounded d [] front all h e = all-bounded d all front (sym e ∙ ap (λ (xs : List ℤ). Some xs) (append-nil front))
scaled-bounded d (v ∷ rest) front all h e = absurd (omega (arith, h))

-- one more variable, one more try
pub all-more : (E : List Polynomial) (j i n k m : ℕ) (t s : Partial) → n ≡ suc m → k ≡ suc i → with_next E j i t ≡ Some s → with_all E j i n t ≡ with_all E j k m s
unfolding with_all
all-more E j i zero k m t s h e g = absurd (cc)
all-more E j i (suc n) k m t s h e g =
    let same : n ≡ m = cc in
    ap (λ r. and_then r (λ x. with_all E j (suc i) n x)) g ∙ ap (λ l. with_all E j l n s) (sym e) ∙ ap (λ l. with_all E j k l s) same

pub first-more : (problem : Problem) (leaf : Piece) (j n k m : ℕ) → n ≡ suc m → k ≡ suc j → point_of problem leaf j ≡ None → first_point problem leaf j n ≡ first_point problem leaf k m
unfolding first_point
first-more problem leaf j zero k m h e g = absurd (cc)
first-more problem leaf j (suc n) k m h e g =
    let same : n ≡ m = cc in
    ap (λ (r : Option (List ℤ)). elim r as (λ _. Option (List ℤ)) [ Some p ↦ Some p | None ↦ first_point problem leaf (suc j) n ]) g
    ∙ ap (λ l. first_point problem leaf l n) (sym e) ∙ ap (λ l. first_point problem leaf k l) same

-- a divisor of a number other than 0
pub divisor-positive : (a g : ℕ) → 0 < a → g ∣ a → 0 < g
divisor-positive a zero lt d = absurd (omega (arith, mod-eq-zero_of_dvd 0 d))
divisor-positive a (suc g) lt d = omega arith
