-- Some item of a list.
use Rattle.std.proofs.Common.{List, [], ◌∷◌, ◌++◌, Bool, true, false, ◌≡◌, cond, refl, sym, inl, inr, ◌⊎◌}
use Rattle.std.specs.Prelude.{filter}
use Rattle.proof_steps.specs.Leaves.{SomeOf}

pub some-map : {A : Type 0} {P Q : A → Type 0} → ((x : A) → P x → Q x) → (xs : List A) → SomeOf P xs → SomeOf Q xs
some-map h [] s = absurd s
some-map h (x ∷ xs) (inl p) = inl (h x p)
some-map h (x ∷ xs) (inr s) = inr (some-map h xs s)

pub some-front : {A : Type 0} (P : A → Type 0) (xs ys : List A) → SomeOf P xs → SomeOf P (xs ++ ys)
some-front P [] ys s = absurd s
some-front P (x ∷ xs) ys (inl p) = inl p
some-front P (x ∷ xs) ys (inr s) = inr (some-front P xs ys s)

pub some-back : {A : Type 0} (P : A → Type 0) (xs ys : List A) → SomeOf P ys → SomeOf P (xs ++ ys)
some-back P [] ys s = s
some-back P (x ∷ xs) ys s = inr (some-back P xs ys s)

pub some-cases : {A : Type 0} (P : A → Type 0) (xs ys : List A) → SomeOf P (xs ++ ys) → SomeOf P xs ⊎ SomeOf P ys
some-cases P [] ys s = inr s
some-cases P (x ∷ xs) ys (inl p) = inl (inl p)
some-cases P (x ∷ xs) ys (inr s) = elim (some-cases P xs ys s) [ inl t ↦ inl (inr t) | inr t ↦ inr t ]

-- an item, and that it is there
pub record Witness {A : Type 0} (P : A → Type 0) (xs : List A) : Type 0 where
  pub item : A
  pub holds : P item
  pub here : SomeOf (λ x. x ≡ item) xs

pub witness : {A : Type 0} {P : A → Type 0} (xs : List A) → SomeOf P xs → Witness P xs
witness [] s = absurd s
witness (x ∷ xs) (inl p) = record { item = x; holds = p; here = inl refl }
witness (x ∷ xs) (inr s) = let w = witness xs s in record { item = w.item; holds = w.holds; here = inr w.here }

-- what is in a filtered list is in the list, and passes
pub filtered-in : {A : Type 0} (P : A → Type 0) (test : A → Bool) (xs : List A) → SomeOf P (filter test xs) → SomeOf (λ x. P x × (test x ≡ true)) xs
filtered-in P test [] s = absurd s
filtered-in {A} P test (x ∷ xs) s =
    elim (test x) as (λ b. test x ≡ b → SomeOf P (cond b (x ∷ filter test xs) (filter test xs)) → SomeOf (λ x. P x × (test x ≡ true)) (x ∷ xs)) [
      | true ↦ λ e t. elim t [ inl p ↦ inl (p, e) | inr r ↦ inr (filtered-in P test xs r) ]
      | false ↦ λ e t. inr (filtered-in P test xs t)
    ] refl s

pub in-filtered : {A : Type 0} (P : A → Type 0) (test : A → Bool) (xs : List A) → SomeOf (λ x. P x × (test x ≡ true)) xs → SomeOf P (filter test xs)
in-filtered P test [] s = absurd s
in-filtered {A} P test (x ∷ xs) s =
    elim (test x) as (λ b. test x ≡ b → SomeOf P (cond b (x ∷ filter test xs) (filter test xs))) [
      | true ↦ λ e. elim s [ inl p ↦ inl p.0 | inr r ↦ inr (in-filtered P test xs r) ]
      | false ↦ λ e. elim s [ inl p ↦ absurd (differ (sym e) p.1) | inr r ↦ in-filtered P test xs r ]
    ] refl
  where
    differ : {b : Bool} → false ≡ b → b ≡ true → ⊥
    differ p q = cc
