-- Laws of the lists of a store.
use Rattle.std.proofs.Common.{◌≡◌, ◌≢◌, ℕ, List, [], ◌∷◌, ◌++◌, refl, sym, ◌∙◌, ap, subst, Bool, true, false, cond, IsTrue}
use Rattle.std.specs.Prelude.{Option, Some, None, is_some}
use Rattle.std.specs.Ordering.{nat_cmp, eq_by_cmp, is_eq}
use Rattle.std.specs.Cmp.{nat_cmp_total, eq_by_cmp_equiv}
use Rattle.std.specs.FinMap.{get, insert, remove, get-insert, get-remove, same_map, nat_cmp-IsAntisymmetric}
use Rattle.std.specs.declared.cmp.Ordering.TheVariants.{Less, Equal, Greater}
use Rattle.poly_model.specs.declared.term.Term.{Term}
use Rattle.term_store.specs.States.{Lists, IsLive, list_at, list_or_none}

abbrev pub tied : ℕ → ℕ → Bool
tied = eq_by_cmp nat_cmp

pub tied-same : (j k : ℕ) → tied j k ≡ true → j ≡ k
tied-same j k e =
    elim (nat_cmp j k) as (λ r. nat_cmp j k ≡ r → is_eq r ≡ true → j ≡ k) [
      | Less ↦ λ p q. absurd (cc)
      | Equal ↦ λ p q. nat_cmp-IsAntisymmetric j k p
      | Greater ↦ λ p q. absurd (cc)
    ] refl e

-- the map without the order's words
pub same_lists : (m n : Lists) → ((q : ℕ) → get m q ≡ get n q) → m ≡ n
same_lists = same_map nat_cmp_total nat_cmp-IsAntisymmetric

cond_twice : {A : Type 0} (b : Bool) (x y z : A) → cond b x (cond b y z) ≡ cond b x z
cond_twice true x y z = refl
cond_twice false x y z = refl

-- a list that is set twice
pub insert-insert : (m : Lists) (k : ℕ) (v w : List Term) → insert (insert m k v) k w ≡ insert m k w
insert-insert m k v w = same_lists _ _ (λ q.
    get-insert nat_cmp_total (insert m k v) k w q ∙ ap (cond (tied q k) (Some w)) (get-insert nat_cmp_total m k v q)
    ∙ cond_twice (tied q k) (Some w) (Some v) (get m q) ∙ sym (get-insert nat_cmp_total m k w q))

-- a new list that is given up
pub remove-insert : (m : Lists) (k : ℕ) (v : List Term) → (IsLive m k → ⊥) → remove (insert m k v) k ≡ m
remove-insert m k v vacant = same_lists _ _ (λ q.
    get-remove nat_cmp_total (insert m k v) k q ∙ ap (cond (tied q k) None) (get-insert nat_cmp_total m k v q)
    ∙ elim (tied q k) as (λ b. tied q k ≡ b → cond b None (cond b (Some v) (get m q)) ≡ get m q) [
      | true ↦ λ e. sym (ap (get m) (tied-same q k e) ∙ none (get m k) vacant)
      | false ↦ λ e. refl
    ] refl)
  where
    none : (o : Option (List Term)) → (IsTrue (is_some o) → ⊥) → o ≡ None
    none None n = refl
    none (Some xs) n = absurd (n refl)

pub tied-self : (k : ℕ) → tied k k ≡ true
tied-self k = (eq_by_cmp_equiv nat_cmp_total).refl k

pub get-inserted : (m : Lists) (k : ℕ) (v : List Term) → get (insert m k v) k ≡ Some v
get-inserted m k v = get-insert nat_cmp_total m k v k ∙ ap (λ b. cond b (Some v) (get m k)) (tied-self k)

pub get-other : (m : Lists) (k : ℕ) (v : List Term) (j : ℕ) → j ≢ k → get (insert m k v) j ≡ get m j
get-other m k v j apart =
    get-insert nat_cmp_total m k v j
    ∙ elim (tied j k) as (λ b. tied j k ≡ b → cond b (Some v) (get m j) ≡ get m j) [
      | true ↦ λ e. absurd (apart (tied-same j k e))
      | false ↦ λ e. refl
    ] refl

-- ---- what a function that makes one new list can say of its steps
pub at-new : (m a : Lists) (k : ℕ) (xs : List Term) → a ≡ insert m k xs → list_at a k ≡ xs
at-new m a k xs e = ap (λ n. list_at n k) e ∙ ap list_or_none (get-inserted m k xs)

pub live-new : (m a : Lists) (k : ℕ) (xs : List Term) → a ≡ insert m k xs → IsLive a k
live-new m a k xs e = ap (λ n. is_some (get n k)) e ∙ ap is_some (get-inserted m k xs)

pub apart-new : (m : Lists) (j k : ℕ) → (IsLive m k → ⊥) → IsLive m j → j ≢ k
apart-new m j k vacant live e = vacant (subst (IsLive m) e live)

pub at-kept : (m a : Lists) (j k : ℕ) (xs : List Term) → (IsLive m k → ⊥) → IsLive m j → a ≡ insert m k xs → list_at a j ≡ list_at m j
at-kept m a j k xs vacant live e = ap (λ n. list_at n j) e ∙ ap list_or_none (get-other m k xs j (apart-new m j k vacant live))

pub live-kept : (m a : Lists) (j k : ℕ) (xs : List Term) → (IsLive m k → ⊥) → IsLive m j → a ≡ insert m k xs → IsLive a j
live-kept m a j k xs vacant live e = ap (λ n. is_some (get n j)) e ∙ ap is_some (get-other m k xs j (apart-new m j k vacant live)) ∙ live

pub pushed : (m a b : Lists) (k : ℕ) (xs : List Term) (t : Term) → a ≡ insert m k xs → b ≡ insert a k (list_at a k ++ t ∷ []) → b ≡ insert m k (xs ++ t ∷ [])
pushed m a b k xs t e f =
    f ∙ (λ i. insert (e i) k (at-new m a k xs e i ++ t ∷ [])) ∙ insert-insert m k xs (xs ++ t ∷ [])

pub freed : (m a b : Lists) (k : ℕ) (xs : List Term) → (IsLive m k → ⊥) → a ≡ insert m k xs → b ≡ remove a k → b ≡ m
freed m a b k xs vacant e f = f ∙ ap (λ n. remove n k) e ∙ remove-insert m k xs vacant
