-- Laws of the states of a store.
use Rattle.std.proofs.Common.{◌≡◌, ◌≢◌, ◌+◌, ℕ, List, [], ◌∷◌, ◌++◌, length, refl, sym, ◌∙◌, ap, subst, arith, length-append, cond, true, false}
use Rattle.std.specs.Prelude.{Option, Some, None, is_some}
use Rattle.std.specs.FinMap.{get, insert, remove, get-insert, get-remove}
use Rattle.std.specs.Cmp.{nat_cmp_total}
use Rattle.poly_model.specs.declared.term.Term.{Term}
use Rattle.term_store.specs.States.{Lists, State, IsLive, list_at, list_or_none}
use Rattle.term_store.specs.Changes.{Makes, Keeps, Extends, given_up}
use Rattle.term_store.proofs.Maps as maps
use Rattle.term_store.proofs.Maps.{tied, tied-same, tied-self, same_lists}

-- a new list, and a term more
pub makes-fresh : (s t : State) (k : ℕ) → (IsLive s.lists k → ⊥) → t.lists ≡ insert s.lists k [] → t.spare + 1 ≡ s.spare → Makes s t k × (list_at t.lists k ≡ [])
makes-fresh s t k vacant e spare =
    let at = maps.at-new s.lists t.lists k [] e in
    (record { vacant = vacant; lists = e ∙ ap (insert s.lists k) (sym at); spare = omega (arith, ap length at) }, at)

pub makes-push : (s t u : State) (k : ℕ) (x : Term) → Makes s t k → u.lists ≡ insert t.lists k (list_at t.lists k ++ x ∷ []) → u.spare + 1 ≡ t.spare
    → Makes s u k × (list_at u.lists k ≡ list_at t.lists k ++ x ∷ [])
makes-push s t u k x m e spare =
    let all = maps.pushed s.lists t.lists u.lists k (list_at t.lists k) x m.lists e in
    let at = maps.at-new s.lists u.lists k (list_at t.lists k ++ x ∷ []) all in
    (record { vacant = m.vacant; lists = all ∙ ap (insert s.lists k) (sym at); spare = omega (arith, ap length at, length-append (list_at t.lists k) (x ∷ []), m.spare) }, at)

pub makes-live : (s t : State) (k : ℕ) → Makes s t k → IsLive t.lists k
makes-live s t k m = maps.live-new s.lists t.lists k _ m.lists

pub makes-other-live : (s t : State) (k j : ℕ) → Makes s t k → IsLive s.lists j → IsLive t.lists j
makes-other-live s t k j m live = maps.live-kept s.lists t.lists j k _ m.vacant live m.lists

pub makes-other : (s t : State) (k j : ℕ) → Makes s t k → IsLive s.lists j → list_at t.lists j ≡ list_at s.lists j
makes-other s t k j m live = maps.at-kept s.lists t.lists j k _ m.vacant live m.lists

pub makes-apart : (s t : State) (k j : ℕ) → Makes s t k → IsLive s.lists j → j ≢ k
makes-apart s t k j m live = maps.apart-new s.lists j k m.vacant live

-- the new list is given up
pub makes-freed : (s t u : State) (k : ℕ) → Makes s t k → u.lists ≡ remove t.lists k → u.spare ≡ t.spare + (length (list_at t.lists k) + 1) → Keeps s u
makes-freed s t u k m e spare = record { lists = maps.freed s.lists t.lists u.lists k _ m.vacant m.lists e; spare = omega (arith, m.spare) }

remove-other : (m : Lists) (j k : ℕ) (v : List Term) → j ≢ k → remove (insert m k v) j ≡ insert (remove m j) k v
remove-other m j k v apart = same_lists _ _ (λ q.
    get-remove nat_cmp_total (insert m k v) j q ∙ ap (cond (tied q j) None) (get-insert nat_cmp_total m k v q)
    ∙ elim (tied q j) as (λ b. tied q j ≡ b → cond b None (cond (tied q k) (Some v) (get m q)) ≡ cond (tied q k) (Some v) (cond b None (get m q))) [
      | false ↦ λ e. refl
      | true ↦ λ e. elim (tied q k) as (λ b. tied q k ≡ b → None ≡ cond b (Some v) None) [ false ↦ λ f. refl | true ↦ λ f. absurd (apart (sym (tied-same q j e) ∙ tied-same q k f)) ] refl
    ] refl
    ∙ ap (cond (tied q k) (Some v)) (sym (get-remove nat_cmp_total m j q)) ∙ sym (get-insert nat_cmp_total (remove m j) k v q))

get-removed-other : (m : Lists) (j k : ℕ) → k ≢ j → get (remove m j) k ≡ get m k
get-removed-other m j k apart = get-remove nat_cmp_total m j k ∙ elim (tied k j) as (λ b. tied k j ≡ b → cond b None (get m k) ≡ get m k) [ false ↦ λ e. refl | true ↦ λ e. absurd (apart (tied-same k j e)) ] refl

-- an older new list is given up, a newer one stays
pub makes-swapped : (s t u v : State) (k m : ℕ) → Makes s t k → Makes t u m → v.lists ≡ remove u.lists k → v.spare ≡ u.spare + (length (list_at u.lists k) + 1) → Makes s v m
makes-swapped s t u v k m a b e spare =
    let apart : k ≢ m = makes-apart t u m k b (makes-live s t k a) in
    let all : v.lists ≡ insert s.lists m (list_at u.lists m) =
    e ∙ ap (λ n. remove n k) b.lists ∙ remove-other t.lists k m (list_at u.lists m) apart
    ∙ ap (λ n. insert n m (list_at u.lists m)) (ap (λ n. remove n k) a.lists ∙ maps.remove-insert s.lists k (list_at t.lists k) a.vacant) in
    let at = maps.at-new s.lists v.lists m (list_at u.lists m) all in
    let kept = makes-other t u m k b (makes-live s t k a) in
    record {
      vacant = λ live. b.vacant (makes-other-live s t k m a live);
      lists = all ∙ ap (insert s.lists m) (sym at);
      spare = omega (arith, ap length at, ap length kept, a.spare, b.spare);
    }

pub makes-swapped-at : (s t u v : State) (k m : ℕ) → Makes s t k → Makes t u m → v.lists ≡ remove u.lists k → list_at v.lists m ≡ list_at u.lists m
makes-swapped-at s t u v k m a b e =
    let apart : k ≢ m = makes-apart t u m k b (makes-live s t k a) in
    ap (λ n. list_at n m) e ∙ ap list_or_none (get-removed-other u.lists k m (λ h. apart (sym h)))

-- a list that stands in for a new one
pub makes-instead : (s t u : State) (k m : ℕ) → Makes s t k → Makes (given_up t k) u m → Makes s u m
makes-instead s t u k m a b =
    let back : remove t.lists k ≡ s.lists = maps.freed s.lists t.lists (remove t.lists k) k _ a.vacant a.lists refl in
    record { vacant = subst (λ n. IsLive n m → ⊥) back b.vacant; lists = b.lists ∙ ap (λ n. insert n m (list_at u.lists m)) back; spare = omega (arith, a.spare, b.spare) }

pub keeps-instead : (s t u : State) (k : ℕ) → Makes s t k → Keeps (given_up t k) u → Keeps s u
keeps-instead s t u k a b =
    let back : remove t.lists k ≡ s.lists = maps.freed s.lists t.lists (remove t.lists k) k _ a.vacant a.lists refl in
    record { lists = b.lists ∙ back; spare = omega (arith, a.spare, b.spare) }

-- ---- a list that grows
insert-same : (m : Lists) (k : ℕ) → IsLive m k → insert m k (list_at m k) ≡ m
insert-same m k live = same_lists _ _ (λ q.
    get-insert nat_cmp_total m k (list_at m k) q
    ∙ elim (tied q k) as (λ b. tied q k ≡ b → cond b (Some (list_at m k)) (get m q) ≡ get m q) [
      | false ↦ λ e. refl
      | true ↦ λ e. some (get m k) live ∙ sym (ap (get m) (tied-same q k e))
    ] refl)
  where
    some : (o : Option (List Term)) → is_some o ≡ true → Some (list_or_none o) ≡ o
    some None e = absurd (let h : false ≡ true = e in cc)
    some (Some xs) e = refl

append-nil' : (xs : List Term) → xs ++ [] ≡ xs
append-nil' [] = refl
append-nil' (x ∷ xs) = ap (λ l. x ∷ l) (append-nil' xs)

append-one : (xs ys : List Term) (y : Term) → (xs ++ ys) ++ y ∷ [] ≡ xs ++ (ys ++ y ∷ [])
append-one [] ys y = refl
append-one (x ∷ xs) ys y = ap (λ l. x ∷ l) (append-one xs ys y)

pub extends-none : (s : State) (k : ℕ) → IsLive s.lists k → s.newest ≡ Some k → Extends s s k []
extends-none s k live newest = record { lists = sym (insert-same s.lists k live) ∙ ap (insert s.lists k) (sym (append-nil' (list_at s.lists k))); spare = omega arith; newest = newest }

pub extends-push : (s t u : State) (k : ℕ) (xs : List Term) (x : Term) → Extends s t k xs → u.lists ≡ insert t.lists k (list_at t.lists k ++ x ∷ []) → u.spare + 1 ≡ t.spare → u.newest ≡ Some k → Extends s u k (xs ++ x ∷ [])
extends-push s t u k xs x m e spare newest = record {
  lists = maps.pushed s.lists t.lists u.lists k (list_at s.lists k ++ xs) x m.lists e ∙ ap (insert s.lists k) (append-one (list_at s.lists k) xs x);
  spare = omega (arith, length-append xs (x ∷ []), m.spare);
  newest = newest;
}

pub extends-other : (s t : State) (k j : ℕ) (xs : List Term) → Extends s t k xs → j ≢ k → list_at t.lists j ≡ list_at s.lists j
extends-other s t k j xs m apart = ap (λ n. list_at n j) m.lists ∙ ap list_or_none (maps.get-other s.lists k _ j apart)

pub extends-other-live : (s t : State) (k j : ℕ) (xs : List Term) → Extends s t k xs → j ≢ k → IsLive s.lists j → IsLive t.lists j
extends-other-live s t k j xs m apart live = ap (λ n. is_some (get n j)) m.lists ∙ ap is_some (maps.get-other s.lists k _ j apart) ∙ live

pub makes-extends : (s t u : State) (k : ℕ) (xs : List Term) → Makes s t k → Extends t u k xs → Makes s u k × (list_at u.lists k ≡ list_at t.lists k ++ xs)
makes-extends s t u k xs m e =
    let all : u.lists ≡ insert s.lists k (list_at t.lists k ++ xs) = e.lists ∙ (λ i. insert (m.lists i) k (list_at t.lists k ++ xs)) ∙ maps.insert-insert s.lists k (list_at t.lists k) (list_at t.lists k ++ xs) in
    let at = maps.at-new s.lists u.lists k _ all in
    (record { vacant = m.vacant; lists = all ∙ ap (insert s.lists k) (sym at); spare = omega (arith, ap length at, length-append (list_at t.lists k) xs, m.spare, e.spare) }, at)

-- ---- an older list is given up beside a new one
get-removed-live : (m : Lists) (j k : ℕ) → IsLive (remove m j) k → IsLive m k
get-removed-live m j k live =
    elim (tied k j) as (λ b. tied k j ≡ b → is_some (cond b None (get m k)) ≡ true → is_some (get m k) ≡ true) [
      | true ↦ λ e h. absurd (let f : false ≡ true = h in cc)
      | false ↦ λ e h. h
    ] refl (sym (ap is_some (get-remove nat_cmp_total m j k)) ∙ live)

pub makes-given_up : (s v w : State) (r m : ℕ) → Makes s v r → IsLive s.lists m → w.lists ≡ remove v.lists m → w.spare ≡ v.spare + (length (list_at v.lists m) + 1)
    → Makes (given_up s m) w r × (list_at w.lists r ≡ list_at v.lists r)
makes-given_up s v w r m a live e spare =
    let apart : m ≢ r = makes-apart s v r m a live in
    let all : w.lists ≡ insert (remove s.lists m) r (list_at v.lists r) = e ∙ ap (λ n. remove n m) a.lists ∙ remove-other s.lists m r (list_at v.lists r) apart in
    let at = maps.at-new (remove s.lists m) w.lists r (list_at v.lists r) all in (
      record {
        vacant = λ h. a.vacant (get-removed-live s.lists m r h);
        lists = all ∙ ap (insert (remove s.lists m) r) (sym at);
        spare = omega (arith, ap length at, ap length (makes-other s v r m a live), a.spare);
      },
      at,
    )

pub keeps-given_up : (s v w : State) (m : ℕ) → Keeps s v → w.lists ≡ remove v.lists m → w.spare ≡ v.spare + (length (list_at v.lists m) + 1) → Keeps (given_up s m) w
keeps-given_up s v w m k e spare = record { lists = e ∙ ap (λ n. remove n m) k.lists; spare = omega (arith, k.spare, ap (λ n. length (list_at n m)) k.lists) }

pub keeps-freed : (s t u v : State) (k : ℕ) → Makes s t k → Keeps t u → v.lists ≡ remove u.lists k → v.spare ≡ u.spare + (length (list_at u.lists k) + 1) → Keeps s v
keeps-freed s t u v k a b e spare =
    makes-freed s t v k a (e ∙ ap (λ n. remove n k) b.lists) (omega (arith, spare, b.spare, ap (λ n. length (list_at n k)) b.lists))

pub live-removed : (m : Lists) (k j : ℕ) → j ≢ k → IsLive m j → IsLive (remove m k) j
live-removed m k j apart live = ap is_some (get-removed-other m k j apart) ∙ live
