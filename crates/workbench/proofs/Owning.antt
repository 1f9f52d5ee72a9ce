-- Slots that are owned.
use Rattle.std.proofs.Common.{◌≡◌, ◌≢◌, ◌+◌, ℕ, List, [], ◌∷◌, ◌++◌, length, refl, sym, ◌∙◌, ap, subst, arith, cond, Bool, true, false}
use Rattle.std.specs.Prelude.{Option, None, is_some}
use Rattle.std.specs.FinMap.{get, remove, get-remove}
use Rattle.std.specs.Cmp.{nat_cmp_total}
use Rattle.poly_model.specs.declared.term.Term.{Term}
use Rattle.term_store.specs.States.{Lists, State, IsLive, list_at, list_or_none}
use Rattle.term_store.specs.Changes.{Makes, Keeps, given_up}
use Rattle.term_store.proofs.Maps as maps
use Rattle.term_store.proofs.Maps.{tied, tied-same, same_lists}
use Rattle.term_store.proofs.Making as making
use Rattle.workbench.specs.Owned.{Owns, AreLive, AllLive, without}

-- ---- a store whose lists are lists of another
abbrev pub Within : State → State → Type 0
Within a b = (j : ℕ) → IsLive a.lists j → IsLive b.lists j × (list_at b.lists j ≡ list_at a.lists j)

pub within-self : (a : State) → Within a a
within-self a j live = (live, refl)

pub within-then : (a b c : State) → Within a b → Within b c → Within a c
within-then a b c f g j live = let x = f j live in let y = g j x.0 in (y.0, y.1 ∙ x.1)

pub within-keeps : (s t : State) → Keeps s t → Within s t
within-keeps s t k j live = (subst (λ n. IsLive n j) (sym k.lists) live, ap (λ n. list_at n j) k.lists)

pub within-makes : (s t : State) (k : ℕ) → Makes s t k → Within s t
within-makes s t k m j live = (making.makes-other-live s t k j m live, making.makes-other s t k j m live)

removed-live : (m : Lists) (k j : ℕ) → IsLive (remove m k) j → IsLive m j × (list_at m j ≡ list_at (remove m k) j)
removed-live m k j live =
    elim (tied j k) as (λ b. tied j k ≡ b → IsLive m j × (list_at m j ≡ list_at (remove m k) j)) [
      | true ↦ λ e. absurd (let f : false ≡ true = sym (ap is_some (get-remove nat_cmp_total m k j ∙ ap (λ b. cond b None (get m j)) e)) ∙ live in cc)
      | false ↦ λ e.
          let same : get (remove m k) j ≡ get m j = get-remove nat_cmp_total m k j ∙ ap (λ b. cond b None (get m j)) e in
          (sym (ap is_some same) ∙ live, ap list_or_none (sym same))
    ] refl

pub within-given_up : (s : State) (k : ℕ) → Within (given_up s k) s
within-given_up s k j live = removed-live s.lists k j live

pub live-within : (a b : State) (ks : List ℕ) → Within a b → AllLive a ks → AllLive b ks
live-within a b [] w h = tt
live-within a b (k ∷ ks) w h = ((w k h.0).0, live-within a b ks w h.1)

pub owned-live : (base s : State) (ks : List ℕ) → Owns base s ks → AllLive s ks
owned-live base s [] h = tt
owned-live base s (k ∷ ks) h = (h.0, live-within (given_up s k) s ks (within-given_up s k) (owned-live base (given_up s k) ks h.1))

pub live-front : (s : State) (ks ls : List ℕ) → AllLive s (ks ++ ls) → AllLive s ks
live-front s [] ls h = tt
live-front s (k ∷ ks) ls h = (h.0, live-front s ks ls h.1)

pub live-back : (s : State) (ks ls : List ℕ) → AllLive s (ks ++ ls) → AllLive s ls
live-back s [] ls h = h
live-back s (k ∷ ks) ls h = live-back s ks ls h.1

-- ---- the store may change where nothing is owned
pub keeps-self : (s : State) → Keeps s s
keeps-self s = record { lists = refl; spare = refl }

pub keeps-then : (s t u : State) → Keeps s t → Keeps t u → Keeps s u
keeps-then s t u a b = record { lists = b.lists ∙ a.lists; spare = b.spare ∙ a.spare }

pub keeps-back : (s t : State) → Keeps s t → Keeps t s
keeps-back s t a = record { lists = sym a.lists; spare = sym a.spare }

keeps-less : (s t : State) (k : ℕ) → Keeps s t → Keeps (given_up s k) (given_up t k)
keeps-less s t k a = record { lists = ap (λ n. remove n k) a.lists; spare = omega (arith, a.spare, ap (λ n. length (list_at n k)) a.lists) }

pub owns-keeps : (base s t : State) (ks : List ℕ) → Owns base s ks → Keeps s t → Owns base t ks
owns-keeps base s t [] h a = keeps-then base s t h a
owns-keeps base s t (k ∷ ks) h a = (subst (λ n. IsLive n k) (sym a.lists) h.0, owns-keeps base (given_up s k) (given_up t k) ks h.1 (keeps-less s t k a))

pub owns-base : (base other s : State) (ks : List ℕ) → Owns base s ks → Keeps other base → Owns other s ks
owns-base base other s [] h a = keeps-then other base s a h
owns-base base other s (k ∷ ks) h a = (h.0, owns-base base other (given_up s k) ks h.1 a)

-- a new list is owned, and one that is given up is owned no more
pub owns-made : (base s t : State) (k : ℕ) (ks : List ℕ) → Owns base s ks → Makes s t k → Owns base t (k ∷ ks)
owns-made base s t k ks h m = (making.makes-live s t k m, owns-keeps base s (given_up t k) ks h (making.makes-freed s t (given_up t k) k m refl refl))

pub owns-freed : (base s t : State) (k : ℕ) (ks : List ℕ) → Owns base s (k ∷ ks) → t.lists ≡ remove s.lists k → t.spare ≡ s.spare + (length (list_at s.lists k) + 1) → Owns base t ks
owns-freed base s t k ks h e f = owns-keeps base (given_up s k) t ks h.1 record { lists = e; spare = f }

-- the order does not matter
other-slot : (m : Lists) (k j : ℕ) → IsLive (remove m k) j → j ≢ k
other-slot m k j live e = let f : false ≡ true = sym (ap is_some (get-remove nat_cmp_total m k j ∙ ap (λ b. cond b None (get m j)) (ap (tied j) (sym e) ∙ maps.tied-self j))) ∙ live in cc

removed-twice : (m : Lists) (a b : ℕ) → remove (remove m a) b ≡ remove (remove m b) a
removed-twice m a b = same_lists _ _ (λ q.
    get-remove nat_cmp_total (remove m a) b q ∙ ap (cond (tied q b) None) (get-remove nat_cmp_total m a q)
    ∙ turned (tied q a) (tied q b) (get m q)
    ∙ sym (get-remove nat_cmp_total (remove m b) a q ∙ ap (cond (tied q a) None) (get-remove nat_cmp_total m b q)))
  where
    turned : (x y : Bool) (o : Option (List Term)) → cond y None (cond x None o) ≡ cond x None (cond y None o)
    turned true true o = refl
    turned true false o = refl
    turned false true o = refl
    turned false false o = refl

pub owns-swapped : (base s : State) (a b : ℕ) (ks : List ℕ) → Owns base s (a ∷ b ∷ ks) → Owns base s (b ∷ a ∷ ks)
owns-swapped base s a b ks h =
    let other = removed-live s.lists a b h.1.0 in
    let apart = other-slot s.lists a b h.1.0 in
    let kept : IsLive (remove s.lists b) a = making.live-removed s.lists b a (λ e. apart (sym e)) h.0 in
    let there = removed-live s.lists b a kept in (
      other.0,
      (
        kept,
        owns-keeps base (given_up (given_up s a) b) (given_up (given_up s b) a) ks h.1.1
            record { lists = removed-twice s.lists b a; spare = omega (arith, ap length other.1, ap length there.1) },
      ),
    )

pub owns-out : (base s : State) (as' : List ℕ) (k : ℕ) (bs : List ℕ) → Owns base s (as' ++ k ∷ bs) → Owns base s (k ∷ as' ++ bs)
owns-out base s [] k bs h = h
owns-out base s (a ∷ as') k bs h = owns-swapped base s a k (as' ++ bs) (h.0, owns-out base (given_up s a) as' k bs h.1)

pub owns-in : (base s : State) (as' : List ℕ) (k : ℕ) (bs : List ℕ) → Owns base s (k ∷ as' ++ bs) → Owns base s (as' ++ k ∷ bs)
owns-in base s [] k bs h = h
owns-in base s (a ∷ as') k bs h = let f = owns-swapped base s k a (as' ++ bs) h in (f.0, owns-in base (given_up s a) as' k bs f.1)

-- what is owned, and what is beneath
pub owns-rest : (base s : State) (ks : List ℕ) → Owns base s ks → Owns (without s ks) s ks × Keeps base (without s ks)
owns-rest base s [] h = (keeps-self s, h)
owns-rest base s (k ∷ ks) h = let f = owns-rest base (given_up s k) ks h.1 in ((h.0, f.0), f.1)

-- the units of what is owned
abbrev pub units_at : State → List ℕ → ℕ
units_at s [] = 0
units_at s (k ∷ ks) = length (list_at s.lists k) + 1 + units_at s ks

units-within : (a b : State) (ks : List ℕ) → Within a b → AllLive a ks → units_at b ks ≡ units_at a ks
units-within a b [] w h = refl
units-within a b (k ∷ ks) w h = let e = ap length (w k h.0).1 in let r = units-within a b ks w h.1 in omega (arith, e, r)

pub owns-units : (base s : State) (ks : List ℕ) → Owns base s ks → s.spare + units_at s ks ≡ base.spare
owns-units base s [] h = let e = h.spare in omega (arith, e)
owns-units base s (k ∷ ks) h =
    let e = owns-units base (given_up s k) ks h.1 in
    let r = units-within (given_up s k) s ks (within-given_up s k) (owned-live base (given_up s k) ks h.1) in
    omega (arith, e, r)

-- ---- a list of slots is given up
pub owned-are : (base s : State) (ks : List ℕ) → Owns base s ks → AreLive s ks
owned-are base s [] h = tt
owned-are base s (k ∷ ks) h = (h.0, owned-are base (given_up s k) ks h.1)

pub are-front : (s : State) (ks ls : List ℕ) → AreLive s (ks ++ ls) → AreLive s ks
are-front s [] ls h = tt
are-front s (k ∷ ks) ls h = (h.0, are-front (given_up s k) ks ls h.1)

pub are-back : (s : State) (ks ls : List ℕ) → AreLive s (ks ++ ls) → AreLive (without s ks) ls
are-back s [] ls h = h
are-back s (k ∷ ks) ls h = are-back (given_up s k) ks ls h.1

pub are-keeps : (s t : State) (ks : List ℕ) → Keeps s t → AreLive s ks → AreLive t ks
are-keeps s t [] a h = tt
are-keeps s t (k ∷ ks) a h = (subst (λ n. IsLive n k) (sym a.lists) h.0, are-keeps (given_up s k) (given_up t k) ks (keeps-less s t k a) h.1)

pub without-append : (s : State) (ks ls : List ℕ) → without s (ks ++ ls) ≡ without (without s ks) ls
without-append s [] ls = refl
without-append s (k ∷ ks) ls = without-append (given_up s k) ks ls

pub without-keeps : (s t : State) (ks : List ℕ) → Keeps s t → Keeps (without s ks) (without t ks)
without-keeps s t [] a = a
without-keeps s t (k ∷ ks) a = without-keeps (given_up s k) (given_up t k) ks (keeps-less s t k a)
