-- In a run of a tree, what is done and what is at and below the waiting and held paths are the tree's pieces.
use Rattle.std.proofs.Common.{◌≡◌, List, [], ◌∷◌, ◌++◌, Bool, true, false, refl, ap, ◌∙◌, subst, Option, Some, None}
use Rattle.std.specs.List.{flat_map, remove}
use Rattle.std.specs.List.Sorted.{IsPermutation}
use Rattle.std.proofs.lemmas.List.{append-nil}
use Rattle.std.proofs.lemmas.List.Concat.{flat_map-append}
use Rattle.std.proofs.lemmas.List.Sorted.{IsPermutation-refl, IsPermutation-trans}
use Rattle.branch_core.specs.declared.event.Event.{Event}
use Rattle.branch_core.specs.declared.event.Event.TheVariants as event
use Rattle.branch_core.specs.declared.event.Hold.{Hold}
use Rattle.branch_core.specs.Machine.{State, hold, start}
use Rattle.branch_core.specs.Trees.{Tree, Leaf, Fork, below, entries, entries_of, entries_at}
use Rattle.branch_core.specs.Runs.{IsForkOf, IsLeafOf, IsOf, AreOf, all_of, Conserves}
use Rattle.branch_core.proofs.Moves.{moved, waited, parted, ended, flat_map_remove}
use Rattle.branch_core.proofs.Always.{Keeps, always}

-- the trees below the two children
pub below_child : {P : Type 0} (t : Tree P) (p : List Bool) (x : P) (s u : Tree P) (b : Bool) → below t p ≡ Some (Fork x s u) → below t (p ++ b ∷ []) ≡ below (Fork x s u) (b ∷ [])
below_child t [] x s u b e = let same : t ≡ Fork x s u = cc in rw same refl
below_child (Leaf y) (true ∷ p) x s u b e = absurd cc
below_child (Leaf y) (false ∷ p) x s u b e = absurd cc
below_child (Fork y l r) (true ∷ p) x s u b e = below_child l p x s u b e
below_child (Fork y l r) (false ∷ p) x s u b e = below_child r p x s u b e

pub are_of-append : {P : Type 0} (t : Tree P) (es : List (Event P)) (e : Event P) → AreOf t (es ++ e ∷ []) → AreOf t es × IsOf t e
are_of-append t [] e h = (tt, h.0)
are_of-append t (f ∷ es) e h = let r = are_of-append t es e h.1 in ((h.0, r.0), r.1)

pub are_of_snoc : {P : Type 0} (t : Tree P) (es : List (Event P)) (e : Event P) → AreOf t es → IsOf t e → AreOf t (es ++ e ∷ [])
are_of_snoc t [] e h k = (k, tt)
are_of_snoc t (f ∷ es) e h k = (h.0, are_of_snoc t es e h.1 k)

module _ {P : Type 0} (t : Tree P) where
  held_entries : Hold → List (List Bool × P)
  held_entries h = entries_at t h.path

  abbrev Whole : State P → Type 0
  Whole s = IsPermutation (entries [] t) (all_of t s)

  leaf_entries : (p : List Bool) (x : P) (o : Option (Tree P)) → IsLeafOf o x → entries_of p o ≡ (p, x) ∷ []
  leaf_entries p x None h = absurd h
  leaf_entries p x (Some (Leaf y)) h = ap (λ (z : P). (let e : List Bool × P = (p, z) in e) ∷ []) h
  leaf_entries p x (Some (Fork y s u)) h = absurd h

  fork_entries : (p : List Bool) (x : P) (o : Option (Tree P)) → below t p ≡ o → IsForkOf o x
      → entries_of p o ≡ (p, x) ∷ (entries_at t (p ++ true ∷ []) ++ entries_at t (p ++ false ∷ []))
  fork_entries p x None e h = absurd h
  fork_entries p x (Some (Leaf y)) e h = absurd h
  fork_entries p x (Some (Fork y s u)) e h =
      let plus = below_child t p y s u true e in
      let minus = below_child t p y s u false e in
      rw (plus, minus, h) refl

  keeps : Keeps (λ es s. AreOf t es → Whole s)
  keeps = record {
    take = λ es s worker path i at free k are.
        let w : IsPermutation (flat_map (entries_at t) s.waiting) (entries_at t path ++ flat_map (entries_at t) (remove s.waiting i)) =
        subst (λ (q : List Bool). IsPermutation (flat_map (entries_at t) s.waiting) (entries_at t q ++ flat_map (entries_at t) (remove s.waiting i))) (at.is []) (flat_map_remove (entries_at t) s.waiting i [] at.within) in
        let m = moved s.done (flat_map (entries_at t) s.waiting) (flat_map (entries_at t) (remove s.waiting i)) (flat_map (λ (h : Hold). entries_at t h.path) s.held) (entries_at t path) w in
        let h : flat_map (λ (h : Hold). entries_at t h.path) (s.held ++ hold path worker ∷ []) ≡ flat_map (λ (h : Hold). entries_at t h.path) s.held ++ entries_at t path =
        flat_map-append (λ (h : Hold). entries_at t h.path) s.held (hold path worker ∷ []) ∙ ap (λ l. flat_map (λ (h : Hold). entries_at t h.path) s.held ++ l) (append-nil (entries_at t path)) in
        IsPermutation-trans _ _ _ (k (are_of-append t es (event.Take worker path) are).0) (rw h m);
    split = λ es s worker path x i at k are.
        let both = are_of-append t es (event.Split worker path x) are in
        let c = entries_at t (path ++ true ∷ []) ++ entries_at t (path ++ false ∷ []) in
        let here : entries_at t path ≡ (path, x) ∷ c = fork_entries path x (below t path) refl both.1 in
        let w : IsPermutation (flat_map (λ (h : Hold). entries_at t h.path) s.held) (entries_at t path ++ flat_map (λ (h : Hold). entries_at t h.path) (remove s.held i)) =
        subst (λ (q : List Bool). IsPermutation (flat_map (λ (h : Hold). entries_at t h.path) s.held) (entries_at t q ++ flat_map (λ (h : Hold). entries_at t h.path) (remove s.held i))) (at.is (hold [] 0)) (flat_map_remove (λ (h : Hold). entries_at t h.path) s.held i (hold [] 0) at.within) in
        let v : IsPermutation (flat_map (λ (h : Hold). entries_at t h.path) s.held) (((path, x) ∷ c) ++ flat_map (λ (h : Hold). entries_at t h.path) (remove s.held i)) = rw here at w in
        let m = parted s.done (flat_map (entries_at t) s.waiting) (flat_map (λ (h : Hold). entries_at t h.path) s.held) (flat_map (λ (h : Hold). entries_at t h.path) (remove s.held i)) ((path, x) ∷ []) c v in
        let more : flat_map (entries_at t) (s.waiting ++ (path ++ true ∷ []) ∷ (path ++ false ∷ []) ∷ []) ≡ flat_map (entries_at t) s.waiting ++ c =
        flat_map-append (entries_at t) s.waiting ((path ++ true ∷ []) ∷ (path ++ false ∷ []) ∷ [])
        ∙ ap (λ l. flat_map (entries_at t) s.waiting ++ (entries_at t (path ++ true ∷ []) ++ l)) (append-nil (entries_at t (path ++ false ∷ []))) in
        IsPermutation-trans _ _ _ (k both.0) (rw more m);
    leaf = λ es s worker path x i at k are.
        let both = are_of-append t es (event.Leaf worker path x) are in
        let here : entries_at t path ≡ (path, x) ∷ [] = leaf_entries path x (below t path) both.1 in
        let w : IsPermutation (flat_map (λ (h : Hold). entries_at t h.path) s.held) (entries_at t path ++ flat_map (λ (h : Hold). entries_at t h.path) (remove s.held i)) =
        subst (λ (q : List Bool). IsPermutation (flat_map (λ (h : Hold). entries_at t h.path) s.held) (entries_at t q ++ flat_map (λ (h : Hold). entries_at t h.path) (remove s.held i))) (at.is (hold [] 0)) (flat_map_remove (λ (h : Hold). entries_at t h.path) s.held i (hold [] 0) at.within) in
        let v : IsPermutation (flat_map (λ (h : Hold). entries_at t h.path) s.held) (((path, x) ∷ []) ++ flat_map (λ (h : Hold). entries_at t h.path) (remove s.held i)) = rw here at w in
        IsPermutation-trans _ _ _ (k both.0) (ended s.done (flat_map (entries_at t) s.waiting) (flat_map (λ (h : Hold). entries_at t h.path) s.held) (flat_map (λ (h : Hold). entries_at t h.path) (remove s.held i)) ((path, x) ∷ []) v);
    refuse = λ es s worker path i at k are.
        let w : IsPermutation (flat_map (λ (h : Hold). entries_at t h.path) s.held) (entries_at t path ++ flat_map (λ (h : Hold). entries_at t h.path) (remove s.held i)) =
        subst (λ (q : List Bool). IsPermutation (flat_map (λ (h : Hold). entries_at t h.path) s.held) (entries_at t q ++ flat_map (λ (h : Hold). entries_at t h.path) (remove s.held i))) (at.is (hold [] 0)) (flat_map_remove (λ (h : Hold). entries_at t h.path) s.held i (hold [] 0) at.within) in
        let m = waited s.done (flat_map (entries_at t) s.waiting) (flat_map (λ (h : Hold). entries_at t h.path) s.held) (flat_map (λ (h : Hold). entries_at t h.path) (remove s.held i)) (entries_at t path) w in
        let more : flat_map (entries_at t) (s.waiting ++ path ∷ []) ≡ flat_map (entries_at t) s.waiting ++ entries_at t path =
        flat_map-append (entries_at t) s.waiting (path ∷ []) ∙ ap (λ l. flat_map (entries_at t) s.waiting ++ l) (append-nil (entries_at t path)) in
        IsPermutation-trans _ _ _ (k (are_of-append t es (event.Refuse worker path) are).0) (rw more m);
  }

  begins : Whole start
  begins = let none : (entries [] t ++ []) ++ [] ≡ entries [] t = append-nil (entries [] t ++ []) ∙ append-nil (entries [] t) in rw none (IsPermutation-refl (entries [] t))

  pub conserves : (es : List (Event P)) → Conserves t es
  conserves es are s run = always (λ es s. AreOf t es → Whole s) keeps (λ none. begins) es s run are
