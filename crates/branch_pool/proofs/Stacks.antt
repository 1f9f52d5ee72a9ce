-- What a stack stands for, before and after its last entry is done.
use Rattle.std.proofs.Common.{◌≡◌, ℕ, ◌+◌, ◌<◌, List, [], ◌∷◌, ◌++◌, Bool, true, false, length, get_or, take, map, refl, sym, ap, ◌∙◌, arith, append_assoc, Option, Some, None}
use Rattle.std.specs.List.{sum_by}
use Rattle.std.specs.Option.{option_map}
use Rattle.std.proofs.lemmas.List.{append-nil, map-append, take_more}
use Rattle.std.proofs.lemmas.List.Sums.{sum_by-append, sum_by-cons, sum_by_push}
use Rattle.proof_steps.specs.Paths.{same_path}
use Rattle.proof_steps.proofs.Paths.{same_is}
use Rattle.branch_core.specs.Trees.{Tree, Leaf, Fork, preorder, below, spot, found}
use Rattle.branch_core.proofs.Conserved.{below_child}
use Rattle.branch_pool.specs.Children.{Children, children_of, piled, stacked, pieces_at, pieces_of, nodes}

stacked_snoc : {I P : Type 0} (f : I → List P) (xs : List I) (x : I) → stacked f (xs ++ x ∷ []) ≡ f x ++ stacked f xs
stacked_snoc f [] x = sym (append-nil (f x))
stacked_snoc f (y ∷ xs) x = ap (λ l. l ++ f y) (stacked_snoc f xs x) ∙ append_assoc (f x) (stacked f xs) (f y)

stacked_two : {I P : Type 0} (f : I → List P) (xs : List I) (x y : I) → stacked f (xs ++ x ∷ y ∷ []) ≡ f y ++ (f x ++ stacked f xs)
stacked_two f xs x y =
    ap (stacked f) (sym (append_assoc xs (x ∷ []) (y ∷ []))) ∙ stacked_snoc f (xs ++ x ∷ []) y ∙ ap (λ l. f y ++ l) (stacked_snoc f xs x)

module _ {P : Type 0} (t : Tree P) where
  opens_by : (p : List Bool) (x : P) (b : Bool) (s : List (List Bool)) (o : Option (Tree P)) → below t p ≡ o → option_map spot o ≡ Some (x, b)
      → pieces_of o ++ stacked (pieces_at t) s ≡ x ∷ stacked (pieces_at t) (s ++ children_of p b)
  opens_by p x b s None e h = absurd cc
  opens_by p x b s (Some (Leaf y)) e h =
      let one : (y, false) ≡ (x, b) = cc in
      let same : y ≡ x = ap (λ (q : P × Bool). q.0) one in
      let none : b ≡ false = sym (ap (λ (q : P × Bool). q.1) one) in
      rw (same, none, append-nil s) refl
  opens_by p x b s (Some (Fork y l r)) e h =
      let one : (y, true) ≡ (x, b) = cc in
      let same : y ≡ x = ap (λ (q : P × Bool). q.0) one in
      let both : b ≡ true = sym (ap (λ (q : P × Bool). q.1) one) in
      let plus : pieces_at t (p ++ true ∷ []) ≡ preorder l = ap pieces_of (below_child t p y l r true e) in
      let minus : pieces_at t (p ++ false ∷ []) ≡ preorder r = ap pieces_of (below_child t p y l r false e) in
      let rest : stacked (pieces_at t) (s ++ children_of p true) ≡ preorder l ++ (preorder r ++ stacked (pieces_at t) s) =
      stacked_two (pieces_at t) s (p ++ false ∷ []) (p ++ true ∷ []) ∙ (λ i. plus i ++ (minus i ++ stacked (pieces_at t) s)) in
      rw (same, both, rest) (ap (λ k. x ∷ k) (append_assoc (preorder l) (preorder r) (stacked (pieces_at t) s)))

  -- the last path's piece comes next, and its children stand in its place
  opens : (p : List Bool) (x : P) (b : Bool) (s : List (List Bool)) → found t p ≡ Some (x, b)
      → stacked (pieces_at t) (s ++ p ∷ []) ≡ x ∷ stacked (pieces_at t) (s ++ children_of p b)
  opens p x b s h = stacked_snoc (pieces_at t) s p ∙ opens_by p x b s (below t p) refl h

module _ {I P : Type 0} (tree : I → Tree P) where
  abbrev pub pieces : I → List P
  pieces i = preorder (tree i)

  abbrev pub size : I → ℕ
  size i = nodes (tree i)

  -- the last item's piece comes next, and its children stand in its place
  pub next_piece : (t : Tree P) (x : P) (o : Option (I × I)) (s : List I) → Children tree t x o → preorder t ++ stacked pieces s ≡ x ∷ stacked pieces (s ++ piled o)
  next_piece t x None s h = rw (h, append-nil s) refl
  next_piece t x (Some q) s h =
      let rest = stacked_two pieces s q.1 q.0 in
      rw (h, rest) (ap (λ k. x ∷ k) (append_assoc (preorder (tree q.0)) (preorder (tree q.1)) (stacked pieces s)))

  pub fewer_nodes : (t : Tree P) (x : P) (o : Option (I × I)) (s : List I) → Children tree t x o → sum_by size (s ++ piled o) + 1 ≡ sum_by size s + nodes t
  fewer_nodes t x None s h = rw h (omega (arith, sum_by-append size s []))
  fewer_nodes t x (Some q) s h =
      rw h (omega (arith, sum_by-append size s (q.1 ∷ q.0 ∷ []), sum_by-cons size q.1 (q.0 ∷ []), sum_by-cons size q.0 []))

  -- a turn of a loop that does the last item of its stack
  pub one_done : (done more all : List P) (stack s new : List I) (i : I) (x : P) (o : Option (I × I)) → stack ≡ s ++ i ∷ [] → Children tree (tree i) x o
      → more ≡ done ++ x ∷ [] → new ≡ s ++ piled o → done ++ stacked pieces stack ≡ all → more ++ stacked pieces new ≡ all
  one_done done more all stack s new i x o e h m n k =
      (λ j. m j ++ stacked pieces (n j)) ∙ append_assoc done (x ∷ []) (stacked pieces (s ++ piled o))
      ∙ ap (λ l. done ++ l) (sym (next_piece (tree i) x o s h) ∙ sym (stacked_snoc pieces s i) ∙ ap (stacked pieces) (sym e)) ∙ k

  pub smaller : (stack s new : List I) (i : I) (x : P) (o : Option (I × I)) → stack ≡ s ++ i ∷ [] → Children tree (tree i) x o → new ≡ s ++ piled o → sum_by size new + 1 ≡ sum_by size stack
  smaller stack s new i x o e h n =
      rw (n, e) (fewer_nodes (tree i) x o s h ∙ sym (sum_by_push size s i))

module _ {P : Type 0} (t : Tree P) where
  -- a turn of a loop that meets the piece of the last path of its stack
  pub one_met : (ds : List (List Bool × Bool × P)) (i : ℕ) (d : List Bool × Bool × P) (stack s new : List (List Bool)) (p : List Bool) (b : Bool) (all : List P)
      → i < length ds → d ≡ get_or ds i d → stack ≡ s ++ p ∷ [] → same_path d.0 p ≡ true → found t d.0 ≡ Some (d.2, b) → new ≡ s ++ children_of p b
      → map (λ (d : List Bool × Bool × P). d.2) (take i ds) ++ stacked (pieces_at t) stack ≡ all → map (λ (d : List Bool × Bool × P). d.2) (take (i + 1) ds) ++ stacked (pieces_at t) new ≡ all
  one_met ds i d stack s new p b all within is e same h n k =
      let at : d.0 ≡ p = same_is d.0 p same in
      let more : take (i + 1) ds ≡ take i ds ++ d ∷ [] = take_more ds i d within ∙ ap (λ x. take i ds ++ x ∷ []) (sym is) in
      let here : found t p ≡ Some (d.2, b) = rw at at h in
      ap (λ l. map (λ (d : List Bool × Bool × P). d.2) l ++ stacked (pieces_at t) new) more
      ∙ ap (λ l. l ++ stacked (pieces_at t) new) (map-append (λ (d : List Bool × Bool × P). d.2) (take i ds) (d ∷ []))
      ∙ append_assoc (map (λ (d : List Bool × Bool × P). d.2) (take i ds)) (d.2 ∷ []) (stacked (pieces_at t) new)
      ∙ ap (λ l. map (λ (d : List Bool × Bool × P). d.2) (take i ds) ++ l) (ap (λ l. d.2 ∷ stacked (pieces_at t) l) n ∙ sym (opens t p d.2 b s here) ∙ ap (stacked (pieces_at t)) (sym e))
      ∙ k
