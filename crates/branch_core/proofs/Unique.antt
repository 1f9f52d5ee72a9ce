-- Two lists of the same entries, both in preorder, are one list, as the entries of a tree are.
use Rattle.std.proofs.Common.{◌≡◌, ℕ, ◌+◌, ◌<◌, suc, List, [], ◌∷◌, ◌++◌, Bool, true, false, cond, get_or, map, refl, sym, ap, ◌∙◌, subst, append_assoc, arith, Option, Some}
use Rattle.std.specs.List.{All}
use Rattle.std.specs.Option.{option_map}
use Rattle.std.specs.Ordering.{is_lt, ordering_reverse}
use Rattle.std.specs.declared.cmp.Ordering.{Ordering}
use Rattle.std.specs.declared.cmp.Ordering.TheVariants.{Less, Equal, Greater}
use Rattle.std.specs.Cmp.{IsStrictWeakOrder}
use Rattle.std.proofs.lemmas.Cmp.{tied_itself}
use Rattle.std.proofs.lemmas.List.{append-nil, map-append}
use Rattle.std.proofs.lemmas.List.Sums.{sum_by-cons}
use Rattle.std.proofs.lemmas.List.Sorted.{ranks_by, sorted_far}
use Rattle.std.proofs.lemmas.List.Elements.{All-nil, All-cons, All-head, All-tail, All-append, All-weaker}
use Rattle.proof_steps.specs.Paths.{same_path, preorder_cmp}
use Rattle.proof_steps.proofs.Paths.{same_is, same_itself, preorder_is, preorder_total}
use Rattle.branch_core.specs.Trees.{Tree, Leaf, Fork, preorder, below, spot, entries}
use Rattle.branch_core.specs.Runs.{times_done, AreInPreorder}
use Rattle.branch_core.proofs.Conserved.{below_child}

-- p does not stand before q
abbrev Behind : List Bool → List Bool → Type 0
Behind q p = is_lt (preorder_cmp p q) ≡ false

neither : (a b : Ordering) → a ≡ ordering_reverse b → is_lt a ≡ false → is_lt b ≡ false → a ≡ Equal
neither Less b e p q = absurd cc
neither Equal b e p q = refl
neither Greater Less e p q = absurd cc
neither Greater Equal e p q = absurd cc
neither Greater Greater e p q = absurd cc

one_place : (p q : List Bool) → Behind q p → Behind p q → p ≡ q
one_place p q h k = preorder_is p q (neither (preorder_cmp p q) (preorder_cmp q p) (preorder_total.antisymm p q) h k)

behind_itself : (p : List Bool) → Behind p p
behind_itself p = rw (tied_itself preorder_total p) refl

behind_below : (p r : List Bool) → Behind p (p ++ r)
behind_below [] [] = refl
behind_below [] (b ∷ r) = refl
behind_below (true ∷ p) r = behind_below p r
behind_below (false ∷ p) r = behind_below p r

behind_plus : (p r q : List Bool) → Behind (p ++ true ∷ r) (p ++ false ∷ q)
behind_plus [] r q = refl
behind_plus (true ∷ p) r q = behind_plus p r q
behind_plus (false ∷ p) r q = behind_plus p r q

-- q stands at or below p
abbrev Under : List Bool → List Bool → Type 0
Under p q = (r : List Bool) × (q ≡ p ++ r)

deeper : (p : List Bool) (b : Bool) (q : List Bool) → Under (p ++ b ∷ []) q → Under p q
deeper p b q u = (b ∷ u.0, u.1 ∙ append_assoc p (b ∷ []) u.0)

behind_under : (p q : List Bool) → Under p q → Behind p q
behind_under p q u = rw (u.1) (behind_below p u.0)

apart : (p q r : List Bool) → Under (p ++ true ∷ []) q → Under (p ++ false ∷ []) r → Behind q r
apart p q r u w =
    let one : q ≡ p ++ true ∷ u.0 = u.1 ∙ append_assoc p (true ∷ []) u.0 in
    let other : r ≡ p ++ false ∷ w.0 = w.1 ∙ append_assoc p (false ∷ []) w.0 in
    rw (one, other) (behind_plus p u.0 w.0)

abbrev bit : Bool → ℕ
bit b = cond b 1 0

module _ {P : Type 0} where
  abbrev Rises : List (List Bool × P) → Type 0
  Rises [] = Unit {0}
  Rises (x ∷ xs) = All (λ d. Behind x.0 d.0) xs × Rises xs

  rises_append : (xs ys : List (List Bool × P)) → Rises xs → Rises ys → All (λ x. All (λ d. Behind x.0 d.0) ys) xs → Rises (xs ++ ys)
  rises_append [] ys h k cross = k
  rises_append (x ∷ xs) ys h k cross = (
    All-append (λ (d : List Bool × P). Behind x.0 d.0) xs ys h.0 (All-head (λ (x : List Bool × P). All (λ d. Behind x.0 d.0) ys) x xs cross),
    rises_append xs ys h.1 k (All-tail (λ (x : List Bool × P). All (λ d. Behind x.0 d.0) ys) x xs cross),
  )

  pub order : IsStrictWeakOrder (λ (a b : List Bool × P). is_lt (preorder_cmp a.0 b.0))
  order = ranks_by preorder_total (λ (d : List Bool × P). d.0)

  pub rises : (xs : List (List Bool × P)) → AreInPreorder xs → Rises xs
  rises [] h = tt
  rises (x ∷ xs) h = (
    λ k d within. sorted_far (λ (a b : List Bool × P). is_lt (preorder_cmp a.0 b.0)) order (x ∷ xs) h 0 (suc k) d (omega arith) (omega arith),
    rises xs (λ k d low within.
        let e : suc k + 1 ≡ suc (k + 1) = omega arith in
        subst (λ (n : ℕ). is_lt (preorder_cmp (get_or (x ∷ xs) n d).0 (get_or xs k d).0) ≡ false) e (h (suc k) d (omega arith) (omega arith))),
  )

  met_by : (Q : List Bool → Type 0) (k : List Bool) (x : List Bool × P) (xs : List (List Bool × P)) → All (λ d. Q d.0) (x ∷ xs)
      → (b : Bool) → same_path k x.0 ≡ b → (same_path k x.0 ≡ false → Q k) → Q k
  met_by Q k x xs all true e rest = subst Q (sym (same_is k x.0 e)) (All-head (λ (d : List Bool × P). Q d.0) x xs all)
  met_by Q k x xs all false e rest = rest e

  -- what holds of the paths of all entries holds of a path that is among them
  met : (Q : List Bool → Type 0) (k : List Bool) (xs : List (List Bool × P)) → All (λ d. Q d.0) xs → 0 < times_done xs k → Q k
  met Q k [] all some = absurd (omega arith)
  met Q k (x ∷ xs) all some =
      met_by Q k x xs all (same_path k x.0) refl
      (λ e. met Q k xs (All-tail (λ (d : List Bool × P). Q d.0) x xs all)
      (let n : bit (same_path k x.0) ≡ 0 = ap bit e in
      omega (arith, n, some, sum_by-cons (λ (d : List Bool × P). cond (same_path k d.0) 1 0) x xs)))

  here : (x : List Bool × P) (xs : List (List Bool × P)) → 0 < times_done (x ∷ xs) x.0
  here x xs =
      let n : bit (same_path x.0 x.0) ≡ 1 = ap bit (same_itself x.0) in
      omega (arith, n, sum_by-cons (λ (d : List Bool × P). cond (same_path x.0 d.0) 1 0) x xs)

  pub unique : (v : List Bool → Option P) (xs ys : List (List Bool × P)) → Rises xs → Rises ys → ((k : List Bool) → times_done xs k ≡ times_done ys k)
      → All (λ d. v d.0 ≡ Some d.1) xs → All (λ d. v d.0 ≡ Some d.1) ys → xs ≡ ys
  unique v [] [] up down same left right = refl
  unique v [] (y ∷ ys) up down same left right = absurd (omega (arith, same y.0, here y ys))
  unique v (x ∷ xs) [] up down same left right = absurd (omega (arith, same x.0, here x xs))
  unique v (x ∷ xs) (y ∷ ys) up down same left right =
      let first = met (Behind y.0) x.0 (y ∷ ys) (All-cons (λ (d : List Bool × P). Behind y.0 d.0) y ys (behind_itself y.0) down.0) (omega (arith, same x.0, here x xs)) in
      let second = met (Behind x.0) y.0 (x ∷ xs) (All-cons (λ (d : List Bool × P). Behind x.0 d.0) x xs (behind_itself x.0) up.0) (omega (arith, same y.0, here y ys)) in
      let path : x.0 ≡ y.0 = one_place x.0 y.0 first second in
      let one : v x.0 ≡ Some x.1 = All-head (λ (d : List Bool × P). v d.0 ≡ Some d.1) x xs left in
      let other : v y.0 ≡ Some y.1 = All-head (λ (d : List Bool × P). v d.0 ≡ Some d.1) y ys right in
      let piece : x.1 ≡ y.1 = (let e : Some x.1 ≡ Some y.1 = sym one ∙ ap v path ∙ other in cc) in
      let both : x ≡ y = λ i. (path i, piece i) in
      let rest : xs ≡ ys =
      unique v xs ys up.1 down.1
      (λ k.
      let n : bit (same_path k x.0) ≡ bit (same_path k y.0) = ap (λ p. bit (same_path k p)) path in
      omega (arith, n, same k, sum_by-cons (λ (d : List Bool × P). cond (same_path k d.0) 1 0) x xs, sum_by-cons (λ (d : List Bool × P). cond (same_path k d.0) 1 0) y ys))
      (All-tail (λ (d : List Bool × P). v d.0 ≡ Some d.1) x xs left)
      (All-tail (λ (d : List Bool × P). v d.0 ≡ Some d.1) y ys right) in
      λ i. both i ∷ rest i

  pub all_under : (p : List Bool) (t : Tree P) → All (λ d. Under p d.0) (entries p t)
  all_under p (Leaf x) = All-cons (λ (d : List Bool × P). Under p d.0) (p, x) [] ([], sym (append-nil p)) (All-nil (λ (d : List Bool × P). Under p d.0))
  all_under p (Fork x s t) =
      All-cons (λ (d : List Bool × P). Under p d.0) (p, x) (entries (p ++ true ∷ []) s ++ entries (p ++ false ∷ []) t) ([], sym (append-nil p))
      (All-append (λ (d : List Bool × P). Under p d.0) (entries (p ++ true ∷ []) s) (entries (p ++ false ∷ []) t)
      (All-weaker (λ (d : List Bool × P). Under (p ++ true ∷ []) d.0) (λ (d : List Bool × P). Under p d.0) (λ d. deeper p true d.0) (entries (p ++ true ∷ []) s) (all_under (p ++ true ∷ []) s))
      (All-weaker (λ (d : List Bool × P). Under (p ++ false ∷ []) d.0) (λ (d : List Bool × P). Under p d.0) (λ d. deeper p false d.0) (entries (p ++ false ∷ []) t) (all_under (p ++ false ∷ []) t)))

  pub entries_rise : (p : List Bool) (t : Tree P) → Rises (entries p t)
  entries_rise p (Leaf x) = (All-nil (λ (d : List Bool × P). Behind p d.0), tt)
  entries_rise p (Fork x s t) =
      let plus = all_under (p ++ true ∷ []) s in
      let minus = all_under (p ++ false ∷ []) t in (
        All-append (λ (d : List Bool × P). Behind p d.0) (entries (p ++ true ∷ []) s) (entries (p ++ false ∷ []) t)
            (All-weaker (λ (d : List Bool × P). Under (p ++ true ∷ []) d.0) (λ (d : List Bool × P). Behind p d.0) (λ d u. behind_under p d.0 (deeper p true d.0 u)) (entries (p ++ true ∷ []) s) plus)
            (All-weaker (λ (d : List Bool × P). Under (p ++ false ∷ []) d.0) (λ (d : List Bool × P). Behind p d.0) (λ d u. behind_under p d.0 (deeper p false d.0 u)) (entries (p ++ false ∷ []) t) minus),
        rises_append (entries (p ++ true ∷ []) s) (entries (p ++ false ∷ []) t) (entries_rise (p ++ true ∷ []) s) (entries_rise (p ++ false ∷ []) t)
            (All-weaker (λ (d : List Bool × P). Under (p ++ true ∷ []) d.0) (λ (x : List Bool × P). All (λ d. Behind x.0 d.0) (entries (p ++ false ∷ []) t))
            (λ x u. All-weaker (λ (d : List Bool × P). Under (p ++ false ∷ []) d.0) (λ (d : List Bool × P). Behind x.0 d.0) (λ d w. apart p x.0 d.0 u w) (entries (p ++ false ∷ []) t) minus)
            (entries (p ++ true ∷ []) s) plus),
      )

  -- the piece at a path
  abbrev pub value : Tree P → List Bool → Option P
  value t p = option_map (λ s. (spot s).0) (below t p)

  pub values : (whole t : Tree P) (p : List Bool) → below whole p ≡ Some t → All (λ d. value whole d.0 ≡ Some d.1) (entries p t)
  values whole (Leaf x) p e = All-cons (λ (d : List Bool × P). value whole d.0 ≡ Some d.1) (p, x) [] (ap (option_map (λ (s : Tree P). (spot s).0)) e) (All-nil (λ (d : List Bool × P). value whole d.0 ≡ Some d.1))
  values whole (Fork x s t) p e =
      All-cons (λ (d : List Bool × P). value whole d.0 ≡ Some d.1) (p, x) (entries (p ++ true ∷ []) s ++ entries (p ++ false ∷ []) t) (ap (option_map (λ (s : Tree P). (spot s).0)) e)
      (All-append (λ (d : List Bool × P). value whole d.0 ≡ Some d.1) (entries (p ++ true ∷ []) s) (entries (p ++ false ∷ []) t)
      (values whole s (p ++ true ∷ []) (below_child whole p x s t true e))
      (values whole t (p ++ false ∷ []) (below_child whole p x s t false e)))

  pub entries_pieces : (p : List Bool) (t : Tree P) → map (λ d. d.1) (entries p t) ≡ preorder t
  entries_pieces p (Leaf x) = refl
  entries_pieces p (Fork x s t) =
      let plus = entries_pieces (p ++ true ∷ []) s in
      let minus = entries_pieces (p ++ false ∷ []) t in
      let both : map (λ (d : List Bool × P). d.1) (entries (p ++ true ∷ []) s ++ entries (p ++ false ∷ []) t) ≡ preorder s ++ preorder t =
      map-append (λ (d : List Bool × P). d.1) (entries (p ++ true ∷ []) s) (entries (p ++ false ∷ []) t) ∙ (λ i. plus i ++ minus i) in
      ap (λ (l : List P). x ∷ l) both
