-- A stack of the nodes whose paths wait in a book of their tree.
use Rattle.std.proofs.Common.{◌≡◌, ℕ, ◌+◌, ◌<◌, List, [], ◌∷◌, ◌++◌, Bool, true, false, cond, length, get_or, refl, sym, ◌∙◌, ap, subst, arith, append_assoc, Option, Some, None}
use Rattle.std.specs.Prelude.{is_some, nat_lt, not}
use Rattle.std.specs.List.{sum_by, count_by, position, position_or_len, remove}
use Rattle.std.proofs.lemmas.Bool.Decides.{nat_tests}
use Rattle.std.proofs.lemmas.List.{append-nil}
use Rattle.std.proofs.lemmas.List.Quantifiers.{position-Some}
use Rattle.std.proofs.lemmas.List.Sums.{sum_by-append, sum_by-cons, sum_by-remove, sum_by_push}
use Rattle.poly_model.specs.Polynomial.{Polynomial}
use Rattle.poly_model.specs.declared.limits.TheConstants.{MOST_LETTERS}
use Rattle.proof_steps.specs.Paths.{same_path}
use Rattle.proof_steps.proofs.Paths.{same_is, same_itself}
use Rattle.proof_steps.specs.declared.piece.Node.{Node}
use Rattle.proof_steps.specs.declared.piece.Piece.{Piece}
use Rattle.branch_core.specs.declared.event.Event.{Event}
use Rattle.branch_core.specs.declared.event.Event.TheVariants as event
use Rattle.branch_core.specs.declared.answers.Idle.TheVariants as idle
use Rattle.branch_core.specs.Machine.{State, replay, state_is, hold, is_hold}
use Rattle.branch_core.specs.Trees.{Tree, Fork, below}
use Rattle.branch_core.specs.Told.{IsIdle, idle_of}
use Rattle.branch_core.specs.Runs.{times, AreOf, IsOf, IsLeafOf, IsForkOf}
use Rattle.branch_core.proofs.Replays.{next, takes_at, leaves_at, splits_at}
use Rattle.branch_core.proofs.Conserved.{below_child, are_of_snoc}
use Rattle.branch_pool.specs.Children.{piled, nodes}
use Rattle.branch_pool.proofs.Stacks.{smaller}
use Rattle.prove_run.specs.Branches.{branches_of}
use Rattle.prove_run.specs.Ready.{IsWaiting}
use Rattle.prove_run.specs.Turns.{MayTurn}
use Rattle.prove_run.proofs.Expanded.{IsExpanded}

-- the node has the tree below its path in the root's, and may wait
pub record IsAt (cons : List Polynomial) (root n : Node) : Type 0 where
  pub waits : IsWaiting n
  pub tree : below (branches_of cons root) n.path ≡ Some (branches_of cons n)

abbrev pub AreAt : List Polynomial → Node → List Node → Type 0
AreAt cons root [] = Unit {0}
AreAt cons root (n ∷ ns) = IsAt cons root n × AreAt cons root ns

-- how often a path is that of a node on the stack
abbrev pub times_on : List Node → List Bool → ℕ
times_on stack q = count_by (λ (n : Node). same_path q n.path) stack

-- the book is a run of the root's tree in which nothing is held, and the paths of the stack wait
pub record AreTurns (cons : List Polynomial) (root : Node) (history : List (Event Piece)) (stack : List Node) : Type 0 where
  pub waiting : List (List Bool)
  pub done : List (List Bool × Piece)
  pub run : replay history ≡ Some (state_is waiting [] done false)
  pub same : (q : List Bool) → times waiting q ≡ times_on stack q
  pub at : AreAt cons root stack
  pub of : AreOf (branches_of cons root) history

abbrev pub size_of_stack : List Polynomial → List Node → ℕ
size_of_stack cons stack = sum_by (λ (n : Node). nodes (branches_of cons n)) stack

-- ---- the turns of a path
abbrev bit : Bool → ℕ
bit b = cond b 1 0

first-by : (p q : List Bool) (ws : List (List Bool)) (b : Bool) → same_path p q ≡ b → (0 < times ws p → position_or_len (same_path p) ws < length ws)
    → 0 < times (q ∷ ws) p → position_or_len (same_path p) (q ∷ ws) < length (q ∷ ws)
first-by p q ws true e rest some =
    let here : position_or_len (same_path p) (q ∷ ws) ≡ 0 = ap (λ b. cond (not b) (1 + position_or_len (same_path p) ws) 0) e in
    omega (arith, here)
first-by p q ws false e rest some =
    let later : position_or_len (same_path p) (q ∷ ws) ≡ 1 + position_or_len (same_path p) ws =
    ap (λ b. cond (not b) (1 + position_or_len (same_path p) ws) 0) e in
    let none : bit (same_path p q) ≡ 0 = ap bit e in
    let l = rest (omega (arith, none, some, sum_by-cons (λ r. cond (same_path p r) 1 0) q ws)) in
    omega (arith, later, l)

first-within : (p : List Bool) (ws : List (List Bool)) → 0 < times ws p → position_or_len (same_path p) ws < length ws
first-within p [] some = absurd (omega arith)
first-within p (q ∷ ws) some = first-by p q ws (same_path p q) refl (first-within p ws) some

found : (p : List Bool) (ws : List (List Bool)) → 0 < times ws p → position (same_path p) ws ≡ Some (position_or_len (same_path p) ws)
found p ws some =
    let l = first-within p ws some in
    let yes : nat_lt (position_or_len (same_path p) ws) (length ws) ≡ true = grind (arith, nat_tests) in
    rw yes refl

-- a path is taken: it is held alone, and waits once less
pub record Took (h : List (Event Piece)) (path : List Bool) (waiting : List (List Bool)) (done : List (List Bool × Piece)) : Type 0 where
  pub rest : List (List Bool)
  pub run : replay (h ++ event.Take 0 path ∷ []) ≡ Some (state_is rest (hold path 0 ∷ []) done false)
  pub same : (q : List Bool) → times rest q + bit (same_path q path) ≡ times waiting q

pub took : (h : List (Event Piece)) (path : List Bool) (ws : List (List Bool)) (done : List (List Bool × Piece))
    → replay h ≡ Some (state_is ws [] done false) → 0 < times ws path → Took h path ws done
took h path ws done run some =
    let s : State Piece = state_is ws [] done false in
    let i = position_or_len (same_path path) ws in
    let at : position (same_path path) ws ≡ Some i = found path ws some in
    let here = position-Some (same_path path) ws i [] at in
    let is : get_or ws i [] ≡ path = sym (same_is path (get_or ws i []) here.1) in
    record {
      rest = remove ws i;
      run = next h (event.Take 0 path) s run ∙ takes_at s 0 path i (position (same_path path) ws) at refl;
      same = λ q.
          subst (λ (r : List Bool). times (remove ws i) q + bit (same_path q r) ≡ times ws q) is
          (sum_by-remove (λ r. cond (same_path q r) 1 0) ws i [] here.0);
    }

held-first : (path : List Bool) → position (is_hold path 0) (hold path 0 ∷ []) ≡ Some 0
held-first path = rw (same_itself path) refl

pub left : (h : List (Event Piece)) (path : List Bool) (x : Piece) (ws : List (List Bool)) (done : List (List Bool × Piece))
    → replay h ≡ Some (state_is ws (hold path 0 ∷ []) done false)
    → replay (h ++ event.Leaf 0 path x ∷ []) ≡ Some (state_is ws [] (done ++ (path, x) ∷ []) false)
left h path x ws done run =
    let s : State Piece = state_is ws (hold path 0 ∷ []) done false in
    next h (event.Leaf 0 path x) s run ∙ leaves_at s path x 0 (position (is_hold path 0) (hold path 0 ∷ [])) (held-first path)

pub parted : (h : List (Event Piece)) (path : List Bool) (x : Piece) (ws : List (List Bool)) (done : List (List Bool × Piece)) → length path < MOST_LETTERS
    → replay h ≡ Some (state_is ws (hold path 0 ∷ []) done false)
    → replay (h ++ event.Split 0 path x ∷ [])
    ≡ Some (state_is (ws ++ (path ++ true ∷ []) ∷ (path ++ false ∷ []) ∷ []) [] (done ++ (path, x) ∷ []) false)
parted h path x ws done short run =
    let s : State Piece = state_is ws (hold path 0 ∷ []) done false in
    next h (event.Split 0 path x) s run ∙ splits_at s path x 0 (position (is_hold path 0) (hold path 0 ∷ [])) (held-first path) short

-- what leads to a state is not impossible
pub possible : (h : List (Event Piece)) (s : State Piece) → replay h ≡ Some s → replay h ≡ None → ⊥
possible h s run none = absurd (let e : Some s ≡ None = sym run ∙ none in cc)

-- ---- the nodes of the stack
at-append : (cons : List Polynomial) (root : Node) (ms ns : List Node) → AreAt cons root ms → AreAt cons root ns → AreAt cons root (ms ++ ns)
at-append cons root [] ns a b = b
at-append cons root (m ∷ ms) ns a b = (a.0, at-append cons root ms ns a.1 b)

at-last : (cons : List Polynomial) (root : Node) (ms : List Node) (n : Node) → AreAt cons root (ms ++ n ∷ []) → AreAt cons root ms × IsAt cons root n
at-last cons root [] n a = (tt, a.0)
at-last cons root (m ∷ ms) n a = let r = at-last cons root ms n a.1 in ((a.0, r.0), r.1)

children-at : (cons : List Polynomial) (root n : Node) (p : Piece) (o : Option (Node × Node)) → IsAt cons root n → IsExpanded cons n p o
    → AreAt cons root (piled o)
children-at cons root n p None a e = tt
children-at cons root n p (Some q) a e =
    let t = branches_of cons root in
    let f : below t n.path ≡ Some (Fork p (branches_of cons q.0) (branches_of cons q.1)) = a.tree ∙ ap (λ (u : Tree Piece). Some u) e.tree in
    let plus = below_child t n.path p (branches_of cons q.0) (branches_of cons q.1) true f in
    let minus = below_child t n.path p (branches_of cons q.0) (branches_of cons q.1) false f in (
      record { waits = e.waiting.1; tree = ap (λ (r : List Bool). below t r) e.paths.1 ∙ minus },
      (record { waits = e.waiting.0; tree = ap (λ (r : List Bool). below t r) e.paths.0 ∙ plus }, tt),
    )

-- the event that ends a node's path is one of the tree
abbrev ends : List Bool → Piece → Bool → Event Piece
ends path p splits = cond splits (event.Split 0 path p) (event.Leaf 0 path p)

end-of : (cons : List Polynomial) (root n : Node) (p : Piece) (o : Option (Node × Node)) → IsAt cons root n → IsExpanded cons n p o
    → IsOf (branches_of cons root) (ends n.path p (is_some o))
end-of cons root n p None a e =
    subst (λ (b : Option (Tree Piece)). IsLeafOf b p) (sym (a.tree ∙ ap (λ (u : Tree Piece). Some u) e.tree)) refl
end-of cons root n p (Some q) a e =
    subst (λ (b : Option (Tree Piece)). IsForkOf b p) (sym (a.tree ∙ ap (λ (u : Tree Piece). Some u) e.tree)) refl

-- ---- a turn
-- the node on top is the next, and its path may be taken
pub record IsNext (cons : List Polynomial) (root : Node) (h : List (Event Piece)) (n : Node) : Type 0 where
  pub at : IsAt cons root n
  pub may : MayTurn h n.path

waits-on-top : (cons : List Polynomial) (root : Node) (h : List (Event Piece)) (s : List Node) (n : Node) (w : AreTurns cons root h (s ++ n ∷ []))
    → 0 < times w.waiting n.path
waits-on-top cons root h s n w =
    let more = sum_by_push (λ (m : Node). cond (same_path n.path m.path) 1 0) s n in
    let one : bit (same_path n.path n.path) ≡ 1 = ap bit (same_itself n.path) in
    let same = w.same n.path in
    omega (arith, more, one, same)

pub on-top : (cons : List Polynomial) (root : Node) (h : List (Event Piece)) (s : List Node) (n : Node) → AreTurns cons root h (s ++ n ∷ [])
    → IsNext cons root h n
on-top cons root h s n w =
    record { at = (at-last cons root s n w.at).1; may = (w.waiting, w.done, w.run, waits-on-top cons root h s n w) }

pub short : (cons : List Polynomial) (n : Node) (p : Piece) (o : Option (Node × Node)) → IsExpanded cons n p o → is_some o ≡ true
    → length n.path < MOST_LETTERS
short cons n p None e h = absurd cc
short cons n p (Some q) e h = e.paths.2

pub turned : (cons : List Polynomial) (root : Node) (h : List (Event Piece)) (s : List Node) (n : Node) (p : Piece) (o : Option (Node × Node))
    → AreTurns cons root h (s ++ n ∷ []) → IsExpanded cons n p o
    → AreTurns cons root (h ++ event.Take 0 n.path ∷ ends n.path p (is_some o) ∷ []) (s ++ piled o)
turned cons root h s n p o w e =
    let x = on-top cons root h s n w in
    let k = took h n.path w.waiting w.done w.run (waits-on-top cons root h s n w) in
    let tree = branches_of cons root in
    let took-one : List (Event Piece) = h ++ event.Take 0 n.path ∷ [] in
    let on : took-one ++ ends n.path p (is_some o) ∷ [] ≡ h ++ event.Take 0 n.path ∷ ends n.path p (is_some o) ∷ [] =
    append_assoc h (event.Take 0 n.path ∷ []) (ends n.path p (is_some o) ∷ []) in
    let of = are_of_snoc tree took-one (ends n.path p (is_some o)) (are_of_snoc tree h (event.Take 0 n.path) w.of tt) (end-of cons root n p o x.at e) in
    let at = at-append cons root s (piled o) (at-last cons root s n w.at).0 (children-at cons root n p o x.at e) in
    let less = λ (q : List Bool).
    (let r : times k.rest q ≡ times_on s q =
    omega (arith, k.same q, w.same q, sum_by_push (λ (m : Node). cond (same_path q m.path) 1 0) s n) in r) in
    by o (subst (AreOf tree) on of) at e k.run less on
  where
    by : (o : Option (Node × Node)) → AreOf (branches_of cons root) (h ++ event.Take 0 n.path ∷ ends n.path p (is_some o) ∷ [])
        → AreAt cons root (s ++ piled o) → IsExpanded cons n p o → {rest : List (List Bool)} → {done : List (List Bool × Piece)}
        → replay (h ++ event.Take 0 n.path ∷ []) ≡ Some (state_is rest (hold n.path 0 ∷ []) done false)
        → ((q : List Bool) → times rest q ≡ times_on s q)
        → (h ++ event.Take 0 n.path ∷ []) ++ ends n.path p (is_some o) ∷ [] ≡ h ++ event.Take 0 n.path ∷ ends n.path p (is_some o) ∷ []
        → AreTurns cons root (h ++ event.Take 0 n.path ∷ ends n.path p (is_some o) ∷ []) (s ++ piled o)
    by None of at e {rest} {done} run less on = record {
      waiting = rest;
      done = done ++ (n.path, p) ∷ [];
      run = ap replay (sym on) ∙ left (h ++ event.Take 0 n.path ∷ []) n.path p rest done run;
      same = λ q. less q ∙ ap (λ (l : List Node). times_on l q) (sym (append-nil s));
      at = at;
      of = of;
    }
    by (Some c) of at e {rest} {done} run less on = record {
      waiting = rest ++ (n.path ++ true ∷ []) ∷ (n.path ++ false ∷ []) ∷ [];
      done = done ++ (n.path, p) ∷ [];
      run = ap replay (sym on) ∙ parted (h ++ event.Take 0 n.path ∷ []) n.path p rest done e.paths.2 run;
      same = λ q.
          let a = sum_by-append (λ r. cond (same_path q r) 1 0) rest ((n.path ++ true ∷ []) ∷ (n.path ++ false ∷ []) ∷ []) in
          let b = sum_by-append (λ (m : Node). cond (same_path q m.path) 1 0) s (c.1 ∷ c.0 ∷ []) in
          let plus : bit (same_path q c.0.path) ≡ bit (same_path q (n.path ++ true ∷ [])) = ap (λ (r : List Bool). bit (same_path q r)) e.paths.0 in
          let minus : bit (same_path q c.1.path) ≡ bit (same_path q (n.path ++ false ∷ [])) = ap (λ (r : List Bool). bit (same_path q r)) e.paths.1 in
          omega (arith, a, b, plus, minus, less q);
      at = at;
      of = of;
    }

pub smaller-stack : (cons : List Polynomial) (stack s : List Node) (n : Node) (p : Piece) (o : Option (Node × Node)) → stack ≡ s ++ n ∷ []
    → IsExpanded cons n p o → size_of_stack cons (s ++ piled o) < size_of_stack cons stack
smaller-stack cons stack s n p o is e =
    let l = smaller (λ m. branches_of cons m) stack s (s ++ piled o) n p o is e.tree refl in
    omega (arith, l)

-- ---- the end
none-waits : (ws : List (List Bool)) → ((q : List Bool) → times ws q ≡ 0) → idle.Done ≡ idle_of false ws []
none-waits [] none = refl
none-waits (p ∷ ws) none =
    let one : bit (same_path p p) ≡ 1 = ap bit (same_itself p) in
    absurd (omega (arith, one, none p, sum_by-cons (λ r. cond (same_path p r) 1 0) p ws))

pub ended : (cons : List Polynomial) (root : Node) (h : List (Event Piece)) → AreTurns cons root h [] → IsIdle h idle.Done
ended cons root h w = (state_is w.waiting [] w.done false, w.run, none-waits w.waiting w.same)
