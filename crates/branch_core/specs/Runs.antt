-- The laws of the machine's runs, and of the runs of a tree.
use Rattle.std.specs.Prelude.{◌≡◌, ℕ, ◌+◌, ◌≤◌, List, [], ◌∷◌, ◌++◌, Bool, false, Option, Some, None, map}
use Rattle.std.specs.List.{flat_map, count_by}
use Rattle.std.specs.List.Sorted.{IsPermutation, IsSortedBy}
use Rattle.std.specs.Ordering.{is_lt}
use Rattle.proof_steps.specs.Paths.{same_path, preorder_cmp}
use Rattle.branch_core.specs.declared.event.Event.{Event}
use Rattle.branch_core.specs.declared.event.Event.TheVariants as event
use Rattle.branch_core.specs.declared.event.Hold.{Hold}
use Rattle.branch_core.specs.declared.answers.Idle.TheVariants as idle
use Rattle.branch_core.specs.Machine.{State, replay, IsRun, done_of}
use Rattle.branch_core.specs.Trees.{Tree, Leaf, Fork, preorder, below, entries, entries_at}
use Rattle.branch_core.specs.Told.{IsIdle}

-- how often a path is among these
abbrev pub times : List (List Bool) → List Bool → ℕ
times paths p = count_by (same_path p) paths

abbrev pub times_held : List Hold → List Bool → ℕ
times_held holds p = count_by (λ h. same_path p h.path) holds

abbrev pub times_done : {P : Type 0} → List (List Bool × P) → List Bool → ℕ
times_done done p = count_by (λ d. same_path p d.0) done

-- a path waits once, is held once, is done once, or is in none of these states
abbrev pub InOneState : {P : Type 0} → State P → Type 0
InOneState s = (p : List Bool) → times s.waiting p + (times_held s.held p + times_done s.done p) ≤ 1

abbrev pub takes_path : {P : Type 0} → List Bool → Event P → Bool
takes_path p (event.Take worker q) = same_path p q
takes_path p (event.Split worker q x) = false
takes_path p (event.Leaf worker q x) = false
takes_path p (event.Refuse worker q) = false

abbrev pub times_taken : {P : Type 0} → List (Event P) → List Bool → ℕ
times_taken history p = count_by (takes_path p) history

abbrev pub EachInOneState : {P : Type 0} → List (Event P) → Type 0
EachInOneState {P} history = (s : State P) → replay history ≡ Some s → InOneState s

abbrev pub TakenOnce : {P : Type 0} → List (Event P) → Type 0
TakenOnce history = IsRun history → (p : List Bool) → times_taken history p ≤ 1

abbrev pub IsForkOf : {P : Type 0} → Option (Tree P) → P → Type 0
IsForkOf None x = ⊥
IsForkOf (Some (Leaf y)) x = ⊥
IsForkOf (Some (Fork y s t)) x = y ≡ x

abbrev pub IsLeafOf : {P : Type 0} → Option (Tree P) → P → Type 0
IsLeafOf None x = ⊥
IsLeafOf (Some (Leaf y)) x = y ≡ x
IsLeafOf (Some (Fork y s t)) x = ⊥

-- a split carries the tree's piece at a node with children, a leaf that at a node without
abbrev pub IsOf : {P : Type 0} → Tree P → Event P → Type 0
IsOf t (event.Take w p) = Unit {0}
IsOf t (event.Split w p x) = IsForkOf (below t p) x
IsOf t (event.Leaf w p x) = IsLeafOf (below t p) x
IsOf t (event.Refuse w p) = Unit {0}

abbrev pub AreOf : {P : Type 0} → Tree P → List (Event P) → Type 0
AreOf t [] = Unit {0}
AreOf t (e ∷ es) = IsOf t e × AreOf t es

-- the pieces done, and those at and below the waiting and the held paths
abbrev pub all_of : {P : Type 0} → Tree P → State P → List (List Bool × P)
all_of t s = s.done ++ (flat_map (entries_at t) s.waiting ++ flat_map (λ h. entries_at t h.path) s.held)

-- in every run of a tree they are together the tree's pieces
abbrev pub Conserves : {P : Type 0} → Tree P → List (Event P) → Type 0
Conserves {P} t es = AreOf t es → (s : State P) → replay es ≡ Some s → IsPermutation (entries [] t) (all_of t s)

-- each entry stands in preorder behind those before it
abbrev pub AreInPreorder : {P : Type 0} → List (List Bool × P) → Type 0
AreInPreorder done = IsSortedBy (λ a b. is_lt (preorder_cmp a.0 b.0)) done

-- the pieces done are these, in preorder
pub record Arranges {P : Type 0} (history : List (Event P)) (pieces : List P) : Type 0 where
  pub arranged : List (List Bool × P)
  pub all : IsPermutation (done_of history) arranged
  pub in_preorder : AreInPreorder arranged
  pub are : pieces ≡ map (λ d. d.1) arranged

-- where nothing is left of a run of a tree, its pieces in preorder are the tree's
abbrev pub Completes : {P : Type 0} → Tree P → List (Event P) → Type 0
Completes {P} t es = AreOf t es → IsIdle es idle.Done → (pieces : List P) → Arranges es pieces → pieces ≡ preorder t
