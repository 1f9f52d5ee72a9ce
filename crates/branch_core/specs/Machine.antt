-- The branch machine: its states, which event is possible where, and the state that a list of events leads to.
use Rattle.std.specs.Prelude.{ℕ, List, [], ◌∷◌, ◌++◌, Bool, true, false, ◌&&◌, ◌==◌, cond, nat_lt, length, Option, Some, None, IsSome}
use Rattle.std.specs.List.{position, remove}
use Rattle.std.specs.Option.{option_and_then}
use Rattle.poly_model.specs.declared.limits.TheConstants.{MOST_LETTERS}
use Rattle.proof_steps.specs.Paths.{same_path}
use Rattle.branch_core.specs.declared.event.Event.{Event}
use Rattle.branch_core.specs.declared.event.Event.TheVariants.{Take, Split, Leaf, Refuse}
use Rattle.branch_core.specs.declared.event.Hold.{Hold}

-- paths wait or are held by a worker, pieces are done, and the machine may be stopped
pub record State (P : Type 0) : Type 0 where
  pub waiting : List (List Bool)
  pub held : List Hold
  pub done : List (List Bool × P)
  pub stopped : Bool

abbrev pub state_is : {P : Type 0} → List (List Bool) → List Hold → List (List Bool × P) → Bool → State P
state_is waiting held done stopped = record { waiting = waiting; held = held; done = done; stopped = stopped }

abbrev pub hold : List Bool → ℕ → Hold
hold path worker = record { path = path; worker = worker }

-- the empty path waits
abbrev pub start : {P : Type 0} → State P
start = state_is ([] ∷ []) [] [] false

abbrev pub is_hold : List Bool → ℕ → Hold → Bool
is_hold path worker h = same_path path h.path && (worker == h.worker)

-- where a path waits, and where it is held by the worker
abbrev pub waits_at : {P : Type 0} → State P → List Bool → Option ℕ
waits_at s path = position (same_path path) s.waiting

abbrev pub held_at : {P : Type 0} → State P → List Bool → ℕ → Option ℕ
held_at s path worker = position (is_hold path worker) s.held

-- a path that waits is taken unless the machine is stopped
abbrev pub takes : {P : Type 0} → State P → ℕ → List Bool → Option ℕ → Option (State P)
takes s worker path None = None
takes s worker path (Some i) = cond s.stopped None (Some (state_is (remove s.waiting i) (s.held ++ hold path worker ∷ []) s.done s.stopped))

-- a held path of fewer letters than the most is done with its piece, and both children wait
abbrev pub splits : {P : Type 0} → State P → List Bool → P → Option ℕ → Option (State P)
splits s path x None = None
splits s path x (Some i) =
    cond (nat_lt (length path) MOST_LETTERS)
    (Some (state_is (s.waiting ++ (path ++ true ∷ []) ∷ (path ++ false ∷ []) ∷ []) (remove s.held i) (s.done ++ (path, x) ∷ []) s.stopped))
    None

-- a held path is done with its piece
abbrev pub leaves : {P : Type 0} → State P → List Bool → P → Option ℕ → Option (State P)
leaves s path x None = None
leaves s path x (Some i) = Some (state_is s.waiting (remove s.held i) (s.done ++ (path, x) ∷ []) s.stopped)

-- a held path waits again, and the machine is stopped
abbrev pub refuses : {P : Type 0} → State P → List Bool → Option ℕ → Option (State P)
refuses s path None = None
refuses s path (Some i) = Some (state_is (s.waiting ++ path ∷ []) (remove s.held i) s.done true)

-- the state after an event, where it is possible
abbrev pub step : {P : Type 0} → State P → Event P → Option (State P)
step s (Take worker path) = takes s worker path (waits_at s path)
step s (Split worker path x) = splits s path x (held_at s path worker)
step s (Leaf worker path x) = leaves s path x (held_at s path worker)
step s (Refuse worker path) = refuses s path (held_at s path worker)

abbrev pub replay_from : {P : Type 0} → State P → List (Event P) → Option (State P)
replay_from s [] = Some s
replay_from s (e ∷ es) = option_and_then (λ t. replay_from t es) (step s e)

-- the state after a list of events, where each is possible at its place
abbrev pub replay : {P : Type 0} → List (Event P) → Option (State P)
replay es = replay_from start es

-- a list of events that are possible one after the other
abbrev pub IsRun : {P : Type 0} → List (Event P) → Type 0
IsRun es = IsSome (replay es)

-- the pieces that the events brought
abbrev pub done_by : {P : Type 0} → Event P → List (List Bool × P)
done_by (Take worker path) = []
done_by (Split worker path x) = (path, x) ∷ []
done_by (Leaf worker path x) = (path, x) ∷ []
done_by (Refuse worker path) = []

abbrev pub done_of : {P : Type 0} → List (Event P) → List (List Bool × P)
done_of [] = []
done_of (e ∷ es) = done_by e ++ done_of es
