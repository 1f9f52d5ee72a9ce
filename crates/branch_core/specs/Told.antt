-- What is told of a path, of a refused event, and of the work that is left.
use Rattle.std.specs.Prelude.{◌≡◌, ℕ, List, [], ◌∷◌, ◌++◌, Bool, true, false, cond, Option, Some, None, is_some, IsSome}
use Rattle.std.specs.List.{list_any, find}
use Rattle.std.specs.Option.{option_map}
use Rattle.proof_steps.specs.Paths.{same_path}
use Rattle.branch_core.specs.declared.event.Event.{Event}
use Rattle.branch_core.specs.declared.event.Event.TheVariants.{Split, Leaf, Refuse}
use Rattle.branch_core.specs.declared.event.Hold.{Hold}
use Rattle.branch_core.specs.declared.answers.Gone.{Gone}
use Rattle.branch_core.specs.declared.answers.PathState.{PathState}
use Rattle.branch_core.specs.declared.answers.PathState.TheVariants.{Waiting, Held, Done, Absent}
use Rattle.branch_core.specs.declared.answers.Idle.{Idle}
use Rattle.branch_core.specs.declared.answers.Idle.TheVariants as idle
use Rattle.branch_core.specs.declared.answers.Unsplit.{Unsplit}
use Rattle.branch_core.specs.declared.answers.Unsplit.TheVariants as unsplit
use Rattle.branch_core.specs.Machine.{State, replay, waits_at}

-- who holds a path
abbrev pub holder : List Bool → List Hold → Option ℕ
holder path held = option_map (λ h. h.worker) (find (λ h. same_path path h.path) held)

abbrev pub is_done : {P : Type 0} → List Bool → List (List Bool × P) → Bool
is_done path done = list_any (λ d. same_path path d.0) done

abbrev pub told : {P : Type 0} → List Bool → List (List Bool × P) → Option ℕ → PathState
told path done (Some worker) = Held worker
told path done None = cond (is_done path done) Done Absent

-- the state of a path
abbrev pub state_at : {P : Type 0} → State P → List Bool → PathState
state_at s path = cond (is_some (waits_at s path)) Waiting (told path s.done (holder path s.held))

-- what is told of a path where an event is refused
abbrev pub gone_at : {P : Type 0} → State P → List Bool → Gone
gone_at s path = record { state = state_at s path; stopped = s.stopped }

-- what is told of a path after this history
abbrev pub Tells : {P : Type 0} → List (Event P) → List Bool → Gone → Type 0
Tells {P} history path g = (s : State P) × (replay history ≡ Some s) × (g ≡ gone_at s path)

-- the event is not possible after this history, and this is what is told of its path
pub record IsGone {P : Type 0} (history : List (Event P)) (event : Event P) (path : List Bool) (g : Gone) : Type 0 where
  pub impossible : replay (history ++ event ∷ []) ≡ None
  pub tells : Tells history path g

-- a refused split hands back the piece, and for want of memory the ticket too: the event was possible
abbrev pub IsUnsplit : {P : Type 0} → List (Event P) → List Bool × ℕ → P → Unsplit P → Type 0
IsUnsplit history t piece (unsplit.Gone g x) = (x ≡ piece) × IsGone history (Split t.1 t.0 piece) t.0 g
IsUnsplit history t piece (unsplit.OutOfMemory u x) = (x ≡ piece) × (u ≡ t) × IsSome (replay (history ++ Split t.1 t.0 piece ∷ []))

-- the events by which a ticket is spent
abbrev pub split_by : {P : Type 0} → List Bool × ℕ → P → Event P
split_by t x = Split t.1 t.0 x

abbrev pub leaf_by : {P : Type 0} → List Bool × ℕ → P → Event P
leaf_by t x = Leaf t.1 t.0 x

abbrev pub refuse_by : {P : Type 0} → List Bool × ℕ → Event P
refuse_by t = Refuse t.1 t.0

-- what is left to do: nothing where the machine is stopped, else what waits, else what is held
abbrev pub idle_of : Bool → List (List Bool) → List Hold → Idle
idle_of true waiting held = idle.Stopped
idle_of false [] [] = idle.Done
idle_of false [] (h ∷ hs) = idle.Wait
idle_of false (p ∷ ps) held = idle.Work

abbrev pub IsIdle : {P : Type 0} → List (Event P) → Idle → Type 0
IsIdle {P} history i = (s : State P) × (replay history ≡ Some s) × (i ≡ idle_of s.stopped s.waiting s.held)
