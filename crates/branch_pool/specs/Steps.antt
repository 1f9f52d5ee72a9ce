-- Each kind of step of a pass keeps the rule of a lane's deque, from any state that meets it.
use Rattle.std.specs.Prelude.{◌≡◌, ℕ, ◌++◌, ◌∷◌, []}
use Rattle.crossbeam_deque.specs.Tasks.{Pushes, Takes, Forks, Merges}
use Rattle.branch_pool.specs.declared.rule.Hand.{Hand}
use Rattle.branch_pool.specs.Deques.{hand, nothing, gave, Balanced}

-- the item joins the deque at the back, and what was pushed
abbrev pub PushKeeps : Type 0 → Type 0
PushKeeps I = (port : ℕ) (v : Hand I) (x : I) → Pushes Balanced port v (x ∷ []) (λ w. w ≡ gave x v)

-- the first item leaves the deque, by a pop or a steal, and joins what was taken
abbrev pub TakeKeeps : Type 0 → Type 0
TakeKeeps I = (port : ℕ) (v : Hand I) → Takes Balanced port v 1 (λ xs w. w ≡ hand v.pushed (v.taken ++ xs))

-- a new pass comes, with nothing
abbrev pub SplitKeeps : Type 0 → Type 0
SplitKeeps I = (port : ℕ) (v : Hand I) → Forks Balanced port v v nothing

-- one pass gains what the other did, which is left with nothing
abbrev pub JoinKeeps : Type 0 → Type 0
JoinKeeps I =
    (port : ℕ) (v : Hand I) (other : ℕ) (w : Hand I)
    → Merges Balanced port v other w (hand (v.pushed ++ w.pushed) (v.taken ++ w.taken)) nothing
