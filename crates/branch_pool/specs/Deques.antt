-- What a pass has pushed to a deque and taken from it, and the rule that ties this to what the deque holds.
use Rattle.std.specs.Prelude.{◌≡◌, ℕ, ◌+◌, List, [], ◌∷◌, ◌++◌, Bool}
use Rattle.std.specs.List.{count_by, sum_by}
use Rattle.std.specs.Global.{Global}
use Rattle.branch_pool.specs.declared.rule.Hand.{Hand}

abbrev pub hand : {I : Type 0} → List I → List I → Hand I
hand pushed taken = record { pushed = pushed; taken = taken }

abbrev pub nothing : {I : Type 0} → Hand I
nothing = hand [] []

-- the hand after a push of an item, and after one was taken
abbrev pub gave : {I : Type 0} → I → Hand I → Hand I
gave x h = hand (h.pushed ++ x ∷ []) h.taken

abbrev pub took : {I : Type 0} → I → Hand I → Hand I
took x h = hand h.pushed (h.taken ++ x ∷ [])

-- whatever items are counted, as many were pushed as are in the deque or were taken
abbrev pub Balanced : {I : Type 0} → List I → List (Hand I) → Type 0
Balanced {I} items hands =
    (p : I → Bool)
    → sum_by (λ (h : Hand I). count_by p h.pushed) hands ≡ count_by p items + sum_by (λ (h : Hand I). count_by p h.taken) hands

-- which deque it is
abbrev pub Name : Type 0
Name = (ℕ × ℕ) × Global

-- an end of a deque: which one, and what was done at this end
pub record End (I : Type 0) : Type 0 where
  pub deque : Name
  pub done : Hand I

abbrev pub end_is : {I : Type 0} → Name → Hand I → End I
end_is deque done = record { deque = deque; done = done }

-- an end where nothing was done yet
abbrev pub new_end : {I : Type 0} → Name → End I
new_end deque = end_is deque nothing

abbrev pub gave_at : {I : Type 0} → I → End I → End I
gave_at x e = end_is e.deque (gave x e.done)

abbrev pub took_at : {I : Type 0} → I → End I → End I
took_at x e = end_is e.deque (took x e.done)
