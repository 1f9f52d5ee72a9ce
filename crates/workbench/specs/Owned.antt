-- Slots of a store that are owned: what the store is without them.
use Rattle.std.specs.Prelude.{ℕ, List, [], ◌∷◌}
use Rattle.term_store.specs.States.{State, IsLive}
use Rattle.term_store.specs.Changes.{Keeps, given_up}

-- These slots are live, no two are one, and without their lists the store is the base.
abbrev pub Owns : State → State → List ℕ → Type 0
Owns base s [] = Keeps base s
Owns base s (k ∷ ks) = IsLive s.lists k × Owns base (given_up s k) ks

-- These slots are live, and no two are one.
abbrev pub AreLive : State → List ℕ → Type 0
AreLive s [] = Unit {0}
AreLive s (k ∷ ks) = IsLive s.lists k × AreLive (given_up s k) ks

-- The slots are live.
abbrev pub AllLive : State → List ℕ → Type 0
AllLive s [] = Unit {0}
AllLive s (k ∷ ks) = IsLive s.lists k × AllLive s ks

-- The store without these lists.
abbrev pub without : State → List ℕ → State
without s [] = s
without s (k ∷ ks) = without (given_up s k) ks
