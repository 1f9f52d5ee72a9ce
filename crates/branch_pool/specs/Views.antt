-- A lane: the owner's end of its own deque, and an end of each other lane's deque.
use Rattle.std.specs.Prelude.{◌≡◌, ◌⊎◌, ℕ, suc, ◌-◌, List, [], ◌∷◌, ◌++◌, Some, cond, nat_lt, map, slice_get, slice_set, length}
use Rattle.std.specs.List.{remove, All}
use Rattle.branch_pool.specs.Deques.{End, new_end, gave_at, took_at}

-- the doors stand by the places of their deques, with this lane's own place left out
pub record View (I : Type 0) : Type 0 where
  pub own : End I
  pub doors : List (End I)
  pub place : ℕ

abbrev pub view_is : {I : Type 0} → End I → List (End I) → ℕ → View I
view_is own doors place = record { own = own; doors = doors; place = place }

-- which door leads to a lane's deque
abbrev pub door_to : ℕ → ℕ → ℕ
door_to place from = cond (nat_lt from place) from (from - 1)

abbrev pub after_push : {I : Type 0} → View I → I → View I
after_push v x = view_is (gave_at x v.own) v.doors v.place

abbrev pub after_pop : {I : Type 0} → View I → I → View I
after_pop v x = view_is (took_at x v.own) v.doors v.place

-- the end at the door to that place gains the item
abbrev pub Steals : {I : Type 0} → View I → ℕ → I → View I → Type 0
Steals {I} v from x w =
    (e : End I)
    × (slice_get v.doors (door_to v.place from) ≡ Some e)
    × (w ≡ view_is v.own (slice_set v.doors (door_to v.place from) (took_at x e)) v.place)

abbrev pub StealsSome : {I : Type 0} → View I → I → View I → Type 0
StealsSome {I} v x w = (from : ℕ) × Steals v from x w

-- the new lane at a place, for these deques
abbrev pub new_lane : {I : Type 0} → List (End I) → ℕ → End I → View I
new_lane ends place own = view_is own (map (λ e. new_end e.deque) (remove ends place)) place

-- the new lanes for these deques, from a place on
abbrev pub lanes_from : {I : Type 0} → List (End I) → ℕ → List (End I) → List (View I)
lanes_from ends place [] = []
lanes_from ends place (own ∷ rest) = new_lane ends place own ∷ lanes_from ends (suc place) rest

-- one lane for each of some new deques, in order
pub record AreLanes {I : Type 0} (count : ℕ) (lanes : List (View I)) : Type 0 where
  pub ends : List (End I)
  pub many : length ends ≡ count
  pub new : All (λ e. e ≡ new_end e.deque) ends
  pub are : lanes ≡ lanes_from ends 0 ends

-- an item is added to a lane, or else to a list of items that lanes did not take
abbrev pub IsKept : {I : Type 0} → View I → List I → I → View I → List I → Type 0
IsKept v xs x w ys = ((w ≡ after_push v x) × (ys ≡ xs)) ⊎ ((w ≡ v) × (ys ≡ xs ++ x ∷ []))

-- the same of two items, one after the other
abbrev pub AreKept : {I : Type 0} → View I → List I → I → I → View I → List I → Type 0
AreKept {I} v xs x y w zs = (u : View I) × (ys : List I) × IsKept v xs x u ys × IsKept u ys y w zs
