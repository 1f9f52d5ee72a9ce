-- Lists of terms as runs in one pool: a run for each slot, and the slots in the order of their places.
use Rattle.std.proofs.Math.Bool.{Bool-set}
use Rattle.std.proofs.Math.Bridge.{le_prop}
use Rattle.std.proofs.Math.Nat.{ℕ_set}
use Rattle.std.specs.Prelude.{◌≡◌, ◌≤◌, ◌<◌, IsTrue, ℕ, suc, ◌+◌, Bool, true, false, ◌&&◌, nat_le, nat_eq, List, [], ◌∷◌, length, get_or, map, Option, Some, None}
use Rattle.term_store.specs.Runs as store
use Rattle.term_store.specs.States.{State}
use Rattle.poly_model.specs.declared.term.Term.{Term}
use Rattle.term_store.specs.declared.space.Place.{Place}
use Rattle.term_region.specs.declared.run.Run.{Run}

-- No list stands there.
abbrev pub no_run : Run
no_run = record { live = false; start = 0; len = 0; rank = 0 }

-- The run of a slot.
abbrev pub run_at : List Run → ℕ → Run
run_at runs k = get_or runs k no_run

-- The place of a run, as a store sees it.
abbrev pub seen : Run → Place
seen r = record { live = r.live; start = r.start; len = r.len }

abbrev pub places_of : List Run → List Place
places_of = map seen

-- The list at a slot.
abbrev pub list_of : List Term → List Run → ℕ → Option (List Term)
list_of terms runs k = store.run_at terms (seen (run_at runs k))

-- ---- sums over runs
abbrev pub sum_of : (Run → ℕ) → List Run → ℕ
sum_of f [] = 0
sum_of f (r ∷ rs) = f r + sum_of f rs

-- A live run, and its units.
abbrev pub one_of : Run → ℕ
one_of r = elim r.live [ false ↦ 0 | true ↦ 1 ]

abbrev pub units_of : Run → ℕ
units_of r = elim r.live [ false ↦ 0 | true ↦ r.len + 1 ]

-- Its units, where its entry is one of the first i.
abbrev pub units_before : ℕ → Run → ℕ
units_before i r =
    elim r.live [ false ↦ 0 | true ↦ elim (nat_le (suc r.rank) i) [ false ↦ 0 | true ↦ r.len + 1 ] ]

-- ---- the order
-- Each live run has its slot at its rank in the order, ends where the next begins or before, and ends in
-- the pool.
pub record Ordered (runs : List Run) (order : List ℕ) (n : ℕ) : Type 0 where
  pub ranked : (k : ℕ) → (run_at runs k).live ≡ true → (run_at runs k).rank < length order
  pub entered : (k : ℕ) → (run_at runs k).live ≡ true
      → get_or order (run_at runs k).rank 0 ≡ k
  pub slots : (i : ℕ) → i < length order → get_or order i 0 < length runs
  pub apart : (j k : ℕ) → (run_at runs j).live ≡ true → (run_at runs k).live ≡ true
      → (run_at runs j).rank < (run_at runs k).rank
      → (run_at runs j).start + (run_at runs j).len ≤ (run_at runs k).start
  pub inside : (k : ℕ) → (run_at runs k).live ≡ true
      → (run_at runs k).start + (run_at runs k).len ≤ n

-- The slots at which no list stands, each once.
pub record Vacant (runs : List Run) (vacant : List ℕ) : Type 0 where
  pub dead : (i : ℕ) → i < length vacant → (run_at runs (get_or vacant i 0)).live ≡ false
  pub slots : (i : ℕ) → i < length vacant → get_or vacant i 0 < length runs
  pub once : (i j : ℕ) → i < length vacant → j < length vacant
      → get_or vacant i 0 ≡ get_or vacant j 0 → i ≡ j
  pub count : length runs ≡ sum_of one_of runs + length vacant

-- The run of a slot is live, its entry is the last of m, and its terms end at n.
abbrev pub ends_last : List Run → ℕ → ℕ → ℕ → Bool
ends_last runs m n k =
    (run_at runs k).live && (nat_eq (suc (run_at runs k).rank) m
    && nat_eq ((run_at runs k).start + (run_at runs k).len) n)

abbrev pub newest_last : List Run → ℕ → ℕ → Option ℕ → Bool
newest_last runs m n None = true
newest_last runs m n (Some k) = ends_last runs m n k

-- The lists of a region, its units, and the room for them.
pub record Kept (terms : ℕ) (runs : List Run) (order vacant : List ℕ) (newest : Option ℕ)
    (spare total a b c d : ℕ) : Type 0 where
  pub ordered : Ordered runs order terms
  pub free : Vacant runs vacant
  pub last : IsTrue (newest_last runs (length order) terms newest)
  pub room : sum_of units_of runs + spare ≡ total
  pub terms_fit : terms ≤ total
  pub order_fits : length order ≤ total
  pub runs_fit : length runs ≤ total
  pub terms_room : total ≤ a
  pub runs_room : total ≤ b
  pub order_room : total ≤ c
  pub vacant_room : total ≤ d

pub Kept-prop : (terms : ℕ) (runs : List Run) (order vacant : List ℕ) (newest : Option ℕ)
    (spare total a b c d : ℕ) → IsProp (Kept terms runs order vacant newest spare total a b c d)
Kept-prop terms runs order vacant newest spare total a b c d = hlevel (Bool-set, le_prop, ℕ_set)

-- ---- changes
-- The same lists at the same slots, in order again.
pub record Stays (terms : List Term) (runs : List Run) (new : List Term) (runs_new : List Run)
    : Type 0 where
  pub lists : (k : ℕ) → list_of new runs_new k ≡ list_of terms runs k
  pub lives : (k : ℕ) → (run_at runs_new k).live ≡ (run_at runs k).live
  pub same_slots : length runs_new ≡ length runs
  pub same_units : sum_of units_of runs_new ≡ sum_of units_of runs
  pub same_count : sum_of one_of runs_new ≡ sum_of one_of runs

-- The first i entries are looked at: of their live runs, each has moved down, and `kept` entries and the
-- terms up to `end` are theirs. The other live runs stand behind.
pub record Settled (runs : List Run) (order : List ℕ) (n i kept end : ℕ) : Type 0 where
  pub ordered : Ordered runs order n
  pub behind : (k : ℕ) → (run_at runs k).live ≡ true → i ≤ (run_at runs k).rank
      → end ≤ (run_at runs k).start
  pub moved : (k : ℕ) → (run_at runs k).live ≡ true → (run_at runs k).rank < i
      → (run_at runs k).rank < kept
  pub ended : (k : ℕ) → (run_at runs k).live ≡ true → (run_at runs k).rank < i
      → (run_at runs k).start + (run_at runs k).len ≤ end
  pub few : kept ≤ i
  pub within : end ≤ n
  pub sum : end + kept ≡ sum_of (units_before i) runs

-- The run of this slot has the last of m entries, and moves as the last one.
pub record IsTop (runs : List Run) (k i kept end m : ℕ) : Type 0 where
  pub waits : i ≤ (run_at runs k).rank → suc (run_at runs k).rank ≡ m
  pub kept_last : (run_at runs k).rank < i → suc (run_at runs k).rank ≡ kept
  pub ends_there : (run_at runs k).rank < i
      → (run_at runs k).start + (run_at runs k).len ≡ end
  pub done : (run_at runs k).rank < i → m ≤ i

abbrev pub state_of : List Term → List Run → ℕ → Option ℕ → State
state_of terms runs spare newest = store.state_of terms (places_of runs) spare newest
