-- Why a store has no room.
use Rattle.std.specs.Prelude.{◌≡◌, ◌<◌, ℕ}
use Rattle.term_store.specs.declared.store.StoreFault.{StoreFault}
use Rattle.term_store.specs.declared.store.StoreFault.TheVariants.{Full, OutOfMemory}

-- So many units are spare and so many, which are more, are wanted; or there is no memory.
abbrev pub IsFault : StoreFault → ℕ → ℕ → Type 0
IsFault (Full spare wanted) s w = (spare ≡ s) × (wanted ≡ w) × (s < w)
IsFault OutOfMemory s w = Unit {0}
