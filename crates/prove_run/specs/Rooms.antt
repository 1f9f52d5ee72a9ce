-- That a region has room for the work on a node.
use Rattle.std.specs.Prelude.{◌≡◌, ℕ, ◌≤◌, []}
use Rattle.poly_model.specs.declared.limits.TheConstants.{EXPAND_UNITS, LEAF_UNITS}
use Rattle.term_store.specs.States.{State}
use Rattle.term_store.specs.Faults.{IsFault}
use Rattle.term_store.specs.declared.store.StoreFault.{StoreFault}
use Rattle.term_store.specs.declared.store.StoreFault.TheVariants.{OutOfMemory}
use Rattle.term_region.specs.Holding.{held_by}
use Rattle.term_region.specs.declared.region.TermRegion.{TermRegion}
use Rattle.workbench.specs.Standing.{Stands}
use Rattle.workbench.specs.declared.bench.Bench.{Bench}

-- A region that had EXPAND_UNITS spare before a node was put into it is never full for a step of the work on the node,
-- whatever the node has become: no step wants more than LEAF_UNITS.
abbrev pub RoomsSuffice : Type 0
RoomsSuffice =
    (before : State) (region : TermRegion) (bench : Bench) (wanted : ℕ) (fault : StoreFault)
    → EXPAND_UNITS ≤ before.spare → Stands before (held_by region) [] bench → wanted ≤ LEAF_UNITS
    → IsFault fault (held_by region).spare wanted → fault ≡ OutOfMemory
