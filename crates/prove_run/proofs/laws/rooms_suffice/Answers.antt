use Rattle.std.proofs.Common.{◌≡◌, ℕ, ◌≤◌, [], refl, arith}
use Rattle.poly_model.specs.declared.limits.TheConstants.{EXPAND_UNITS, LEAF_UNITS}
use Rattle.term_store.specs.States.{State}
use Rattle.term_store.specs.Faults.{IsFault}
use Rattle.term_store.specs.declared.store.StoreFault.{StoreFault}
use Rattle.term_store.specs.declared.store.StoreFault.TheVariants.{Full, OutOfMemory}
use Rattle.workbench.specs.Standing.{Stands}
use Rattle.workbench.specs.declared.bench.Bench.{Bench}
use Rattle.workbench.proofs.Benches.{room-left}
use Rattle.prove_run.proofs.laws.rooms_suffice.Goals as goal

-- What is left is enough.
enough : (before s : State) (b : Bench) (wanted : ℕ) (fault : StoreFault) → EXPAND_UNITS ≤ before.spare → Stands before s [] b → wanted ≤ LEAF_UNITS →
    IsFault fault s.spare wanted → fault ≡ OutOfMemory
enough before s b wanted (Full spare asked) room stands few fault =
    let left = room-left before s b stands in
    absurd (omega (arith, left, room, few, fault.2))
enough before s b wanted OutOfMemory room stands few fault = refl

pub returns : goal.returns
returns c = λ before region b wanted fault. enough before _ b wanted fault
