-- What is left to do, by the numbers of paths that wait and are held.
use Rattle.std.proofs.Common.{◌≡◌, ◌<◌, List, [], ◌∷◌, Bool, true, false, length, refl, arith}
use Rattle.branch_core.specs.declared.event.Hold.{Hold}
use Rattle.branch_core.specs.declared.answers.Idle.TheVariants.{Stopped, Done, Work, Wait}
use Rattle.branch_core.specs.Told.{idle_of}

pub idle_stopped : (stopped : Bool) (waiting : List (List Bool)) (held : List Hold) → stopped ≡ true → Stopped ≡ idle_of stopped waiting held
idle_stopped true waiting held e = refl
idle_stopped false waiting held e = cc

pub idle_work : (stopped : Bool) (waiting : List (List Bool)) (held : List Hold) → stopped ≡ false → 0 < length waiting → Work ≡ idle_of stopped waiting held
idle_work true waiting held e some = cc
idle_work false [] held e some = absurd (omega arith)
idle_work false (p ∷ waiting) held e some = refl

pub idle_done : (stopped : Bool) (waiting : List (List Bool)) (held : List Hold) → stopped ≡ false → length waiting ≡ 0 → length held ≡ 0 → Done ≡ idle_of stopped waiting held
idle_done true waiting held e none free = cc
idle_done false [] [] e none free = refl
idle_done false [] (h ∷ held) e none free = absurd (omega arith)
idle_done false (p ∷ waiting) held e none free = absurd (omega arith)

pub idle_wait : (stopped : Bool) (waiting : List (List Bool)) (held : List Hold) → stopped ≡ false → length waiting ≡ 0 → 0 < length held → Wait ≡ idle_of stopped waiting held
idle_wait true waiting held e none some = cc
idle_wait false [] [] e none some = absurd (omega arith)
idle_wait false [] (h ∷ held) e none some = refl
idle_wait false (p ∷ waiting) held e none some = absurd (omega arith)
