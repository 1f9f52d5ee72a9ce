-- A call that shows the empty file, whose answer is done.
use Rattle.std.specs.Prelude.{◌≡◌, List, [], ◌∷◌, Some, codes}
use Rattle.desk_io.specs.Files.{Files}
use Rattle.command_line.specs.Contract.{Lent, Views, DeskRose, OutRose, NotesRose, IsRun}
use Rattle.command_line.specs.Pipeline.{show_of}
use Rattle.command_line.specs.Table.{TextOf}
use Rattle.command_line.specs.declared.status.Status.{Status}

-- The empty file, under a name.
abbrev pub empty_file : Files
empty_file = (codes "f", []) ∷ []

-- A call that keeps its promise is asked to show the empty file. Its desk tells that it holds it, and no device fails.
pub record Shown {K S N : Type 0} (v : Views K S N) (old new : Lent K S N) (status : Status) : Type 0 where
  pub kept : IsRun v old new (Some (TextOf show_of (codes "f"))) status
  pub told : v.held old.desk ≡ Some empty_file
  pub reads : DeskRose v old new → ⊥
  pub puts : OutRose v old new → ⊥
  pub says : NotesRose v old new → ⊥

-- No such call has this status.
abbrev pub IsRefused : {K S N : Type 0} → Views K S N → Status → Type 0
IsRefused {K} {S} {N} v status = (old new : Lent K S N) → Shown v old new status → ⊥
