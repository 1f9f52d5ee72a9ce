-- The statuses of the stages of a run.
use Rattle.std.specs.Prelude.{◌≡◌, ◌⊎◌}
use Rattle.command_line.specs.declared.status.Status.{Status}
use Rattle.command_line.specs.declared.status.Status.TheVariants.{Done, Unproved, Rejected, Refused, ReadFault, WriteFault, TooLarge, OutOfMemory}

-- A file was not read.
abbrev pub IsReadingFault : Status → Type 0
IsReadingFault status = (status ≡ ReadFault) ⊎ (status ≡ TooLarge) ⊎ (status ≡ WriteFault) ⊎ (status ≡ OutOfMemory)

-- A text was put, or the file was refused.
abbrev pub IsWritingStatus : Status → Type 0
IsWritingStatus status = (status ≡ Done) ⊎ (status ≡ Refused) ⊎ (status ≡ WriteFault) ⊎ (status ≡ OutOfMemory)

-- A log was put with its verdicts, or the file was refused.
abbrev pub IsProvingStatus : Status → Type 0
IsProvingStatus status = (status ≡ Done) ⊎ (status ≡ Unproved) ⊎ (status ≡ Refused) ⊎ (status ≡ WriteFault) ⊎ (status ≡ OutOfMemory)

-- The verdicts of a log were put, or it was rejected.
abbrev pub IsCheckingStatus : Status → Type 0
IsCheckingStatus status = (status ≡ Done) ⊎ (status ≡ Rejected) ⊎ (status ≡ WriteFault) ⊎ (status ≡ OutOfMemory)

-- Or the file was refused whose problems it is to have.
abbrev pub IsComparingStatus : Status → Type 0
IsComparingStatus status = IsCheckingStatus status ⊎ (status ≡ Refused)
