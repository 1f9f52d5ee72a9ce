-- The exit status of the program, for each way that a run ends.
use Rattle.std.specs.Prelude.{ℕ}
use Rattle.command_line.specs.declared.status.Status.{Status}
use Rattle.command_line.specs.declared.status.Status.TheVariants.{Done, Unproved, Rejected, Usage, Refused, ReadFault, WriteFault, TooLarge, OutOfMemory}

abbrev pub number_of : Status → ℕ
number_of Done = 0
number_of Unproved = 1
number_of Rejected = 2
number_of Usage = 3
number_of Refused = 4
number_of ReadFault = 5
number_of WriteFault = 6
number_of TooLarge = 7
number_of OutOfMemory = 8
