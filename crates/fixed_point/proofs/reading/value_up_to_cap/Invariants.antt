use Rattle.std.proofs.Common.{◌≡◌, ◌≤◌, length, min, IsTrue}
use Rattle.std.specs.List.{list_all}
use Rattle.fixed_point.specs.Decimal.{value_from}
use Rattle.desk_io.specs.Characters.{is_digit}
use Rattle.fixed_point.specs.declared.reading.TheConstants.{CAP}
use Rattle.fixed_point.proofs.reading.value_up_to_cap.Given as goal

abbrev pub invariant-loop-rest : goal.invariant-loop-rest
invariant-loop-rest l = (l.value ≤ CAP) × IsTrue (list_all is_digit l.rest) × (min (value_from l.value l.rest) CAP ≡ min (value_from l.fn.start l.fn.digits) CAP)

abbrev pub decreases-loop-rest : goal.decreases-loop-rest
decreases-loop-rest l = length l.rest
