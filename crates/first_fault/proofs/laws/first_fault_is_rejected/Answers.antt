use Rattle.first_fault.proofs.Fronts.{fitting-begins, rejected-is-first}
use Rattle.first_fault.proofs.Texts.{faults-are-first}
use Rattle.first_fault.proofs.laws.first_fault_is_rejected.Goals as goal

pub returns-clause-fronts : goal.returns-clause-fronts
returns-clause-fronts c = fitting-begins

pub returns-clause-rejected : goal.returns-clause-rejected
returns-clause-rejected c = rejected-is-first

pub returns-clause-bytes : goal.returns-clause-bytes
returns-clause-bytes c = faults-are-first
