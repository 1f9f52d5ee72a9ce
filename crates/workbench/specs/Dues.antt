-- What is due, as the code tells it.
use Rattle.proof_steps.specs.Work as work
use Rattle.workbench.specs.declared.order.Next.{Next}
use Rattle.workbench.specs.declared.order.Next.TheVariants as due

abbrev pub next_of : Next → work.Next
next_of (due.Try a) = work.Try a
next_of (due.Closed i) = work.Closed i
next_of (due.Clashed i j) = work.Clashed i j
next_of due.Solved = work.Solved
