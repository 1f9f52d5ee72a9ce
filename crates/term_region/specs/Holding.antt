-- What a region holds.
use Rattle.term_store.specs.States.{State}
use Rattle.term_region.specs.Pool.{state_of}
use Rattle.term_region.specs.declared.region.TermRegion.{TermRegion}

-- The state of a region: the lists of its runs.
abbrev pub held_by : TermRegion → State
held_by s = state_of s.terms.items s.runs.items s.spare s.newest
