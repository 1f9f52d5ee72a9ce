-- What a growing store holds.
use Rattle.term_store.specs.States.{State}
use Rattle.term_store.specs.Runs.{state_of}
use Rattle.term_store.specs.declared.vec_store.VecStore.{VecStore}

-- The state of a growing store: the runs of its places.
abbrev pub held_by : VecStore → State
held_by s = state_of s.terms.items s.places.items s.spare s.newest
