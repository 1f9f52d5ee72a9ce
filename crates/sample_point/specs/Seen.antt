-- What contracts see of the values of a try.
use Rattle.sample_point.specs.Sampling.{Partial}
use Rattle.sample_point.specs.declared.values.Values.{Values}

abbrev pub partial_of : Values → Partial
partial_of v = record { values = v.numbers.items; scale = v.scale }
