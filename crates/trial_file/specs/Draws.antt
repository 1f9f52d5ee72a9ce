-- A generator of numbers: what is drawn from a state.
use Rattle.std.specs.Prelude.{ℕ, zero, suc, ◌+◌, ◌-◌, ◌*◌, ◌/◌, ◌%◌}
use Rattle.trial_file.specs.declared.choice.Choice.{Choice}
use Rattle.trial_file.specs.declared.choice.Construction.{Construction}
use Rattle.trial_file.specs.declared.choice.Construction.TheVariants.{Midpoint, Foot, Translate}

-- The state behind a state.
abbrev pub next : ℕ → ℕ
next s = (s * 1103515245 + 12345) % 2147483648

-- The state behind four draws.
abbrev pub after_four : ℕ → ℕ
after_four s = next (next (next (next s)))

-- What a draw of k gives, by the state behind it.
abbrev pub drawn : ℕ → ℕ → ℕ
drawn s k = s / 65536 % k

-- The constructions, by their numbers.
abbrev pub construction_of : ℕ → Construction
construction_of zero = Midpoint
construction_of (suc zero) = Foot
construction_of (suc (suc k)) = Translate

-- The construction of point i and the points that it is made of, by four draws.
abbrev pub choice_by : (i kind first second third : ℕ) → Choice
choice_by i kind first second third =
    let b = (first + 1 + second) % i in
    record { construction = construction_of kind; a = first; b = b; c = (b + 1 + third) % i }

abbrev pub choice : (i state : ℕ) → Choice
choice i s =
    choice_by i
    (drawn (next s) 3)
    (drawn (next (next s)) i)
    (drawn (next (next (next s))) (i - 1))
    (drawn (after_four s) (i - 1))
