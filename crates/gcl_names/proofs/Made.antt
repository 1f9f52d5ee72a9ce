-- A search for a new name behind another.
use Rattle.std.proofs.Common.{◌≡◌, ℕ, ◌≤◌, ◌<◌, List, [], ◌∷◌, length, get_or, Bool, true, false, ◌||◌, refl, sym, ap, arith}
use Rattle.gcl_reader.specs.declared.word.Parameter.{Parameter}
use Rattle.gcl_reader.specs.declared.file.Arg.{Arg}
use Rattle.gcl_names.specs.Reference.{makes, is_made}
use Rattle.gcl_names.proofs.Front.{tail, rest-is}

-- The first argument makes something under the name.
pub made-here : (text : List ℕ) (d : Parameter) (ps : List Parameter) (a : Arg) (args : List Arg) →
    1 ≤ length ps → 1 ≤ length args → a ≡ get_or args 0 a → makes text (get_or ps 0 d) a ≡ true →
    is_made text ps args ≡ true
unfolding is_made
made-here text d [] a args h k e m = absurd (omega (arith, h))
made-here text d (p ∷ ps) a [] h k e m = absurd (omega (arith, k))
made-here text d (p ∷ ps) a (b ∷ args) h k e m = rw (← e) (ap (λ (t : Bool). t || is_made text ps args) m)

-- The first argument does not: the search goes on.
pub made-later : (text : List ℕ) (d : Parameter) (ps : List Parameter) (a : Arg) (args : List Arg) →
    1 ≤ length ps → 1 ≤ length args → a ≡ get_or args 0 a → makes text (get_or ps 0 d) a ≡ false →
    is_made text (tail ps) (tail args) ≡ is_made text ps args
unfolding is_made
made-later text d [] a args h k e m = absurd (omega (arith, h))
made-later text d (p ∷ ps) a [] h k e m = absurd (omega (arith, k))
made-later text d (p ∷ ps) a (b ∷ args) h k e m =
    rw (rest-is p ps, rest-is b args, ← e) (sym (ap (λ (t : Bool). t || is_made text ps args) m))

-- Nothing is left.
pub made-none : (text : List ℕ) (ps : List Parameter) (args : List Arg) → length ps < 1 → is_made text ps args ≡ false
unfolding is_made
made-none text [] args h = refl
made-none text (p ∷ ps) args h = absurd (omega (arith, h))

pub made-short : (text : List ℕ) (ps : List Parameter) (args : List Arg) → length args < 1 → is_made text ps args ≡ false
unfolding is_made
made-short text [] args h = refl
made-short text (p ∷ ps) [] h = refl
made-short text (p ∷ ps) (a ∷ args) h = absurd (omega (arith, h))
