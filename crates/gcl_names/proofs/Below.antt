-- Every name means something that is made.
use Rattle.std.proofs.Common.{◌≡◌, ℕ, ◌<◌, List, [], ◌∷◌, ◌++◌, Option, Some, Bool, true, false, cond, subst, arith}
use Rattle.std.specs.Str.{bytes_eq}
use Rattle.gcl_names.specs.Scope.{Meanings, meaning_in}
use Rattle.gcl_names.specs.Sound.{Counts}
use Rattle.gcl_names.specs.declared.meaning.Meaning.{Meaning}
use Rattle.gcl_names.specs.declared.meaning.Meaning.TheVariants as meaning
use Rattle.gcl_names.proofs.Rising.{AtMost}

-- A number is below the count of its kind.
abbrev pub IsBelow : Counts → Meaning → Type 0
IsBelow n (meaning.Point k) = k < n.points
IsBelow n (meaning.Line k) = k < n.lines
IsBelow n (meaning.Circle k) = k < n.circles

unfoldable pub AllBelow : Counts → Meanings → Type 0
AllBelow n [] = Unit {0}
AllBelow n (e ∷ es) = IsBelow n e.1 × AllBelow n es

found-test : (n : Counts) (d m : Meaning) (rest : Option Meaning) (b : Bool) → IsBelow n d → (rest ≡ Some m → IsBelow n m) → cond b (Some d) rest ≡ Some m → IsBelow n m
found-test n d m rest true here there h = let e : d ≡ m = cc in subst (λ (x : Meaning). IsBelow n x) e here
found-test n d m rest false here there h = there h

pub below-found : (n : Counts) (names : Meanings) (text : List ℕ) (m : Meaning) → AllBelow n names → meaning_in text names ≡ Some m → IsBelow n m
unfolding meaning_in AllBelow
below-found n [] text m all h = cc
below-found n (e ∷ es) text m all h = found-test n e.1 m (meaning_in text es) (bytes_eq text e.0) all.0 (below-found n es text m all.1) h

below-grows : (n k : Counts) (m : Meaning) → AtMost n k → IsBelow n m → IsBelow k m
below-grows n k (meaning.Point i) g h = omega (arith, g.points)
below-grows n k (meaning.Line i) g h = omega (arith, g.lines)
below-grows n k (meaning.Circle i) g h = omega (arith, g.circles)

pub all-grow : (n k : Counts) (names : Meanings) → AtMost n k → AllBelow n names → AllBelow k names
unfolding AllBelow
all-grow n k [] g all = tt
all-grow n k (e ∷ es) g all = (below-grows n k e.1 g all.0, all-grow n k es g all.1)

-- One more name is made.
pub below-push : (n k : Counts) (names : Meanings) (text : List ℕ) (m : Meaning) → AtMost n k → AllBelow n names → IsBelow k m → AllBelow k (names ++ (text, m) ∷ [])
unfolding AllBelow
below-push n k [] text m g all h = (h, tt)
below-push n k (e ∷ es) text m g all h = (below-grows n k e.1 g all.0, below-push n k es text m g all.1 h)
