-- One more shape on a canvas.
use Rattle.std.specs.Prelude.{ℕ, All, List, [], ◌∷◌, ◌++◌}
use Rattle.std.proofs.lemmas.List.Elements.{All-push}
use Rattle.picture.specs.Shapes.{IsNearby, IsNamed, IsWritten}
use Rattle.picture.specs.declared.shape.Ink.{Ink}
use Rattle.picture.specs.declared.shape.Shape.{Shape}

pub one_more : (n : ℕ) (ink : Ink) (s : Shape) (shapes : List (Ink × Shape)) → All (IsWritten n) shapes → IsNearby s → IsNamed n s → All (IsWritten n) (shapes ++ (ink, s) ∷ [])
one_more n ink s shapes all near named = All-push (IsWritten n) shapes (ink, s) all (near, named)
