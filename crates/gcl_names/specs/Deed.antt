-- The table of deeds: each with the word and the references of its command.
use Rattle.std.specs.Prelude.{ℕ, ◌*◌, ◌/◌, min, List, [], ◌∷◌, map, Option, Some, None, ℤ, pos, negsuc}
use Rattle.gcl_reader.specs.declared.word.Word.{Word}
use Rattle.gcl_reader.specs.declared.word.Word.TheVariants as word
use Rattle.gcl_reader.specs.declared.limits.TheConstants.{UNIT, MOST_BYTE}
use Rattle.gcl_names.specs.declared.meaning.Ref.{Ref}
use Rattle.gcl_names.specs.declared.meaning.Ref.TheVariants as ref
use Rattle.gcl_names.specs.declared.program.Deed.{Deed}
use Rattle.gcl_names.specs.declared.program.Deed.TheVariants as deed

-- A deed's word, and the references of its arguments in their order; a circle stands before the line that cuts it.
abbrev pub spelled : Deed → Word × List Ref
spelled (deed.Dim w h) = (word.Dim, ref.Number w ∷ ref.Number h ∷ [])
spelled (deed.Color r g b) =
    (word.Color, ref.Number (pos (r * UNIT)) ∷ ref.Number (pos (g * UNIT)) ∷ ref.Number (pos (b * UNIT)) ∷ [])
spelled (deed.Prooflevel n) = (word.Prooflevel, ref.Number n ∷ [])
spelled (deed.Prooflimit n) = (word.Prooflimit, ref.Number n ∷ [])
spelled (deed.ProverTimeout n) = (word.ProverTimeout, ref.Number n ∷ [])
spelled (deed.Point p x y) = (word.Point, ref.Point p ∷ ref.Number x ∷ ref.Number y ∷ [])
spelled (deed.Line l a b) = (word.Line, ref.Line l ∷ ref.Point a ∷ ref.Point b ∷ [])
spelled (deed.Circle k o a) = (word.Circle, ref.Circle k ∷ ref.Point o ∷ ref.Point a ∷ [])
spelled (deed.Intersec x a b) = (word.Intersec, ref.Point x ∷ ref.Line a ∷ ref.Line b ∷ [])
spelled (deed.CutLine x y k l) = (word.Intersec2, ref.Point x ∷ ref.Point y ∷ ref.Circle k ∷ ref.Line l ∷ [])
spelled (deed.CutCircle x y k m) = (word.Intersec2, ref.Point x ∷ ref.Point y ∷ ref.Circle k ∷ ref.Circle m ∷ [])
spelled (deed.Midpoint m a b) = (word.Midpoint, ref.Point m ∷ ref.Point a ∷ ref.Point b ∷ [])
spelled (deed.Med l a b) = (word.Med, ref.Line l ∷ ref.Point a ∷ ref.Point b ∷ [])
spelled (deed.Perp p a l) = (word.Perp, ref.Line p ∷ ref.Point a ∷ ref.Line l ∷ [])
spelled (deed.Parallel p a l) = (word.Parallel, ref.Line p ∷ ref.Point a ∷ ref.Line l ∷ [])
spelled (deed.Foot f a l) = (word.Foot, ref.Point f ∷ ref.Point a ∷ ref.Line l ∷ [])
spelled (deed.Online x a b) = (word.Online, ref.Point x ∷ ref.Point a ∷ ref.Point b ∷ [])
spelled (deed.Oncircle x o a) = (word.Oncircle, ref.Point x ∷ ref.Point o ∷ ref.Point a ∷ [])
spelled (deed.Translate x a b c) = (word.Translate, ref.Point x ∷ ref.Point a ∷ ref.Point b ∷ ref.Point c ∷ [])
spelled (deed.Towards x a b r) = (word.Towards, ref.Point x ∷ ref.Point a ∷ ref.Point b ∷ ref.Number r ∷ [])
spelled (deed.Drawpoint a) = (word.Drawpoint, ref.Point a ∷ [])
spelled (deed.Drawsegment a b) = (word.Drawsegment, ref.Point a ∷ ref.Point b ∷ [])
spelled (deed.Drawdashsegment a b) = (word.Drawdashsegment, ref.Point a ∷ ref.Point b ∷ [])
spelled (deed.Drawline l) = (word.Drawline, ref.Line l ∷ [])
spelled (deed.Drawcircle k) = (word.Drawcircle, ref.Circle k ∷ [])
spelled (deed.Cmark a) = (word.Cmark, ref.Point a ∷ [])
spelled (deed.CmarkAt s a) = (word.CmarkAt s, ref.Point a ∷ [])
spelled (deed.Mark s a) = (word.Mark s, ref.Point a ∷ [])
spelled (deed.Prove s ps) = (word.Prove s, map ref.Point ps)

abbrev pub word_of : Deed → Word
word_of d = (spelled d).0

abbrev pub refs_of : Deed → List Ref
refs_of d = (spelled d).1

-- The whole units of a number in millionths, kept within a byte.
abbrev pub byte_of : ℤ → ℕ
byte_of (pos n) = min (n / UNIT) MOST_BYTE
byte_of (negsuc n) = 0

-- The numbers of the points among the references.
unfoldable pub points_in : List Ref → List ℕ
points_in [] = []
points_in (ref.Point p ∷ refs) = p ∷ points_in refs
points_in (ref.Line l ∷ refs) = points_in refs
points_in (ref.Circle k ∷ refs) = points_in refs
points_in (ref.Number n ∷ refs) = points_in refs

-- What a command of a word does, where the word asks for no proof. There is a deed where the references are those that
-- the word takes.
unfoldable pub plain_deed : Word → List Ref → Option Deed
plain_deed word.Dim (ref.Number w ∷ ref.Number h ∷ []) = Some (deed.Dim w h)
plain_deed word.Dim refs = None
plain_deed word.Color (ref.Number r ∷ ref.Number g ∷ ref.Number b ∷ []) =
    Some (deed.Color (byte_of r) (byte_of g) (byte_of b))
plain_deed word.Color refs = None
plain_deed word.Prooflevel (ref.Number n ∷ []) = Some (deed.Prooflevel n)
plain_deed word.Prooflevel refs = None
plain_deed word.Prooflimit (ref.Number n ∷ []) = Some (deed.Prooflimit n)
plain_deed word.Prooflimit refs = None
plain_deed word.ProverTimeout (ref.Number n ∷ []) = Some (deed.ProverTimeout n)
plain_deed word.ProverTimeout refs = None
plain_deed word.Point (ref.Point p ∷ ref.Number x ∷ ref.Number y ∷ []) = Some (deed.Point p x y)
plain_deed word.Point refs = None
plain_deed word.Line (ref.Line l ∷ ref.Point a ∷ ref.Point b ∷ []) = Some (deed.Line l a b)
plain_deed word.Line refs = None
plain_deed word.Circle (ref.Circle k ∷ ref.Point o ∷ ref.Point a ∷ []) = Some (deed.Circle k o a)
plain_deed word.Circle refs = None
plain_deed word.Intersec (ref.Point x ∷ ref.Line a ∷ ref.Line b ∷ []) = Some (deed.Intersec x a b)
plain_deed word.Intersec refs = None
plain_deed word.Intersec2 (ref.Point x ∷ ref.Point y ∷ ref.Circle k ∷ ref.Line l ∷ []) = Some (deed.CutLine x y k l)
plain_deed word.Intersec2 (ref.Point x ∷ ref.Point y ∷ ref.Line l ∷ ref.Circle k ∷ []) = Some (deed.CutLine x y k l)
plain_deed word.Intersec2 (ref.Point x ∷ ref.Point y ∷ ref.Circle k ∷ ref.Circle m ∷ []) = Some (deed.CutCircle x y k m)
plain_deed word.Intersec2 refs = None
plain_deed word.Midpoint (ref.Point m ∷ ref.Point a ∷ ref.Point b ∷ []) = Some (deed.Midpoint m a b)
plain_deed word.Midpoint refs = None
plain_deed word.Med (ref.Line l ∷ ref.Point a ∷ ref.Point b ∷ []) = Some (deed.Med l a b)
plain_deed word.Med refs = None
plain_deed word.Perp (ref.Line p ∷ ref.Point a ∷ ref.Line l ∷ []) = Some (deed.Perp p a l)
plain_deed word.Perp refs = None
plain_deed word.Parallel (ref.Line p ∷ ref.Point a ∷ ref.Line l ∷ []) = Some (deed.Parallel p a l)
plain_deed word.Parallel refs = None
plain_deed word.Foot (ref.Point f ∷ ref.Point a ∷ ref.Line l ∷ []) = Some (deed.Foot f a l)
plain_deed word.Foot refs = None
plain_deed word.Online (ref.Point x ∷ ref.Point a ∷ ref.Point b ∷ []) = Some (deed.Online x a b)
plain_deed word.Online refs = None
plain_deed word.Oncircle (ref.Point x ∷ ref.Point o ∷ ref.Point a ∷ []) = Some (deed.Oncircle x o a)
plain_deed word.Oncircle refs = None
plain_deed word.Translate (ref.Point x ∷ ref.Point a ∷ ref.Point b ∷ ref.Point c ∷ []) = Some (deed.Translate x a b c)
plain_deed word.Translate refs = None
plain_deed word.Towards (ref.Point x ∷ ref.Point a ∷ ref.Point b ∷ ref.Number r ∷ []) = Some (deed.Towards x a b r)
plain_deed word.Towards refs = None
plain_deed word.Drawpoint (ref.Point a ∷ []) = Some (deed.Drawpoint a)
plain_deed word.Drawpoint refs = None
plain_deed word.Drawsegment (ref.Point a ∷ ref.Point b ∷ []) = Some (deed.Drawsegment a b)
plain_deed word.Drawsegment refs = None
plain_deed word.Drawdashsegment (ref.Point a ∷ ref.Point b ∷ []) = Some (deed.Drawdashsegment a b)
plain_deed word.Drawdashsegment refs = None
plain_deed word.Drawline (ref.Line l ∷ []) = Some (deed.Drawline l)
plain_deed word.Drawline refs = None
plain_deed word.Drawcircle (ref.Circle k ∷ []) = Some (deed.Drawcircle k)
plain_deed word.Drawcircle refs = None
plain_deed word.Cmark (ref.Point a ∷ []) = Some (deed.Cmark a)
plain_deed word.Cmark refs = None
plain_deed (word.CmarkAt s) (ref.Point a ∷ []) = Some (deed.CmarkAt s a)
plain_deed (word.CmarkAt s) refs = None
plain_deed (word.Mark s) (ref.Point a ∷ []) = Some (deed.Mark s a)
plain_deed (word.Mark s) refs = None
plain_deed (word.Prove s) refs = None

-- What a command of a word does.
unfoldable pub deed_of : Word → List Ref → Option Deed
deed_of (word.Prove s) refs = Some (deed.Prove s (points_in refs))
deed_of w refs = plain_deed w refs
