-- The figure at the image point is the figure moved and turned.
use Rattle.std.proofs.Common.{◌≡◌, ◌≤◌, ◌<◌, ◌+◌, ◌==◌, ℕ, zero, suc, List, [], ◌∷◌, ◌++◌, get_or, map, length, length-append, refl, sym, ◌∙◌, ap, subst, arith, true, false, if◌then◌else◌, inl, inr}
use Rattle.std.specs.Prelude.{◌⊎◌}
use Rattle.std.proofs.lemmas.Bool.Decides.{nat_tests}
use Rattle.poly_model.specs.Domain.{Operations, IsCommutativeRing}
use Rattle.gcl_names.specs.declared.program.Act.{Act}
use Rattle.gcl_names.specs.declared.program.Deed.{Deed}
use Rattle.gcl_names.specs.declared.program.Deed.TheVariants as deed
use Rattle.gcl_names.specs.Sound.{Counts, Follows, AllFollow, after, after_all, nothing}
use Rattle.algebraize.specs.declared.layout.Coordinate.{Coordinate}
use Rattle.algebraize.specs.declared.layout.Coordinate.TheVariants as coordinate
use Rattle.algebraize.specs.declared.points.NewPoints.{NewPoints}
use Rattle.algebraize.specs.declared.points.NewPoints.TheVariants as new
use Rattle.algebraize.specs.Vectors.{Vector, coordinates, minus, sq}
use Rattle.algebraize.specs.Figure.{Figure, place_of}
use Rattle.algebraize.specs.Layout.{Layout, layout_of, layout_from, new_points, with_points, free_point, semi_free_point, dependent_point, empty, next, with_u, with_x, with_place, place_at, figure_at}
use Rattle.placement.specs.Placing.{Frame, frame_of, free_in, free_points, image, is_first, is_second, listed, listed_to, frame, image_point}
use Rattle.placement.proofs.Turned as turn
use Rattle.placement.proofs.Turned.{Less, Along, Across}

-- Lists.
pub at-front : {A : Type 0} (xs ys : List A) (i : ℕ) (d : A) → i < length xs → get_or (xs ++ ys) i d ≡ get_or xs i d
at-front [] ys i d h = absurd (omega arith)
at-front (x ∷ xs) ys zero d h = refl
at-front (x ∷ xs) ys (suc i) d h = at-front xs ys i d (omega arith)

pub at-end : {A : Type 0} (xs ys : List A) (i k : ℕ) (d : A) → i ≡ length xs + k → get_or (xs ++ ys) i d ≡ get_or ys k d
at-end [] ys i k d h = ap (λ j. get_or ys j d) (let e : i ≡ k = omega (arith, h) in e)
at-end (x ∷ xs) ys zero k d h = absurd (omega (arith, h))
at-end (x ∷ xs) ys (suc i) k d h = at-end xs ys i k d (omega (arith, h))

pub append-assoc : {A : Type 0} (xs ys zs : List A) → (xs ++ ys) ++ zs ≡ xs ++ (ys ++ zs)
append-assoc [] ys zs = refl
append-assoc (x ∷ xs) ys zs = ap (λ t. x ∷ t) (append-assoc xs ys zs)

pub map-push : {A B : Type 0} (f : A → B) (xs : List A) (x : A) → map f (xs ++ x ∷ []) ≡ map f xs ++ f x ∷ []
map-push f [] x = refl
map-push f (y ∷ xs) x = ap (λ t. f y ∷ t) (map-push f xs x)

pub map-length : {A B : Type 0} (f : A → B) (xs : List A) → length (map f xs) ≡ length xs
map-length f [] = refl
map-length f (x ∷ xs) = ap suc (map-length f xs)

pub append-nil : {A : Type 0} (xs : List A) → xs ++ [] ≡ xs
append-nil [] = refl
append-nil (x ∷ xs) = ap (λ t. x ∷ t) (append-nil xs)

less-or-is : (i n : ℕ) → i ≤ n → (i < n) ⊎ (i ≡ n)
less-or-is zero zero h = inr refl
less-or-is zero (suc n) h = inl (omega arith)
less-or-is (suc i) zero h = absurd (omega arith)
less-or-is (suc i) (suc n) h = elim (less-or-is i n (omega arith)) [ inl a ↦ inl (omega arith) | inr a ↦ inr (ap suc a) ]

-- Tests of numbers.
eq-self : (i : ℕ) → (i == i) ≡ true
eq-self i = grind (arith, nat_tests)

eq-less : (a i : ℕ) → a < i → (a == i) ≡ false
eq-less a i h = grind (arith, nat_tests)

eq-more : (a i : ℕ) → i < a → (a == i) ≡ false
eq-more a i h = grind (arith, nat_tests)

false-is : false ≡ true → ⊥
false-is e = cc

eq-is : (a i : ℕ) → (a == i) ≡ true → a ≡ i
eq-is a i h = grind (arith, nat_tests)

-- Numbers from a number on.
abbrev pub AllFrom : ℕ → List ℕ → Type 0
AllFrom n [] = Unit {0}
AllFrom n (p ∷ ps) = (n ≤ p) × AllFrom n ps

from-less : (m n : ℕ) (ps : List ℕ) → m ≤ n → AllFrom n ps → AllFrom m ps
from-less m n [] le h = tt
from-less m n (p ∷ ps) le h = (omega (arith, h.0), from-less m n ps le h.1)

neither-from : (i m : ℕ) (ps : List ℕ) → i < m → AllFrom m ps → (is_first ps i ≡ false) × (is_second ps i ≡ false)
neither-from i m [] lt h = (refl, refl)
neither-from i m (p ∷ []) lt h = (eq-more p i (omega (arith, h.0)), refl)
neither-from i m (p ∷ q ∷ ps) lt h = (eq-more p i (omega (arith, h.0)), eq-more q i (omega (arith, h.1.0)))

second-from : (a i m : ℕ) (ps : List ℕ) → i < m → AllFrom m ps → is_second (a ∷ ps) i ≡ false
second-from a i m [] lt h = refl
second-from a i m (p ∷ ps) lt h = eq-more p i (omega (arith, h.0))

-- What a command makes, by its kind: how many points there are behind it, and which of them are free.
abbrev pub Makes : NewPoints → (n m : ℕ) → List ℕ → Type 0
Makes new.NoPoint n m ps = (m ≡ n) × (ps ≡ [])
Makes new.Free n m ps = (m ≡ n + 1) × (ps ≡ n ∷ [])
Makes new.SemiFree n m ps = (m ≡ n + 1) × (ps ≡ [])
Makes new.Dependent n m ps = (m ≡ n + 1) × (ps ≡ [])
Makes new.TwoDependent n m ps = (m ≡ n + 1 + 1) × (ps ≡ [])

pub makes : (n : Counts) (d : Deed) → Follows n d → Makes (new_points d) n.points (after n d).points (free_in d)
makes n (deed.Dim w h) k = (refl, refl)
makes n (deed.Color r v b) k = (refl, refl)
makes n (deed.Prooflevel v) k = (refl, refl)
makes n (deed.Prooflimit v) k = (refl, refl)
makes n (deed.ProverTimeout v) k = (refl, refl)
makes n (deed.Point p x y) k = (refl, ap (λ q. q ∷ []) k.1.0)
makes n (deed.Line l a b) k = (refl, refl)
makes n (deed.Circle l a b) k = (refl, refl)
makes n (deed.Intersec x a b) k = (refl, refl)
makes n (deed.CutLine x y l m) k = (refl, refl)
makes n (deed.CutCircle x y l m) k = (refl, refl)
makes n (deed.Midpoint m a b) k = (refl, refl)
makes n (deed.Med l a b) k = (refl, refl)
makes n (deed.Perp v a l) k = (refl, refl)
makes n (deed.Parallel v a l) k = (refl, refl)
makes n (deed.Foot v a l) k = (refl, refl)
makes n (deed.Online x a b) k = (refl, refl)
makes n (deed.Oncircle x a b) k = (refl, refl)
makes n (deed.Translate x a b v) k = (refl, refl)
makes n (deed.Towards x a b r) k = (refl, refl)
makes n (deed.Drawpoint a) k = (refl, refl)
makes n (deed.Drawsegment a b) k = (refl, refl)
makes n (deed.Drawdashsegment a b) k = (refl, refl)
makes n (deed.Drawline l) k = (refl, refl)
makes n (deed.Drawcircle v) k = (refl, refl)
makes n (deed.Cmark a) k = (refl, refl)
makes n (deed.CmarkAt v a) k = (refl, refl)
makes n (deed.Mark v a) k = (refl, refl)
makes n (deed.Prove v ps) k = (refl, refl)

-- the free points of later commands have later numbers
from-made : (k : NewPoints) (n m : ℕ) (ps qs : List ℕ) → Makes k n m ps → AllFrom m qs → AllFrom n (ps ++ qs)
from-made new.NoPoint n m ps qs h j = subst (λ rs. AllFrom n (rs ++ qs)) (sym h.1) (from-less n m qs (omega (arith, h.0)) j)
from-made new.Free n m ps qs h j = subst (λ rs. AllFrom n (rs ++ qs)) (sym h.1) (omega arith, from-less n m qs (omega (arith, h.0)) j)
from-made new.SemiFree n m ps qs h j = subst (λ rs. AllFrom n (rs ++ qs)) (sym h.1) (from-less n m qs (omega (arith, h.0)) j)
from-made new.Dependent n m ps qs h j = subst (λ rs. AllFrom n (rs ++ qs)) (sym h.1) (from-less n m qs (omega (arith, h.0)) j)
from-made new.TwoDependent n m ps qs h j = subst (λ rs. AllFrom n (rs ++ qs)) (sym h.1) (from-less n m qs (omega (arith, h.0)) j)

frees-from : (n : Counts) (acts : List Act) → AllFollow n acts → AllFrom n.points (free_points acts)
unfolding AllFollow free_points
frees-from n [] h = tt
frees-from n (a ∷ acts) h =
    from-made (new_points a.deed) n.points (after n a.deed).points (free_in a.deed) (free_points acts) (makes n a.deed h.0) (frees-from (after n a.deed) acts h.1)

module _ {M : Type 0} {o : Operations M} (L : IsCommutativeRing o) where
  first-placed : (f : Figure M) (frees : List ℕ) (n : ℕ) → is_first frees n ≡ true
      → turn.Moved L (frame_of o f frees).origin (frame_of o f frees).axis o.one (place_of o f n) (o.zero, o.zero)
  first-placed f [] n t = absurd (false-is t)
  first-placed f (a ∷ []) n t =
      subst (λ i. turn.Moved L (place_of o f a) (o.one, o.zero) o.one (place_of o f i) (o.zero, o.zero)) (eq-is a n t) (turn.placed-origin L (place_of o f a) (o.one, o.zero))
  first-placed f (a ∷ b ∷ others) n t =
      subst (λ i. turn.Moved L (place_of o f a) (minus o (place_of o f b) (place_of o f a)) o.one (place_of o f i) (o.zero, o.zero)) (eq-is a n t)
      (turn.placed-origin L (place_of o f a) (minus o (place_of o f b) (place_of o f a)))

  second-placed : (f : Figure M) (frees : List ℕ) (n : ℕ) → is_second frees n ≡ true
      → turn.Moved L (frame_of o f frees).origin (frame_of o f frees).axis o.one (place_of o f n) (sq o (frame_of o f frees).axis, o.zero)
  second-placed f [] n t = absurd (false-is t)
  second-placed f (a ∷ []) n t = absurd (false-is t)
  second-placed f (a ∷ b ∷ others) n t =
      let v = minus o (place_of o f b) (place_of o f a) in
      subst (λ i. turn.Moved L (place_of o f a) v o.one (place_of o f i) (sq o v, o.zero)) (eq-is b n t)
      (turn.placed-axis L (place_of o f a) v (place_of o f b) refl)

module _ {M : Type 0} {o : Operations M} (L : IsCommutativeRing o) (f : Figure M) (frees : List ℕ) where
  abbrev r : Frame M
  r = frame_of o f frees

  abbrev pub Placed : Vector M → Vector M → Type 0
  Placed = turn.Moved L r.origin r.axis o.one

  -- the coordinates of the first n points, read from what these points give
  pub record Laid (n : ℕ) (l : Layout) : Type 0 where
    pub places : length l.places ≡ n
    pub variables : length l.variables ≡ length (listed_to o r f frees n)
    pub placed : (rest : List M) (i : ℕ) → i < n → Placed (place_of o f i) (place_of o (map (place_at o (listed_to o r f frees n ++ rest)) l.places) i)

  -- one more point
  more : (n : ℕ) (l t : Layout) (c : Coordinate × Coordinate) → Laid n l → t.places ≡ l.places ++ c ∷ [] → length t.variables ≡ length l.variables + length (listed o r f frees n)
      → ((rest : List M) → Placed (place_of o f n) (place_at o (listed_to o r f frees n ++ (listed o r f frees n ++ rest)) c)) → Laid (suc n) t
  unfolding listed_to
  more n l t c h p v new = record {
    places = ap length p ∙ simp length-append (omega (arith, h.places));
    variables = v ∙ simp length-append (omega (arith, h.variables));
    placed = λ rest i below.
        let front = listed_to o r f frees n in
        let back = listed o r f frees n in
        let read : List M → Coordinate × Coordinate → Vector M = place_at o in
        let same : map (read ((front ++ back) ++ rest)) t.places ≡ map (read (front ++ (back ++ rest))) l.places ++ read (front ++ (back ++ rest)) c ∷ [] =
        (λ k. map (read (append-assoc front back rest k)) (p k)) ∙ map-push (read (front ++ (back ++ rest))) l.places c in
        let count : length (map (read (front ++ (back ++ rest))) l.places) ≡ n = map-length _ l.places ∙ h.places in
        let here : (q : (i < n) ⊎ (i ≡ n)) → Placed (place_of o f i) (get_or (map (read (front ++ (back ++ rest))) l.places ++ read (front ++ (back ++ rest)) c ∷ []) i (o.zero, o.zero)) =
        λ q. elim q [
          | inl lt ↦ subst (λ x. Placed (place_of o f i) x) (sym (at-front (map (read (front ++ (back ++ rest))) l.places) (read (front ++ (back ++ rest)) c ∷ []) i (o.zero, o.zero) (omega (arith, count)))) (h.placed (back ++ rest) i lt)
          | inr e ↦ subst (λ x. Placed (place_of o f i) x) (sym (at-end (map (read (front ++ (back ++ rest))) l.places) (read (front ++ (back ++ rest)) c ∷ []) i 0 (o.zero, o.zero) (omega (arith, count)))) (subst (λ j. Placed (place_of o f j) (read (front ++ (back ++ rest)) c)) (sym e) (new rest))
        ] in
        subst (λ g. Placed (place_of o f i) (get_or g i (o.zero, o.zero))) (sym same) (here (less-or-is i n (omega arith)));
  }

  -- what a point gives that is not one of the first two free ones
  abbrev Neither : ℕ → Type 0
  Neither i = (is_first frees i ≡ false) × (is_second frees i ≡ false)

  listed-other : (i : ℕ) → Neither i → listed o r f frees i ≡ coordinates (image o r (place_of o f i))
  listed-other i h =
      ap (λ b. if b then [] else (if is_second frees i then sq o r.axis ∷ [] else coordinates (image o r (place_of o f i)))) h.0
      ∙ ap (λ b. if b then sq o r.axis ∷ [] else coordinates (image o r (place_of o f i))) h.1

  -- a point with two variables of its own
  two : (n : ℕ) (l t : Layout) (x y : Coordinate) → Laid n l → Neither n → t.places ≡ l.places ++ (x, y) ∷ [] → length t.variables ≡ length l.variables + 2
      → x ≡ coordinate.Variable (length l.variables) → y ≡ coordinate.Variable (length l.variables + 1) → Laid (suc n) t
  two n l t x y h other p v ex ey =
      let e = listed-other n other in
      let front = listed_to o r f frees n in
      let q = image o r (place_of o f n) in
      more n l t (x, y) h p (v ∙ ap (λ ms. length l.variables + length ms) (sym e))
      (λ rest.
      let first : get_or (front ++ (coordinates q ++ rest)) (length l.variables) o.one ≡ q.0 = at-end front (coordinates q ++ rest) (length l.variables) 0 o.one (omega (arith, h.variables)) in
      let second : get_or (front ++ (coordinates q ++ rest)) (length l.variables + 1) o.one ≡ q.1 = at-end front (coordinates q ++ rest) (length l.variables + 1) 1 o.one (omega (arith, h.variables)) in
      let read : place_at o (front ++ (coordinates q ++ rest)) (x, y) ≡ q =
      (λ i. place_at o (front ++ (coordinates q ++ rest)) (ex i, ey i)) ∙ (λ i. (first i, second i)) in
      subst (λ ms. Placed (place_of o f n) (place_at o (front ++ (ms ++ rest)) (x, y))) (sym e)
      (subst (λ z. Placed (place_of o f n) z) (sym read) (turn.placed-image L r.origin r.axis (place_of o f n))))

  laid-dependent : (n : ℕ) (l : Layout) → Laid n l → Neither n → Laid (suc n) (dependent_point l)
  laid-dependent n l h other =
      two n l (dependent_point l) (next l) (next (with_x l)) h other refl (simp length-append (omega arith)) refl
      (ap coordinate.Variable (simp length-append (omega arith)))

  laid-semi_free : (n : ℕ) (l : Layout) → Laid n l → Neither n → Laid (suc n) (semi_free_point l)
  laid-semi_free n l h other =
      two n l (semi_free_point l) (next l) (next (with_u l)) h other refl (simp length-append (omega arith)) refl
      (ap coordinate.Variable (simp length-append (omega arith)))

  -- the first two free points
  laid-first : (n : ℕ) (l : Layout) → Laid n l → is_first frees n ≡ true → Laid (suc n) (with_place coordinate.Zero coordinate.Zero (record l { frees = 1 }))
  laid-first n l h t =
      let e : listed o r f frees n ≡ [] = ap (λ b. if b then [] else (if is_second frees n then sq o r.axis ∷ [] else coordinates (image o r (place_of o f n)))) t in
      more n l _ (coordinate.Zero, coordinate.Zero) h refl (let c : length (listed o r f frees n) ≡ 0 = ap length e in omega (arith, c))
      (λ rest. first-placed L f frees n t)

  laid-second : (n : ℕ) (l : Layout) → Laid n l → is_first frees n ≡ false → is_second frees n ≡ true
      → Laid (suc n) (with_place (next l) coordinate.Zero (record (with_u l) { frees = 2 }))
  laid-second n l h t u =
      let e : listed o r f frees n ≡ sq o r.axis ∷ [] =
      ap (λ b. if b then [] else (if is_second frees n then sq o r.axis ∷ [] else coordinates (image o r (place_of o f n)))) t
      ∙ ap (λ b. if b then sq o r.axis ∷ [] else coordinates (image o r (place_of o f n))) u in
      let front = listed_to o r f frees n in
      more n l _ (next l, coordinate.Zero) h refl (let c : length (listed o r f frees n) ≡ 1 = ap length e in simp length-append (omega (arith, c)))
      (λ rest.
      let first : get_or (front ++ (sq o r.axis ∷ rest)) (length l.variables) o.one ≡ sq o r.axis = at-end front (sq o r.axis ∷ rest) (length l.variables) 0 o.one (omega (arith, h.variables)) in
      subst (λ ms. Placed (place_of o f n) (place_at o (front ++ (ms ++ rest)) (next l, coordinate.Zero))) (sym e)
      (subst (λ z. Placed (place_of o f n) (z, o.zero)) (sym first) (second-placed L f frees n u)))

  laid-third : (n : ℕ) (l : Layout) → Laid n l → Neither n → Laid (suc n) (with_place (next l) (next (with_u l)) (with_u (with_u l)))
  laid-third n l h other =
      two n l (with_place (next l) (next (with_u l)) (with_u (with_u l))) (next l) (next (with_u l)) h other refl (simp length-append (omega arith)) refl
      (ap coordinate.Variable (simp length-append (omega arith)))

  -- what the commands so far have made free, of which `todo` is to come
  data Seen (n : ℕ) (todo : List ℕ) (k : ℕ) : Type 0 where
    NoneSeen : k ≡ 0 → frees ≡ todo → Seen n todo k
    OneSeen : k ≡ 1 → (a : ℕ) → a < n → frees ≡ a ∷ todo → Seen n todo k
    TwoSeen : k ≡ 2 → (a b : ℕ) (others : List ℕ) → a < n → b < n → frees ≡ a ∷ b ∷ others → Seen n todo k

  seen-more : (n m : ℕ) (todo : List ℕ) (k : ℕ) → n ≤ m → Seen n todo k → Seen m todo k
  seen-more n m todo k le (NoneSeen z e) = NoneSeen z e
  seen-more n m todo k le (OneSeen z a lt e) = OneSeen z a (omega arith) e
  seen-more n m todo k le (TwoSeen z a b others lt gt e) = TwoSeen z a b others (omega arith) (omega arith) e

  neither : (n m i : ℕ) (todo : List ℕ) (k : ℕ) → Seen n todo k → n ≤ i → i < m → AllFrom m todo → Neither i
  neither n m i todo k (NoneSeen z e) le lt h =
      let w = neither-from i m todo lt h in
      (ap (λ ps. is_first ps i) e ∙ w.0, ap (λ ps. is_second ps i) e ∙ w.1)
  neither n m i todo k (OneSeen z a below e) le lt h = (ap (λ ps. is_first ps i) e ∙ eq-less a i (omega arith), ap (λ ps. is_second ps i) e ∙ second-from a i m todo lt h)
  neither n m i todo k (TwoSeen z a b others below under e) le lt h =
      (ap (λ ps. is_first ps i) e ∙ eq-less a i (omega arith), ap (λ ps. is_second ps i) e ∙ eq-less b i (omega arith))

  -- a free point
  abbrev After : ℕ → List ℕ → Layout → Type 0
  After m todo l = Laid m l × Seen m todo l.frees

  free-is : (l : Layout) (k : ℕ) → l.frees ≡ k
      → free_point l ≡ (if k == 0 then with_place coordinate.Zero coordinate.Zero (record l { frees = 1 })
      else (if k == 1 then with_place (next l) coordinate.Zero (record (with_u l) { frees = 2 }) else with_place (next l) (next (with_u l)) (with_u (with_u l))))
  free-is l k e =
      ap (λ j. if j == 0 then with_place coordinate.Zero coordinate.Zero (record l { frees = 1 })
      else (if j == 1 then with_place (next l) coordinate.Zero (record (with_u l) { frees = 2 }) else with_place (next l) (next (with_u l)) (with_u (with_u l)))) e

  free : (n : ℕ) (todo : List ℕ) (l : Layout) → AllFrom (suc n) todo → Laid n l → Seen n (n ∷ todo) l.frees → After (suc n) todo (free_point l)
  free n todo l h laid (NoneSeen z e) =
      subst (λ t. After (suc n) todo t) (sym (free-is l 0 z))
      (laid-first n l laid (ap (λ ps. is_first ps n) e ∙ eq-self n), OneSeen refl n (omega arith) e)
  free n todo l h laid (OneSeen z a below e) =
      subst (λ t. After (suc n) todo t) (sym (free-is l 1 z))
      (laid-second n l laid (ap (λ ps. is_first ps n) e ∙ eq-less a n below) (ap (λ ps. is_second ps n) e ∙ eq-self n), TwoSeen refl a n todo (omega arith) (omega arith) e)
  free n todo l h laid (TwoSeen z a b others below under e) =
      subst (λ t. After (suc n) todo t) (sym (free-is l 2 z))
      (laid-third n l laid (ap (λ ps. is_first ps n) e ∙ eq-less a n below, ap (λ ps. is_second ps n) e ∙ eq-less b n under), TwoSeen z a b others (omega arith) (omega arith) e)

  -- what a command makes
  step : (k : NewPoints) (n m : ℕ) (ps todo : List ℕ) (l : Layout) → Makes k n m ps → AllFrom m todo → Laid n l → Seen n (ps ++ todo) l.frees → After m todo (with_points k l)
  step new.NoPoint n m ps todo l h j laid s =
      let here = subst (λ rs. Seen n (rs ++ todo) l.frees) h.1 s in
      subst (λ i. After i todo l) (sym h.0) (laid, here)
  step new.Free n m ps todo l h j laid s =
      let here = subst (λ rs. Seen n (rs ++ todo) l.frees) h.1 s in
      let e : suc n ≡ m = omega (arith, h.0) in
      subst (λ i. After i todo (free_point l)) e (free n todo l (subst (λ i. AllFrom i todo) (sym e) j) laid here)
  step new.SemiFree n m ps todo l h j laid s =
      let here = subst (λ rs. Seen n (rs ++ todo) l.frees) h.1 s in
      let e : suc n ≡ m = omega (arith, h.0) in (
        subst (λ i. Laid i (semi_free_point l)) e (laid-semi_free n l laid (neither n m n todo l.frees here (omega arith) (omega (arith, h.0)) j)),
        seen-more n m todo l.frees (omega (arith, h.0)) here,
      )
  step new.Dependent n m ps todo l h j laid s =
      let here = subst (λ rs. Seen n (rs ++ todo) l.frees) h.1 s in
      let e : suc n ≡ m = omega (arith, h.0) in (
        subst (λ i. Laid i (dependent_point l)) e (laid-dependent n l laid (neither n m n todo l.frees here (omega arith) (omega (arith, h.0)) j)),
        seen-more n m todo l.frees (omega (arith, h.0)) here,
      )
  step new.TwoDependent n m ps todo l h j laid s =
      let here = subst (λ rs. Seen n (rs ++ todo) l.frees) h.1 s in
      let e : suc (suc n) ≡ m = omega (arith, h.0) in (
        subst (λ i. Laid i (dependent_point (dependent_point l))) e
            (laid-dependent (suc n) (dependent_point l)
            (laid-dependent n l laid (neither n m n todo l.frees here (omega arith) (omega (arith, h.0)) j))
            (neither n m (suc n) todo l.frees here (omega arith) (omega (arith, h.0)) j)),
        seen-more n m todo l.frees (omega (arith, h.0)) here,
      )

  laid-acts : (n : Counts) (l : Layout) (acts : List Act) → AllFollow n acts → Laid n.points l → Seen n.points (free_points acts) l.frees → Laid (after_all n acts).points (layout_from l acts)
  unfolding AllFollow free_points after_all layout_from
  laid-acts n l [] h laid s = laid
  laid-acts n l (a ∷ acts) h laid s =
      let there = step (new_points a.deed) n.points (after n a.deed).points (free_in a.deed) (free_points acts) l (makes n a.deed h.0) (frees-from (after n a.deed) acts h.1) laid s in
      laid-acts (after n a.deed) (with_points (new_points a.deed) l) acts h.1 there.0 there.1

  pub laid-empty : Laid 0 empty
  unfolding listed_to
  laid-empty = record { places = refl; variables = refl; placed = λ rest i below. absurd (omega arith) }

module _ {M : Type 0} {o : Operations M} (L : IsCommutativeRing o) where
  -- The figure at the image point has the places moved and turned.
  pub figure-placed : (acts : List Act) (f : Figure M) → AllFollow nothing acts → (i : ℕ) → i < (after_all nothing acts).points
      → turn.Moved L (frame o acts f).origin (frame o acts f).axis o.one (place_of o f i) (place_of o (figure_at o acts (image_point o acts f)) i)
  figure-placed acts f h i below =
      let frees = free_points acts in
      let laid = laid-acts L f frees nothing empty acts h (laid-empty L f frees) (NoneSeen refl refl) in
      subst (λ p. turn.Moved L (frame o acts f).origin (frame o acts f).axis o.one (place_of o f i) (place_of o (map (place_at o p) (layout_of acts).places) i))
      (append-nil (image_point o acts f)) (laid.placed [] i below)
