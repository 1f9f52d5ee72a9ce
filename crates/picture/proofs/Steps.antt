-- Steps over a list of acts.
use Rattle.std.proofs.Common.{◌≡◌, ◌≤◌, ◌<◌, ◌+◌, ◌∙◌, ℕ, List, length, get_or, drop, sym, ap}
use Rattle.std.proofs.lemmas.List.{drop_all}
use Rattle.gcl_names.specs.declared.program.Act.{Act}
use Rattle.construct.specs.Placing.{Positions}
use Rattle.construct.proofs.Acts.{act-drop}
use Rattle.line_clip.specs.declared.part.Area.{Area}
use Rattle.picture.specs.Drawing.{Sketch, sized, area_from, drawn, drawn_from}

pub area-next : (acts : List Act) (i : ℕ) (act : Act) (a next : Area) → i < length acts → act ≡ get_or acts i act → next ≡ sized act.deed a
    → area_from (drop (i + 1) acts) next ≡ area_from (drop i acts) a
unfolding area_from
area-next acts i act a next lt e n =
    ap (area_from (drop (i + 1) acts)) n ∙ sym (ap (λ l. area_from l a) (act-drop acts i act lt e))

pub area-all : (acts : List Act) (i : ℕ) (a : Area) → length acts ≤ i → area_from (drop i acts) a ≡ a
unfolding area_from
area-all acts i a le = ap (λ l. area_from l a) (drop_all i acts le)

pub drawn-next : (a : Area) (f : Positions) (acts : List Act) (i : ℕ) (act : Act) (p next : Sketch) → i < length acts → act ≡ get_or acts i act
    → next ≡ drawn a f act.deed p → drawn_from a f (drop (i + 1) acts) next ≡ drawn_from a f (drop i acts) p
unfolding drawn_from
drawn-next a f acts i act p next lt e n =
    ap (drawn_from a f (drop (i + 1) acts)) n ∙ sym (ap (λ l. drawn_from a f l p) (act-drop acts i act lt e))

pub drawn-all : (a : Area) (f : Positions) (acts : List Act) (i : ℕ) (p : Sketch) → length acts ≤ i → drawn_from a f (drop i acts) p ≡ p
unfolding drawn_from
drawn-all a f acts i p le = ap (λ l. drawn_from a f l p) (drop_all i acts le)
