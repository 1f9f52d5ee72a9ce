-- Looking a name up from a place in the list on.
use Rattle.std.proofs.Common.{◌≡◌, ◌<◌, ◌+◌, ℕ, List, length, get_or, drop, map, cond, Some, sym, ap, ◌∙◌, add-one, drop-cons, suc}
use Rattle.std.specs.Str.{bytes_eq}
use Rattle.desk_io.specs.Files.{file_of}

pub found_at : {X : Type 0} (entry : X → List ℕ × List ℕ) (xs : List X) (name : List ℕ) (i : ℕ) (x : X) → i < length xs → x ≡ get_or xs i x
    → file_of (map entry (drop i xs)) name ≡ cond (bytes_eq (entry x).0 name) (Some (entry x).1) (file_of (map entry (drop (i + 1) xs)) name)
found_at entry xs name i x lt e =
    ap (λ l. file_of (map entry l) name) (drop-cons xs i x lt)
    ∙ ap (λ y. cond (bytes_eq (entry y).0 name) (Some (entry y).1) (file_of (map entry (drop (suc i) xs)) name)) (sym e)
    ∙ ap (λ k. cond (bytes_eq (entry x).0 name) (Some (entry x).1) (file_of (map entry (drop k xs)) name)) (sym (add-one i))
