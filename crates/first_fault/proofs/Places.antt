-- The parts of a log, one line of the machine that knows where lines may stand, and where a proof comes next.
use Rattle.std.proofs.Common.{◌≡◌, ℕ, ◌+◌, ◌-◌, ◌<◌, List, [], ◌∷◌, ◌++◌, Bool, true, false, ◌||◌, ◌&&◌, ◌==◌, nat_eq, nat_lt, cond, refl, sym, ◌∙◌, ap, arith, subst, Option, Some, None}
use Rattle.std.specs.Prelude.{if◌then◌else◌}
use Rattle.std.specs.List.{list_any}
use Rattle.std.proofs.lemmas.Bool.{and_parts, eqb-true}
use Rattle.std.proofs.lemmas.Bool.Decides.{nat_tests}
use Rattle.std.proofs.lemmas.Option.{same_Some}
use Rattle.proof_log.specs.Grammar.{IsFront}
use Rattle.proof_log.specs.Places.{goes, start, run, stands, number, counted, at_part, part_behind}
use Rattle.proof_log.specs.Text.{row_of}
use Rattle.proof_log.specs.declared.line.LogLine.{LogLine}
use Rattle.proof_log.specs.declared.line.LogLine.TheVariants as line
use Rattle.proof_log.specs.declared.place.Part.{Part}
use Rattle.proof_log.specs.declared.place.Part.TheVariants as part
use Rattle.proof_log.specs.declared.place.Place.{Place}
use Rattle.proof_log.proofs.Logs.{front_is, no_front, run_snoc}

-- ---- parts
part_of : ℕ → Part
part_of n =
    cond (nat_eq n 0) part.Start
    (cond (nat_eq n 1) part.Head
    (cond (nat_eq n 2) part.Between
    (cond (nat_eq n 3) part.Prove
    (cond (nat_eq n 4) part.Hyps
    (cond (nat_eq n 5) part.Cons
    (cond (nat_eq n 6) part.Steps (cond (nat_eq n 7) part.Eqs (cond (nat_eq n 8) part.Nes (cond (nat_eq n 9) part.Chain (cond (nat_eq n 10) part.Pieces part.Done))))))))))

part_again : (p : Part) → part_of (number p) ≡ p
unfolding part_of
part_again part.Start = refl
part_again part.Head = refl
part_again part.Between = refl
part_again part.Prove = refl
part_again part.Hyps = refl
part_again part.Cons = refl
part_again part.Steps = refl
part_again part.Eqs = refl
part_again part.Nes = refl
part_again part.Chain = refl
part_again part.Pieces = refl
part_again part.Done = refl

same_part : (p q : Part) → nat_eq (number p) (number q) ≡ true → q ≡ p
same_part p q e = sym (part_again q) ∙ ap part_of (sym (eqb-true (number p) (number q) e)) ∙ part_again p

-- one of the parts, for any claim on the part that stands
abbrev pub cases : (Claim : Part → Type 0) (ps : List Part) → Type 0
cases Claim [] = Unit {0}
cases Claim (p ∷ ps) = Claim p × cases Claim ps

pub by_parts : (Claim : Part → Type 0) (ps : List Part) (q : Part) → list_any (λ r. nat_eq (number r) (number q)) ps ≡ true → cases Claim ps → Claim q
by_parts Claim [] q e c = cc
by_parts Claim (p ∷ ps) q e c = elim (nat_eq (number p) (number q)) as (λ t. nat_eq (number p) (number q) ≡ t → (t || list_any (λ r. nat_eq (number r) (number q)) ps) ≡ true → Claim q) [
  | true ↦ λ h _. subst Claim (sym (same_part p q h)) c.0
  | false ↦ λ _ h. by_parts Claim ps q h c.1
] refl e

-- ---- one step
pub record Stepped (s : Place) (l : LogLine) (t : Place) : Type 0 where
  pub stands_here : stands (row_of l).word s.part ≡ true
  pub counts : Place
  pub count : counted s l ≡ Some counts
  pub behind : t ≡ record counts { part = part_behind (row_of l).word }

pub stepped : (s : Place) (l : LogLine) (t : Place) → goes s l ≡ Some t → Stepped s l t
unfolding goes
stepped s l t e = elim (stands (row_of l).word s.part) as (λ b. stands (row_of l).word s.part ≡ b → cond b (at_part (part_behind (row_of l).word) (counted s l)) None ≡ Some t → Stepped s l t) [
  | true ↦ λ h g. elim (counted s l) as (λ c. counted s l ≡ c → at_part (part_behind (row_of l).word) c ≡ Some t → Stepped s l t) [
    | None ↦ λ _ k. cc
    | Some u ↦ λ q k. record { stands_here = h; counts = u; count = q; behind = cc }
  ] refl g
  | false ↦ λ _ g. cc
] refl e

-- ---- lines
abbrev pub run_from : Option Place → List LogLine → Option Place
run_from o ls = elim o [ None ↦ None | Some t ↦ run t ls ]

pub one : (s t : Place) (l : LogLine) (ls : List LogLine) → goes s l ≡ Some t → run s (l ∷ ls) ≡ run t ls
unfolding run
one s t l ls e = ap (λ o. run_from o ls) e

-- a test that held, and one that did not
pub held : (b : Bool) (u v : Place) → (if b then Some u else None) ≡ Some v → (b ≡ true) × (u ≡ v)
held true u v e = (refl, same_Some u v e)
held false u v e = cc

pub failed : (b : Bool) (u v : Place) → (if b then None else Some u) ≡ Some v → (b ≡ false) × (u ≡ v)
failed true u v e = cc
failed false u v e = (refl, same_Some u v e)

-- ---- where a proof comes next
pub record Next (s : Place) : Type 0 where
  pub between : s.part ≡ part.Between
  pub left : 0 < s.left

-- the number of the next proof
abbrev pub next_number : Place → ℕ
next_number s = (s.proofs - s.left) + 1

pub next-is : (s r : Place) (k : ℕ) → goes s (line.Prove k) ≡ Some r → Next s
next-is s r k e =
    let d = stepped s (line.Prove k) r e in
    let h = held ((k == next_number s) && nat_lt 0 s.left) (record s { left = s.left - 1; hyps = 0; cons = 0 }) d.counts d.count in
    let some = (and_parts (k == next_number s) (nat_lt 0 s.left) h.0).1 in
    record { between = by_parts (λ q. q ≡ part.Between) (part.Between ∷ []) s.part d.stands_here (refl, tt); left = grind (arith, nat_tests) }

pub next-goes : (s : Place) → Next s → goes s (line.Prove (next_number s)) ≡ Some (record s { part = part.Prove; left = s.left - 1; hyps = 0; cons = 0 })
unfolding goes
next-goes s n =
    let at = n.between in
    let some = n.left in
    let a : nat_eq (next_number s) (next_number s) ≡ true = grind (arith, nat_tests) in
    let b : nat_lt 0 s.left ≡ true = grind (arith, nat_tests) in
    rw (at, a, b) refl

module _ (s : Place) (lines : List LogLine) (here : run start lines ≡ Some s) where
  pub front-next : (k : ℕ) → IsFront (lines ++ line.Prove k ∷ []) → Next s
  front-next k f = elim (goes s (line.Prove k)) as (λ o. goes s (line.Prove k) ≡ o → Next s) [
    | None ↦ λ e. absurd (no_front s lines (line.Prove k) here e f)
    | Some r ↦ λ e. next-is s r k e
  ] refl

  pub next-front : Next s → IsFront (lines ++ line.Prove (next_number s) ∷ [])
  next-front n = front_is _ _ (run_snoc s _ lines (line.Prove (next_number s)) here (next-goes s n))
