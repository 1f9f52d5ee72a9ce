-- Lines with which a log goes on to its end: lists and chains inside a piece.
use Rattle.std.proofs.Common.{◌≡◌, ℕ, ◌+◌, ◌-◌, ◌<◌, zero, suc, List, [], ◌∷◌, length, Bool, true, false, ◌⊎◌, inl, inr, ◌&&◌, ◌==◌, refl, sym, ◌∙◌, ap, subst, arith, Option, Some, None}
use Rattle.std.specs.Prelude.{ℤ}
use Rattle.std.specs.Ordering.{int_eq}
use Rattle.std.proofs.lemmas.Bool.{and_from, eq-eqb}
use Rattle.poly_model.specs.Equality.{same-self}
use Rattle.poly_model.specs.Polynomial.{Polynomial}
use Rattle.poly_model.specs.Reduction.{same, reduction_of}
use Rattle.poly_model.specs.declared.limits.Reason.{Reason}
use Rattle.poly_model.specs.declared.vars.VarName.{VarName}
use Rattle.proof_steps.specs.Chain as chain
use Rattle.proof_steps.specs.Chain.{Due, due_of, chain_reason}
use Rattle.proof_steps.specs.Numbers.{item}
use Rattle.proof_steps.specs.declared.piece.ChainStep.{ChainStep}
use Rattle.proof_steps.specs.declared.piece.Node.{Node}
use Rattle.tree_laws.proofs.Fitting.{same_reason-is, int_eq-self, reason-fuel}
use Rattle.verdicts.specs.Tallies.{Ending, Proves, Remains, Stops, Tally}
use Rattle.proof_log.specs.Places.{goes, run}
use Rattle.proof_log.specs.Text.{names_after}
use Rattle.proof_log.specs.declared.line.LogLine.{LogLine}
use Rattle.proof_log.specs.declared.line.LogLine.TheVariants as line
use Rattle.proof_log.specs.declared.place.Part.{Part}
use Rattle.proof_log.specs.declared.place.Part.TheVariants as part
use Rattle.proof_log.specs.declared.place.Place.{Place}
use Rattle.log_checker.specs.Fitting as fitting
use Rattle.log_checker.specs.Fitting.{Work, Chaining, Ended, Inside, State, listed, where_fits, proved_row, remainder_row, unreduced_row, chain_row, in_piece, inside_row, by_part, after, fitted}
use Rattle.log_checker.proofs.Fits.{fitted_from}
use Rattle.first_fault.proofs.Places.{one}
use Rattle.first_fault.proofs.Standing.{IsPosing, ArePosing}

-- Lines that stand well and fit from here to the end of a log.
pub record Ends (s : Place) (t : State) : Type 0 where
  pub more : List LogLine
  pub place : Place
  pub state : State
  pub runs : run s more ≡ Some place
  pub done : place.part ≡ part.Done
  pub fits : fitted t more ≡ Some state
  pub poses : (names : List VarName) → ArePosing names more

pub at-end : (s : Place) (t : State) → s.part ≡ part.Done → Ends s t
unfolding run fitted
at-end s t e = record { more = []; place = s; state = t; runs = refl; done = e; fits = refl; poses = λ names. tt }

pub before : (s r : Place) (t u : State) (l : LogLine) → goes s l ≡ Some r → after t l ≡ Some u → ((names : List VarName) → IsPosing names l) → Ends r u → Ends s t
unfolding fitted
before s r t u l g a p e = record {
  more = l ∷ e.more;
  place = e.place;
  state = e.state;
  runs = one s r l e.more g ∙ e.runs;
  done = e.done;
  fits = ap (λ o. fitted_from o e.more) a ∙ e.fits;
  poses = λ names. (p names, e.poses (names_after names l));
}

-- one of three parts
abbrev pub OneOf : Part → Part → Part → Part → Type 0
OneOf x y z p = (p ≡ x) ⊎ ((p ≡ y) ⊎ (p ≡ z))

pub three : (Claim : Part → Type 0) (x y z : Part) → Claim x → Claim y → Claim z → (p : Part) → OneOf x y z p → Claim p
three Claim x y z a b c p (inl e) = subst Claim (sym e) a
three Claim x y z a b c p (inr (inl e)) = subst Claim (sym e) b
three Claim x y z a b c p (inr (inr e)) = subst Claim (sym e) c

-- where a chain goes on, and where a piece may end
abbrev pub IsChain : Part → Type 0
IsChain = OneOf part.Eqs part.Nes part.Chain

abbrev pub IsEnd : Part → Type 0
IsEnd = OneOf part.Eqs part.Nes part.Pieces

abbrev pub IsInner : LogLine → Type 0
IsInner l = (s : State) (p : fitting.Part) → by_part s l p ≡ inside_row s l p

pub fits-from : {A : Type 0} (b : Bool) (a : A) → b ≡ true → where_fits b a ≡ Some a
fits-from b a e = ap (λ c. where_fits c a) e

-- What the grammar and the table know of the proof that is told.
module _ (s : Place) (o : State) where
  abbrev pub here : Part → Bool → Place
  here p w = record s { part = p; whole = w }

  abbrev pub within : List Bool → Inside → List Node → Tally → State
  within path i ns t = record o { part = fitting.Within path i; waiting = ns; tally = t }

  -- a line inside a piece
  pub inner : (p q : Part) (w v : Bool) (path : List Bool) (i j : Inside) (ns : List Node) (t : Tally) (l : LogLine) → IsInner l
      → ((names : List VarName) → IsPosing names l) → goes (here p w) l ≡ Some (here q v) → in_piece o.version o.cons i l ≡ Some j
      → Ends (here q v) (within path j ns t) → Ends (here p w) (within path i ns t)
  unfolding after
  inner p q w v path i j ns t l is pose g e more =
      before (here p w) (here q v) (within path i ns t) (within path j ns t) l g
      (is (within path i ns t) (fitting.Within path i)
      ∙ ap (λ o. elim o as (λ _. Option State) [ None ↦ None | Some k ↦ Some (within path k ns t) ]) e)
      pose more

  -- ---- lists
  abbrev place : List Polynomial → List Polynomial → Work → Inside
  place eqs nes w = record { eqs = eqs; nes = nes; work = w }

  eqs-listed : (w : Bool) (path : List Bool) (eqs nes : List Polynomial) (x : Work) (ns : List Node) (t : Tally)
      → Ends (here part.Eqs w) (within path (place [] nes x) ns t) → Ends (here part.Eqs w) (within path (place eqs nes x) ns t)
  unfolding goes in_piece
  eqs-listed w path [] nes x ns t more = more
  eqs-listed w path (q ∷ qs) nes x ns t more =
      inner part.Eqs part.Eqs w w path (place (q ∷ qs) nes x) (place qs nes x) ns t (line.Eq q) (λ _ _. refl) (λ _. tt) refl (fits-from (same q q) _ (same-self q))
      (eqs-listed w path qs nes x ns t more)

  pub nes-listed : (w : Bool) (path : List Bool) (nes : List Polynomial) (x : Work) (ns : List Node) (t : Tally)
      → Ends (here part.Nes w) (within path (listed x) ns t) → Ends (here part.Nes w) (within path (place [] nes x) ns t)
  unfolding goes in_piece
  nes-listed w path [] x ns t more = more
  nes-listed w path (q ∷ qs) x ns t more =
      inner part.Nes part.Nes w w path (place [] (q ∷ qs) x) (place [] qs x) ns t (line.Ne q) (λ _ _. refl) (λ _. tt) refl (fits-from (same q q) _ (same-self q))
      (nes-listed w path qs x ns t more)

  first-listed : (w : Bool) (path : List Bool) (nes : List Polynomial) (x : Work) (ns : List Node) (t : Tally)
      → ((p : Part) → (p ≡ part.Eqs) ⊎ (p ≡ part.Nes) → Ends (here p w) (within path (listed x) ns t)) → Ends (here part.Eqs w) (within path (place [] nes x) ns t)
  unfolding goes in_piece
  first-listed w path [] x ns t more = more part.Eqs (inl refl)
  first-listed w path (q ∷ qs) x ns t more =
      inner part.Eqs part.Nes w w path (place [] (q ∷ qs) x) (place [] qs x) ns t (line.Ne q) (λ _ _. refl) (λ _. tt) refl (fits-from (same q q) _ (same-self q))
      (nes-listed w path qs x ns t (more part.Nes (inr refl)))

  pub lists : (w : Bool) (path : List Bool) (eqs nes : List Polynomial) (x : Work) (ns : List Node) (t : Tally)
      → ((p : Part) → (p ≡ part.Eqs) ⊎ (p ≡ part.Nes) → Ends (here p w) (within path (listed x) ns t)) → Ends (here part.Eqs w) (within path (place eqs nes x) ns t)
  lists w path eqs nes x ns t more = eqs-listed w path eqs nes x ns t (first-listed w path nes x ns t more)

  -- ---- chains
  abbrev Goes : LogLine → Part → Bool → Part → Type 0
  Goes l q v p = goes (here p false) l ≡ Some (here q v)

  chain-goes : (x : ChainStep) (p : Part) → IsChain p → Goes (line.Chain x) part.Chain false p
  unfolding goes
  chain-goes x = three (Goes (line.Chain x) part.Chain false) part.Eqs part.Nes part.Chain refl refl refl

  proved-goes : (p : Part) → IsChain p → Goes line.Proved part.Pieces true p
  unfolding goes
  proved-goes = three (Goes line.Proved part.Pieces true) part.Eqs part.Nes part.Chain refl refl refl

  remainder-goes : (k : ℕ) (p : Part) → IsChain p → Goes (line.Remainder k) part.Pieces true p
  unfolding goes
  remainder-goes k = three (Goes (line.Remainder k) part.Pieces true) part.Eqs part.Nes part.Chain refl refl refl

  unreduced-goes : (k : ℕ) (why : Reason) (f : ℕ) (p : Part) → IsChain p → Goes (line.Unreduced k why f) part.Pieces true p
  unfolding goes
  unreduced-goes k why f = three (Goes (line.Unreduced k why f) part.Pieces true) part.Eqs part.Nes part.Chain refl refl refl

  -- what the table has at the end of a chain
  reads-proved : (E todo : List Polynomial) (k spare : ℕ) → due_of E k todo ≡ chain.AllZero
      → in_piece o.version o.cons (listed (Chaining E k todo spare)) line.Proved ≡ Some (listed (Ended [] Proves))
  unfolding in_piece
  reads-proved E todo k spare e = ap proved_row e

  reads-remainder : (E todo : List Polynomial) (k spare j : ℕ) (p : Polynomial) → due_of E k todo ≡ chain.Left j p
      → in_piece o.version o.cons (listed (Chaining E k todo spare)) (line.Remainder j) ≡ Some (listed (Ended [] (Remains j p)))
  unfolding in_piece
  reads-remainder E todo k spare j p e = ap (remainder_row j) e ∙ fits-from (j == j) _ (eq-eqb j j refl)

  reads-unreduced : (E todo : List Polynomial) (k spare j f : ℕ) (p : Polynomial) (rest : List Polynomial) (why : Reason) → due_of E k todo ≡ chain.Reduce j f p rest
      → chain_reason p (item E f) spare ≡ Some why
      → in_piece o.version o.cons (listed (Chaining E k todo spare)) (line.Unreduced j why f) ≡ Some (listed (Ended [] (Stops why)))
  unfolding in_piece
  reads-unreduced E todo k spare j f p rest why e q =
      ap (unreduced_row E spare j why f) e
      ∙ fits-from _ _ (and_from (j == j && f == f) _ (and_from (j == j) _ (eq-eqb j j refl) (eq-eqb f f refl)) (same_reason-is _ _ q))

  abbrev reduced : (k f : ℕ) → ℤ × Polynomial → ChainStep
  reduced k f r = record { k = k; f = f; m = r.0; r = r.1 }

  reads-step : (E todo : List Polynomial) (k spare j f : ℕ) (p : Polynomial) (rest : List Polynomial) → due_of E k todo ≡ chain.Reduce j f p rest
      → chain_reason p (item E f) spare ≡ None
      → in_piece o.version o.cons (listed (Chaining E k todo spare)) (line.Chain (reduced j f (reduction_of p (item E f))))
      ≡ Some (listed (Chaining E j ((reduction_of p (item E f)).1 ∷ rest) (spare - (1 + length (reduction_of p (item E f)).1))))
  unfolding in_piece
  reads-step E todo k spare j f p rest e q =
      let r = reduction_of p (item E f) in
      ap (chain_row E spare (reduced j f r)) e
      ∙ fits-from _ _
      (and_from _ _
      (and_from _ _ (and_from (j == j) _ (eq-eqb j j refl) (eq-eqb f f refl)) (and_from (int_eq r.0 r.0) _ (int_eq-self r.0) (same-self r.1)))
      (same_reason-is _ _ q))

  abbrev Chained : List Bool → List Node → Tally → Part → List Polynomial → (k : ℕ) → List Polynomial → (spare : ℕ) → Type 0
  Chained path ns t p E k todo spare = Ends (here p false) (within path (listed (Chaining E k todo spare)) ns t)

  -- with less fuel the chain is followed
  abbrev Later : List Bool → List Node → Tally → List Polynomial → (b : ℕ) → Type 0
  Later path ns t E b = (j : ℕ) (todo : List Polynomial) (left : ℕ) → left < b → Chained path ns t part.Chain E j todo left

  -- a chain is followed to its end, each step for a unit of fuel at least
  pub chains : (b : ℕ) (path : List Bool) (ns : List Node) (t : Tally) → ((e : Ending) → Ends (here part.Pieces true) (within path (listed (Ended [] e)) ns t))
      → (p : Part) → IsChain p → (E : List Polynomial) (k : ℕ) (todo : List Polynomial) (spare : ℕ) → spare < b
      → Chained path ns t p E k todo spare
  chains zero path ns t more p is E k todo spare below = absurd (omega (arith, below))
  chains (suc b) path ns t more p is E k todo spare below =
      by (λ j todo left less. chains b path ns t more part.Chain (inr (inr refl)) E j todo left less) (due_of E k todo) refl
    where
      stopped : Later path ns t E b → (j f : ℕ) (q : Polynomial) (rest : List Polynomial) → due_of E k todo ≡ chain.Reduce j f q rest → (r : Option Reason)
          → chain_reason q (item E f) spare ≡ r → Chained path ns t p E k todo spare
      stopped later j f q rest e (Some why) g =
          inner p part.Pieces false true path _ _ ns t (line.Unreduced j why f) (λ _ _. refl) (λ _. tt) (unreduced-goes j why f p is)
          (reads-unreduced E todo k spare j f q rest why e g) (more (Stops why))
      stopped later j f q rest e None g =
          let r = reduction_of q (item E f) in
          let paid = reason-fuel q (item E f) spare g in
          inner p part.Chain false false path _ _ ns t (line.Chain (reduced j f r)) (λ _ _. refl) (λ _. tt) (chain-goes (reduced j f r) p is)
          (reads-step E todo k spare j f q rest e g) (later j (r.1 ∷ rest) (spare - (1 + length r.1)) (omega (arith, paid, below)))

      by : Later path ns t E b → (d : Due) → due_of E k todo ≡ d → Chained path ns t p E k todo spare
      by later chain.AllZero e =
          inner p part.Pieces false true path _ _ ns t line.Proved (λ _ _. refl) (λ _. tt) (proved-goes p is) (reads-proved E todo k spare e) (more Proves)
      by later (chain.Left j q) e =
          inner p part.Pieces false true path _ _ ns t (line.Remainder j) (λ _ _. refl) (λ _. tt) (remainder-goes j p is)
          (reads-remainder E todo k spare j q e) (more (Remains j q))
      by later (chain.Reduce j f q rest) e = stopped later j f q rest e (chain_reason q (item E f) spare) refl
