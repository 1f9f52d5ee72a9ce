-- The lines of the chain of a system.
use Rattle.std.proofs.Common.{◌≡◌, ℕ, ◌+◌, ◌-◌, ◌<◌, zero, suc, ℤ, List, [], ◌∷◌, length, drop, set, refl, sym, ◌∙◌, ap, arith, Bool, true, false, ◌&&◌}
use Rattle.std.specs.Ordering.{int_eq}
use Rattle.std.specs.Prelude.{◌==◌, if◌then◌else◌, nat_lt, Option, Some, None, Result, Ok, Err, IfOk}
use Rattle.std.proofs.lemmas.Bool.{and_parts}
use mathlib.Core.Bool.{and-true, and-false}
use Rattle.poly_model.specs.Polynomial.{Polynomial}
use Rattle.poly_model.specs.Equality.{same-is}
use Rattle.poly_model.specs.Reduction.{same, reduction_of}
use Rattle.poly_model.specs.declared.limits.Reason.{Reason}
use Rattle.proof_steps.specs.Numbers.{item}
use Rattle.proof_steps.specs.Reasons.{same_reason}
use Rattle.proof_steps.specs.Chain as chain
use Rattle.proof_steps.specs.Chain.{chain_reason, is_step, due_of}
use Rattle.proof_steps.specs.Rules.{reduction_limit}
use Rattle.proof_steps.specs.declared.piece.ChainStep.{ChainStep}
use Rattle.log_checker.specs.Fitting.{Inside, Work, Chaining, Ended, listed, where_fits, where_whole, chain_row, unreduced_row}
use Rattle.log_checker.specs.Turns.{is_reduce, IsDue, IsTurn, Comes, conclusion, reduce, stop_in}
use Rattle.log_checker.specs.Trials.{reduces_to}
use Rattle.log_checker.specs.Views.{eqs_due, nes_due, listing}
use Rattle.log_checker.specs.declared.piece.Lists.{Lists}
use Rattle.verdicts.specs.Tallies.{Stops}
use Rattle.log_checker.specs.declared.chain.Turn.{Turn}
use Rattle.log_checker.specs.declared.due.Due.{Due}
use Rattle.log_checker.specs.declared.due.Due.TheVariants as due
use Rattle.log_checker.proofs.Fitness.{limited, stopped_by}

-- behind whole lists
pub record Told (xs ys : List Polynomial) : Type 0 where
  pub eqs : xs ≡ []
  pub nes : ys ≡ []

pub all-told : (xs ys : List Polynomial) (b : Bool) → ((i : Option Inside) → where_whole xs ys i ≡ (if b then i else None)) → b ≡ true → (w : Work) → Told xs ys
all-told [] [] b h t w = record { eqs = refl; nes = refl }
all-told [] (y ∷ ys) b h t w = absurd (let e : ◌≡◌ {A = Option Inside} None (Some (listed w)) = h (Some (listed w)) ∙ ap {B = Option Inside} (λ c. if c then Some (listed w) else None) t in cc)
all-told (x ∷ xs) ys b h t w = absurd (let e : ◌≡◌ {A = Option Inside} None (Some (listed w)) = h (Some (listed w)) ∙ ap {B = Option Inside} (λ c. if c then Some (listed w) else None) t in cc)

-- a line `step`
pub not-due : (E cons : List Polynomial) (done fuel : ℕ) (c : ChainStep) (d : Due) → IsDue E cons done d → ((at f var : ℕ) → d ≡ due.Reduce at f var → ⊥) → None ≡ chain_row E fuel c (due_of E (suc done) (drop done cons))
not-due E cons done fuel c due.AllZero h other = ap (chain_row E fuel c) (sym h)
not-due E cons done fuel c (due.Left at) h other = ap (chain_row E fuel c) (sym h.0)
not-due E cons done fuel c (due.Reduce at f var) h other = absurd (other at f var refl)

pub fits-row : (E cons : List Polynomial) (done fuel at f : ℕ) (c : ChainStep) (b : Bool) → due_of E (suc done) (drop done cons) ≡ reduce cons at f
    → b ≡ (is_step E (suc at) f (conclusion cons at) c && same_reason (chain_reason (conclusion cons at) (item E f) fuel) None)
    → where_fits b (listed (Chaining E (suc at) (c.r ∷ drop (suc at) cons) (fuel - (1 + length c.r)))) ≡ chain_row E fuel c (due_of E (suc done) (drop done cons))
fits-row E cons done fuel at f c b h e = ap (λ fits. where_fits fits (listed (Chaining E (suc at) (c.r ∷ drop (suc at) cons) (fuel - (1 + length c.r))))) e ∙ ap (chain_row E fuel c) (sym h)

-- the numbers, the result and the fuel, held against each other one after the other
pub other-numbers : (n tells stops : Bool) → n ≡ false → false ≡ ((n && tells) && stops)
other-numbers true tells stops e = cc
other-numbers false tells stops e = refl

no-fuel : (limit : Option Reason) (short : Bool) → short ≡ true → same_reason (stopped_by limit short) None ≡ false
no-fuel (Some why) short e = limited why
no-fuel None true e = refl
no-fuel None false e = cc

enough : (limit : Option Reason) (short : Bool) → short ≡ false → same_reason (stopped_by limit short) None ≡ same_reason limit None
enough (Some why) short e = refl
enough None true e = cc
enough None false e = refl

short-step : (limit : Option Reason) (n tells short : Bool) → (tells ≡ true → short ≡ true) → false ≡ ((n && tells) && same_reason (stopped_by limit short) None)
short-step limit false tells short s = refl
short-step limit true false short s = refl
short-step limit true true short s = sym (no-fuel limit short (s refl))

told-step : (limit : Option Reason) (n tells short b : Bool) → n ≡ true → (tells ≡ true → short ≡ false) → b ≡ (same_reason limit None && tells) → b ≡ ((n && tells) && same_reason (stopped_by limit short) None)
told-step limit false tells short b h s e = cc
told-step limit true false short b h s e = e ∙ and-false (same_reason limit None)
told-step limit true true short b h s e = e ∙ and-true (same_reason limit None) ∙ sym (enough limit short (s refl))

fuel-of : (r x : Polynomial) (same-number : Bool) (fuel : ℕ) (short : Bool) → nat_lt fuel (1 + length r) ≡ short → (same-number && same r x) ≡ true → nat_lt fuel (1 + length x) ≡ short
fuel-of r x same-number fuel short h t = sym (ap (λ (p : Polynomial). nat_lt fuel (1 + length p)) (same-is r x (and_parts same-number (same r x) t).1)) ∙ h

pub no-fuel-for-step : (E : List Polynomial) (k f : ℕ) (p : Polynomial) (c : ChainStep) (fuel : ℕ) → nat_lt fuel (1 + length c.r) ≡ true → false ≡ (is_step E k f p c && same_reason (chain_reason p (item E f) fuel) None)
no-fuel-for-step E k f p c fuel h =
    let r = reduction_of p (item E f) in
    short-step (reduction_limit p (item E f)) (c.k == k && c.f == f) (int_eq c.m r.0 && same c.r r.1) (nat_lt fuel (1 + length r.1)) (fuel-of c.r r.1 (int_eq c.m r.0) fuel true h)

pub fuel-for-step : {X : Type 0} (o : Result Bool X) (E : List Polynomial) (k f : ℕ) (p g q : Polynomial) (c : ChainStep) (fuel : ℕ) → (c.k == k && c.f == f) ≡ true → nat_lt fuel (1 + length c.r) ≡ false → g ≡ p → q ≡ item E f
    → IfOk o (λ told. told ≡ reduces_to g q c.m c.r) → IfOk o (λ fits. fits ≡ (is_step E k f p c && same_reason (chain_reason p (item E f) fuel) None))
fuel-for-step (Ok told) E k f p g q c fuel n h d e t =
    let r = reduction_of p (item E f) in
    told-step (reduction_limit p (item E f)) (c.k == k && c.f == f) (int_eq c.m r.0 && same c.r r.1) (nat_lt fuel (1 + length r.1)) told n (fuel-of c.r r.1 (int_eq c.m r.0) fuel false h) (t ∙ λ i. reduces_to (d i) (e i) c.m c.r)
fuel-for-step (Err x) E k f p g q c fuel n h d e t = t

-- a line `unreduced`
pub no-stop : (E : List Polynomial) (fuel j g : ℕ) (why : Reason) (d : chain.Due) → is_reduce d ≡ false → None ≡ unreduced_row E fuel j why g d
no-stop E fuel j g why chain.AllZero e = refl
no-stop E fuel j g why (chain.Left k p) e = refl
no-stop E fuel j g why (chain.Reduce k f p rest) e = absurd (let h : true ≡ false = e in cc)

-- what comes of a reduction is what stops it
comes-stop : (p f : Polynomial) (fuel : ℕ) (r : Result (ℤ × Polynomial) Reason) → Comes p f fuel r → chain_reason p f fuel ≡ stop_in r
comes-stop p f fuel (Ok r) h = h.0
comes-stop p f fuel (Err why) h = h

pub stop-is : (E cons : List Polynomial) (done fuel j g : ℕ) (why : Reason) (t : Turn) (b : Bool) → IsTurn E cons done fuel (Some t) → b ≡ ((j == suc t.at && g == t.f) && same_reason (stop_in t.result) (Some why))
    → where_fits b (listed (Ended [] (Stops why))) ≡ unreduced_row E fuel j why g (due_of E (suc done) (drop done cons))
stop-is E cons done fuel j g why t b h e =
    ap (λ c. where_fits c (listed (Ended [] (Stops why)))) (e ∙ ap (λ o. (j == suc t.at && g == t.f) && same_reason o (Some why)) (sym (comes-stop (conclusion cons t.at) (item E t.f) fuel t.result h.2)))
    ∙ ap (unreduced_row E fuel j why g) (sym h.0)

pub listing-is : (l m : Lists) (w v : Work) → l ≡ m → w ≡ v → eqs_due m ≡ [] → nes_due m ≡ [] → Some (listing l w) ≡ Some (listed v)
listing-is l m w v e f a b = ap (λ x. Some (listing x w)) e ∙ ap (λ x. Some (listing m x)) f ∙ (λ i. Some (record { eqs = a i; nes = b i; work = v }))

pub drop_set : {A : Type 0} (xs : List A) (k : ℕ) (x : A) → k < length xs → drop k (set xs k x) ≡ x ∷ drop (suc k) xs
drop_set [] k x h = absurd (omega (arith, h))
drop_set (y ∷ ys) zero x h = refl
drop_set (y ∷ ys) (suc k) x h = drop_set ys k x (omega (arith, h))
