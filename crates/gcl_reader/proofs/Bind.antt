-- Steps that succeeded, taken apart.
use Rattle.std.proofs.Common.{◌≡◌, Result, Ok, Err, Bool, true, false, cond, refl}
use Rattle.gcl_reader.specs.Grammar.{◌>>=◌}
use Rattle.gcl_reader.specs.declared.refusal.Refusal.{Refusal}

-- What was bound succeeded, and so did what follows.
pub bind-ok : {A B : Type 0} (r : Result A Refusal) (f : A → Result B Refusal) (b : B) → (r >>= f) ≡ Ok b → (a : A) × (r ≡ Ok a) × (f a ≡ Ok b)
bind-ok (Ok a) f b h = (a, refl, h)
bind-ok (Err e) f b h = cc

module _ {A E : Type 0} where
  pub ok-is : {a b : A} → ◌≡◌ {A = Result A E} (Ok a) (Ok b) → a ≡ b
  ok-is h = cc

  -- An answer behind a test: the test held, or it failed.
  pub where-true : (b : Bool) (r : Result A E) (e : E) (a : A) → cond b r (Err e) ≡ Ok a → (b ≡ true) × (r ≡ Ok a)
  where-true true r e a h = (refl, h)
  where-true false r e a h = cc

  pub where-false : (b : Bool) (r : Result A E) (e : E) (a : A) → cond b (Err e) r ≡ Ok a → (b ≡ false) × (r ≡ Ok a)
  where-false true r e a h = cc
  where-false false r e a h = (refl, h)
