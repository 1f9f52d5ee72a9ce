-- Factors as they are read, and as they are written.
use Rattle.std.proofs.Common.{◌≡◌, ◌≢◌, ℕ, ◌<◌, ◌≤◌, zero, suc, List, [], ◌∷◌, ◌++◌, replicate, Bool, true, false, ◌||◌, ◌==◌, nat_lt, cond, refl, sym, ◌∙◌, ap, subst, arith, Option, Some, None, append_assoc}
use Rattle.std.specs.Prelude.{decimal}
use Rattle.std.proofs.lemmas.Bool.Decides.{nat_tests}
use Rattle.poly_model.specs.declared.vars.VarName.{VarName}
use Rattle.poly_model.specs.declared.vars.VarName.TheVariants.{U, X}
use Rattle.poly_model.specs.declared.limits.TheConstants.{MOST_DEGREE, MOST_NUMBER}
use Rattle.poly_model.specs.Names.{number}
use Rattle.poly_text.specs.Text.{letter, exponent_text, factor_text, joint_text, factors_text}
use Rattle.desk_io.specs.Characters.{is_digit}
use Rattle.poly_text.specs.Reading.{number_at, behind, numbered, number_of, name_at, above_one, exponent_at, joint_at, name_behind, exponent_behind, factor_at, factors_at}
use Rattle.poly_text.proofs.Numbers.{begins_digit, number_at-complete, number_at-sound, given}

-- ---- what stands behind a term, and behind a factor
-- the text ends, or a blank stands first
unfoldable pub ends : List ℕ → Bool
ends [] = true
ends (b ∷ text) = b == 32

-- the text ends, or a blank or `*` stands first
unfoldable pub follows : List ℕ → Bool
follows [] = true
follows (b ∷ text) = b == 32 || b == 42

-- no number and no exponent goes on there
pub goes_on : (text : List ℕ) → follows text ≡ true → (begins_digit text ≡ false) × (exponent_at text ≡ Some (1, text))
unfolding follows begins_digit
goes_on [] f = (refl, refl)
goes_on (b ∷ text) f = (
  (let e : is_digit b ≡ false = grind (arith, nat_tests) in e),
  ap (λ t. cond t (above_one (number_at MOST_DEGREE text)) (Some (1, b ∷ text))) (let e : (b == 94) ≡ false = grind (arith, nat_tests) in e),
)

ends-follows : (text : List ℕ) → ends text ≡ true → follows text ≡ true
unfolding ends follows
ends-follows [] e = refl
ends-follows (b ∷ text) e = ap (λ t. t || b == 42) e

pub factors-follow : (names : List VarName) (es rest : List ℕ) → ends rest ≡ true → follows (factors_text true names es ++ rest) ≡ true
unfolding follows
factors-follow [] es rest e = ends-follows rest e
factors-follow (name ∷ names) [] rest e = ends-follows rest e
factors-follow (name ∷ names) (zero ∷ es) rest e = factors-follow names es rest e
factors-follow (name ∷ names) (suc k ∷ es) rest e = refl

-- ---- names
-- the name is none of these
abbrev pub Misses : VarName → List VarName → Type 0
Misses name [] = Unit {0}
Misses name (other ∷ names) = (name ≢ other) × Misses name names

-- each name once, with a number that the reader takes
abbrev pub Named : List VarName → Type 0
Named [] = Unit {0}
Named (name ∷ names) = (number name ≤ MOST_NUMBER) × Misses name names × Named names

-- the exponents of the variables within the limit, and so many zeros behind them
abbrev pub FitExponents : ℕ → List VarName → List ℕ → Type 0
FitExponents spare [] es = es ≡ replicate spare 0
FitExponents spare (name ∷ names) [] = ⊥
FitExponents spare (name ∷ names) (e ∷ es) = (e ≤ MOST_DEGREE) × FitExponents spare names es

-- ---- one factor that was written
eq_self : (n : ℕ) → (n == n) ≡ true
eq_self n = grind (arith, nat_tests)

eq_other : (m n : ℕ) → m ≢ n → (m == n) ≡ false
eq_other m n d = grind (arith, nat_tests)

joint-complete : (joined : Bool) (text : List ℕ) → joint_at joined (joint_text joined ++ text) ≡ Some text
joint-complete true text = refl
joint-complete false text = refl

name-complete : (name : VarName) (text : List ℕ) → number name ≤ MOST_NUMBER → begins_digit text ≡ false → name_at name (letter name ∷ decimal (number name) ++ text) ≡ Some text
name-complete (U n) text within stop =
    ap (numbered n) (number_at-complete MOST_NUMBER n text within (omega arith) stop) ∙ ap (λ t. cond t (Some text) None) (eq_self n)
name-complete (X n) text within stop =
    ap (numbered n) (number_at-complete MOST_NUMBER n text within (omega arith) stop) ∙ ap (λ t. cond t (Some text) None) (eq_self n)

name-other : (name other : VarName) (text : List ℕ) → name ≢ other → number other ≤ MOST_NUMBER → begins_digit text ≡ false → name_at name (letter other ∷ decimal (number other) ++ text) ≡ None
name-other (U n) (X m) text d within stop = refl
name-other (X n) (U m) text d within stop = refl
name-other (U n) (U m) text d within stop =
    ap (numbered n) (number_at-complete MOST_NUMBER m text within (omega arith) stop) ∙ ap (λ t. cond t (Some text) None) (eq_other m n (λ e. d (ap U (sym e))))
name-other (X n) (X m) text d within stop =
    ap (numbered n) (number_at-complete MOST_NUMBER m text within (omega arith) stop) ∙ ap (λ t. cond t (Some text) None) (eq_other m n (λ e. d (ap X (sym e))))

exponent-stops : (e : ℕ) (text : List ℕ) → follows text ≡ true → begins_digit (exponent_text e ++ text) ≡ false
unfolding begins_digit
exponent-stops e text f =
    elim (e == 1) as (λ t. begins_digit (cond t [] (94 ∷ decimal e) ++ text) ≡ false) [ true ↦ (goes_on text f).0 | false ↦ refl ]

exponent-complete : (e : ℕ) (text : List ℕ) → 0 < e → e ≤ MOST_DEGREE → follows text ≡ true → exponent_at (exponent_text e ++ text) ≡ Some (e, text)
exponent-complete e text some within f =
    elim (e == 1) as (λ t. (e == 1) ≡ t → exponent_at (cond t [] (94 ∷ decimal e) ++ text) ≡ Some (e, text)) [
      | true ↦ λ one. (goes_on text f).1 ∙ ap (λ k. Some (k, text)) (let q : 1 ≡ e = grind (arith, nat_tests) in q)
      | false ↦ λ one.
          ap above_one (number_at-complete MOST_DEGREE e text within (omega arith) (goes_on text f).0)
          ∙ ap (λ t. cond t (Some (e, text)) None) (let q : nat_lt 1 e ≡ true = grind (arith, nat_tests) in q)
    ] refl

-- a text of a factor, by its parts
parts : (name : VarName) (e : ℕ) (text : List ℕ) → factor_text name e ++ text ≡ letter name ∷ decimal (number name) ++ (exponent_text e ++ text)
parts name e text = ap (λ l. letter name ∷ l) (append_assoc (decimal (number name)) (exponent_text e) text)

factor-complete : (name : VarName) (joined : Bool) (e : ℕ) (text : List ℕ) → number name ≤ MOST_NUMBER → 0 < e → e ≤ MOST_DEGREE → follows text ≡ true
    → factor_at name joined (joint_text joined ++ (factor_text name e ++ text)) ≡ Some (e, text)
factor-complete name joined e text number_within some within f =
    ap (λ r. exponent_behind (name_behind name r)) (joint-complete joined (factor_text name e ++ text))
    ∙ ap (λ t. exponent_behind (name_at name t)) (parts name e text)
    ∙ ap exponent_behind (name-complete name (exponent_text e ++ text) number_within (exponent-stops e text f))
    ∙ exponent-complete e text some within f

factor-other : (name other : VarName) (joined : Bool) (e : ℕ) (text : List ℕ) → name ≢ other → number other ≤ MOST_NUMBER → follows text ≡ true
    → factor_at name joined (joint_text joined ++ (factor_text other e ++ text)) ≡ None
factor-other name other joined e text d number_within f =
    ap (λ r. exponent_behind (name_behind name r)) (joint-complete joined (factor_text other e ++ text))
    ∙ ap (λ t. exponent_behind (name_at name t)) (parts other e text)
    ∙ ap exponent_behind (name-other name other (exponent_text e ++ text) d number_within (exponent-stops e text f))

behind-other : (byte b : ℕ) (text : List ℕ) → (b == byte) ≡ false → behind byte (b ∷ text) ≡ None
behind-other byte b text e = ap (λ t. cond t (Some text) None) e

factor-none : (name : VarName) (joined : Bool) (text : List ℕ) → ends text ≡ true → factor_at name joined text ≡ None
unfolding ends
factor-none name true [] e = refl
factor-none (U n) false [] e = refl
factor-none (X n) false [] e = refl
factor-none name true (b ∷ text) e = ap (λ r. exponent_behind (name_behind name r)) (behind-other 42 b text (grind (arith, nat_tests)))
factor-none (U n) false (b ∷ text) e = ap (λ r. exponent_behind (number_of (U n) r)) (behind-other 117 b text (grind (arith, nat_tests)))
factor-none (X n) false (b ∷ text) e = ap (λ r. exponent_behind (number_of (X n) r)) (behind-other 120 b text (grind (arith, nat_tests)))

-- the text of the factors from one on, by its parts
more : (name : VarName) (names : List VarName) (joined : Bool) (e : ℕ) (es rest : List ℕ)
    → factors_text joined (name ∷ names) (suc e ∷ es) ++ rest ≡ joint_text joined ++ (factor_text name (suc e) ++ (factors_text true names es ++ rest))
more name names joined e es rest =
    append_assoc (joint_text joined ++ factor_text name (suc e)) (factors_text true names es) rest
    ∙ append_assoc (joint_text joined) (factor_text name (suc e)) (factors_text true names es ++ rest)

factor-absent : (name : VarName) (joined : Bool) (names : List VarName) (es rest : List ℕ) → Misses name names → Named names → ends rest ≡ true
    → factor_at name joined (factors_text joined names es ++ rest) ≡ None
factor-absent name joined [] es rest m n e = factor-none name joined rest e
factor-absent name joined (other ∷ names) [] rest m n e = factor-none name joined rest e
factor-absent name joined (other ∷ names) (zero ∷ es) rest m n e = factor-absent name joined names es rest m.1 n.2 e
factor-absent name joined (other ∷ names) (suc k ∷ es) rest m n e =
    ap (factor_at name joined) (more other names joined k es rest)
    ∙ factor-other name other joined (suc k) (factors_text true names es ++ rest) m.0 n.0 (factors-follow names es rest e)

abbrev pub next : ℕ → Bool → VarName → List VarName → List ℕ → Option (ℕ × List ℕ) → List ℕ × List ℕ
next spare joined name names text read =
    elim read [
      | None ↦ (0 ∷ (factors_at spare joined names text).0, (factors_at spare joined names text).1)
      | Some read ↦ (read.0 ∷ (factors_at spare true names read.1).0, (factors_at spare true names read.1).1)
    ]

-- factors that are written are read again
pub factors-complete : (spare : ℕ) (joined : Bool) (names : List VarName) (es rest : List ℕ) → FitExponents spare names es → Named names → ends rest ≡ true
    → factors_at spare joined names (factors_text joined names es ++ rest) ≡ (es, rest)
factors-complete spare joined [] es rest fit n e = λ i. (sym fit i, rest)
factors-complete spare joined (name ∷ names) [] rest fit n e = absurd fit
factors-complete spare joined (name ∷ names) (zero ∷ es) rest fit n e =
    ap (next spare joined name names (factors_text joined names es ++ rest)) (factor-absent name joined names es rest n.1 n.2 e)
    ∙ (λ i. (0 ∷ (factors-complete spare joined names es rest fit.1 n.2 e i).0, (factors-complete spare joined names es rest fit.1 n.2 e i).1))
factors-complete spare joined (name ∷ names) (suc k ∷ es) rest fit n e =
    let tail = factors_text true names es ++ rest in
    ap (next spare joined name names (factors_text joined (name ∷ names) (suc k ∷ es) ++ rest))
    (ap (factor_at name joined) (more name names joined k es rest)
    ∙ factor-complete name joined (suc k) tail n.0 (omega arith) fit.0 (factors-follow names es rest e))
    ∙ (λ i. (suc k ∷ (factors-complete spare true names es rest fit.1 n.2 e i).0, (factors-complete spare true names es rest fit.1 n.2 e i).1))

-- ---- a factor that is read is spelled as it is written
abbrev Spells : VarName → Bool → List ℕ → ℕ → List ℕ → Type 0
Spells name joined text e rest = text ≡ joint_text joined ++ (factor_text name e ++ rest)

behind-sound : (byte : ℕ) (text rest : List ℕ) → behind byte text ≡ Some rest → text ≡ byte ∷ rest
behind-sound byte [] rest e = cc
behind-sound byte (b ∷ text) rest e =
    let g = given (b == byte) text rest e in
    λ i. (let q : b ≡ byte = grind (arith, nat_tests, g.0) in q) i ∷ g.1 i

joint-sound : (joined : Bool) (text rest : List ℕ) → joint_at joined text ≡ Some rest → text ≡ joint_text joined ++ rest
joint-sound true text rest e = behind-sound 42 text rest e
joint-sound false text rest e = cc

-- what an option must have been for a step behind it to give something
numbered-from : (n : ℕ) (r : Option (ℕ × List ℕ)) (rest : List ℕ) → numbered n r ≡ Some rest → r ≡ Some (n, rest)
numbered-from n None rest e = cc
numbered-from n (Some read) rest e =
    let g = given (read.0 == n) read.1 rest e in
    λ i. Some ((let q : read.0 ≡ n = grind (arith, nat_tests, g.0) in q) i, g.1 i)

number-from : (name : VarName) (r : Option (List ℕ)) (rest : List ℕ) → number_of name r ≡ Some rest → (text : List ℕ) × (r ≡ Some text) × (text ≡ decimal (number name) ++ rest)
number-from name None rest e = cc
number-from name (Some text) rest e =
    (text, refl, (number_at-sound MOST_NUMBER text (number name) rest (omega arith) (numbered-from (number name) (number_at MOST_NUMBER text) rest e)).0)

name-sound : (name : VarName) (text rest : List ℕ) → name_at name text ≡ Some rest → text ≡ letter name ∷ decimal (number name) ++ rest
name-sound name text rest e =
    let g = number-from name (behind (letter name) text) rest e in
    behind-sound (letter name) text g.0 g.1 ∙ ap (λ l. letter name ∷ l) g.2

above_one-from : (r : Option (ℕ × List ℕ)) (e : ℕ) (rest : List ℕ) → above_one r ≡ Some (e, rest) → (r ≡ Some (e, rest)) × (1 < e)
above_one-from None e rest is = cc
above_one-from (Some read) e rest is =
    let g = given (nat_lt 1 read.0) read (e, rest) is in
    let large : 1 < read.0 = grind (arith, nat_tests, g.0) in
    (ap Some g.1, subst (λ (x : ℕ × List ℕ). 1 < x.0) g.1 large)

abbrev ExponentSpells : List ℕ → ℕ → List ℕ → Type 0
ExponentSpells text e rest = (text ≡ exponent_text e ++ rest) × (0 < e) × (e ≤ MOST_DEGREE)

exponent-sound : (text : List ℕ) (e : ℕ) (rest : List ℕ) → exponent_at text ≡ Some (e, rest) → ExponentSpells text e rest
exponent-sound [] e rest is = subst (λ (r : ℕ × List ℕ). ExponentSpells [] r.0 r.1) (let q : ◌≡◌ {A = ℕ × List ℕ} (1, []) (e, rest) = cc in q) (refl, omega arith, omega arith)
exponent-sound (b ∷ text) e rest given_text =
    elim (b == 94) as (λ t. (b == 94) ≡ t → cond t (above_one (number_at MOST_DEGREE text)) (Some (1, b ∷ text)) ≡ Some (e, rest) → ExponentSpells (b ∷ text) e rest) [
      | true ↦ λ caret is.
          let g = above_one-from (number_at MOST_DEGREE text) e rest is in
          let n = number_at-sound MOST_DEGREE text e rest (omega arith) g.0 in
          let not_one : (e == 1) ≡ false = grind (arith, nat_tests, g.1) in (
            (λ i. (let q : b ≡ 94 = grind (arith, nat_tests) in q) i ∷ n.0 i) ∙ ap (λ t. cond t [] (94 ∷ decimal e) ++ rest) (sym not_one),
            omega (arith, g.1),
            n.1,
          )
      | false ↦ λ caret is.
          subst (λ (r : ℕ × List ℕ). ExponentSpells (b ∷ text) r.0 r.1) (let q : ◌≡◌ {A = ℕ × List ℕ} (1, b ∷ text) (e, rest) = cc in q) (refl, omega arith, omega arith)
    ] refl given_text

exponent-from : (r : Option (List ℕ)) (read : ℕ × List ℕ) → exponent_behind r ≡ Some read → (text : List ℕ) × (r ≡ Some text) × (exponent_at text ≡ Some read)
exponent-from None read e = cc
exponent-from (Some text) read e = (text, refl, e)

name-from : (name : VarName) (r : Option (List ℕ)) (rest : List ℕ) → name_behind name r ≡ Some rest → (text : List ℕ) × (r ≡ Some text) × (name_at name text ≡ Some rest)
name-from name None rest e = cc
name-from name (Some text) rest e = (text, refl, e)

factor-sound : (name : VarName) (joined : Bool) (text : List ℕ) (e : ℕ) (rest : List ℕ) → factor_at name joined text ≡ Some (e, rest)
    → Spells name joined text e rest × (0 < e) × (e ≤ MOST_DEGREE)
factor-sound name joined text e rest is =
    let g = exponent-from (name_behind name (joint_at joined text)) (e, rest) is in
    let h = name-from name (joint_at joined text) g.0 g.1 in
    let x = exponent-sound g.0 e rest g.2 in (
      joint-sound joined text h.0 h.1
          ∙ ap (λ l. joint_text joined ++ l) (name-sound name h.0 g.0 h.2 ∙ ap (λ l. letter name ∷ decimal (number name) ++ l) x.0 ∙ sym (parts name e rest)),
      x.1,
      x.2,
    )

-- factors that are read are spelled as they are written
pub record FactorsSpell (spare : ℕ) (joined : Bool) (names : List VarName) (text : List ℕ) (read : List ℕ × List ℕ) : Type 0 where
  pub spells : text ≡ factors_text joined names read.0 ++ read.1
  pub fit : FitExponents spare names read.0

factor-more : (spare : ℕ) (name : VarName) (names : List VarName) (joined : Bool) (text : List ℕ) (e : ℕ) (rest : List ℕ) (tail : List ℕ × List ℕ)
    → Spells name joined text e rest → 0 < e → e ≤ MOST_DEGREE → FactorsSpell spare true names rest tail → FactorsSpell spare joined (name ∷ names) text (e ∷ tail.0, tail.1)
factor-more spare name names joined text zero rest tail s some within t = absurd (omega (arith, some))
factor-more spare name names joined text (suc k) rest tail s some within t = record {
  spells = s ∙ ap (λ l. joint_text joined ++ (factor_text name (suc k) ++ l)) t.spells ∙ sym (more name names joined k tail.0 tail.1);
  fit = (within, t.fit);
}

pub factors-sound : (spare : ℕ) (joined : Bool) (names : List VarName) (text : List ℕ) → FactorsSpell spare joined names text (factors_at spare joined names text)
factors-sound spare joined [] text = record { spells = refl; fit = refl }
factors-sound spare joined (name ∷ names) text =
    elim (factor_at name joined text) as (λ r. factor_at name joined text ≡ r → FactorsSpell spare joined (name ∷ names) text (next spare joined name names text r)) [
      | None ↦ λ is.
          let t = factors-sound spare joined names text in
          record { spells = t.spells; fit = (omega arith, t.fit) }
      | Some read ↦ λ is.
          let s = factor-sound name joined text read.0 read.1 is in
          factor-more spare name names joined text read.0 read.1 (factors_at spare true names read.1) s.0 s.1 s.2 (factors-sound spare true names read.1)
    ] refl
