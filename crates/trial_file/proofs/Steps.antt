-- The names of a trial's file are resolved.
use Rattle.std.proofs.Common.{◌≡◌, ℕ, zero, suc, ◌+◌, ◌*◌, ◌<◌, ◌≤◌, List, [], ◌∷◌, ◌++◌, length, Some, None, false, Ok, pos, nat_le, refl, arith, lit<, lit≤}
use Rattle.std.proofs.lemmas.Bool.Decides.{nat_tests}
use Rattle.gcl_reader.specs.Spelling.{statement_in}
use Rattle.gcl_reader.specs.Show.{SameOnLines, values_of}
use Rattle.gcl_reader.specs.Table.{parameters_of}
use Rattle.gcl_reader.specs.declared.limits.TheConstants.{UNIT}
use Rattle.gcl_reader.specs.declared.file.Command.{Command}
use Rattle.gcl_reader.specs.declared.word.Range.TheVariants as range
use Rattle.gcl_reader.specs.declared.word.Statement.{Statement}
use Rattle.gcl_reader.specs.declared.word.Statement.TheVariants as statement
use Rattle.gcl_names.specs.Scope.{nothing_defined, meaning_in}
use Rattle.gcl_names.specs.Program.{counted, act_with, act_in, acts_in}
use Rattle.gcl_names.specs.Deed.{deed_of, plain_deed, points_in}
use Rattle.gcl_names.specs.declared.limits.TheConstants.{MOST_PROVES}
use Rattle.gcl_names.specs.declared.meaning.Meaning.TheVariants as meaning
use Rattle.gcl_names.specs.declared.meaning.Ref.{Ref}
use Rattle.gcl_names.specs.declared.meaning.Ref.TheVariants as ref
use Rattle.gcl_names.specs.declared.scope.Scope.{Scope}
use Rattle.gcl_names.specs.declared.program.Deed.{Deed}
use Rattle.gcl_names.specs.declared.program.Deed.TheVariants as deed
use Rattle.gcl_names.specs.declared.program.Act.{Act}
use Rattle.trial_file.specs.Draws.{after_four, choice}
use Rattle.trial_file.specs.Trial.{name_text, steps_of}
use Rattle.trial_file.specs.declared.choice.Construction.{Construction}
use Rattle.trial_file.specs.declared.choice.Construction.TheVariants.{Midpoint, Foot, Translate}
use Rattle.trial_file.specs.declared.choice.Name.TheVariants.{Line}
use Rattle.trial_file.proofs.Looks.{most}
use Rattle.trial_file.proofs.Spelling.{midpoint_of, translate_of, line_of, foot_of, collinear, parallel, free_point, commands_by, steps_commands, trial_commands, chosen-earlier, few-steps}
use Rattle.trial_file.proofs.Scopes.{Ready, Refers, with_point, with_line, nothing-ready, point-ready, line-ready, line-known, line-skipped, prove-ready, no-more, then-point, then-line, then-number, then-new-point, then-new-line}
use Rattle.trial_file.proofs.Layouts.{weight_of, weight_in}

-- ---- the act of a command
-- Whatever command has the word and the values of this one does this, and leaves the scope so.
abbrev Does : Command → Scope → Deed → Scope → Type 0
Does c s d next =
    (e : Command) → e.word ≡ c.word → values_of e ≡ values_of c → act_in e s ≡ Ok (Some (act_with e d), next)

does : (c : Command) (s start next : Scope) (rs : List Ref) (d : Deed) → ((e : Command) → counted e (statement_in c.word) s ≡ Ok start) →
    Refers (parameters_of c.word) (values_of c) start.names false start rs next → deed_of c.word rs ≡ Some d → Does c s d next
unfolding act_in
does c s start next rs d counts refers is e word values = rw (word, counts e, refers e.args values, is) refl

plain-counts : (s : Scope) (e : Command) → counted e None s ≡ Ok s
plain-counts s e = refl

prove-counts : (s : Scope) (t : Statement) (p : ℕ) → s.proves ≡ p → p < MOST_PROVES → (e : Command) → counted e (Some t) s ≡ Ok (record s { proves = s.proves + 1 })
prove-counts s t p is few e =
    let room : nat_le MOST_PROVES s.proves ≡ false = grind (arith, nat_tests, is, few) in
    rw room refl

-- ---- the acts of commands
-- They are resolved, and make at most so many points.
abbrev pub Grows : List Command → Scope → ℕ → Type 0
Grows cs s n = (acts : List Act) × (after : Scope) × (acts_in cs s ≡ Ok (acts, after)) × (weight_in acts ≤ n)

grows-first : (e : Command) (es : List Command) (s next : Scope) (d : Deed) (n m : ℕ) → act_in e s ≡ Ok (Some (act_with e d), next) → weight_of d + n ≤ m →
    Grows es next n → Grows (e ∷ es) s m
unfolding acts_in
grows-first e es s next d n m first light more =
    (act_with e d ∷ more.0, more.1, rw (first, more.2) refl, omega (arith, light, more.3))

command-grows : (c : Command) (cs es : List Command) (line n m : ℕ) (s next : Scope) (d : Deed) → SameOnLines line (c ∷ cs) es → Does c s d next → weight_of d + n ≤ m →
    ((rest : List Command) → SameOnLines (line + 1) cs rest → Grows rest next n) → Grows es s m
command-grows c cs [] line n m s next d same act light more = absurd same
command-grows c cs (e ∷ es) line n m s next d same act light more =
    grows-first e es s next d n m (act e same.0 same.1) light (more es same.3)

no-commands : (es : List Command) (line : ℕ) (s : Scope) → SameOnLines line [] es → Grows es s 0
unfolding acts_in
no-commands [] line s same = ([], s, refl, lit≤ tt)
no-commands (e ∷ es) line s same = absurd same

-- ---- each command
-- The scope with one more prove.
abbrev proved : Scope → Scope
proved s = record s { proves = s.proves + 1 }

free-does : (i j p x y : ℕ) (s : Scope) → i < most → Ready i j p s →
    Does (free_point i x y) s (deed.Point (length s.points) (pos (x * UNIT)) (pos (y * UNIT))) (with_point i s)
unfolding deed_of plain_deed
free-does i j p x y s few r =
    does (free_point i x y) s s (with_point i s) (ref.Point (length s.points) ∷ ref.Number (pos (x * UNIT)) ∷ ref.Number (pos (y * UNIT)) ∷ []) _
    (plain-counts s)
    (then-new-point _ i _ _ _ _ _ _ refl (r.unnamed i (omega arith) few) (omega (arith, r.count, few))
    (then-number range.Any _ _ _ _ _ _ _ _ (then-number range.Any _ _ _ _ _ _ _ _ (no-more _ _ _))))
    refl

midpoint-does : (i j p a b : ℕ) (s : Scope) → i < most → a < i → b < i → Ready i j p s →
    Does (midpoint_of i a b) s (deed.Midpoint (length s.points) a b) (with_point i s)
unfolding deed_of plain_deed
midpoint-does i j p a b s few first second r =
    does (midpoint_of i a b) s s (with_point i s) (ref.Point (length s.points) ∷ ref.Point a ∷ ref.Point b ∷ []) _
    (plain-counts s)
    (then-new-point _ i _ _ _ _ _ _ refl (r.unnamed i (omega arith) few) (omega (arith, r.count, few))
    (then-point _ a _ _ _ _ _ _ (r.points a first) (then-point _ b _ _ _ _ _ _ (r.points b second) (no-more _ _ _))))
    refl

translate-does : (i j p a b c : ℕ) (s : Scope) → i < most → a < i → b < i → c < i → Ready i j p s →
    Does (translate_of i a b c) s (deed.Translate (length s.points) a b c) (with_point i s)
unfolding deed_of plain_deed
translate-does i j p a b c s few first second third r =
    does (translate_of i a b c) s s (with_point i s) (ref.Point (length s.points) ∷ ref.Point a ∷ ref.Point b ∷ ref.Point c ∷ []) _
    (plain-counts s)
    (then-new-point _ i _ _ _ _ _ _ refl (r.unnamed i (omega arith) few) (omega (arith, r.count, few))
    (then-point _ a _ _ _ _ _ _ (r.points a first) (then-point _ b _ _ _ _ _ _ (r.points b second)
    (then-point _ c _ _ _ _ _ _ (r.points c third) (no-more _ _ _)))))
    refl

line-does : (i j p a b : ℕ) (s : Scope) → j < most → a < i → b < i → Ready i j p s →
    Does (line_of j a b) s (deed.Line s.lines a b) (with_line j s)
unfolding deed_of plain_deed
line-does i j p a b s few first second r =
    does (line_of j a b) s s (with_line j s) (ref.Line s.lines ∷ ref.Point a ∷ ref.Point b ∷ []) _
    (plain-counts s)
    (then-new-line _ j _ _ _ _ _ _ refl (r.unlined j (omega arith) few)
    (then-point _ a _ _ _ _ _ _ (r.points a first) (then-point _ b _ _ _ _ _ _ (r.points b second) (no-more _ _ _))))
    refl

foot-does : (i j p c k l : ℕ) (s : Scope) → i < most → c < i → Ready i j p s → meaning_in (name_text (Line k)) s.names ≡ Some (meaning.Line l) →
    Does (foot_of i c k) s (deed.Foot (length s.points) c l) (with_point i s)
unfolding deed_of plain_deed
foot-does i j p c k l s few third r line =
    does (foot_of i c k) s s (with_point i s) (ref.Point (length s.points) ∷ ref.Point c ∷ ref.Line l ∷ []) _
    (plain-counts s)
    (then-new-point _ i _ _ _ _ _ _ refl (r.unnamed i (omega arith) few) (omega (arith, r.count, few))
    (then-point _ c _ _ _ _ _ _ (r.points c third) (then-line _ k l _ _ _ _ _ _ line (no-more _ _ _))))
    refl

collinear-does : (i j p a b c : ℕ) (s : Scope) → p < MOST_PROVES → a < i → b < i → c < i → Ready i j p s →
    Does (collinear a b c) s
    (deed.Prove statement.Collinear (a ∷ b ∷ c ∷ [])) (proved s)
unfolding deed_of points_in
collinear-does i j p a b c s few first second third r =
    does (collinear a b c) s (proved s) (proved s) (ref.Point a ∷ ref.Point b ∷ ref.Point c ∷ []) _
    (prove-counts s statement.Collinear p r.proves few)
    (then-point _ a _ _ _ _ _ _ (r.points a first) (then-point _ b _ _ _ _ _ _ (r.points b second)
    (then-point _ c _ _ _ _ _ _ (r.points c third) (no-more _ _ _))))
    refl

parallel-does : (i j p a b c d : ℕ) (s : Scope) → p < MOST_PROVES → a < i → b < i → c < i → d < i → Ready i j p s →
    Does (parallel a b c d) s
    (deed.Prove statement.Parallel (a ∷ b ∷ c ∷ d ∷ [])) (proved s)
unfolding deed_of points_in
parallel-does i j p a b c d s few first second third fourth r =
    does (parallel a b c d) s (proved s) (proved s) (ref.Point a ∷ ref.Point b ∷ ref.Point c ∷ ref.Point d ∷ []) _
    (prove-counts s statement.Parallel p r.proves few)
    (then-point _ a _ _ _ _ _ _ (r.points a first) (then-point _ b _ _ _ _ _ _ (r.points b second)
    (then-point _ c _ _ _ _ _ _ (r.points c third) (then-point _ d _ _ _ _ _ _ (r.points d fourth) (no-more _ _ _)))))
    refl

-- ---- each construction
-- What comes behind the construction of point i is resolved.
abbrev Behind : ℕ → ℕ → List Command → ℕ → Type 0
Behind i p cs n =
    (line : ℕ) (rest : List Command) (s : Scope) → Ready (i + 1) (i + 1) (p + 1) s → SameOnLines line cs rest → Grows rest s n

made-grows : (c : Construction) (i p a b d line n : ℕ) (s : Scope) (cs es : List Command) → i < most → p < MOST_PROVES → a < i → b < i → d < i → Ready i i p s →
    SameOnLines line (commands_by c i a b d ++ cs) es → Behind i p cs n → Grows es s (1 + n)
made-grows Midpoint i p a b d line n s cs es few proves first second third r same behind =
    let made = point-ready i i p s few r in
    let done = prove-ready (i + 1) (i + 1) p (with_point i s) (line-skipped (i + 1) i p (with_point i s) made) in
    command-grows (midpoint_of i a b) (collinear a b i ∷ cs) es line n (1 + n) s (with_point i s) _ same (midpoint-does i i p a b s few first second r) (omega arith) (λ es2 same2.
    command-grows (collinear a b i) cs es2 (line + 1) n n (with_point i s) (proved (with_point i s)) _ same2
    (collinear-does (i + 1) i p a b i (with_point i s) proves (omega (arith, first)) (omega (arith, second)) (omega arith) made) (omega arith) (λ es3 same3.
    behind (line + 1 + 1) es3 (proved (with_point i s)) done same3))
made-grows Foot i p a b d line n s cs es few proves first second third r same behind =
    let lined = line-ready i i p s few r in
    let known = line-known i i p s few r in
    let t = with_line i s in
    let made = point-ready i (i + 1) p t few lined in
    let done = prove-ready (i + 1) (i + 1) p (with_point i t) made in
    command-grows (line_of i a b) (foot_of i d i ∷ collinear a b i ∷ cs) es line (1 + n) (1 + n) s t _ same (line-does i i p a b s few first second r) (omega arith) (λ es2 same2.
    command-grows (foot_of i d i) (collinear a b i ∷ cs) es2 (line + 1) n (1 + n) t (with_point i t) _ same2 (foot-does i (i + 1) p d i s.lines t few third lined known) (omega arith) (λ es3 same3.
    command-grows (collinear a b i) cs es3 (line + 1 + 1) n n (with_point i t) (proved (with_point i t)) _ same3
    (collinear-does (i + 1) (i + 1) p a b i (with_point i t) proves (omega (arith, first)) (omega (arith, second)) (omega arith) made) (omega arith) (λ es4 same4.
    behind (line + 1 + 1 + 1) es4 (proved (with_point i t)) done same4)))
made-grows Translate i p a b d line n s cs es few proves first second third r same behind =
    let made = point-ready i i p s few r in
    let done = prove-ready (i + 1) (i + 1) p (with_point i s) (line-skipped (i + 1) i p (with_point i s) made) in
    command-grows (translate_of i a b d) (parallel a b d i ∷ cs) es line n (1 + n) s (with_point i s) _ same (translate-does i i p a b d s few first second third r) (omega arith) (λ es2 same2.
    command-grows (parallel a b d i) cs es2 (line + 1) n n (with_point i s) (proved (with_point i s)) _ same2
    (parallel-does (i + 1) i p a b d i (with_point i s) proves (omega (arith, first)) (omega (arith, second)) (omega (arith, third)) (omega arith) made) (omega arith) (λ es3 same3.
    behind (line + 1 + 1) es3 (proved (with_point i s)) done same3))

-- So many constructions, and no more proves than they have.
steps-grow : (n i p state line : ℕ) (s : Scope) (es : List Command) → 0 < i → i + n ≤ most → p + n ≤ MOST_PROVES → Ready i i p s →
    SameOnLines line (steps_commands n i state) es → Grows es s n
unfolding steps_commands
steps-grow zero i p state line s es some few proves r same = no-commands es line s same
steps-grow (suc n) i p state line s es some few proves r same =
    let d = choice i state in
    let e = chosen-earlier i state some in
    let grown : Grows es s (1 + n) = made-grows d.construction i p d.a d.b d.c line n s (steps_commands n (i + 1) (after_four state)) es
    (omega (arith, few)) (omega (arith, proves)) e.first e.second e.third r same
    (λ line rest after ready more. steps-grow n (i + 1) (p + 1) (after_four state) line after rest (omega arith) (omega (arith, few)) (omega (arith, proves)) ready more) in
    (grown.0, grown.1, grown.2, omega (arith, grown.3))

-- The whole file: at most 19 points.
pub trial-grows : (n line : ℕ) (es : List Command) → SameOnLines line (trial_commands n) es → Grows es nothing_defined most
trial-grows n line es same =
    let few = few-steps n in
    let steps = steps_of n in
    let zeroth = point-ready 0 0 0 nothing_defined (lit< tt) nothing-ready in
    let s1 = with_point 0 nothing_defined in
    let first = point-ready 1 0 0 s1 (lit< tt) zeroth in
    let s2 = with_point 1 s1 in
    let second = point-ready 2 0 0 s2 (lit< tt) first in
    let s3 = with_point 2 s2 in
    let third = line-skipped 3 2 0 s3 (line-skipped 3 1 0 s3 (line-skipped 3 0 0 s3 second)) in
    let rest = steps_commands steps 3 n in
    command-grows (free_point 0 0 0) (free_point 1 60 0 ∷ free_point 2 20 50 ∷ rest) es line 18 most nothing_defined s1 _ same (free-does 0 0 0 0 0 nothing_defined (lit< tt) nothing-ready) (lit≤ tt) (λ es1 same1.
    command-grows (free_point 1 60 0) (free_point 2 20 50 ∷ rest) es1 (line + 1) 17 18 s1 s2 _ same1 (free-does 1 0 0 60 0 s1 (lit< tt) zeroth) (lit≤ tt) (λ es2 same2.
    command-grows (free_point 2 20 50) rest es2 (line + 1 + 1) 16 17 s2 s3 _ same2 (free-does 2 0 0 20 50 s2 (lit< tt) first) (lit≤ tt) (λ es3 same3.
    let grown = steps-grow steps 3 0 n (line + 1 + 1 + 1) s3 es3 (lit< tt) (omega (arith, few)) (omega (arith, few)) third same3 in
    (grown.0, grown.1, grown.2, omega (arith, few, grown.3)))))
