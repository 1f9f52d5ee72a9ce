-- Of no bytes two things are found.
use Rattle.std.proofs.Common.{◌≡◌, ◌≢◌, ℕ, ◌+◌, List, [], ◌∷◌, ◌++◌, length, refl, sym, ◌∙◌, ap, arith, Option, Some, None, append_assoc, append-nil, subst, length-append, inl, inr, ◌⊎◌, true, IsTrue}
use Rattle.poly_model.specs.Names.{are_variables}
use Rattle.poly_model.specs.declared.vars.VarName.{VarName}
use Rattle.proof_log.specs.Grammar.{IsFront, IsUnended, Begins, Refuses, EndsEarly, names_behind}
use Rattle.proof_log.specs.Lines.{log_lines}
use Rattle.proof_log.specs.Settings.{unsettled, is_of, setting_after, setting_behind, AreOf}
use Rattle.proof_log.specs.declared.setting.Setting.{Setting}
use Rattle.proof_log.specs.Text.{row_of, line_text, names_after, text_of, AreLines}
use Rattle.proof_log.specs.declared.line.LogLine.{LogLine}
use Rattle.proof_log.specs.declared.line.LineWord.{LineWord}
use Rattle.proof_log.specs.declared.log.Proof.{Proof}
use Rattle.proof_log.proofs.Bytes.{cut, heads}
use Rattle.proof_log.proofs.OneLine.{one_line}
use Rattle.proof_log.proofs.OneText.{line-plain, names-kept, one_log_text}
use Rattle.log_checker.specs.Answers.{Finding, Accepted, Malformed, Rejected, IsFound, IsAcceptedText, IsMalformed, IsRejected}
use Rattle.log_checker.specs.Fitting.{State, begin, after, fitted}
use Rattle.log_checker.proofs.Fits.{log_goes}

-- ---- two lists of lines in one text
-- One goes on where the other ends.
pub record Longer (names : List VarName) (a b : List LogLine) (x y : List ℕ) : Type 0 where
  pub more : List LogLine
  pub is : b ≡ a ++ more
  pub rest : x ≡ text_of (names_behind names a) more ++ y

grow : (names : List VarName) (l : LogLine) (a b : List LogLine) (x y : List ℕ) → Longer (names_after names l) a b x y → Longer names (l ∷ a) (l ∷ b) x y
unfolding names_behind
grow names l a b x y r = record { more = r.more; is = ap (λ t. l ∷ t) r.is; rest = r.rest }

same_cut : (a b x y : List ℕ) → IsUnended a → IsUnended b → a ++ 10 ∷ x ≡ b ++ 10 ∷ y → (a ≡ b) × (x ≡ y)
same_cut a b x y u v e = let h = cut 10 a b (10 ∷ x) (10 ∷ y) u v refl refl e in (h.0, (heads 10 10 x y h.1).1)

pub compare : (names : List VarName) (a b : List LogLine) (x y : List ℕ) → are_variables names ≡ true → AreLines names a → AreLines names b → text_of names a ++ x ≡ text_of names b ++ y
    → Longer names a b x y ⊎ Longer names b a y x
unfolding AreLines text_of names_behind
compare names [] b x y v f g e = inl (record { more = b; is = refl; rest = e })
compare names (l ∷ a) [] x y v f g e = inr (record { more = l ∷ a; is = refl; rest = sym e })
compare names (l ∷ a) (m ∷ b) x y v f g e =
    let cuts = same_cut (line_text names l) (line_text names m) (text_of (names_after names l) a ++ x) (text_of (names_after names m) b ++ y) (line-plain names v l f.0) (line-plain names v m g.0)
    (sym (append_assoc (line_text names l) (10 ∷ text_of (names_after names l) a) x) ∙ e ∙ append_assoc (line_text names m) (10 ∷ text_of (names_after names m) b) y) in
    let same = one_line names l m v f.0 g.0 cuts.0 in
    elim (compare (names_after names l) a b x y (names-kept names l v f.0) f.1 (subst (λ k. AreLines (names_after names k) b) (sym same) g.1) (cuts.1 ∙ ap (λ k. text_of (names_after names k) b ++ y) (sym same))) [
      | inl r ↦ inl (subst (λ k. Longer names (l ∷ a) (k ∷ b) x y) same (grow names l a b x y r))
      | inr r ↦ inr (subst (λ k. Longer names (k ∷ b) (l ∷ a) y x) same (grow names l b a y x r))
    ]

begins_two : (a b : List LogLine) (x y bytes : List ℕ) → Begins a x bytes → Begins b y bytes → Longer [] a b x y ⊎ Longer [] b a y x
begins_two a b x y bytes f g = compare [] a b x y refl f.lines g.lines (sym f.text ∙ g.text)

-- ---- behind a malformed line nothing goes on
abbrev Stops : List LogLine → List ℕ → Type 0
Stops front bytes = Refuses front bytes ⊎ EndsEarly front bytes

abbrev rest_of : (front : List LogLine) (bytes : List ℕ) → Stops front bytes → List ℕ
rest_of front bytes (inl r) = r.refused ++ 10 ∷ r.more
rest_of front bytes (inr r) = r.rest

stop_begins : (front : List LogLine) (bytes : List ℕ) (s : Stops front bytes) → Begins front (rest_of front bytes s) bytes
stop_begins front bytes (inl r) = r.begins
stop_begins front bytes (inr r) = r.begins

pub all_lines : (names : List VarName) (a b : List LogLine) → AreLines names (a ++ b) → AreLines (names_behind names a) b
unfolding AreLines names_behind
all_lines names [] b h = h
all_lines names (l ∷ a) b h = all_lines (names_after names l) a b h.1

all_own : (k : Setting) (a b : List LogLine) → AreOf k (a ++ b) → AreOf (setting_behind k a) b
unfolding AreOf setting_behind
all_own k [] b h = h
all_own k (l ∷ a) b h = all_own (setting_after k l) a b h.1

names_all : (names : List VarName) (a : List LogLine) → are_variables names ≡ true → AreLines names a → are_variables (names_behind names a) ≡ true
unfolding AreLines names_behind
names_all names [] v h = v
names_all names (l ∷ a) v h = names_all (names_after names l) a (names-kept names l v h.0) h.1

no_cut : (a b x : List ℕ) → IsUnended a → IsUnended b → a ++ 10 ∷ x ≢ b
no_cut [] [] x u v e = cc
no_cut [] (c ∷ b) x u v e = v.0 (let h : 10 ≡ c = cc in sym h)
no_cut (c ∷ a) [] x u v e = cc
no_cut (c ∷ a) (d ∷ b) x u v e = let t : a ++ 10 ∷ x ≡ b = cc in no_cut a b x u.1 v.1 t

no_more : (front b : List LogLine) (l : LogLine) (more : List LogLine) (y bytes : List ℕ) (s : Stops front bytes) → Begins b y bytes → b ≡ front ++ l ∷ more
    → rest_of front bytes s ≡ text_of (names_behind [] front) (l ∷ more) ++ y → ⊥
unfolding text_of AreLines AreOf
no_more front b l more y bytes s g e f = by_stop s f where
  names : List VarName
  names = names_behind [] front

  fits : AreLines names (l ∷ more)
  fits = all_lines [] front (l ∷ more) (subst (AreLines []) e g.lines)

  own : IsTrue (is_of (setting_behind unsettled front) l)
  own = (all_own unsettled front (l ∷ more) (subst (AreOf unsettled) e g.own)).0

  v : are_variables names ≡ true
  v = names_all [] front refl (stop_begins front bytes s).lines

  tail : List ℕ
  tail = text_of (names_after names l) more ++ y

  first : IsFront (front ++ l ∷ [])
  first = record {
    heading = g.grammar.heading;
    log = g.grammar.log;
    fits = g.grammar.fits;
    more = more ++ g.grammar.more;
    begins = g.grammar.begins ∙ ap (λ t. t ++ g.grammar.more) (e ∙ sym (append_assoc front (l ∷ []) more)) ∙ append_assoc (front ++ l ∷ []) more g.grammar.more;
  }

  by_stop : (t : Stops front bytes) → rest_of front bytes t ≡ text_of names (l ∷ more) ++ y → ⊥
  by_stop (inl r) h =
      r.no_line l fits.0 own first (same_cut r.refused (line_text names l) r.more tail r.one_line (line-plain names v l fits.0) (h ∙ append_assoc (line_text names l) (10 ∷ text_of (names_after names l) more) y)).0
  by_stop (inr r) h = no_cut (line_text names l) r.rest tail (line-plain names v l fits.0) r.unended (sym (h ∙ append_assoc (line_text names l) (10 ∷ text_of (names_after names l) more) y))

-- so whatever else the bytes begin with is a front of what stands before the malformed line
within : (front b : List LogLine) (y bytes : List ℕ) (s : Stops front bytes) → Begins b y bytes → Longer [] b front y (rest_of front bytes s)
unfolding text_of
within front b y bytes s g = elim (begins_two front b (rest_of front bytes s) y bytes (stop_begins front bytes s) g) [
  | inr r ↦ r
  | inl r ↦ none_more r r.more refl
] where
  none_more : (r : Longer [] front b (rest_of front bytes s) y) (m : List LogLine) → r.more ≡ m → Longer [] b front y (rest_of front bytes s)
  none_more r [] e =
      let same : b ≡ front = r.is ∙ ap (λ t. front ++ t) e ∙ append-nil front in
      record { more = []; is = sym same ∙ sym (append-nil b); rest = sym (r.rest ∙ ap (λ t. text_of (names_behind [] front) t ++ y) e) }
  none_more r (l ∷ m) e = absurd (no_more front b l m y bytes s g (r.is ∙ ap (λ t. front ++ t) e) (r.rest ∙ ap (λ t. text_of (names_behind [] front) t ++ y) e))

-- ---- a front of lines that fit has no misfit
fitted_append : (s t : State) (a b : List LogLine) → fitted s a ≡ Some t → fitted s (a ++ b) ≡ fitted t b
unfolding fitted
fitted_append s t [] b e = ap (λ (o : Option State). elim o [ None ↦ fitted s b | Some u ↦ fitted u b ]) e
fitted_append s t (l ∷ a) b e = by (after s l) (λ u. fitted_append u t a b) e where
  by : (o : Option State) → ((u : State) → fitted u a ≡ Some t → fitted u (a ++ b) ≡ fitted t b)
      → ◌≡◌ {A = Option State} (elim o [ None ↦ None | Some u ↦ fitted u a ]) (Some t)
      → ◌≡◌ {A = Option State} (elim o [ None ↦ None | Some u ↦ fitted u (a ++ b) ]) (fitted t b)
  by None next h = cc
  by (Some u) next h = next u h

misfit_within : (a more : List LogLine) (l : LogLine) (s t : State) (ls : List LogLine) → fitted begin a ≡ Some s → after s l ≡ None → ls ≡ (a ++ l ∷ []) ++ more → fitted begin ls ≡ Some t → ⊥
unfolding fitted
misfit_within a more l s t ls fit none e f =
    let h : fitted begin ((a ++ l ∷ []) ++ more) ≡ None = ap (fitted begin) (append_assoc a (l ∷ []) more) ∙ fitted_append begin s a (l ∷ more) fit
    ∙ ap (λ (o : Option State). elim o as (λ _. Option State) [ None ↦ None | Some u ↦ fitted u more ]) none in
    let g : ◌≡◌ {A = Option State} None (Some t) = sym h ∙ ap (fitted begin) (sym e) ∙ f in cc

-- ---- two findings
two_malformed : (bytes : List ℕ) (n m : ℕ) → IsMalformed n bytes → IsMalformed m bytes → n ≡ m
two_malformed bytes n m a b =
    let p = within a.front b.front (rest_of b.front bytes b.stops) bytes a.stops (stop_begins b.front bytes b.stops) in
    let q = within b.front a.front (rest_of a.front bytes a.stops) bytes b.stops (stop_begins a.front bytes a.stops) in
    let i = ap length p.is in
    let j = ap length q.is in
    let k = length-append b.front p.more in
    let l = length-append a.front q.more in
    let c = a.number in
    let d = b.number in
    omega (arith, i, j, k, l, c, d)

malformed_rejected : (bytes : List ℕ) (n m : ℕ) (w : LineWord) → IsMalformed n bytes → IsRejected m w bytes → ⊥
malformed_rejected bytes n m w a b =
    let p = within a.front (b.front ++ b.line ∷ []) b.rest bytes a.stops b.begins in
    misfit_within b.front p.more b.line b.state a.state a.front b.fit b.misfit p.is a.fit

whole_begins : (bytes : List ℕ) (log : List Proof) (t : IsAcceptedText log bytes) → Begins (log_lines t.heading log) [] bytes
whole_begins bytes log t = record {
  lines = t.lines;
  own = t.own;
  grammar = record { heading = t.heading; log = log; fits = t.fits; more = []; begins = sym (append-nil (log_lines t.heading log)) };
  text = t.text ∙ sym (append-nil (text_of [] (log_lines t.heading log)));
}

nothing_behind : (names : List VarName) (more : List LogLine) (y : List ℕ) → ◌≡◌ {A = List ℕ} [] (text_of names more ++ y) → (more ≡ []) × (y ≡ [])
unfolding text_of
nothing_behind names [] y e = (refl, sym e)
nothing_behind names (l ∷ more) y e =
    absurd (let h = ap length e in let a = length-append (line_text names l ++ 10 ∷ text_of (names_after names l) more) y in let b = length-append (line_text names l) (10 ∷ text_of (names_after names l) more) in omega (arith, h, a, b))

accepted_malformed : (bytes : List ℕ) (log : List Proof) (n : ℕ) → IsAcceptedText log bytes → IsMalformed n bytes → ⊥
accepted_malformed bytes log n t a = by_stop a.stops (within a.front (log_lines t.heading log) [] bytes a.stops (whole_begins bytes log t)) where
  by_stop : (s : Stops a.front bytes) → Longer [] (log_lines t.heading log) a.front [] (rest_of a.front bytes s) → ⊥
  by_stop (inl r) p =
      let q = nothing_behind (names_behind [] (log_lines t.heading log)) p.more (r.refused ++ 10 ∷ r.more) p.rest in
      let h = ap length q.1 in let k = length-append r.refused (10 ∷ r.more) in absurd (omega (arith, h, k))
  by_stop (inr r) p =
      let q = nothing_behind (names_behind [] (log_lines t.heading log)) p.more r.rest p.rest in
      r.early q.1 (record { heading = t.heading; log = log; fits = t.fits; whole = p.is ∙ ap (λ l. log_lines t.heading log ++ l) q.0 ∙ append-nil (log_lines t.heading log) })

accepted_rejected : (bytes : List ℕ) (log : List Proof) (n : ℕ) (w : LineWord) → IsAcceptedText log bytes → IsRejected n w bytes → ⊥
accepted_rejected bytes log n w t b =
    let goes = log_goes t.heading log t.stated t.accepted in
    elim (begins_two (b.front ++ b.line ∷ []) (log_lines t.heading log) b.rest [] bytes b.begins (whole_begins bytes log t)) [
      | inl r ↦ misfit_within b.front r.more b.line b.state goes.0 (log_lines t.heading log) b.fit b.misfit r.is goes.1
      | inr r ↦ let q = nothing_behind (names_behind [] (log_lines t.heading log)) r.more b.rest r.rest in
          misfit_within b.front [] b.line b.state goes.0 (log_lines t.heading log) b.fit b.misfit
          (sym (r.is ∙ ap (λ l. log_lines t.heading log ++ l) q.0 ∙ append-nil (log_lines t.heading log)) ∙ sym (append-nil (b.front ++ b.line ∷ []))) goes.1
    ]

snoc_same : (a b : List LogLine) (l m : LogLine) → a ++ l ∷ [] ≡ b ++ m ∷ [] → (a ≡ b) × (l ≡ m)
snoc_same [] [] l m e = (refl, cc)
snoc_same [] (c ∷ b) l m e = absurd (let h = ap length e in let k = length-append b (m ∷ []) in omega (arith, h, k))
snoc_same (c ∷ a) [] l m e = absurd (let h = ap length e in let k = length-append a (l ∷ []) in omega (arith, h, k))
snoc_same (c ∷ a) (d ∷ b) l m e = let h : c ≡ d = cc in let t : a ++ l ∷ [] ≡ b ++ m ∷ [] = cc in let r = snoc_same a b l m t in ((λ i. h i ∷ r.0 i), r.1)

last_of : (more : List LogLine) → more ≢ [] → (before : List LogLine) × (m : LogLine) × (more ≡ before ++ m ∷ [])
last_of [] h = absurd (h refl)
last_of (l ∷ []) h = ([], l, refl)
last_of (l ∷ m ∷ more) h = let r = last_of (m ∷ more) (λ e. cc) in (l ∷ r.0, r.1, ap (λ t. l ∷ t) r.2)

rejected_longer : (bytes : List ℕ) (n m : ℕ) (w v : LineWord) (a : IsRejected n w bytes) (b : IsRejected m v bytes) (more : List LogLine)
    → b.front ++ b.line ∷ [] ≡ (a.front ++ a.line ∷ []) ++ more → (n ≡ m) × (w ≡ v)
rejected_longer bytes n m w v a b [] e =
    let r = snoc_same b.front a.front b.line a.line (e ∙ append-nil (a.front ++ a.line ∷ [])) in
    (a.number ∙ ap (λ l. length l + 1) (sym r.0) ∙ sym b.number, a.word ∙ ap (λ l. (row_of l).word) (sym r.1) ∙ sym b.word)
rejected_longer bytes n m w v a b (l ∷ more) e =
    let r = last_of (l ∷ more) (λ h. cc) in
    let s = snoc_same b.front ((a.front ++ a.line ∷ []) ++ r.0) b.line r.1
    (e ∙ ap (λ t. (a.front ++ a.line ∷ []) ++ t) r.2 ∙ sym (append_assoc (a.front ++ a.line ∷ []) r.0 (r.1 ∷ []))) in
    absurd (misfit_within a.front r.0 a.line a.state b.state b.front a.fit a.misfit s.0 b.fit)

two_rejected : (bytes : List ℕ) (n m : ℕ) (w v : LineWord) → IsRejected n w bytes → IsRejected m v bytes → (n ≡ m) × (w ≡ v)
two_rejected bytes n m w v a b = elim (begins_two (a.front ++ a.line ∷ []) (b.front ++ b.line ∷ []) a.rest b.rest bytes a.begins b.begins) [
  | inl r ↦ rejected_longer bytes n m w v a b r.more r.is
  | inr r ↦ let q = rejected_longer bytes m n v w b a r.more r.is in (sym q.0, sym q.1)
]

pub one_finding : (bytes : List ℕ) (x y : Finding) → IsFound x bytes → IsFound y bytes → x ≡ y
one_finding bytes (Accepted ps) (Accepted qs) a b =
    ap Accepted (one_log_text a.heading b.heading ps qs a.stated b.stated a.fits.written b.fits.written a.lines b.lines (sym a.text ∙ b.text)).1
one_finding bytes (Accepted ps) (Malformed n) a b = absurd (accepted_malformed bytes ps n a b)
one_finding bytes (Accepted ps) (Rejected n w) a b = absurd (accepted_rejected bytes ps n w a b)
one_finding bytes (Malformed n) (Accepted qs) a b = absurd (accepted_malformed bytes qs n b a)
one_finding bytes (Malformed n) (Malformed m) a b = ap Malformed (two_malformed bytes n m a b)
one_finding bytes (Malformed n) (Rejected m w) a b = absurd (malformed_rejected bytes n m w a b)
one_finding bytes (Rejected n w) (Accepted qs) a b = absurd (accepted_rejected bytes qs n w b a)
one_finding bytes (Rejected n w) (Malformed m) a b = absurd (malformed_rejected bytes m n w b a)
one_finding bytes (Rejected n w) (Rejected m v) a b = let r = two_rejected bytes n m w v a b in λ i. Rejected (r.0 i) (r.1 i)
