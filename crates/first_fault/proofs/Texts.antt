-- What is found of bytes names their first line with which no text of an accepted log begins.
use Rattle.std.proofs.Common.{◌≡◌, ℕ, List, [], ◌∷◌, ◌++◌, ◌⊎◌, inl, inr, true, refl, sym, ◌∙◌, ap, subst, append_assoc, append-nil, Some}
use Rattle.poly_model.specs.Names.{are_variables}
use Rattle.poly_model.specs.declared.vars.VarName.{VarName}
use Rattle.proof_log.specs.Grammar.{names_behind, Begins, Refuses, EndsEarly}
use Rattle.proof_log.specs.Text.{IsLine, line_text, names_after, text_of, AreLines}
use Rattle.proof_log.specs.declared.line.LineWord.{LineWord}
use Rattle.proof_log.specs.declared.line.LogLine.{LogLine}
use Rattle.proof_log.specs.declared.log.Proof.{Proof}
use Rattle.proof_log.proofs.OneText.{line-plain, names-kept}
use Rattle.log_checker.specs.Answers.{Accepted, Malformed, Rejected, IsAcceptedText, IsMalformed, IsRejected}
use Rattle.log_checker.specs.Fitting.{State, begin, fitted}
use Rattle.log_checker.proofs.Exact.{all_lines, one_finding}
use Rattle.first_fault.specs.FirstFault.{BeginAccepted, AreLetThrough, BeginText, Overfills, IsFirstFault, FaultsAreFirst}
use Rattle.first_fault.proofs.Fronts.{fit-begins, has-room, let-through}

-- ---- texts
text_append : (names : List VarName) (a b : List LogLine) → text_of names (a ++ b) ≡ text_of names a ++ text_of (names_behind names a) b
unfolding text_of names_behind
text_append names [] b = refl
text_append names (l ∷ a) b =
    ap (λ t. line_text names l ++ 10 ∷ t) (text_append (names_after names l) a b)
    ∙ sym (append_assoc (line_text names l) (10 ∷ text_of (names_after names l) a) (text_of (names_behind (names_after names l) a) b))

text_snoc : (front : List LogLine) (l : LogLine) → text_of [] (front ++ l ∷ []) ≡ text_of [] front ++ (line_text (names_behind [] front) l ++ 10 ∷ [])
unfolding text_of
text_snoc front l = text_append [] front (l ∷ [])

variables-behind : (names : List VarName) (a : List LogLine) → are_variables names ≡ true → AreLines names a → are_variables (names_behind names a) ≡ true
unfolding AreLines names_behind
variables-behind names [] v h = v
variables-behind names (l ∷ a) v h = variables-behind (names_after names l) a (names-kept names l v h.0) h.1

last-line : (names : List VarName) (l : LogLine) → AreLines names (l ∷ []) → IsLine names l
unfolding AreLines
last-line names l h = h.0

begins-text : (front : List LogLine) → BeginAccepted front → BeginText (text_of [] front)
begins-text front b = (
  text_of (names_behind [] front) b.more,
  b.log,
  record {
    heading = b.heading;
    stated = b.stated;
    fits = b.fits;
    lines = b.spelled;
    own = b.own;
    text = sym (text_append [] front b.more) ∙ ap (text_of []) (sym b.begins);
    accepted = b.accepted;
  },
)

before-fault : (front : List LogLine) (s : State) → fitted begin front ≡ Some s → AreLetThrough front → BeginText (text_of [] front) ⊎ Overfills front
before-fault front s f w = elim (has-room front w.grammar s s.part) [
  | inl h ↦ inl (begins-text front (fit-begins front w (record { state = s; fit = f; room = h })))
  | inr h ↦ inr (s, f, h)
]

let-in : (front : List LogLine) (rest bytes : List ℕ) → Begins front rest bytes → AreLetThrough front
let-in front rest bytes b = record { spelled = b.lines; own = b.own; grammar = b.grammar }

-- ---- a malformed line
not-malformed : (bytes : List ℕ) (log : List Proof) (n : ℕ) → IsAcceptedText log bytes → IsMalformed n bytes → ⊥
not-malformed bytes log n a m = let e : Accepted log ≡ Malformed n = one_finding bytes (Accepted log) (Malformed n) a m in cc

not-rejected : (bytes : List ℕ) (log : List Proof) (n : ℕ) (w : LineWord) → IsAcceptedText log bytes → IsRejected n w bytes → ⊥
not-rejected bytes log n w a r = let e : Accepted log ≡ Rejected n w = one_finding bytes (Accepted log) (Rejected n w) a r in cc

-- a line and its end, and what stands behind
regroup : (a b c : List ℕ) → (a ++ (b ++ 10 ∷ [])) ++ c ≡ a ++ (b ++ 10 ∷ c)
regroup a b c = append_assoc a (b ++ 10 ∷ []) c ∙ ap (λ t. a ++ t) (append_assoc b (10 ∷ []) c)

refused-first : (n : ℕ) (bytes : List ℕ) (m : IsMalformed n bytes) → Refuses m.front bytes → IsFirstFault n bytes
refused-first n bytes m r = record {
  front = m.front;
  line = r.refused;
  rest = 10 ∷ r.more;
  parts = r.begins.text;
  number = m.number;
  one_line = r.one_line;
  before = before-fault m.front m.state m.fit (let-in m.front _ bytes r.begins);
  none = (
    refl,
    λ b.
        let again : Refuses m.front ((text_of [] m.front ++ (r.refused ++ 10 ∷ [])) ++ b.0) = record {
          refused = r.refused;
          more = b.0;
          begins = record { lines = r.begins.lines; own = r.begins.own; grammar = r.begins.grammar; text = regroup (text_of [] m.front) r.refused b.0 };
          one_line = r.one_line;
          no_line = r.no_line;
        } in
        not-malformed _ b.1 n b.2 (record { front = m.front; state = m.state; fit = m.fit; stops = inl again; number = m.number }),
  );
}

early-first : (n : ℕ) (bytes : List ℕ) (m : IsMalformed n bytes) → EndsEarly m.front bytes → IsFirstFault n bytes
early-first n bytes m e = record {
  front = m.front;
  line = e.rest;
  rest = [];
  parts = e.begins.text ∙ ap (λ t. text_of [] m.front ++ t) (sym (append-nil e.rest));
  number = m.number;
  one_line = e.unended;
  before = before-fault m.front m.state m.fit (let-in m.front _ bytes e.begins);
  none = λ log a. not-malformed bytes log n (subst (IsAcceptedText log) (sym e.begins.text) a) m;
}

malformed-first : (n : ℕ) (bytes : List ℕ) (m : IsMalformed n bytes) → Refuses m.front bytes ⊎ EndsEarly m.front bytes → IsFirstFault n bytes
malformed-first n bytes m (inl r) = refused-first n bytes m r
malformed-first n bytes m (inr e) = early-first n bytes m e

-- ---- a rejected line
rejected-first : (n : ℕ) (w : LineWord) (bytes : List ℕ) → IsRejected n w bytes → IsFirstFault n bytes
rejected-first n w bytes r =
    let names = names_behind [] r.front in
    let text = line_text names r.line in
    let through = let-in (r.front ++ r.line ∷ []) r.rest bytes r.begins in
    let front = let-through r.front r.line through in
    let here = all_lines [] r.front (r.line ∷ []) r.begins.lines in
    record {
      front = r.front;
      line = text;
      rest = 10 ∷ r.rest;
      parts = r.begins.text ∙ ap (λ t. t ++ r.rest) (text_snoc r.front r.line) ∙ regroup (text_of [] r.front) text r.rest;
      number = r.number;
      one_line = line-plain names (variables-behind [] r.front refl front.spelled) r.line (last-line names r.line here);
      before = before-fault r.front r.state r.fit front;
      none = (
        refl,
        λ b.
            let again : IsRejected n w ((text_of [] r.front ++ (text ++ 10 ∷ [])) ++ b.0) = record {
              front = r.front;
              line = r.line;
              rest = b.0;
              state = r.state;
              fit = r.fit;
              begins = record { lines = r.begins.lines; own = r.begins.own; grammar = r.begins.grammar; text = ap (λ t. t ++ b.0) (sym (text_snoc r.front r.line)) };
              misfit = r.misfit;
              number = r.number;
              word = r.word;
            } in
            not-rejected _ b.1 n w b.2 again,
      );
    }

pub faults-are-first : FaultsAreFirst
faults-are-first n bytes = ((λ m. malformed-first n bytes m m.stops), (λ w r. rejected-first n w bytes r))
