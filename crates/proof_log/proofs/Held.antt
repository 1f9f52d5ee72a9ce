-- Lines that are read one behind the other, and the bytes that are held.
use Rattle.std.proofs.Common.{◌≡◌, ◌≢◌, ℕ, List, [], ◌∷◌, ◌++◌, refl, sym, ◌∙◌, ap, Some, None, append_assoc, append-nil, subst, true}
use Rattle.poly_model.specs.Names.{are_variables}
use Rattle.poly_model.specs.declared.vars.VarName.{VarName}
use Rattle.proof_log.specs.declared.line.LogLine.{LogLine}
use Rattle.proof_log.specs.declared.place.Place.{Place}
use Rattle.proof_log.specs.Settings.{unsettled, is_of, setting_after, setting_behind, AreOf}
use Rattle.proof_log.specs.declared.setting.Setting.{Setting}
use Rattle.proof_log.specs.Grammar.{names_behind, IsUnended, Begins, Refuses}
use Rattle.proof_log.specs.Places.{goes, start, run}
use Rattle.proof_log.specs.Text.{line_text, IsLine, names_after, text_of, AreLines}
use Rattle.proof_log.proofs.Bytes.{cut}
use Rattle.proof_log.proofs.Logs.{front_is, no_front}
use Rattle.proof_log.proofs.OneLine.{one_line}
use Rattle.proof_log.proofs.OneText.{line-plain, names-kept}

-- ---- one line more
pub names_snoc : (names : List VarName) (ls : List LogLine) (l : LogLine) → names_behind names (ls ++ l ∷ []) ≡ names_after (names_behind names ls) l
unfolding names_behind
names_snoc names [] l = refl
names_snoc names (m ∷ ls) l = names_snoc (names_after names m) ls l

text_snoc : (names : List VarName) (ls : List LogLine) (l : LogLine) → text_of names (ls ++ l ∷ []) ≡ text_of names ls ++ (line_text (names_behind names ls) l ++ 10 ∷ [])
unfolding names_behind text_of
text_snoc names [] l = refl
text_snoc names (m ∷ ls) l = ap (λ t. line_text names m ++ 10 ∷ t) (text_snoc (names_after names m) ls l)
    ∙ sym (append_assoc (line_text names m) (10 ∷ text_of (names_after names m) ls) (line_text (names_behind (names_after names m) ls) l ++ 10 ∷ []))

pub lines_snoc : (names : List VarName) (ls : List LogLine) (l : LogLine) → AreLines names ls → IsLine (names_behind names ls) l → AreLines names (ls ++ l ∷ [])
unfolding names_behind AreLines
lines_snoc names [] l a b = (b, tt)
lines_snoc names (m ∷ ls) l a b = (a.0, lines_snoc (names_after names m) ls l a.1 b)

pub setting_snoc : (k : Setting) (ls : List LogLine) (l : LogLine) → setting_behind k (ls ++ l ∷ []) ≡ setting_after (setting_behind k ls) l
unfolding setting_behind
setting_snoc k [] l = refl
setting_snoc k (m ∷ ls) l = setting_snoc (setting_after k m) ls l

pub own_snoc : (k : Setting) (ls : List LogLine) (l : LogLine) → AreOf k ls → is_of (setting_behind k ls) l ≡ true → AreOf k (ls ++ l ∷ [])
unfolding setting_behind AreOf
own_snoc k [] l a b = (b, tt)
own_snoc k (m ∷ ls) l a b = (a.0, own_snoc (setting_after k m) ls l a.1 b)

-- ---- steps of a reader, over plain values
pub next_text : (front : List LogLine) (bytes held : List ℕ) (names : List VarName) (l : LogLine) → bytes ≡ text_of [] front ++ held → names ≡ names_behind [] front → held ≡ line_text names l
    → bytes ++ 10 ∷ [] ≡ text_of [] (front ++ l ∷ []) ++ []
next_text front bytes held names l e n h =
    ap (λ t. t ++ 10 ∷ []) (e ∙ ap (λ t. text_of [] front ++ t) (h ∙ ap (λ v. line_text v l) n))
    ∙ append_assoc (text_of [] front) (line_text (names_behind [] front) l) (10 ∷ []) ∙ sym (text_snoc [] front l) ∙ sym (append-nil _)

-- where nothing is held
pub behind_lines : (front : List LogLine) (bytes held text : List ℕ) → bytes ≡ text_of [] front ++ held → held ≡ [] → bytes ++ text ≡ text_of [] front ++ text
behind_lines front bytes held text e none = ap (λ t. t ++ text) (e ∙ ap (λ h. text_of [] front ++ h) none ∙ append-nil (text_of [] front))

pub begins_with : (front : List LogLine) (bytes held more : List ℕ) (s : Place) → bytes ≡ text_of [] front ++ held → AreLines [] front → AreOf unsettled front → run start front ≡ Some s → Begins front (held ++ more) (bytes ++ more)
begins_with front bytes held more s e lines own r = record {
  lines = lines;
  own = own;
  grammar = front_is s front r;
  text = ap (λ t. t ++ more) e ∙ append_assoc (text_of [] front) held more;
}

pub begins_more : (front : List LogLine) (rest bytes more : List ℕ) → Begins front rest bytes → Begins front (rest ++ more) (bytes ++ more)
begins_more front rest bytes more b = record { lines = b.lines; own = b.own; grammar = b.grammar; text = ap (λ t. t ++ more) b.text ∙ append_assoc (text_of [] front) rest more }

pub refuses_line : (front : List LogLine) (bytes held : List ℕ) (names : List VarName) (k : Setting) (s : Place) → bytes ≡ text_of [] front ++ held → names ≡ names_behind [] front
    → k ≡ setting_behind unsettled front → IsUnended held → AreLines [] front → AreOf unsettled front → run start front ≡ Some s
    → ((l : LogLine) → IsLine names l → is_of k l ≡ true → held ≡ line_text names l → goes s l ≡ None) → Refuses front (bytes ++ 10 ∷ [])
refuses_line front bytes held names k s e n v u lines own r none = record {
  refused = held;
  more = [];
  begins = begins_with front bytes held (10 ∷ []) s e lines own r;
  one_line = u;
  no_line = λ l fits o f h. no_front s front l r (none l (subst (λ v. IsLine v l) (sym n) fits) (ap (λ t. is_of t l) v ∙ o) (h ∙ ap (λ v. line_text v l) (sym n))) f;
}

pub refuses_more : (front : List LogLine) (bytes more : List ℕ) → Refuses front bytes → Refuses front (bytes ++ more)
refuses_more front bytes more r = record {
  refused = r.refused;
  more = r.more ++ more;
  begins = subst (λ t. Begins front t (bytes ++ more)) (append_assoc r.refused (10 ∷ r.more) more) (begins_more front (r.refused ++ 10 ∷ r.more) bytes more r.begins);
  one_line = r.one_line;
  no_line = r.no_line;
}

-- ---- two readings of one text
pub no_cut : (a b x : List ℕ) → IsUnended a → IsUnended b → a ++ 10 ∷ x ≢ b
no_cut [] [] x u v e = cc
no_cut [] (c ∷ b) x u v e = v.0 (let h : 10 ≡ c = cc in sym h)
no_cut (c ∷ a) [] x u v e = cc
no_cut (c ∷ a) (d ∷ b) x u v e = let t : a ++ 10 ∷ x ≡ b = cc in no_cut a b x u.1 v.1 t

-- The lines that bytes begin with, up to a rest that has no LF, are these and no others, and so is the rest.
pub same_lines : (names : List VarName) (a b : List LogLine) (x y : List ℕ) → are_variables names ≡ true → AreLines names a → AreLines names b → IsUnended x → IsUnended y → text_of names a ++ x ≡ text_of names b ++ y → (a ≡ b) × (x ≡ y)
unfolding AreLines text_of
same_lines names [] [] x y v f g u w e = (refl, e)
same_lines names [] (m ∷ b) x y v f g u w e =
    absurd (no_cut (line_text names m) x (text_of (names_after names m) b ++ y) (line-plain names v m g.0) u (sym (append_assoc (line_text names m) (10 ∷ text_of (names_after names m) b) y) ∙ sym e))
same_lines names (l ∷ a) [] x y v f g u w e =
    absurd (no_cut (line_text names l) y (text_of (names_after names l) a ++ x) (line-plain names v l f.0) w (sym (append_assoc (line_text names l) (10 ∷ text_of (names_after names l) a) x) ∙ e))
same_lines names (l ∷ a) (m ∷ b) x y v f g u w e =
    let one = cut 10 (line_text names l) (line_text names m) (10 ∷ (text_of (names_after names l) a ++ x)) (10 ∷ (text_of (names_after names m) b ++ y)) (line-plain names v l f.0) (line-plain names v m g.0) refl refl
    (sym (append_assoc (line_text names l) (10 ∷ text_of (names_after names l) a) x) ∙ e ∙ append_assoc (line_text names m) (10 ∷ text_of (names_after names m) b) y) in
    let same = one_line names l m v f.0 g.0 one.0 in
    let behind : text_of (names_after names l) a ++ x ≡ text_of (names_after names m) b ++ y = (let h = one.1 in cc) in
    let rest = same_lines (names_after names l) a b x y (names-kept names l v f.0) f.1 (subst (λ k. AreLines (names_after names k) b) (sym same) g.1) u w
    (behind ∙ ap (λ k. text_of (names_after names k) b ++ y) (sym same)) in
    (λ i. same i ∷ rest.0 i, rest.1)
