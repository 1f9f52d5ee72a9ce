-- Texts of items that stand one behind the other, each behind a mark, and how they are read from the front.
use Rattle.std.proofs.Common.{◌≡◌, ◌≢◌, ℕ, List, [], ◌∷◌, ◌++◌, refl, sym, ◌∙◌, ap, subst, append_assoc, append-nil}
use Rattle.proof_log.specs.Cuts.{Avoids, EndsAt}
use Rattle.proof_log.proofs.Bytes.{heads, cut}

pub cancel : (p a b : List ℕ) → p ++ a ≡ p ++ b → a ≡ b
cancel [] a b e = e
cancel (x ∷ p) a b e = cancel p a b (heads x x (p ++ a) (p ++ b) e).1

-- How items are written and which may follow: each stands behind a mark and has no stop in it, and a mark begins with
-- the stop.
pub record Items (S A : Type 0) : Type 1 where
  pub stop : ℕ
  pub mark : S → List ℕ
  pub next : S → S
  pub text : A → List ℕ
  pub Fits : S → A → Type 0
  pub Done : S → Type 0
  pub End : List ℕ → Type 0
  pub plain : (s : S) (a : A) → Fits s a → Avoids stop (text a)
  pub same : (s : S) (a b : A) → Fits s a → Fits s b → text a ≡ text b → a ≡ b
  pub opens : (s : S) (x : List ℕ) → EndsAt stop (mark (next s) ++ x)
  pub ends : (x : List ℕ) → End x → EndsAt stop x

module _ {S A : Type 0} (items : Items S A) where
  unfoldable pub All : S → List A → Type 0
  All s [] = items.Done s
  All s (a ∷ xs) = items.Fits s a × All (items.next s) xs

  unfoldable pub text_of : S → List A → List ℕ
  text_of s [] = []
  text_of s (a ∷ xs) = items.mark s ++ (items.text a ++ text_of (items.next s) xs)

  unfoldable pub state : S → List A → S
  state s [] = s
  state s (a ∷ xs) = state (items.next s) xs

  -- what is left of a list of which some were read
  pub record Left (s : S) (done xs : List A) (rest end : List ℕ) : Type 0 where
    pub others : List A
    pub is : xs ≡ done ++ others
    pub fits : All s others
    pub text : rest ≡ text_of s others ++ end

  pub record Going (start s : S) (text rest : List ℕ) (done : List A) : Type 0 where
    pub at : s ≡ state start done
    pub spelled : text ≡ text_of start done ++ rest
    pub fits : (others : List A) → All s others → All start (done ++ others)
    pub only : (xs : List A) (end : List ℕ) → All start xs → items.End end → text ≡ text_of start xs ++ end → Left s done xs rest end

  pub none_read : (start : S) (text : List ℕ) → Going start start text text []
  unfolding text_of state
  none_read start text = record { at = refl; spelled = refl; fits = λ others f. f; only = λ xs end f e t. record { others = xs; is = refl; fits = f; text = t } }

  pub text_snoc : (s : S) (xs : List A) (a : A) → text_of s (xs ++ a ∷ []) ≡ text_of s xs ++ (items.mark (state s xs) ++ items.text a)
  unfolding text_of state
  text_snoc s [] a = ap (λ t. items.mark s ++ t) (append-nil (items.text a))
  text_snoc s (b ∷ xs) a = ap (λ t. items.mark s ++ (items.text b ++ t)) (text_snoc (items.next s) xs a)
      ∙ ap (λ t. items.mark s ++ t) (sym (append_assoc (items.text b) (text_of (items.next s) xs) (items.mark (state (items.next s) xs) ++ items.text a)))
      ∙ sym (append_assoc (items.mark s) (items.text b ++ text_of (items.next s) xs) (items.mark (state (items.next s) xs) ++ items.text a))

  pub state_snoc : (s : S) (xs : List A) (a : A) → state s (xs ++ a ∷ []) ≡ items.next (state s xs)
  unfolding state
  state_snoc s [] a = refl
  state_snoc s (b ∷ xs) a = state_snoc (items.next s) xs a

  ends_behind : (s : S) (xs : List A) (end : List ℕ) → items.End end → EndsAt items.stop (text_of (items.next s) xs ++ end)
  unfolding text_of
  ends_behind s [] end e = items.ends end e
  ends_behind s (a ∷ xs) end e = subst (EndsAt items.stop)
      (sym (append_assoc (items.mark (items.next s)) (items.text a ++ text_of (items.next (items.next s)) xs) end))
      (items.opens s ((items.text a ++ text_of (items.next (items.next s)) xs) ++ end))

  -- the next item of a text that has items
  pub record First (s : S) (others : List A) (rest end : List ℕ) : Type 0 where
    pub first : A
    pub more : List A
    pub is : others ≡ first ∷ more
    pub fits : items.Fits s first
    pub all : All (items.next s) more
    pub text : rest ≡ items.mark s ++ (items.text first ++ (text_of (items.next s) more ++ end))

  first_of : (s : S) (others : List A) (rest end : List ℕ) → (items.Done s → items.End rest → ⊥) → All s others → items.End end → rest ≡ text_of s others ++ end → First s others rest end
  unfolding All text_of
  first_of s [] rest end go f e t = absurd (go f (subst items.End (sym t) e))
  first_of s (a ∷ xs) rest end go f e t = record {
    first = a;
    more = xs;
    is = refl;
    fits = f.0;
    all = f.1;
    text = t ∙ append_assoc (items.mark s) (items.text a ++ text_of (items.next s) xs) end ∙ ap (λ x. items.mark s ++ x) (append_assoc (items.text a) (text_of (items.next s) xs) end);
  }

  -- no mark stands first
  pub no_mark : (start s : S) (text rest : List ℕ) (done : List A) → Going start s text rest done → (items.Done s → items.End rest → ⊥) → ((behind : List ℕ) → rest ≢ items.mark s ++ behind)
      → (xs : List A) (end : List ℕ) → All start xs → items.End end → text ≢ text_of start xs ++ end
  no_mark start s text rest done g go none xs end f e t =
      let a = g.only xs end f e t in
      let b = first_of s a.others rest end go a.fits e a.text in
      none _ b.text

  -- what stands behind the mark, up to the stop
  first_cut : (s : S) (others : List A) (rest behind word next end : List ℕ) → rest ≡ items.mark s ++ behind → behind ≡ word ++ next → Avoids items.stop word → EndsAt items.stop next
      → (b : First s others rest end) → items.End end → (word ≡ items.text b.first) × (next ≡ text_of (items.next s) b.more ++ end)
  first_cut s others rest behind word next end r w v u b e =
      cut items.stop word (items.text b.first) next (text_of (items.next s) b.more ++ end) v (items.plain s b.first b.fits) u (ends_behind s b.more end e)
      (sym w ∙ cancel (items.mark s) behind _ (sym r ∙ b.text))

  -- no item stands behind the mark
  pub no_item : (start s : S) (text rest behind word next : List ℕ) (done : List A) → Going start s text rest done → (items.Done s → items.End rest → ⊥) → rest ≡ items.mark s ++ behind → behind ≡ word ++ next
      → Avoids items.stop word → EndsAt items.stop next → ((a : A) → items.Fits s a → word ≢ items.text a)
      → (xs : List A) (end : List ℕ) → All start xs → items.End end → text ≢ text_of start xs ++ end
  no_item start s text rest behind word next done g go r w v u none xs end f e t =
      let a = g.only xs end f e t in
      let b = first_of s a.others rest end go a.fits e a.text in
      none b.first b.fits (first_cut s a.others rest behind word next end r w v u b e).0

  -- one item more was read
  pub one_more : (start s : S) (text rest behind word next : List ℕ) (done : List A) (a : A) → Going start s text rest done → (items.Done s → items.End rest → ⊥) → rest ≡ items.mark s ++ behind → behind ≡ word ++ next
      → Avoids items.stop word → EndsAt items.stop next → items.Fits s a → word ≡ items.text a → Going start (items.next s) text next (done ++ a ∷ [])
  unfolding All
  one_more start s text rest behind word next done a g go r w v u f t = record {
    at = ap items.next g.at ∙ sym (state_snoc start done a);
    spelled = g.spelled ∙ ap (λ l. text_of start done ++ l) (r ∙ ap (λ l. items.mark s ++ l) (w ∙ ap (λ l. l ++ next) t) ∙ sym (append_assoc (items.mark s) (items.text a) next))
        ∙ sym (append_assoc (text_of start done) (items.mark s ++ items.text a) next)
        ∙ ap (λ l. l ++ next) (ap (λ q. text_of start done ++ (items.mark q ++ items.text a)) g.at ∙ sym (text_snoc start done a));
    fits = λ others h. subst (All start) (sym (append_assoc done (a ∷ []) others)) (g.fits (a ∷ others) (f, h));
    only = λ xs end h e x.
        let l = g.only xs end h e x in
        let b = first_of s l.others rest end go l.fits e l.text in
        let c = first_cut s l.others rest behind word next end r w v u b e in
        let same = items.same s b.first a b.fits f (sym c.0 ∙ t) in
        record { others = b.more; is = l.is ∙ ap (λ o. done ++ o) (b.is ∙ ap (λ o. o ∷ b.more) same) ∙ sym (append_assoc done (a ∷ []) b.more); fits = b.all; text = c.1 };
  }

  -- all were read
  pub all_fit : (start s : S) (text rest : List ℕ) (done : List A) → Going start s text rest done → items.Done s → All start done
  unfolding All
  all_fit start s text rest done g d = subst (All start) (append-nil done) (g.fits [] d)

  pub all_only : (start s : S) (text rest : List ℕ) (done : List A) → Going start s text rest done → ((a : A) → items.Fits s a → (behind : List ℕ) → rest ≢ items.mark s ++ behind)
      → (xs : List A) (end : List ℕ) → All start xs → items.End end → text ≡ text_of start xs ++ end → (done ≡ xs) × (rest ≡ end)
  unfolding All text_of
  all_only start s text rest done g stop xs end f e t = by_others (g.only xs end f e t).others (g.only xs end f e t).is (g.only xs end f e t).fits (g.only xs end f e t).text where
    by_others : (others : List A) → xs ≡ done ++ others → All s others → rest ≡ text_of s others ++ end → (done ≡ xs) × (rest ≡ end)
    by_others [] i a u = (sym (i ∙ append-nil done), u)
    by_others (b ∷ others) i a u = absurd (stop b a.0 _ (u ∙ append_assoc (items.mark s) (items.text b ++ text_of (items.next s) others) end))
