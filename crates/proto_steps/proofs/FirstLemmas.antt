-- What is read of tokens doesn't rest on what is behind the next one; so a fault is the first.
use Rattle.std.proofs.Common.{◌≡◌, ℕ, ◌+◌, ◌<◌, ◌≤◌, Bool, List, [], ◌∷◌, ◌++◌, length}
use Rattle.std.proofs.Common.{inl, inr, refl, sym, ap, subst, ◌∙◌, arith}
use Rattle.std.proofs.lemmas.Bool.{le-ltb, ltb-false}
use Rattle.std.proofs.lemmas.List.{length-append}
use Rattle.proto_grammar.specs.declared.fault.SyntaxFault.{SyntaxFault}
use Rattle.proto_grammar.specs.declared.fault.SyntaxFault.TheVariants.{Grammar}
use Rattle.proto_grammar.specs.Lexeme.{Lexeme, place_of}
use Rattle.proto_grammar.specs.Terminal.{first_is, offset_at}
use Rattle.proto_steps.specs.Step.{Step, Done, Never, Take, Peek, Then, If, While, Count, Kept}
use Rattle.proto_steps.specs.Step.{Derives, Refused, Turns, Counts, Breaks, Lacks, wrong_at}
use Rattle.proto_steps.specs.Step.Turns.{ended, turn}
use Rattle.proto_steps.specs.Step.Counts.{at_zero, past}
use Rattle.proto_steps.specs.Step.Breaks.{here, idle, later}
use Rattle.proto_steps.specs.Step.Lacks.{at_end, beyond}
use Rattle.proto_steps.specs.Lawful.{DerivesOrRefused, FirstFault}
use Rattle.proto_steps.proofs.StepLaws.{IsTaken, both_taken, turns_taken, count_taken, taken, one_of_both, not_both}
use Rattle.proto_steps.proofs.StepLaws.{one_fault}

-- ---- what is left where a fault is met

pub less_of : {a b : List Lexeme} → IsTaken a b → length b ≤ length a
less_of {a} {b} f = omega (arith, length-append f.0 b, ap length f.1)

pub breaks_stay : {S : Type 0} {goes : Lexeme → Bool} {One : S → List Lexeme → S → List Lexeme → Type 0}
    {Fault : S → List Lexeme → SyntaxFault → List Lexeme → Type 0} {end : ℕ}
    → ((s : S) (a b : List Lexeme) (t : S) → One s a t b → IsTaken a b)
    → ((s : S) (a : List Lexeme) (e : SyntaxFault) (l : List Lexeme) → Fault s a e l → IsTaken a l)
    → {s : S} {a l : List Lexeme} {e : SyntaxFault} → Breaks goes One Fault end s a e l → IsTaken a l
breaks_stay g h (here {s = s} {a = a} {l = l} {e = e} c r) = h s a e l r
breaks_stay g h (idle c d n) = ([], refl)
breaks_stay g h (later {s = s} {t = t} {a = a} {b = b} c d n r) = both_taken (g s a b t d) (breaks_stay g h r)

lacks_stay : {next : Lexeme → ℕ → ℕ} {n : ℕ} {a : List Lexeme} → Lacks next n a → IsTaken a []
lacks_stay at_end = ([], refl)
lacks_stay (beyond {t = t} d) = let f = lacks_stay d in (t ∷ f.0, ap (λ z. t ∷ z) f.1)

pub stays : {A : Type 0} (p : Step A) (end : ℕ) (a : List Lexeme) (e : SyntaxFault) (l : List Lexeme)
    → Refused p end a e l → IsTaken a l
stays (Done v) end a e l r = absurd r
stays (Never fault) end a e l r = ([], sym r.0)
stays (Take terminal) end a e l r = ([], sym r.1)
stays (Peek example next) end a e l (inl r) = ([], r.0 ∙ sym r.1)
stays (Peek example next) end a e l (inr r) = stays (next r.0) end a e l r.3
stays (Then p next) end a e l (inl r) = stays p end a e l r
stays (Then p next) end a e l (inr r) = both_taken (taken p a r.1 r.0 r.2) (stays (next r.0) end r.1 e l r.3)
stays (If test p q) end a e l (inl r) = stays p end a e l r.1
stays (If test p q) end a e l (inr r) = stays q end a e l r.1
stays (While goes step s) end a e l r = breaks_stay (λ u. taken (step u)) (λ u. stays (step u) end) r
stays (Count example next n) end a e l r =
    let f = lacks_stay r.0 in (f.0, subst (λ z. a ≡ f.0 ++ z) (sym r.1) f.1)
stays (Kept p) end a e l r = stays p end a e l r

-- ---- two texts that differ behind a token

module _ (t : Lexeme) (b c : List Lexeme) where
  pub data Like : List Lexeme → List Lexeme → Type 0 where
    at : Like (t ∷ b) (t ∷ c)
    before : {u : Lexeme} {l m : List Lexeme} → Like l m → Like (u ∷ l) (u ∷ m)

  pub like_front : (front : List Lexeme) → Like (front ++ t ∷ b) (front ++ t ∷ c)
  like_front [] = at
  like_front (u ∷ front) = before (like_front front)

  like_lengths : {l m : List Lexeme} → Like l m → length l + length c ≡ length m + length b
  like_lengths at = omega arith
  like_lengths (before h) = omega (arith, like_lengths h)

  like_longer : {l m : List Lexeme} → Like l m → length b < length l
  like_longer at = omega arith
  like_longer (before h) = omega (arith, like_longer h)

  pub like_first : (test : Lexeme → Bool) {l m : List Lexeme} → Like l m → first_is test l ≡ first_is test m
  like_first test at = refl
  like_first test (before h) = refl

  like_offset : (end : ℕ) {l m : List Lexeme} → Like l m → offset_at (place_of end l) ≡ offset_at (place_of end m)
  like_offset end at = refl
  like_offset end (before h) = refl

  -- where the one is at the token, the other is
  like_here : {l m : List Lexeme} → Like l m → t ∷ b ≡ l → t ∷ c ≡ m
  like_here at e = refl
  like_here (before h) e = absurd (omega (arith, like_longer h, ap length e))

  pub like_only : {k l m n : List Lexeme} → Like k m → Like l n → k ≡ l → m ≡ n
  like_only at at e = refl
  like_only at (before h) e = absurd (omega (arith, like_longer h, ap length e))
  like_only (before h) at e = absurd (omega (arith, like_longer h, ap length e))
  like_only (before {u = u} {l = k} {m = m} h) (before {u = v} {l = l} {m = n} g) e =
      let heads : u ≡ v = cc in
      let tails : k ≡ l = cc in
      ap (λ z. z ∷ m) heads ∙ ap (λ z. v ∷ z) (like_only h g tails)

  pub like_head : {l m : List Lexeme} → Like l m → (u : Lexeme) (r : List Lexeme) → l ≡ u ∷ r
      → (s : List Lexeme) × (m ≡ u ∷ s)
  like_head at u r e = let same : t ≡ u = cc in (c, ap (λ z. z ∷ c) same)
  like_head (before {u = v} {m = m} h) u r e = let same : v ≡ u = cc in (m, ap (λ z. z ∷ m) same)

  like_tail : {l m : List Lexeme} → Like l m → (u : Lexeme) (r : List Lexeme) → l ≡ u ∷ r → length b < length r
      → (s : List Lexeme) × (m ≡ u ∷ s) × Like r s
  like_tail at u r e n = absurd (omega (arith, n, ap length e))
  like_tail (before {u = v} {l = l} {m = m} h) u r e n =
      let same : v ≡ u = cc in
      let tails : l ≡ r = cc in
      (m, ap (λ z. z ∷ m) same, subst (λ z. Like z m) tails h)

  -- what is in front of alike texts is the same
  like_same : (front : List Lexeme) {l m r s : List Lexeme} → l ≡ front ++ r → Like l m → Like r s → m ≡ front ++ s
  like_same [] e h g = like_only h g e
  like_same (u ∷ front) {l} {m} {r} {s} e h g =
      let n : length b < length (front ++ r) = omega (arith, like_longer g, length-append front r) in
      let f = like_tail h u (front ++ r) e n in
      f.1 ∙ ap (λ z. u ∷ z) (like_same front refl f.2 g)

  -- ---- what is read up to the token is read of both

  turns_keep : {S : Type 0} {goes : Lexeme → Bool} {One : S → List Lexeme → S → List Lexeme → Type 0}
      → ((s : S) (l m r : List Lexeme) (x : S) → Like l m → One s l x r → length b < length r
      → (o : List Lexeme) × One s m x o × Like r o)
      → ((s : S) (l r : List Lexeme) (x : S) → One s l x r → IsTaken l r)
      → {s x : S} {l r : List Lexeme} (m : List Lexeme) → Turns goes One s l x r → Like l m → length b < length r
      → (o : List Lexeme) × Turns goes One s m x o × Like r o
  turns_keep {goes = goes} h g m (ended e) like n = (m, ended (sym (like_first goes like) ∙ e), like)
  turns_keep {goes = goes} h g m (turn {s = s} {t = x} {a = a} {b = d} e one less r) like n =
      let f = h s a m d x like one (omega (arith, n, less_of (turns_taken g r))) in
      let o = turns_keep h g f.0 r f.2 n in
      let shorter : length f.0 < length m = omega (arith, less, like_lengths like, like_lengths f.2) in
      (o.0, turn (sym (like_first goes like) ∙ e) f.1 shorter o.1, o.2)

  count_keep : {next : Lexeme → ℕ → ℕ} {n : ℕ} {l r : List Lexeme} (m : List Lexeme) → Counts next n l r → Like l m
      → length b < length r → (o : List Lexeme) × Counts next n m o × Like r o
  count_keep m at_zero like n = (m, at_zero, like)
  count_keep m (past d) at n = absurd (omega (arith, n, less_of (count_taken d)))
  count_keep m (past d) (before {m = o} h) n = let f = count_keep o d h n in (f.0, past f.1, f.2)

  pub keeps : {A : Type 0} (p : Step A) (l m r : List Lexeme) (x : A) → Like l m → Derives p l x r
      → length b < length r → (s : List Lexeme) × Derives p m x s × Like r s
  keeps (Done v) l m r x like d n = (m, (d.0, refl), subst (λ z. Like z m) (sym d.1) like)
  keeps (Never fault) l m r x like d n = absurd d
  keeps (Take terminal) l m r x like d n =
      let f = like_tail like d.0 r d.1 n in (f.0, (d.0, f.1, d.2, d.3), f.2)
  keeps (Peek example next) l m r x like d n =
      let f = like_head like d.0 d.1 d.2 in
      let g = keeps (next d.0) l m r x like d.3 n in
      (g.0, (d.0, f.0, f.1, g.1), g.2)
  keeps (Then p next) l m r x like d n =
      let f = keeps p l m d.1 d.0 like d.2 (omega (arith, n, less_of (taken (next d.0) d.1 r x d.3))) in
      let g = keeps (next d.0) d.1 f.0 r x f.2 d.3 n in
      (g.0, (d.0, f.0, f.1, g.1), g.2)
  keeps (If test p q) l m r x like (inl d) n =
      let f = keeps p l m r x like d.1 n in (f.0, inl (sym (like_first test like) ∙ d.0, f.1), f.2)
  keeps (If test p q) l m r x like (inr d) n =
      let f = keeps q l m r x like d.1 n in (f.0, inr (sym (like_first test like) ∙ d.0, f.1), f.2)
  keeps (While goes step s) l m r x like d n = turns_keep (λ u. keeps (step u)) (λ u. taken (step u)) m d like n
  keeps (Count example next i) l m r x like d n = count_keep m d like n
  keeps (Kept p) l m r x like d n =
      let f = keeps p l m r x.0 like d.0 n in
      (f.0, (f.1, like_same x.1 d.1 like f.2), f.2)

  -- ---- a fault at the token is one of both

  breaks_keep : {S : Type 0} {goes : Lexeme → Bool} {One : S → List Lexeme → S → List Lexeme → Type 0}
      {Fault : S → List Lexeme → SyntaxFault → List Lexeme → Type 0} {end : ℕ}
      → ((s : S) (l m r : List Lexeme) (x : S) → Like l m → One s l x r → length b < length r
      → (o : List Lexeme) × One s m x o × Like r o)
      → ((s : S) (l r : List Lexeme) (x : S) → One s l x r → IsTaken l r)
      → ((s : S) (l : List Lexeme) (e : SyntaxFault) (o : List Lexeme) → Fault s l e o → IsTaken l o)
      → ((s : S) (l m : List Lexeme) (e : SyntaxFault) → Like l m → Fault s l e (t ∷ b) → Fault s m e (t ∷ c))
      → {s : S} {l o : List Lexeme} {e : SyntaxFault} (m : List Lexeme) → Breaks goes One Fault end s l e o
      → t ∷ b ≡ o → Like l m → Breaks goes One Fault end s m e (t ∷ c)
  breaks_keep {goes = goes} {Fault = Fault} h g i f m (here {s = s} {a = a} {l = o} {e = e} go r) same like =
      here (sym (like_first goes like) ∙ go) (f s a m e like (subst (λ z. Fault s a e z) (sym same) r))
  breaks_keep {goes = goes} {One = One} {Fault = Fault} {end = end} h g i f m
      (idle {s = s} {t = x} {a = a} {b = d} go one no_less) same like =
      let long : length a ≤ length d = ltb-false _ _ no_less in
      let o = h s a m d x like one (omega (arith, long, like_longer like)) in
      let fault : wrong_at end m ≡ wrong_at end a = ap (λ z. Grammar z) (sym (like_offset end like)) in
      let place : m ≡ t ∷ c = sym (like_here like same) in
      let less : length m ≤ length o.0 = omega (arith, long, like_lengths like, like_lengths o.2) in
      subst (λ z. Breaks goes One Fault end s m z (t ∷ c)) fault
      (subst (λ z. Breaks goes One Fault end s m (wrong_at end m) z) place
      (idle (sym (like_first goes like) ∙ go) o.1 (le-ltb _ _ less)))
  breaks_keep {goes = goes} h g i f m (later {s = s} {t = x} {a = a} {b = d} go one less r) same like =
      let inside = subst (λ z. IsTaken d z) (sym same) (breaks_stay g i r) in
      let o = h s a m d x like one (let all = less_of inside in omega (arith, all)) in
      let shorter : length o.0 < length m = omega (arith, less, like_lengths like, like_lengths o.2) in
      later (sym (like_first goes like) ∙ go) o.1 shorter (breaks_keep h g i f o.0 r same o.2)

  pub same_fault : {A : Type 0} (p : Step A) (end : ℕ) (l m : List Lexeme) (e : SyntaxFault) → Like l m
      → Refused p end l e (t ∷ b) → Refused p end m e (t ∷ c)
  same_fault (Done v) end l m e like r = absurd r
  same_fault (Never fault) end l m e like r =
      (like_here like r.0, r.1 ∙ ap (λ n. fault n) (like_offset end like))
  same_fault (Take terminal) end l m e like r =
      let fault = r.2 ∙ ap (λ n. Grammar n) (like_offset end like) in
      (sym (like_first terminal.is like) ∙ r.0, like_here like r.1, fault)
  same_fault (Peek example next) end l m e like (inl r) = absurd (let none : t ∷ b ≡ [] = r.1 in cc)
  same_fault (Peek example next) end l m e like (inr r) =
      let f = like_head like r.0 r.1 r.2 in
      inr (r.0, f.0, f.1, same_fault (next r.0) end l m e like r.3)
  same_fault (Then p next) end l m e like (inl r) = inl (same_fault p end l m e like r)
  same_fault (Then p next) end l m e like (inr r) =
      let all = less_of (stays (next r.0) end r.1 e (t ∷ b) r.3) in
      let f = keeps p l m r.1 r.0 like r.2 (omega (arith, all)) in
      inr (r.0, f.0, f.1, same_fault (next r.0) end r.1 f.0 e f.2 r.3)
  same_fault (If test p q) end l m e like (inl r) =
      inl (sym (like_first test like) ∙ r.0, same_fault p end l m e like r.1)
  same_fault (If test p q) end l m e like (inr r) =
      inr (sym (like_first test like) ∙ r.0, same_fault q end l m e like r.1)
  same_fault (While goes step s) end l m e like r =
      breaks_keep (λ u. keeps (step u)) (λ u. taken (step u)) (λ u. stays (step u) end)
      (λ u. same_fault (step u) end) m r refl like
  same_fault (Count example next n) end l m e like r = absurd (let none : t ∷ b ≡ [] = r.1 in cc)
  same_fault (Kept p) end l m e like r = same_fault p end l m e like r

-- ---- the laws together

pub derives_or_refused : {A : Type 0} (p : Step A) → DerivesOrRefused p
derives_or_refused p = record { one = one_of_both p; not_both = not_both p; one_fault = one_fault p }

pub first_fault : {A : Type 0} (p : Step A) → FirstFault p
first_fault p end front t b c e r x rest d =
    not_both p end (front ++ t ∷ c) rest (t ∷ c) x e d
    (same_fault t b c p end (front ++ t ∷ b) (front ++ t ∷ c) e (like_front t b c front) r)
