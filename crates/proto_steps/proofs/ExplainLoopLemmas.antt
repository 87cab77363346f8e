-- The same of steps that are one after the other, turn by turn, or by the next token.
use Rattle.std.proofs.Common.{◌≡◌, ℕ, ◌<◌, Bool, true, false, nat_lt, List, [], ◌∷◌, ◌++◌, length, inl, inr, refl, sym}
use Rattle.std.proofs.Common.{ap, subst, subst₂, ◌∙◌, append_assoc, arith}
use Rattle.std.proofs.lemmas.Bool.{le-ltb, ltb-false}
use Rattle.std.proofs.lemmas.List.{length-append}
use Rattle.proto_lex.specs.declared.span.Span.{Span}
use Rattle.proto_grammar.specs.declared.dialect.CustomOptions.{CustomOptions}
use Rattle.proto_grammar.specs.declared.fault.SyntaxFault.{SyntaxFault}
use Rattle.proto_grammar.specs.declared.fault.SyntaxFault.TheVariants.{ImportEscape, Grammar}
use Rattle.proto_grammar.specs.Lexeme.{Lexeme}
use Rattle.proto_grammar.specs.Terminal.{first_is}
use Rattle.proto_steps.specs.Step.{Terminal, Step, Take, Peek, Then, While, Derives, Refused, Turns, Breaks, wrong_at}
use Rattle.proto_steps.specs.Step.Turns.{ended, turn}
use Rattle.proto_steps.specs.Step.Breaks.{here, idle, later}
use Rattle.proto_steps.proofs.TurnLemmas.{either}
use Rattle.proto_steps.proofs.StepLaws.{IsTaken, taken, turns_taken, one_of_both, not_both, one_fault}
use Rattle.proto_steps.proofs.FirstLemmas.{stays, breaks_stay}
use Rattle.proto_steps.proofs.FinishLemmas.{ahead, nothing_behind}
use Rattle.proto_steps.proofs.FinishLemmas.Ahead.{Misses}
use Rattle.proto_steps.proofs.FrontLemmas.{ahead_misses}
use Rattle.proto_steps.proofs.EndLemmas.{keeps_front}
use Rattle.proto_steps.proofs.ExplainLemmas.{Reaches, Outcome, Deeply, any, Leaves, Explains, Carries, carried, moved}
use Rattle.proto_steps.proofs.ExplainLemmas.{is_literal, lit, is_lit, IsLiteral, Blind, blind, blind_first, first_same}
use Rattle.proto_steps.proofs.ExplainLemmas.{split_at, whole_text, no_front, leaves_front}
use Rattle.proto_steps.proofs.ExplainLemmas.Reaches.{whole, short}
use Rattle.proto_steps.proofs.ExplainLemmas.Outcome.{misplaced, opened, escape, also}

-- ---- one after the other

pub first_carried : {A B : Type 0} (p : Step A) (f : A → Step B) (end : ℕ) (m : List Lexeme)
    → Carries p (Then p f) end m m
first_carried p f end m = record {
  refuses = λ e l d. inl d;
  reads =
      λ x d.
      either (one_of_both (f x) end [])
      (λ s.
      let none = nothing_behind (taken (f x) [] s.1 s.0 s.2) refl in
      whole s.0 (x, [], d, subst (λ z. Derives (f x) [] s.0 z) none s.2))
      (λ s.
      let none = nothing_behind (stays (f x) end [] s.0 s.1 s.2) refl in
      short s.0 (inr (x, [], d, subst (λ z. Refused (f x) end [] s.0 z) none s.2)));
}

pub next_carried : {A B : Type 0} (p : Step A) (f : A → Step B) (end : ℕ) (x : A) (g h l : List Lexeme)
    → Derives p (g ++ (h ++ l)) x (h ++ l) → Carries (f x) (Then p f) end (h ++ l) ((g ++ h) ++ l)
next_carried p f end x g h l d =
    let first = subst (λ z. Derives p z x (h ++ l)) (sym (append_assoc g h l)) d in
    record {
      refuses = λ e m r. inr (x, h ++ l, first, r);
      reads = λ y s. whole y (x, h ++ l, first, s);
    }

module _ {custom : CustomOptions} {deep : Bool} {on : List Lexeme → Bool} {A B : Type 0} {p q : Step A}
    {f g : A → Step B} (h : Explains custom (Deeply deep) on p q)
    (k : (x : A) → Explains custom (Deeply deep) any (f x) (g x)) where
  then_leaves : Leaves (Then p f)
  then_leaves front t u b c y is lit_u d =
      split_at front (t ∷ b) d.1 (taken p (front ++ t ∷ b) d.1 d.0 d.2) (taken (f d.0) d.1 (t ∷ b) y d.3)
      (λ m n parts rest.
      let first = subst₂ (λ z w. Derives p z d.0 w) (whole_text front m n (t ∷ b) parts) rest d.2 in
      let next = subst (λ z. Derives (f d.0) z y (t ∷ b)) rest d.3 in
      subst (λ z. Derives (Then p f) z y (u ∷ c)) (sym (whole_text front m n (u ∷ c) parts)) (
        d.0,
        n ++ u ∷ c,
        leaves_front p h.leaves m n t u b c d.0 is lit_u first,
        (k d.0).leaves n t u b c y is lit_u next,
      ))

  then_missing : (end : ℕ) (a : List Lexeme) (e : SyntaxFault) → on a ≡ true → Refused (Then p f) end a e []
      → e ≡ Grammar end
  then_missing end a e at (inl d) = h.missing end a e at d
  then_missing end a e at (inr d) = (k d.0).missing end d.1 e refl d.3

  then_token : (end : ℕ) (front : List Lexeme) (t : Lexeme) (b : List Lexeme) (e : SyntaxFault)
      → on (front ++ t ∷ b) ≡ true → Refused (Then p f) end (front ++ t ∷ b) e (t ∷ b)
      → Outcome custom (Deeply deep) (Then p f) (Then q g) end front t b e
  then_token end front t b e at (inl d) =
      moved p q (Then p f) (Then q g) end [] front t b e (λ c. first_carried q g end (front ++ t ∷ c))
      (λ u c is lit_u. first_carried p f end (front ++ u ∷ c)) (λ a. a) (h.at_token end front t b e at d)
  then_token end front t b e at (inr d) =
      split_at front (t ∷ b) d.1 (taken p (front ++ t ∷ b) d.1 d.0 d.2) (stays (f d.0) end d.1 e (t ∷ b) d.3)
      (λ m n parts rest.
      let first = subst₂ (λ z w. Derives p z d.0 w) (whole_text front m n (t ∷ b) parts) rest d.2 in
      let next = subst (λ z. Refused (f d.0) end z e (t ∷ b)) rest d.3 in
      subst (λ z. Outcome custom (Deeply deep) (Then p f) (Then q g) end z t b e) (sym parts)
      (moved (f d.0) (g d.0) (Then p f) (Then q g) end m n t b e
      (λ c.
      next_carried q g end d.0 m n (t ∷ c)
      (h.past (m ++ (n ++ t ∷ c)) (n ++ t ∷ c) d.0 (keeps_front p m n t b c d.0 first)))
      (λ u c is lit_u.
      next_carried p f end d.0 m n (u ∷ c) (leaves_front p h.leaves m n t u b c d.0 is lit_u first))
      (λ a. a) ((k d.0).at_token end n t b e refl next)))

  pub one_then : Explains custom (Deeply deep) on (Then p f) (Then q g)
  one_then = record {
    past = λ a b y d. (d.0, d.1, h.past a d.1 d.0 d.2, (k d.0).past d.1 b y d.3);
    leaves = then_leaves;
    missing = then_missing;
    at_token = then_token;
  }

-- ---- by the next token

-- At a literal the step is refused.
abbrev pub AtLiteral : {A : Type 0} → (Lexeme → Step A) → Type 0
AtLiteral f =
    (u : Lexeme) (end : ℕ) (c : List Lexeme)
    → Refused (f (lit u)) end (lit u ∷ c) (Grammar u.span.start) (lit u ∷ c)

at_literal : {A : Type 0} (f : Lexeme → Step A) → AtLiteral f → (u : Lexeme) (end : ℕ) (c : List Lexeme) → IsLiteral u
    → Refused (f u) end (u ∷ c) (Grammar u.span.start) (u ∷ c)
at_literal f shut u end c is =
    subst (λ z. Refused (f z) end (z ∷ c) (Grammar u.span.start) (z ∷ c)) (sym (is_lit u is)) (shut u end c)

pub peek_carried : {A : Type 0} (example : Lexeme) (f : Lexeme → Step A) (end : ℕ) (v : Lexeme) (m : List Lexeme)
    → Carries (f v) (Peek example f) end (v ∷ m) (v ∷ m)
peek_carried example f end v m = record {
  refuses = λ e l r. inr (v, m, refl, r);
  reads = λ x d. whole x (v, m, refl, d);
}

module _ {custom : CustomOptions} {Also : List Lexeme → Lexeme → SyntaxFault → Type 0} {A : Type 0}
    (example : Lexeme) {f g : Lexeme → Step A} (h : (v : Lexeme) → Explains custom Also any (f v) (g v))
    (shut : AtLiteral f) where
  peek_leaves : Leaves (Peek example f)
  peek_leaves [] t u b c x is lit_u d =
      let same : t ≡ d.0 = cc in
      absurd
      (not_both (f t) 0 (t ∷ b) (t ∷ b) (t ∷ b) x (Grammar t.span.start)
      (subst (λ z. Derives (f z) (t ∷ b) x (t ∷ b)) (sym same) d.3) (at_literal f shut t 0 b is))
  peek_leaves (v ∷ front) t u b c x is lit_u d =
      let same : v ≡ d.0 = cc in (
        v,
        front ++ u ∷ c,
        refl,
        (h v).leaves (v ∷ front) t u b c x is lit_u
            (subst (λ z. Derives (f z) (v ∷ (front ++ t ∷ b)) x (t ∷ b)) (sym same) d.3),
      )

  peek_missing : (end : ℕ) (a : List Lexeme) (e : SyntaxFault) → Refused (Peek example f) end a e [] → e ≡ Grammar end
  peek_missing end a e (inl r) = r.2
  peek_missing end a e (inr r) = (h r.0).missing end a e refl r.3

  peek_first : (end : ℕ) (t : Lexeme) (b : List Lexeme) (e : SyntaxFault)
      → Refused (f t) end (t ∷ b) e (t ∷ b) → Outcome custom Also (f t) (g t) end [] t b e
      → Outcome custom Also (Peek example f) (Peek example g) end [] t b e
  peek_first end t b e r (misplaced same refused closed) =
      misplaced same (inr (t, b, refl, refused))
      (λ esc u c lit_u. (Grammar u.span.start, inr (u, c, refl, at_literal f shut u end c lit_u)))
  peek_first end t b e r (opened refuse ban reach) =
      opened refuse ban
      (carried (g t) (Peek example g) end (t ∷ []) (t ∷ []) (peek_carried example g end t []) reach)
  peek_first end t b e r (escape esc same reach) =
      absurd
      (let never : ImportEscape t.span.start ≡ Grammar t.span.start =
      sym same ∙ one_fault (f t) end (t ∷ b) (t ∷ b) (t ∷ b) e (Grammar t.span.start) r
      (at_literal f shut t end b (is_literal t esc)) in cc)
  peek_first end t b e r (also a) = also a

  peek_token : (end : ℕ) (front : List Lexeme) (t : Lexeme) (b : List Lexeme) (e : SyntaxFault)
      → Refused (Peek example f) end (front ++ t ∷ b) e (t ∷ b)
      → Outcome custom Also (Peek example f) (Peek example g) end front t b e
  peek_token end front t b e (inl r) = absurd (let none : t ∷ b ≡ [] = r.1 in cc)
  peek_token end [] t b e (inr r) =
      let same : t ≡ r.0 = cc in
      let here = subst (λ z. Refused (f z) end (t ∷ b) e (t ∷ b)) (sym same) r.3 in
      peek_first end t b e here ((h t).at_token end [] t b e refl here)
  peek_token end (v ∷ front) t b e (inr r) =
      let same : v ≡ r.0 = cc in
      let here = subst (λ z. Refused (f z) end (v ∷ (front ++ t ∷ b)) e (t ∷ b)) (sym same) r.3 in
      moved (f v) (g v) (Peek example f) (Peek example g) end [] (v ∷ front) t b e
      (λ c. peek_carried example g end v (front ++ t ∷ c))
      (λ u c is lit_u. peek_carried example f end v (front ++ u ∷ c)) (λ a. a)
      ((h v).at_token end (v ∷ front) t b e refl here)

  pub peeked : {on : List Lexeme → Bool} → Explains custom Also on (Peek example f) (Peek example g)
  peeked = record {
    past = λ a b x d. (d.0, d.1, d.2, (h d.0).past a b x d.3);
    leaves = peek_leaves;
    missing = λ end a e at r. peek_missing end a e r;
    at_token = λ end front t b e at r. peek_token end front t b e r;
  }

-- ---- turns

-- what takes no token leaves all
idle_left : (a d : List Lexeme) → IsTaken a d → nat_lt (length d) (length a) ≡ false → d ≡ a
idle_left a d ([], e) no_less = sym e
idle_left a d (v ∷ front, e) no_less =
    absurd (omega (arith, ltb-false _ _ no_less, ap length e, length-append front d))

pub turns_past : {S : Type 0} {goes : Lexeme → Bool} {One Other : S → List Lexeme → S → List Lexeme → Type 0}
    → ((s : S) (a b : List Lexeme) (x : S) → One s a x b → Other s a x b) → {s x : S} {a b : List Lexeme}
    → Turns goes One s a x b → Turns goes Other s a x b
turns_past h (ended over) = ended over
turns_past h (turn {s = s} {t = t} {a = a} {b = b} go one less rest) =
    turn go (h s a b t one) less (turns_past h rest)

pub less_behind : (f g : List Lexeme) (t u : Lexeme) (b c : List Lexeme)
    → length (g ++ t ∷ b) < length (f ++ (g ++ t ∷ b)) → length (g ++ u ∷ c) < length (f ++ (g ++ u ∷ c))
less_behind f g t u b c less =
    omega (arith, less, length-append f (g ++ t ∷ b), length-append f (g ++ u ∷ c))

module _ {S : Type 0} (goes : Lexeme → Bool) (f : S → Step S) (same : Blind goes) (leaves : (s : S) → Leaves (f s))
  where
    turns_leave : {s x : S} {a l : List Lexeme} (front : List Lexeme) (t u : Lexeme) (b c : List Lexeme) → IsLiteral t
        → IsLiteral u → Turns goes (λ v. Derives (f v)) s a x l → a ≡ front ++ t ∷ b → l ≡ t ∷ b
        → Turns goes (λ v. Derives (f v)) s (front ++ u ∷ c) x (u ∷ c)
    turns_leave {s} front t u b c is lit_u (ended {a = a} over) e at =
        let none = no_front front (t ∷ b) (sym at ∙ e) in
        subst (λ z. Turns goes (λ v. Derives (f v)) s (z ++ u ∷ c) s (u ∷ c)) (sym none)
        (ended (sym (blind_first goes same [] t u b c is lit_u) ∙ ap (first_is goes) (sym at) ∙ over))
    turns_leave {x = x} front t u b c is lit_u (turn {s = s} {t = y} {a = a} {b = d} go one less rest) e at =
        split_at front (t ∷ b) d (subst (λ z. IsTaken z d) e (taken (f s) a d y one))
        (subst (λ z. IsTaken d z) at (turns_taken (λ v. taken (f v)) rest))
        (λ m n parts behind.
        let text = e ∙ whole_text front m n (t ∷ b) parts in
        let first = subst₂ (λ z w. Derives (f s) z y w) text behind one in
        let shorter = subst₂ (λ z w. length w < length z) text behind less in
        subst (λ z. Turns goes (λ v. Derives (f v)) s z x (u ∷ c)) (sym (whole_text front m n (u ∷ c) parts))
        (turn (sym (ap (first_is goes) text ∙ at_seam m n) ∙ go)
        (leaves_front (f s) (leaves s) m n t u b c y is lit_u first) (less_behind m n t u b c shorter)
        (turns_leave n t u b c is lit_u rest behind at)))
      where
        at_seam : (m n : List Lexeme) → first_is goes (m ++ (n ++ t ∷ b)) ≡ first_is goes (m ++ (n ++ u ∷ c))
        at_seam m n =
            ap (first_is goes) (sym (append_assoc m n (t ∷ b))) ∙ blind_first goes same (m ++ n) t u b c is lit_u
            ∙ ap (first_is goes) (append_assoc m n (u ∷ c))

-- a turn more
module _ {S : Type 0} (goes : Lexeme → Bool) (f : S → Step S) (s : S) (end : ℕ) where
  pub here_carried : (m : List Lexeme) → first_is goes m ≡ true → Carries (f s) (While goes f s) end m m
  here_carried m go = record {
    refuses = λ e l r. here go r;
    reads = λ x d. whole x (turn go d (some m go) (ended refl));
  }
    where
      some : (m : List Lexeme) → first_is goes m ≡ true → 0 < length m
      some [] go = absurd (let never : false ≡ true = go in cc)
      some (v ∷ m) go = omega arith

  pub later_carried : (x : S) (g h l : List Lexeme) → first_is goes (g ++ (h ++ l)) ≡ true
      → Derives (f s) (g ++ (h ++ l)) x (h ++ l) → length (h ++ l) < length (g ++ (h ++ l))
      → Carries (While goes f x) (While goes f s) end (h ++ l) ((g ++ h) ++ l)
  later_carried x g h l go d less =
      let text = sym (append_assoc g h l) in
      record {
        refuses = λ e m r. subst (λ z. Refused (While goes f s) end z e m) text (later go d less r);
        reads = λ y r. whole y (subst (λ z. Derives (While goes f s) z y []) text (turn go d less r));
      }

-- what may be told of the first turn is told of all, if a turn in front of it changes nothing
module _ {custom : CustomOptions} {S : Type 0} {goes : Lexeme → Bool} {f g : S → Step S}
    (Also After : S → List Lexeme → Lexeme → SyntaxFault → Type 0) (same : Blind goes)
    (h : (s : S) → Explains custom (Also s) (first_is goes) (f s) (g s))
    (now : (s : S) (m : List Lexeme) (t : Lexeme) (e : SyntaxFault) → Also s m t e → After s m t e)
    (next : (s x : S) (m n : List Lexeme) (t : Lexeme) (b : List Lexeme) (e : SyntaxFault)
    → first_is goes (m ++ (n ++ t ∷ b)) ≡ true → Derives (f s) (m ++ (n ++ t ∷ b)) x (n ++ t ∷ b)
    → length (n ++ t ∷ b) < length (m ++ (n ++ t ∷ b)) → After x n t e → After s (m ++ n) t e) where
  turns_missing : (end : ℕ) {s : S} {a l : List Lexeme} {e : SyntaxFault}
      → Breaks goes (λ v. Derives (f v)) (λ v b. Refused (f v) end b) end s a e l → l ≡ [] → e ≡ Grammar end
  turns_missing end (here {s = s} {a = a} {e = e} go r) at =
      (h s).missing end a e go (subst (λ z. Refused (f s) end a e z) at r)
  turns_missing end (idle {a = a} go one no_less) at = ap (λ z. wrong_at end z) at
  turns_missing end (later go one less r) at = turns_missing end r at

  turns_token : (end : ℕ) {s : S} {a l : List Lexeme} {e : SyntaxFault} (front : List Lexeme) (t : Lexeme)
      (b : List Lexeme) → Breaks goes (λ v. Derives (f v)) (λ v c. Refused (f v) end c) end s a e l
      → a ≡ front ++ t ∷ b → l ≡ t ∷ b
      → Outcome custom (After s) (While goes f s) (While goes g s) end front t b e
  turns_token end front t b (here {s = s} {a = a} {e = e} go r) text at =
      let is : first_is goes (front ++ t ∷ b) ≡ true = ap (first_is goes) (sym text) ∙ go in
      let refused = subst₂ (λ z w. Refused (f s) end z e w) text at r in
      moved (f s) (g s) (While goes f s) (While goes g s) end [] front t b e
      (λ c. here_carried goes g s end (front ++ t ∷ c) (first_same goes front t c b ∙ is))
      (λ u c lit_t lit_u.
      here_carried goes f s end (front ++ u ∷ c) (sym (blind_first goes same front t u b c lit_t lit_u) ∙ is))
      (now s front t e) ((h s).at_token end front t b e is refused)
  turns_token end front t b (idle {s = s} {t = x} {a = a} {b = d} go one no_less) text at =
      let none = no_front front (t ∷ b) (sym at ∙ text) in
      let same_left : d ≡ a = idle_left a d (taken (f s) a d x one) no_less in
      let stops = subst₂ (λ z w. Derives (f s) z x w) at (same_left ∙ at) one in
      let is : goes t ≡ true = ap (first_is goes) (sym at) ∙ go in
      misplaced (ap (λ z. wrong_at end z) at)
      (subst₂ (λ z w. Refused (While goes g s) end z (wrong_at end a) w) text at
      (idle go ((h s).past a d x one) no_less))
      (λ esc u c lit_u. (
        wrong_at end (u ∷ c),
        subst (λ z. Refused (While goes f s) end (z ++ u ∷ c) (wrong_at end (u ∷ c)) (u ∷ c)) (sym none)
            (idle (sym (blind goes same t u (is_literal t esc) lit_u) ∙ is)
            ((h s).leaves [] t u b c x (is_literal t esc) lit_u stops) (not_less (u ∷ c))),
      ))
    where
      not_less : (l : List Lexeme) → nat_lt (length l) (length l) ≡ false
      not_less l = le-ltb (length l) (length l) (omega arith)
  turns_token end front t b (later {s = s} {t = x} {a = a} {b = d} {e = e} go one less r) text at =
      split_at front (t ∷ b) d (subst (λ z. IsTaken z d) text (taken (f s) a d x one))
      (subst (λ z. IsTaken d z) at (breaks_stay (λ v. taken (f v)) (λ v. stays (f v) end) r))
      (λ m n parts behind.
      let all = text ∙ whole_text front m n (t ∷ b) parts in
      let first = subst₂ (λ z w. Derives (f s) z x w) all behind one in
      let shorter = subst₂ (λ z w. length w < length z) all behind less in
      let is : first_is goes (m ++ (n ++ t ∷ b)) ≡ true = ap (first_is goes) (sym all) ∙ go in
      subst (λ z. Outcome custom (After s) (While goes f s) (While goes g s) end z t b e) (sym parts)
      (moved (While goes f x) (While goes g x) (While goes f s) (While goes g s) end m n t b e
      (λ c.
      later_carried goes g s end x m n (t ∷ c) (at_seam m n c is)
      ((h s).past (m ++ (n ++ t ∷ c)) (n ++ t ∷ c) x (keeps_front (f s) m n t b c x first))
      (less_behind m n t t b c shorter))
      (λ u c lit_t lit_u.
      later_carried goes f s end x m n (u ∷ c) (other_seam m n u c lit_t lit_u is)
      (leaves_front (f s) (h s).leaves m n t u b c x lit_t lit_u first) (less_behind m n t u b c shorter))
      (next s x m n t b e is first shorter) (turns_token end n t b r behind at)))
    where
      at_seam : (m n c : List Lexeme) → first_is goes (m ++ (n ++ t ∷ b)) ≡ true
          → first_is goes (m ++ (n ++ t ∷ c)) ≡ true
      at_seam m n c is =
          ap (first_is goes) (sym (append_assoc m n (t ∷ c))) ∙ first_same goes (m ++ n) t c b
          ∙ ap (first_is goes) (append_assoc m n (t ∷ b)) ∙ is

      other_seam : (m n : List Lexeme) (u : Lexeme) (c : List Lexeme) → IsLiteral t → IsLiteral u
          → first_is goes (m ++ (n ++ t ∷ b)) ≡ true → first_is goes (m ++ (n ++ u ∷ c)) ≡ true
      other_seam m n u c lit_t lit_u is =
          ap (first_is goes) (sym (append_assoc m n (u ∷ c)))
          ∙ sym (blind_first goes same (m ++ n) t u b c lit_t lit_u)
          ∙ ap (first_is goes) (append_assoc m n (t ∷ b)) ∙ is

  pub turns_tell : {on : List Lexeme → Bool} (s : S)
      → Explains custom (After s) on (While goes f s) (While goes g s)
  turns_tell s = record {
    past = λ a b x d. turns_past (λ z l r y one. (h z).past l r y one) d;
    leaves =
        λ front t u b c x is lit_u d.
        turns_leave goes f same (λ z. (h z).leaves) front t u b c is lit_u d refl refl;
    missing = λ end a e at r. turns_missing end r refl;
    at_token = λ end front t b e at r. turns_token end front t b r refl refl;
  }

pub many : {custom : CustomOptions} {deep : Bool} {on : List Lexeme → Bool} {S : Type 0} {goes : Lexeme → Bool}
    {f g : S → Step S} {s : S} → Blind goes
    → ((s : S) → Explains custom (Deeply deep) (first_is goes) (f s) (g s))
    → Explains custom (Deeply deep) on (While goes f s) (While goes g s)
many {deep = deep} {s = s} same h =
    turns_tell (λ z. Deeply deep) (λ z. Deeply deep) same h (λ z m t e a. a) (λ z x m n t b e is d less a. a) s

-- ---- one token, and nothing behind it

pub behind_token : {B : Type 0} (terminal : Terminal) (f : Span → Step B) (u : Lexeme)
    → ((x : Span) → ahead (f x) ≡ Misses u) → (end : ℕ) (t : Lexeme) → terminal.is t ≡ true
    → Reaches (Then (Take terminal) f) end (t ∷ [])
behind_token terminal f u missing end t is =
    let r = ahead_misses (f t.span) u (missing t.span) end in
    short r.0 (inr (t.span, [], (t, refl, is, refl), r.1))

pub behind_first : {A B : Type 0} (p : Step A) (f : A → Step B) (end : ℕ) (a : List Lexeme) → Reaches p end a
    → Reaches (Then p f) end a
behind_first p f end a reach = carried p (Then p f) end a a (first_carried p f end a) reach

-- what explains with less
pub more_than : {custom : CustomOptions} {Also More : List Lexeme → Lexeme → SyntaxFault → Type 0}
    {on : List Lexeme → Bool} {A : Type 0} {p q : Step A}
    → ((f : List Lexeme) (t : Lexeme) (e : SyntaxFault) → Also f t e → More f t e) → Explains custom Also on p q
    → Explains custom More on p q
more_than {p = p} {q = q} more h = record {
  past = h.past;
  leaves = h.leaves;
  missing = h.missing;
  at_token =
      λ end f t b e at r.
      moved p q p q end [] f t b e (λ c. record { refuses = λ x l s. s; reads = λ x s. whole x s })
      (λ u c is lit_u. record { refuses = λ x l s. s; reads = λ x s. whole x s }) (more f t e)
      (h.at_token end f t b e at r);
}
