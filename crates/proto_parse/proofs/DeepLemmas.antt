-- What is too deep goes on if one more message or group may be inside the others; and where a group begins that is.
use Rattle.std.proofs.Common.{◌≡◌, ℕ, ◌<◌, Bool, true, false, List, [], ◌∷◌, ◌++◌, length, inl, inr, refl, sym, ap}
use Rattle.std.proofs.Common.{subst, subst₂, ◌∙◌, append_assoc, codes}
use Rattle.std.proofs.lemmas.List.{append-nil, append_cancel_right}
use Rattle.proto_lex.specs.declared.token.TokenKind.TheVariants.{Identifier}
use Rattle.proto_grammar.specs.declared.dialect.CustomOptions.{CustomOptions}
use Rattle.proto_grammar.specs.declared.fault.SyntaxFault.{SyntaxFault}
use Rattle.proto_grammar.specs.declared.fault.SyntaxFault.TheVariants.{ImportEscape, TooDeep, Grammar}
use Rattle.proto_grammar.specs.Lexeme.{Lexeme}
use Rattle.proto_grammar.specs.Terminal.{first_is, of_kind, is_word}
use Rattle.proto_steps.specs.Step.{Step, Peek, Then, If, While, Derives, Refused, Breaks, wrong_at}
use Rattle.proto_steps.specs.Step.Breaks.{here, idle, later}
use Rattle.proto_steps.proofs.StepLaws.{IsTaken, taken}
use Rattle.proto_steps.proofs.FirstLemmas.{stays, breaks_stay, like_front, like_head}
use Rattle.proto_steps.proofs.EndLemmas.{Ends, cut, keeps_front}
use Rattle.proto_steps.proofs.ExplainLemmas.{Reaches, Carries, carried, Explains, Outcome, OptionBan, Deeply, any}
use Rattle.proto_steps.proofs.ExplainLemmas.{split_at, whole_text, first_same, yes, no}
use Rattle.proto_steps.proofs.ExplainLoopLemmas.{first_carried, next_carried, here_carried, later_carried, less_behind}
use Rattle.proto_steps.proofs.ExplainLoopLemmas.{turns_past, peek_carried}
use Rattle.proto_steps.proofs.ExplainLemmas.Reaches.{whole}
use Rattle.proto_steps.proofs.ExplainLemmas.Outcome.{misplaced, opened, escape, also}
use Rattle.proto_steps.proofs.ExplainLemmas.OptionBan.{custom_option, aggregate, extend}
use Rattle.proto_parse.specs.Refused.{group_start}

-- ---- where a group begins

-- where it is known what it begins with if it begins with the step
abbrev pub begun : (Lexeme → ℕ) → List Lexeme → Lexeme → ℕ
begun start [] t = start t
begun start (v ∷ f) t = group_start (v ∷ f) t

abbrev pub own : Lexeme → ℕ
own t = t.span.start

pub start_behind : (f : List Lexeme) (v : Lexeme) (g : List Lexeme) (t : Lexeme)
    → group_start (f ++ v ∷ g) t ≡ group_start (v ∷ g) t
start_behind [] v g t = refl
start_behind (w ∷ []) v g t = refl
start_behind (w ∷ (x ∷ f)) v g t = start_behind (x ∷ f) v g t

-- behind a token that is no word, a group begins with its own
pub sign_start : (f : List Lexeme) (v t : Lexeme) → of_kind Identifier v ≡ false → group_start (f ++ v ∷ []) t ≡ own t
sign_start f v t no_word = start_behind f v [] t ∙ rw no_word refl

itself : {A : Type 0} (r : Step A) (end : ℕ) (m : List Lexeme) → Carries r r end m m
itself r end m = record { refuses = λ e l d. d; reads = λ x d. whole x d }

-- ---- what a fault is of

abbrev pub Shallow : SyntaxFault → Type 0
Shallow e = (at : ℕ) → e ≡ TooDeep at → ⊥

pub data Depth (start : Lexeme → ℕ) (early : Bool) {A : Type 0} (r : Step A) (end : ℕ) (f : List Lexeme) (t : Lexeme)
    (b : List Lexeme) (e : SyntaxFault) : Type 0 where
  message_deep : is_word (codes "message") t ≡ true → e ≡ TooDeep t.span.start → Reaches r end (f ++ t ∷ [])
      → Depth start early r end f t b e
  group_deep : is_word (codes "group") t ≡ true → (f ≡ [] → early ≡ true) → e ≡ TooDeep (begun start f t)
      → Reaches r end (f ++ t ∷ []) → Depth start early r end f t b e
  shallow : Shallow e → Refused r end (f ++ t ∷ b) e (t ∷ b) → Depth start early r end f t b e

-- Each fault of `p` at a token is of one of these. If `early`, a group at the first token may be too deep.
pub record Deepens (start : Lexeme → ℕ) (early : Bool) {A : Type 0} (p r : Step A) : Type 0 where
  pub deeper : (a b : List Lexeme) (x : A) → Derives p a x b → Derives r a x b
  pub at_token : (end : ℕ) (f : List Lexeme) (t : Lexeme) (b : List Lexeme) (e : SyntaxFault)
      → Refused p end (f ++ t ∷ b) e (t ∷ b) → Depth start early r end f t b e

pub same_start : (start other : Lexeme → ℕ) (f g : List Lexeme) (t : Lexeme)
    → (g ≡ [] → begun other f t ≡ start t) → begun other (f ++ g) t ≡ begun start g t
same_start start other f [] t first = ap (λ z. begun other z t) (append-nil f) ∙ first refl
same_start start other [] (v ∷ g) t first = refl
same_start start other (w ∷ f) (v ∷ g) t first = start_behind (w ∷ f) v g t

module _ {start other : Lexeme → ℕ} {early kept : Bool} {A B : Type 0} (r : Step A) (s : Step B) (end : ℕ)
    (f g : List Lexeme) (t : Lexeme) (b : List Lexeme) (e : SyntaxFault)
    (first : g ≡ [] → early ≡ true → begun other f t ≡ start t) (flag : f ++ g ≡ [] → early ≡ true → kept ≡ true)
    (back : f ++ g ≡ [] → g ≡ [])
    (wide : (c : List Lexeme) → Carries r s end (g ++ t ∷ c) ((f ++ g) ++ t ∷ c)) where
  pub deep_moved : Depth start early r end g t b e → Depth other kept s end (f ++ g) t b e
  deep_moved (message_deep is same reach) =
      message_deep is same (carried r s end (g ++ t ∷ []) ((f ++ g) ++ t ∷ []) (wide []) reach)
  deep_moved (group_deep is opens same reach) =
      group_deep is (λ none. flag none (opens (back none)))
      (same ∙ ap TooDeep (sym (same_start start other f g t (λ z. first z (opens z)))))
      (carried r s end (g ++ t ∷ []) ((f ++ g) ++ t ∷ []) (wide []) reach)
  deep_moved (shallow no_level refused) = shallow no_level ((wide b).refuses e (t ∷ b) refused)

-- ---- steps without messages and groups

ban_shallow : (t : Lexeme) (e : SyntaxFault) → OptionBan t e → Shallow e
ban_shallow t e (custom_option is) at same = cc
ban_shallow t e (aggregate is) at same = cc
ban_shallow t e (extend is) at same = cc

pub flat_shallow : {custom : CustomOptions} {A : Type 0} {p q : Step A} → Explains custom (Deeply false) any p q
    → (end : ℕ) (f : List Lexeme) (t : Lexeme) (b : List Lexeme) (e : SyntaxFault)
    → Refused p end (f ++ t ∷ b) e (t ∷ b) → Shallow e
flat_shallow {custom} {p = p} {q = q} h end f t b e r = by_outcome (h.at_token end f t b e refl r)
  where
    by_outcome : Outcome custom (Deeply false) p q end f t b e → Shallow e
    by_outcome (misplaced same refused shut) at deep =
        let never : Grammar t.span.start ≡ TooDeep at = sym same ∙ deep in cc
    by_outcome (opened refuse ban reach) at deep = ban_shallow t e ban at deep
    by_outcome (escape esc same reach) at deep =
        let never : ImportEscape t.span.start ≡ TooDeep at = sym same ∙ deep in cc
    by_outcome (also a) at deep = absurd (let never : false ≡ true = a.0 in cc)

pub flat : {start : Lexeme → ℕ} {early : Bool} {custom : CustomOptions} {A : Type 0} {p q : Step A}
    → Explains custom (Deeply false) any p q → Deepens start early p p
flat h = record {
  deeper = λ a b x d. d;
  at_token = λ end f t b e r. shallow (flat_shallow h end f t b e r) r;
}

-- ---- one of two

pub deep_either : {start : Lexeme → ℕ} {early : Bool} {A : Type 0} {test : Lexeme → Bool} {p q r s : Step A}
    → Deepens start early p r → Deepens start early q s → Deepens start early (If test p q) (If test r s)
deep_either {start} {early} {test = test} {p} {q} {r} {s} h k = record { deeper = deeper; at_token = token }
  where
    deeper : (a b : List Lexeme) (x : _) → Derives (If test p q) a x b → Derives (If test r s) a x b
    deeper a b x (inl d) = inl (d.0, h.deeper a b x d.1)
    deeper a b x (inr d) = inr (d.0, k.deeper a b x d.1)

    token : (end : ℕ) (f : List Lexeme) (t : Lexeme) (b : List Lexeme) (e : SyntaxFault)
        → Refused (If test p q) end (f ++ t ∷ b) e (t ∷ b) → Depth start early (If test r s) end f t b e
    token end f t b e (inl d) =
        deep_moved r (If test r s) end [] f t b e (λ z o. refl) (λ z o. o) (λ z. z)
        (λ c. yes test r s end (f ++ t ∷ c) (first_same test f t c b ∙ d.0)) (h.at_token end f t b e d.1)
    token end f t b e (inr d) =
        deep_moved s (If test r s) end [] f t b e (λ z o. refl) (λ z o. o) (λ z. z)
        (λ c. no test r s end (f ++ t ∷ c) (first_same test f t c b ∙ d.0)) (k.at_token end f t b e d.1)

-- ---- one after the other

pub no_more : (f g : List Lexeme) → f ++ g ≡ [] → g ≡ []
no_more [] g e = e
no_more (v ∷ f) g e = absurd (let none : v ∷ (f ++ g) ≡ [] = e in cc)

-- by what is in front of the second
then_deep : {start : Lexeme → ℕ} {early second : Bool} {A B : Type 0} {p r : Step A} {f g : A → Step B}
    → ((m l : List Lexeme) (x : A) (t : Lexeme) → Derives p (m ++ l) x l → second ≡ true
    → (begun start m t ≡ own t) × (m ≡ [] → early ≡ true))
    → Deepens start early p r → ((x : A) → Deepens own second (f x) (g x))
    → Deepens start early (Then p f) (Then r g)
then_deep {start} {early} {second} {A} {p = p} {r} {f} {g} front h k = record {
  deeper = λ a b y d. (d.0, d.1, h.deeper a d.1 d.0 d.2, (k d.0).deeper d.1 b y d.3);
  at_token = token;
}
  where
    token : (end : ℕ) (all : List Lexeme) (t : Lexeme) (b : List Lexeme) (e : SyntaxFault)
        → Refused (Then p f) end (all ++ t ∷ b) e (t ∷ b) → Depth start early (Then r g) end all t b e
    token end all t b e (inl d) =
        deep_moved r (Then r g) end [] all t b e (λ z o. refl) (λ z o. o) (λ z. z)
        (λ c. first_carried r g end (all ++ t ∷ c)) (h.at_token end all t b e d)
    token end all t b e (inr d) =
        split_at all (t ∷ b) d.1 (taken p (all ++ t ∷ b) d.1 d.0 d.2) (stays (f d.0) end d.1 e (t ∷ b) d.3)
        (λ m n parts rest.
        let first = subst₂ (λ z w. Derives p z d.0 w) (whole_text all m n (t ∷ b) parts) rest d.2 in
        let next = subst (λ z. Refused (f d.0) end z e (t ∷ b)) rest d.3 in
        subst (λ z. Depth start early (Then r g) end z t b e) (sym parts)
        (deep_moved (g d.0) (Then r g) end m n t b e
        (λ z o. (front m (n ++ t ∷ b) d.0 t first o).0)
        (λ z o. (front m (n ++ t ∷ b) d.0 t first o).1 (no_first m n z))
        (no_more m n)
        (λ c.
        next_carried r g end d.0 m n (t ∷ c)
        (h.deeper (m ++ (n ++ t ∷ c)) (n ++ t ∷ c) d.0 (keeps_front p m n t b c d.0 first)))
        ((k d.0).at_token end n t b e next)))
      where
        no_first : (m n : List Lexeme) → m ++ n ≡ [] → m ≡ []
        no_first [] n e = refl
        no_first (v ∷ m) n e = absurd (let none : v ∷ (m ++ n) ≡ [] = e in cc)

-- what is in front of it ends with a token that is no word
ends_front : (start : Lexeme → ℕ) (early : Bool) {A : Type 0} (p : Step A) → Ends p → (m l : List Lexeme) (x : A)
    (t : Lexeme) → Derives p (m ++ l) x l → (begun start m t ≡ own t) × (m ≡ [] → early ≡ true)
ends_front start early p e m l x t d =
    let k = cut p e (m ++ l) l x d in
    let text : m ≡ k.front ++ k.last ∷ [] =
    append_cancel_right m (k.front ++ k.last ∷ []) l
    (k.whole ∙ sym (append_assoc k.front (k.last ∷ []) l)) in
    (ap (λ z. begun start z t) text ∙ by_front k.front k.last k.no_word, λ none. some k.front k.last (sym text ∙ none))
  where
    by_front : (f : List Lexeme) (v : Lexeme) → of_kind Identifier v ≡ false → begun start (f ++ v ∷ []) t ≡ own t
    by_front [] v no_word = sign_start [] v t no_word
    by_front (w ∷ f) v no_word = sign_start (w ∷ f) v t no_word

    some : (f : List Lexeme) (v : Lexeme) → f ++ v ∷ [] ≡ [] → early ≡ true
    some [] v e = absurd (let none : v ∷ [] ≡ [] = e in cc)
    some (w ∷ f) v e = absurd (let none : w ∷ (f ++ v ∷ []) ≡ [] = e in cc)

pub then_ends : {start : Lexeme → ℕ} {early second : Bool} {A B : Type 0} {p r : Step A} {f g : A → Step B} → Ends p
    → Deepens start early p r → ((x : A) → Deepens own second (f x) (g x))
    → Deepens start early (Then p f) (Then r g)
then_ends {start} {early} {p = p} e h k = then_deep (λ m l x t d o. ends_front start early p e m l x t d) h k

pub then_shut : {start : Lexeme → ℕ} {early : Bool} {A B : Type 0} {p r : Step A} {f g : A → Step B}
    → Deepens start early p r → ((x : A) → Deepens own false (f x) (g x)) → Deepens start early (Then p f) (Then r g)
then_shut h k = then_deep (λ m l x t d o. absurd (let never : false ≡ true = o in cc)) h k

-- ---- turns

module _ {S : Type 0} (goes : Lexeme → Bool) (f g : S → Step S) (ends : (s : S) → Ends (f s))
    (h : (s : S) → Deepens own true (f s) (g s)) where
  turns_deep : (end : ℕ) {s : S} {a l : List Lexeme} {e : SyntaxFault} (front : List Lexeme) (t : Lexeme)
      (b : List Lexeme) → Breaks goes (λ v. Derives (f v)) (λ v c. Refused (f v) end c) end s a e l
      → a ≡ front ++ t ∷ b → l ≡ t ∷ b → Depth own true (While goes g s) end front t b e
  turns_deep end front t b (here {s = s} {a = a} {e = e} go r) text at =
      let is : first_is goes (front ++ t ∷ b) ≡ true = ap (first_is goes) (sym text) ∙ go in
      deep_moved (g s) (While goes g s) end [] front t b e (λ z o. refl) (λ z o. o) (λ z. z)
      (λ c. here_carried goes g s end (front ++ t ∷ c) (first_same goes front t c b ∙ is))
      ((h s).at_token end front t b e (subst₂ (λ z w. Refused (f s) end z e w) text at r))
  turns_deep end front t b (idle {s = s} {t = x} {a = a} {b = d} go one no_less) text at =
      shallow (λ k same. cc)
      (subst₂ (λ z w. Refused (While goes g s) end z (wrong_at end a) w) text at
      (idle go ((h s).deeper a d x one) no_less))
  turns_deep end front t b (later {s = s} {t = x} {a = a} {b = d} {e = e} go one less r) text at =
      split_at front (t ∷ b) d (subst (λ z. IsTaken z d) text (taken (f s) a d x one))
      (subst (λ z. IsTaken d z) at (breaks_stay (λ v. taken (f v)) (λ v. stays (f v) end) r))
      (λ m n parts behind.
      let all = text ∙ whole_text front m n (t ∷ b) parts in
      let first = subst₂ (λ z w. Derives (f s) z x w) all behind one in
      let shorter = subst₂ (λ z w. length w < length z) all behind less in
      let is : first_is goes (m ++ (n ++ t ∷ b)) ≡ true = ap (first_is goes) (sym all) ∙ go in
      subst (λ z. Depth own true (While goes g s) end z t b e) (sym parts)
      (deep_moved (While goes g x) (While goes g s) end m n t b e
      (λ z o. (ends_front own true (f s) (ends s) m (n ++ t ∷ b) x t first).0) (λ z o. refl)
      (no_more m n)
      (λ c.
      later_carried goes g s end x m n (t ∷ c)
      (ap (first_is goes) (sym (append_assoc m n (t ∷ c))) ∙ first_same goes (m ++ n) t c b
      ∙ ap (first_is goes) (append_assoc m n (t ∷ b)) ∙ is)
      ((h s).deeper (m ++ (n ++ t ∷ c)) (n ++ t ∷ c) x (keeps_front (f s) m n t b c x first))
      (less_behind m n t t b c shorter))
      (turns_deep end n t b r behind at)))

pub deep_many : {S : Type 0} {goes : Lexeme → Bool} {f g : S → Step S} {s : S} → ((s : S) → Ends (f s))
    → ((s : S) → Deepens own true (f s) (g s)) → Deepens own true (While goes f s) (While goes g s)
deep_many {goes = goes} {f} {g} ends h = record {
  deeper = λ a b x d. turns_past (λ s l r y one. (h s).deeper l r y one) d;
  at_token = λ end front t b e r. turns_deep goes f g ends h end front t b r refl refl;
}

-- ---- by the next token

-- the same, of texts that begin with the token
pub record DeepensAt (v : Lexeme) (early : Bool) {A : Type 0} (p r : Step A) : Type 0 where
  pub deeper : (a b : List Lexeme) (x : A) → Derives p a x b → Derives r a x b
  pub at_token : (end : ℕ) (f : List Lexeme) (t : Lexeme) (b : List Lexeme) (e : SyntaxFault) (rest : List Lexeme)
      → f ++ t ∷ b ≡ v ∷ rest → Refused p end (f ++ t ∷ b) e (t ∷ b) → Depth own early r end f t b e

pub from_first : {v : Lexeme} {early : Bool} {A : Type 0} {p r : Step A} → Deepens (λ t. v.span.start) early p r
    → DeepensAt v early p r
from_first {v} {early} {p = p} {r = r} h = record { deeper = h.deeper; at_token = token }
  where
    token : (end : ℕ) (f : List Lexeme) (t : Lexeme) (b : List Lexeme) (e : SyntaxFault) (rest : List Lexeme)
        → f ++ t ∷ b ≡ v ∷ rest → Refused p end (f ++ t ∷ b) e (t ∷ b) → Depth own early r end f t b e
    token end [] t b e rest text d =
        let same : t ≡ v = cc in
        deep_moved r r end [] [] t b e (λ z o. ap (λ (w : Lexeme). w.span.start) same) (λ z o. o) (λ z. z)
        (λ c. itself r end (t ∷ c)) (h.at_token end [] t b e d)
    token end (w ∷ f) t b e rest text d =
        deep_moved r r end [] (w ∷ f) t b e (λ z o. absurd (let none : w ∷ f ≡ [] = z in cc)) (λ z o. o) (λ z. z)
        (λ c. itself r end (w ∷ (f ++ t ∷ c))) (h.at_token end (w ∷ f) t b e d)

pub deep_peek : {early : Bool} {A : Type 0} {example : Lexeme} {f g : Lexeme → Step A}
    → ((v : Lexeme) → DeepensAt v early (f v) (g v)) → Deepens own early (Peek example f) (Peek example g)
deep_peek {early} {A} {example} {f} {g} h = record {
  deeper = λ a b x d. (d.0, d.1, d.2, (h d.0).deeper a b x d.3);
  at_token = token;
}
  where
    token : (end : ℕ) (front : List Lexeme) (t : Lexeme) (b : List Lexeme) (e : SyntaxFault)
        → Refused (Peek example f) end (front ++ t ∷ b) e (t ∷ b) → Depth own early (Peek example g) end front t b e
    token end front t b e (inl r) = absurd (let none : t ∷ b ≡ [] = r.1 in cc)
    token end front t b e (inr r) =
        deep_moved (g r.0) (Peek example g) end [] front t b e (λ z o. refl) (λ z o. o) (λ z. z)
        (λ c.
        let k = like_head t b c (like_front t b c front) r.0 r.1 r.2 in
        subst (λ z. Carries (g r.0) (Peek example g) end z z) (sym k.1) (peek_carried example g end r.0 k.0))
        ((h r.0).at_token end front t b e r.1 r.2 r.3)
