-- A step with bans, and one that lifts some: what derives by the first, derives by the second, if no token is one that
-- is barred.
use Rattle.std.proofs.Common.{◌≡◌, ℕ, Bool, true, false, List, [], ◌∷◌, ◌++◌, inl, inr, sym, ap, ◌∙◌}
use Rattle.std.specs.List.{list_any}
use Rattle.proto_grammar.specs.declared.fault.SyntaxFault.{SyntaxFault}
use Rattle.proto_grammar.specs.Lexeme.{Lexeme}
use Rattle.proto_grammar.specs.Terminal.{first_is}
use Rattle.proto_grammar.proofs.RepetitionStepLemmas.{both_false}
use Rattle.proto_steps.specs.Step.{Step, Never, Peek, Then, If, While, Kept, Derives, Turns}
use Rattle.proto_steps.specs.Step.Turns.{ended, turn}
use Rattle.proto_steps.proofs.StepLaws.{IsTaken, taken}

-- The same steps, but that something else may stand for a ban, and behind a test that only barred tokens pass.
pub data Lifts (barred : Lexeme → Bool) : (A : Type 0) → Step A → Step A → Type 1 where
  same : {A : Type 0} {p : Step A} → Lifts barred A p p
  lifted : {A : Type 0} {fault : ℕ → SyntaxFault} {q : Step A} → Lifts barred A (Never fault) q
  lifted_first : {A B : Type 0} {fault : ℕ → SyntaxFault} {f : A → Step B} {q : Step B}
      → Lifts barred B (Then (Never fault) f) q
  peeked : {A : Type 0} {example : Lexeme} {f g : Lexeme → Step A} → ((t : Lexeme) → Lifts barred A (f t) (g t))
      → Lifts barred A (Peek example f) (Peek example g)
  one_then : {A B : Type 0} {p q : Step A} {f g : A → Step B} → Lifts barred A p q
      → ((x : A) → Lifts barred B (f x) (g x)) → Lifts barred B (Then p f) (Then q g)
  either_of : {A : Type 0} {test : Lexeme → Bool} {p q r s : Step A} → Lifts barred A p r → Lifts barred A q s
      → Lifts barred A (If test p q) (If test r s)
  unmet : {A : Type 0} {test : Lexeme → Bool} {p q r s : Step A}
      → ((t : Lexeme) → barred t ≡ false → test t ≡ false) → Lifts barred A q s
      → Lifts barred A (If test p q) (If test r s)
  as_long : {S : Type 0} {goes : Lexeme → Bool} {f g : S → Step S} {s : S} → ((t : S) → Lifts barred S (f t) (g t))
      → Lifts barred S (While goes f s) (While goes g s)
  with_tokens : {A : Type 0} {p q : Step A} → Lifts barred A p q → Lifts barred (A × List Lexeme) (Kept p) (Kept q)

abbrev pub Among : (Lexeme → Bool) → {A : Type 0} → Step A → Step A → Type 1
Among barred {A} p q = Lifts barred A p q

-- no token is barred
abbrev pub Free : (Lexeme → Bool) → List Lexeme → Type 0
Free barred a = list_any barred a ≡ false

free_append : (barred : Lexeme → Bool) (front b : List Lexeme) → Free barred (front ++ b) → Free barred b
free_append barred [] b free = free
free_append barred (t ∷ front) b free =
    free_append barred front b (both_false (barred t) (list_any barred (front ++ b)) free).1

pub free_behind : (barred : Lexeme → Bool) {a b : List Lexeme} → IsTaken a b → Free barred a → Free barred b
free_behind barred {a} {b} f free = free_append barred f.0 b (ap (list_any barred) (sym f.1) ∙ free)

not_met : {P : Type 0} (barred test : Lexeme → Bool) (a : List Lexeme)
    → ((t : Lexeme) → barred t ≡ false → test t ≡ false) → Free barred a → first_is test a ≡ true → P
not_met barred test [] never free is = absurd (let off : false ≡ true = is in cc)
not_met barred test (t ∷ rest) never free is =
    absurd (let off : false ≡ true = sym (never t (both_false (barred t) (list_any barred rest) free).0) ∙ is in cc)

turns_among : (barred : Lexeme → Bool) {S : Type 0} {goes : Lexeme → Bool}
    {One Other : S → List Lexeme → S → List Lexeme → Type 0}
    → ((s : S) (a b : List Lexeme) (t : S) → Free barred a → One s a t b → Other s a t b)
    → ((s : S) (a b : List Lexeme) (t : S) → One s a t b → IsTaken a b)
    → {s t : S} {a b : List Lexeme} → Free barred a → Turns goes One s a t b → Turns goes Other s a t b
turns_among barred h takes free (ended over) = ended over
turns_among barred h takes free (turn {s = s} {t = t} {a = a} {b = b} go one less rest) =
    turn go (h s a b t free one) less
    (turns_among barred h takes (free_behind barred (takes s a b t one) free) rest)

pub among : {barred : Lexeme → Bool} {A : Type 0} {p q : Step A} → Among barred p q → (a b : List Lexeme) (x : A)
    → Free barred a → Derives p a x b → Derives q a x b
among same a b x free d = d
among lifted a b x free d = absurd d
among lifted_first a b x free d = absurd d.2
among (peeked h) a b x free d = (d.0, d.1, d.2, among (h d.0) a b x free d.3)
among {barred} (one_then {p = p} h k) a b x free d =
    (d.0, d.1, among h a d.1 d.0 free d.2, among (k d.0) d.1 b x (free_behind barred (taken p a d.1 d.0 d.2) free) d.3)
among (either_of h k) a b x free (inl d) = inl (d.0, among h a b x free d.1)
among (either_of h k) a b x free (inr d) = inr (d.0, among k a b x free d.1)
among {barred} (unmet {test = test} never k) a b x free (inl d) = not_met barred test a never free d.0
among (unmet never k) a b x free (inr d) = inr (d.0, among k a b x free d.1)
among {barred} (as_long {f = f} h) a b x free d =
    turns_among barred (λ s l r t more one. among (h s) l r t more one) (λ s l r t one. taken (f s) l r t one) free d
among (with_tokens h) a b x free d = (among h a b x.0 free d.0, d.1)
