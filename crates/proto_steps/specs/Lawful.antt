-- What is so of a step, for each text.
use Rattle.std.specs.Prelude.{◌≡◌, ◌⊎◌, ℕ, List, [], ◌∷◌, ◌++◌}
use Rattle.proto_grammar.specs.declared.fault.SyntaxFault.{SyntaxFault}
use Rattle.proto_grammar.specs.Lexeme.{Lexeme}
use Rattle.proto_steps.specs.Step.{Step, Derives, Refused}

-- Tokens derive one value at most, and leave the same tokens.
abbrev pub OneReading : {A : Type 0} → Step A → Type 0
OneReading {A} p =
    (a b c : List Lexeme) (x y : A) → Derives p a x b → Derives p a y c → (x ≡ y) × (b ≡ c)

-- The tokens of a text that ends at `end` derive a value, or are refused, and not both. They have one fault at most.
pub record DerivesOrRefused {A : Type 0} (p : Step A) : Type 0 where
  pub one : (end : ℕ) (a : List Lexeme) → ((x : A) × (b : List Lexeme) × Derives p a x b)
      ⊎ ((e : SyntaxFault) × (l : List Lexeme) × Refused p end a e l)
  pub not_both : (end : ℕ) (a b l : List Lexeme) (x : A) (e : SyntaxFault) → Derives p a x b → Refused p end a e l → ⊥
  pub one_fault : (end : ℕ) (a l m : List Lexeme) (e f : SyntaxFault) → Refused p end a e l → Refused p end a f m
      → e ≡ f

-- A fault is met at the first token with which what is in front of it can't go on: whatever stands behind this token,
-- nothing derives.
abbrev pub FirstFault : {A : Type 0} → Step A → Type 0
FirstFault {A} p =
    (end : ℕ) (front : List Lexeme) (t : Lexeme) (b c : List Lexeme) (e : SyntaxFault)
    → Refused p end (front ++ t ∷ b) e (t ∷ b)
    → (x : A) (rest : List Lexeme) → Derives p (front ++ t ∷ c) x rest → ⊥

-- Some tokens behind the front make a sentence.
abbrev pub GoesOn : {A : Type 0} → Step A → List Lexeme → Type 0
GoesOn {A} p front = (more : List Lexeme) × (x : A) × Derives p (front ++ more) x []

-- What stands in front of a fault can be finished.
abbrev pub FrontGoesOn : {A : Type 0} → Step A → Type 0
FrontGoesOn p =
    (end : ℕ) (front l : List Lexeme) (e : SyntaxFault) → Refused p end (front ++ l) e l → GoesOn p front

-- What derives by the one, derives by the other.
abbrev pub DerivesAmong : {A : Type 0} → Step A → Step A → Type 0
DerivesAmong {A} p q = (a b : List Lexeme) (x : A) → Derives p a x b → Derives q a x b
