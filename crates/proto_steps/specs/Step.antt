-- A grammar as data, and what it means: how it is read, what derives, and what is refused.
use Rattle.std.specs.Prelude.{◌≡◌, ◌⊎◌, ◌<◌, ◌-◌, ℕ, zero, suc, Bool, true, false, cond, nat_lt, Result, Ok, Err}
use Rattle.std.specs.Prelude.{Option, option_to_list, List, [], ◌∷◌, ◌++◌, length, take}
use Rattle.std.specs.Option.{option_map_or}
use Rattle.proto_lex.specs.declared.span.Span.{Span}
use Rattle.proto_grammar.specs.declared.fault.SyntaxFault.{SyntaxFault}
use Rattle.proto_grammar.specs.declared.fault.SyntaxFault.TheVariants.{Grammar}
use Rattle.proto_grammar.specs.Lexeme.{Lexeme, Place, place_of}
use Rattle.proto_grammar.specs.Terminal.{first, first_is, offset_at}
use Rattle.proto_grammar.specs.Reading.Repetition.{and_then, Read, misplaced, token_that}

-- A kind of token: which tokens are of it, and one that is.
pub record Terminal : Type 0 where
  pub is : Lexeme → Bool
  pub example : Lexeme

-- What can be read, with its value.
pub data Step : Type 0 → Type 1 where
  -- nothing: this is the value
  Done : {A : Type 0} → A → Step A
  -- nothing may be here: the fault, by where the next token is
  Never : {A : Type 0} → (ℕ → SyntaxFault) → Step A
  -- a token of this kind
  Take : Terminal → Step Span
  -- by the next token, which isn't taken. With one that may be next.
  Peek : {A : Type 0} → (example : Lexeme) → (Lexeme → Step A) → Step A
  -- one after the other; what comes then may depend on the value of the first
  Then : {A B : Type 0} → Step A → (A → Step B) → Step B
  -- the first if such a token is next, or else the second
  If : {A : Type 0} → (Lexeme → Bool) → Step A → Step A → Step A
  -- from a state to the next, as long as such a token is next
  While : {S : Type 0} → (Lexeme → Bool) → (S → Step S) → S → Step S
  -- any tokens, until none of what they count is open. With one that closes the last.
  Count : (example : Lexeme) → (Lexeme → ℕ → ℕ) → ℕ → Step (Unit {0})
  -- with the tokens that are taken
  Kept : {A : Type 0} → Step A → Step (A × List Lexeme)

-- ---- how a step is read from a place: its value and the place behind it, or the fault that is met

-- the turns behind the first one, which has to take a token
abbrev pub further : {S : Type 0} → Place → (S → Read S) → S × Place → Result (S × Place) SyntaxFault
further place others x =
    cond (nat_lt (length x.1.left) (length place.left)) (others x.0 x.1) (misplaced place)

abbrev pub turns_by : {S : Type 0} → (Lexeme → Bool) → (S → Read S) → ℕ → S → Read S
turns_by goes one zero s place = misplaced place
turns_by goes one (suc n) s place =
    cond (first_is goes place.left) (and_then (one s place) (further place (turns_by goes one n))) (Ok (s, place))

unfoldable pub turns_at : {S : Type 0} → (Lexeme → Bool) → (S → Read S) → S → Read S
turns_at goes one s place = turns_by goes one (suc (length place.left)) s place

abbrev pub count_by : (Lexeme → ℕ → ℕ) → ℕ → List Lexeme → (end : ℕ) → Result (Unit {0} × Place) SyntaxFault
count_by next zero a end = Ok (tt, place_of end a)
count_by next (suc n) [] end = Err (Grammar end)
count_by next (suc n) (t ∷ a) end = count_by next (next t (suc n)) a end

unfoldable pub count_at : (Lexeme → ℕ → ℕ) → ℕ → Read (Unit {0})
count_at next n place = count_by next n place.left place.end

-- what is read, with the tokens that it took
abbrev pub kept_from : {A : Type 0} → Place → A × Place → Result ((A × List Lexeme) × Place) SyntaxFault
kept_from place x = Ok ((x.0, take (length place.left - length x.1.left) place.left), x.1)

unfoldable pub run : {A : Type 0} → Step A → Read A
run (Done v) place = Ok (v, place)
run (Never fault) place = Err (fault (offset_at place))
run (Take terminal) place = token_that terminal.is place
run (Peek example next) place = option_map_or (λ t. run (next t) place) (first place.left) (misplaced place)
run (Then p next) place = and_then (run p place) (λ x. run (next x.0) x.1)
run (If test p q) place = cond (first_is test place.left) (run p place) (run q place)
run (While goes step s) place = turns_at goes (λ t. run (step t)) s place
run (Count example next n) place = count_at next n place
run (Kept p) place = and_then (run p place) (kept_from place)

-- ---- what derives: from the tokens before to the value and the tokens that are left

-- one turn after the other, each of a token or more
pub data Turns {S : Type 0} (goes : Lexeme → Bool) (One : S → List Lexeme → S → List Lexeme → Type 0) : S
    → List Lexeme → S → List Lexeme → Type 0 where
  ended : {s : S} {a : List Lexeme} → first_is goes a ≡ false → Turns goes One s a s a
  turn : {s t u : S} {a b c : List Lexeme} → first_is goes a ≡ true → One s a t b → length b < length a
      → Turns goes One t b u c → Turns goes One s a u c

pub data Counts (next : Lexeme → ℕ → ℕ) : ℕ → List Lexeme → List Lexeme → Type 0 where
  at_zero : {a : List Lexeme} → Counts next zero a a
  past : {n : ℕ} {t : Lexeme} {a b : List Lexeme} → Counts next (next t (suc n)) a b → Counts next (suc n) (t ∷ a) b

abbrev pub Derives : {A : Type 0} → Step A → List Lexeme → A → List Lexeme → Type 0
Derives (Done v) a x b = (x ≡ v) × (b ≡ a)
Derives (Never fault) a x b = ⊥
Derives (Take terminal) a x b = (t : Lexeme) × (a ≡ t ∷ b) × (terminal.is t ≡ true) × (x ≡ t.span)
Derives (Peek example next) a x b = (t : Lexeme) × (rest : List Lexeme) × (a ≡ t ∷ rest) × Derives (next t) a x b
Derives (Then {A} p next) a y c = (x : A) × (b : List Lexeme) × Derives p a x b × Derives (next x) b y c
Derives (If test p q) a x b = ((first_is test a ≡ true) × Derives p a x b) ⊎
    ((first_is test a ≡ false) × Derives q a x b)
Derives (While goes step s) a t b = Turns goes (λ u. Derives (step u)) s a t b
Derives (Count example next n) a x b = Counts next n a b
Derives (Kept p) a x b = Derives p a x.0 b × (a ≡ x.1 ++ b)

-- ---- what is refused: the fault, and the tokens that are left where it is met

-- the fault of a token that can't be there, or of a text that ends at `end`
abbrev pub wrong_at : (end : ℕ) → List Lexeme → SyntaxFault
wrong_at end a = Grammar (offset_at (place_of end a))

pub data Breaks {S : Type 0} (goes : Lexeme → Bool) (One : S → List Lexeme → S → List Lexeme → Type 0)
    (Fault : S → List Lexeme → SyntaxFault → List Lexeme → Type 0) (end : ℕ) : S → List Lexeme → SyntaxFault
    → List Lexeme → Type 0 where
  here : {s : S} {a l : List Lexeme} {e : SyntaxFault} → first_is goes a ≡ true → Fault s a e l
      → Breaks goes One Fault end s a e l
  -- a turn takes a token
  idle : {s t : S} {a b : List Lexeme} → first_is goes a ≡ true → One s a t b → nat_lt (length b) (length a) ≡ false
      → Breaks goes One Fault end s a (wrong_at end a) a
  later : {s t : S} {a b l : List Lexeme} {e : SyntaxFault} → first_is goes a ≡ true → One s a t b → length b < length a
      → Breaks goes One Fault end t b e l → Breaks goes One Fault end s a e l

pub data Lacks (next : Lexeme → ℕ → ℕ) : ℕ → List Lexeme → Type 0 where
  at_end : {n : ℕ} → Lacks next (suc n) []
  beyond : {n : ℕ} {t : Lexeme} {a : List Lexeme} → Lacks next (next t (suc n)) a → Lacks next (suc n) (t ∷ a)

abbrev pub Refused : {A : Type 0} → Step A → (end : ℕ) → List Lexeme → SyntaxFault → List Lexeme → Type 0
Refused (Done v) end a e l = ⊥
Refused (Never fault) end a e l = (l ≡ a) × (e ≡ fault (offset_at (place_of end a)))
Refused (Take terminal) end a e l = (first_is terminal.is a ≡ false) × (l ≡ a) × (e ≡ wrong_at end a)
Refused (Peek example next) end a e l =
    ((a ≡ []) × (l ≡ []) × (e ≡ Grammar end))
    ⊎ ((t : Lexeme) × (rest : List Lexeme) × (a ≡ t ∷ rest) × Refused (next t) end a e l)
Refused (Then {A} p next) end a e l =
    Refused p end a e l ⊎ ((x : A) × (b : List Lexeme) × Derives p a x b × Refused (next x) end b e l)
Refused (If test p q) end a e l =
    ((first_is test a ≡ true) × Refused p end a e l) ⊎ ((first_is test a ≡ false) × Refused q end a e l)
Refused (While goes step s) end a e l =
    Breaks goes (λ u. Derives (step u)) (λ u b. Refused (step u) end b) end s a e l
Refused (Count example next n) end a e l = Lacks next n a × (l ≡ []) × (e ≡ Grammar end)
Refused (Kept p) end a e l = Refused p end a e l

-- ---- shorter ways to write steps

-- by `do`: each line's step, and its value
infixl 10 ◌>>=◌
abbrev pub ◌>>=◌ : {A B : Type 0} → Step A → (A → Step B) → Step B
p >>= next = Then p next

-- an item, after those before it; one that isn't kept is None
abbrev pub adding : {A : Type 0} → Step (Option A) → List A → Step (List A)
adding item items = Then item (λ x. Done (items ++ option_to_list x))

-- an item of which nothing is kept
abbrev pub passing : Step (Unit {0}) → Unit {0} → Step (Unit {0})
passing item s = item

-- a step without its value
abbrev pub passed : {A : Type 0} → Step A → Step (Unit {0})
passed p = Then p (λ x. Done tt)

-- one of two, by what is known before
abbrev pub when : {A : Type 0} → Bool → Step A → Step A → Step A
when true p q = p
when false p q = q
