-- What productions are made of: single tokens, and repetition. Each relation of the grammar is between the tokens
-- before a part and those left after it, with what the part is in the tree between them.
use Rattle.std.specs.Prelude.{◌≡◌, Bool, true, false, Option, List, ◌∷◌, ◌++◌, option_to_list}
use Rattle.proto_lex.specs.declared.span.Span.{Span}
use Rattle.proto_grammar.specs.Lexeme.{Lexeme}

-- One token that passes the test.
pub data One (test : Lexeme → Bool) : List Lexeme → Span → List Lexeme → Type 0 where
  one : {t : Lexeme} {rest : List Lexeme} → test t ≡ true → One test (t ∷ rest) t.span rest

-- From one state to another, by steps, up to where they end.
pub data Until {S : Type 0} (ends : List Lexeme → Bool) (Step : S → List Lexeme → S → List Lexeme → Type 0) : S
    → List Lexeme → S → List Lexeme → Type 0 where
  done : {s : S} {a : List Lexeme} → ends a ≡ true → Until ends Step s a s a
  more : {s t u : S} {a b c : List Lexeme} → ends a ≡ false → Step s a t b → Until ends Step t b u c
      → Until ends Step s a u c

-- An item, after those before it. One that isn't kept in the tree is None.
pub data Adds {A : Type 0} (Item : List Lexeme → Option A → List Lexeme → Type 0) : List A → List Lexeme → List A
    → List Lexeme → Type 0 where
  adds : {items : List A} {item : Option A} {a b : List Lexeme} → Item a item b
      → Adds Item items a (items ++ option_to_list item) b

-- An item of which nothing is kept.
pub data Passes (Item : List Lexeme → List Lexeme → Type 0) : Unit {0} → List Lexeme → Unit {0} → List Lexeme
    → Type 0 where
  passes : {s t : Unit {0}} {a b : List Lexeme} → Item a b → Passes Item s a t b
