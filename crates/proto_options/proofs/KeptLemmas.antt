-- What is kept of options, by where they are: that of a list of places, one after the other.
use Rattle.std.proofs.Common.{◌≡◌, ℕ, Bool, Result, Ok, Err, Option, List, [], ◌∷◌, ◌++◌, refl}
use Rattle.proto_lex.specs.declared.token.TokenKind.TheVariants.{Comma}
use Rattle.proto_grammar.specs.declared.dialect.CustomOptions.{CustomOptions}
use Rattle.proto_grammar.specs.declared.fault.SyntaxFault.{SyntaxFault}
use Rattle.proto_grammar.specs.Lexeme.{Lexeme, Place, place_of}
use Rattle.proto_grammar.specs.Terminal.{not_next}
use Rattle.proto_grammar.specs.Grammar.Repetition.{Until, Adds, Passes}
use Rattle.proto_grammar.specs.Grammar.Repetition.Until.{done, more}
use Rattle.proto_grammar.specs.Grammar.Repetition.Adds.{adds}
use Rattle.proto_grammar.specs.Grammar.Repetition.Passes.{passes}
use Rattle.proto_grammar.specs.Grammar.Options.{IsSetting, IsOption, IsOptions, IsCommaSetting}
use Rattle.proto_grammar.specs.Grammar.Options.IsOption.{option}
use Rattle.proto_grammar.specs.Grammar.Options.IsOptions.{none as no_options, some as some_options}
use Rattle.proto_grammar.specs.Grammar.Options.IsCommaSetting.{comma_setting}
use Rattle.proto_grammar.specs.Reading.Repetition.{◌>>=◌, and_then, until_at}
use Rattle.proto_grammar.proofs.RepetitionUntilLemmas.{Falls, until_at-step}
use Rattle.proto_grammar.proofs.TerminalTokenLemmas.{token_exact, one_next}
use Rattle.proto_options.specs.declared.elements.Element.{Element}
use Rattle.proto_options.specs.declared.options.FileOption.{FileOption}
use Rattle.proto_options.specs.Elements.{Placed, placed, of_option, of_options, of_commas, of_items}
use Rattle.proto_options.specs.Reading.Settings.{setting_at}
use Rattle.proto_options.specs.Reading.Options.{Keeping, option_of, kept_at, option_at, comma_option_at}
use Rattle.proto_options.specs.Reading.Options.{comma_options_at}
use Rattle.proto_options.specs.Reading.Options.{bracketed_at, brackets_at}
use Rattle.proto_options.proofs.WalkFallLemmas.{comma_options_fall}
use Rattle.proto_options.proofs.Exact.Settings.{setting_exact}
use Rattle.proto_options.proofs.NamedLemmas.{setting_named}

abbrev pub Kept : Type 0
Kept = Result (List FileOption) SyntaxFault

-- what is kept, with the place behind it
abbrev pub carried : Kept → Place → Result (List FileOption × Place) SyntaxFault
carried (Ok all) after = Ok (all, after)
carried (Err fault) after = Err fault

-- where the text ends
module _ (end : ℕ) where
  -- with the option at a place
  abbrev pub kept_one : Placed → List FileOption → Kept
  kept_one p options =
      setting_at (place_of end p.tokens) >>= λ found. Ok (options ++ option_of p.scope p.element found.0 ∷ [])

  -- with those at these places
  abbrev pub kept_all : List Placed → List FileOption → Kept
  kept_all [] options = Ok options
  kept_all (p ∷ others) options = kept_one p options >>= λ all. kept_all others all

  kept_behind : (xs ys : List Placed) (o : Kept)
      → ((all : List FileOption)
      → kept_all (xs ++ ys) all ≡ (kept_all xs all >>= λ first. kept_all ys first))
      → (o >>= λ all. kept_all (xs ++ ys) all) ≡ ((o >>= λ all. kept_all xs all) >>= λ all. kept_all ys all)
  kept_behind xs ys (Ok all) e = e all
  kept_behind xs ys (Err fault) e = refl

  pub kept_append : (xs ys : List Placed) (options : List FileOption)
      → kept_all (xs ++ ys) options ≡ (kept_all xs options >>= λ all. kept_all ys all)
  kept_append [] ys options = refl
  kept_append (p ∷ xs) ys options = kept_behind xs ys (kept_one p options) (λ all. kept_append xs ys all)

  then_by : (o : Kept) (ys : List Placed) (b c : Place)
      → (next : List FileOption × Place → Result (List FileOption × Place) SyntaxFault)
      → ((all : List FileOption) → next (all, b) ≡ carried (kept_all ys all) c)
      → and_then (carried o b) next ≡ carried (o >>= λ all. kept_all ys all) c
  then_by (Ok all) ys b c next e = e all
  then_by (Err fault) ys b c next e = refl

  -- options, and others behind them
  pub walks_then : (xs ys : List Placed) (options : List FileOption) (b c : Place)
      → (first : Result (List FileOption × Place) SyntaxFault)
      → (next : List FileOption × Place → Result (List FileOption × Place) SyntaxFault)
      → first ≡ carried (kept_all xs options) b
      → ((all : List FileOption) → next (all, b) ≡ carried (kept_all ys all) c)
      → and_then first next ≡ carried (kept_all (xs ++ ys) options) c
  walks_then xs ys options b c first next e f =
      rw (e, kept_append xs ys options) (then_by (kept_all xs options) ys b c next f)

  end_by : (o : Kept) (b c : Place) → (next : List FileOption × Place → Result (List FileOption × Place) SyntaxFault)
      → ((all : List FileOption) → next (all, b) ≡ Ok (all, c)) → and_then (carried o b) next ≡ carried o c
  end_by (Ok all) b c next e = e all
  end_by (Err fault) b c next e = refl

  -- options, and what has none behind them
  pub walks_end : (xs : List Placed) (options : List FileOption) (b c : Place)
      → (first : Result (List FileOption × Place) SyntaxFault)
      → (next : List FileOption × Place → Result (List FileOption × Place) SyntaxFault)
      → first ≡ carried (kept_all xs options) b
      → ((all : List FileOption) → next (all, b) ≡ Ok (all, c))
      → and_then first next ≡ carried (kept_all xs options) c
  walks_end xs options b c first next e f = rw e (end_by (kept_all xs options) b c next f)

  -- ---- an option

  kept_walks : (scope : List ℕ) (element : Element) {custom : CustomOptions} {b c : List Lexeme} → IsSetting custom b c
      → (options : List FileOption)
      → kept_at scope element options (place_of end b)
      ≡ carried (kept_all (placed scope element b) options) (place_of end c)
  unfolding kept_at
  kept_walks scope element is options = rw (setting_exact end (setting_named is).1) refl

  pub option_walks : (scope : List ℕ) (element : Element) {custom : CustomOptions} {a b : List Lexeme}
      (o : IsOption custom a b) (options : List FileOption)
      → option_at scope element options (place_of end a)
      ≡ carried (kept_all (of_option scope element o) options) (place_of end b)
  unfolding option_at
  option_walks scope element (option {b = b} {c = c} {d = d} keyword set semicolon) options =
      rw (token_exact end keyword)
      (walks_end (placed scope element b) options (place_of end c) (place_of end d) _ _
      (kept_walks scope element set options) (λ all. rw (token_exact end semicolon) refl))

  commas_walk : (scope : List ℕ) (element : Element) {custom : CustomOptions} {s t : Unit {0}} {a b : List Lexeme}
      (u : Until (not_next Comma) (Passes (IsCommaSetting custom)) s a t b) (options : List FileOption)
      → until_at (not_next Comma) (comma_option_at scope element) options (place_of end a)
      ≡ carried (kept_all (of_commas scope element u) options) (place_of end b)
  unfolding comma_option_at
  commas_walk scope element (done {a = a} ended) options =
      rw (
        until_at-step (not_next Comma) (comma_option_at scope element) (comma_options_fall scope element) options
            (place_of end a),
        ended,
      ) refl
  commas_walk scope element (more {a = a} {c = c} further (passes (comma_setting {b = b} {c = d} comma set)) others)
      options =
      rw (
        until_at-step (not_next Comma) (comma_option_at scope element) (comma_options_fall scope element) options
            (place_of end a),
        further,
        token_exact end comma,
      )
      (walks_then (placed scope element b) (of_commas scope element others) options (place_of end d) (place_of end c)
      _ _
      (kept_walks scope element set options) (λ all. commas_walk scope element others all))

  pub brackets_walk : (scope : List ℕ) (element : Element) {custom : CustomOptions} {a b : List Lexeme}
      (o : IsOptions custom a b) (options : List FileOption)
      → brackets_at scope element options (place_of end a)
      ≡ carried (kept_all (of_options scope element o) options) (place_of end b)
  unfolding brackets_at bracketed_at comma_options_at
  brackets_walk scope element (no_options none) options = rw none refl
  brackets_walk scope element (some_options {b = b} {c = c} {d = d} {e = e} open_bracket set others close_bracket)
      options =
      rw (one_next open_bracket, token_exact end open_bracket)
      (walks_then (placed scope element b) (of_commas scope element others) options (place_of end c) (place_of end e)
      _ _
      (kept_walks scope element set options)
      (λ all. walks_end (of_commas scope element others) all (place_of end d) (place_of end e) _ _
      (commas_walk scope element others all) (λ rest. rw (token_exact end close_bracket) refl)))

  -- ---- items, one after the other
  module _ {A : Type 0} (ends : List Lexeme → Bool) (Item : List Lexeme → Option A → List Lexeme → Type 0)
      (each : (a b : List Lexeme) (x : Option A) → Item a x b → List Placed) (step : Keeping) (falls : Falls step)
      (walks : (a b : List Lexeme) (x : Option A) (i : Item a x b) (options : List FileOption)
      → step options (place_of end a) ≡ carried (kept_all (each a b x i) options) (place_of end b)) where
    pub items_walk : {front all : List A} {a b : List Lexeme} (u : Until ends (Adds Item) front a all b)
        (options : List FileOption)
        → until_at ends step options (place_of end a)
        ≡ carried (kept_all (of_items each u) options) (place_of end b)
    items_walk (done {a = a} ended) options = rw (until_at-step ends step falls options (place_of end a), ended) refl
    items_walk (more {a = a} {b = b} {c = c} further (adds {item = x} i) others) options =
        rw (until_at-step ends step falls options (place_of end a), further)
        (walks_then (each a b x i) (of_items each others) options (place_of end b) (place_of end c) _ _
        (walks a b x i options) (λ all. items_walk others all))

-- A step keeps the options at these places, and goes from the first tokens to the second ones.
pub record Walks (end : ℕ) (step : Keeping) (settings : List Placed) (a b : List Lexeme) : Type 0 where
  pub kept : (options : List FileOption)
      → step options (place_of end a) ≡ carried (kept_all end settings options) (place_of end b)
