-- The grammar as data is read as the parser's functions on tokens read: names and options.
use Rattle.std.proofs.Common.{◌≡◌, ℕ, zero, suc, ◌<◌, ◌==◌, Bool, true, false, not, Result, Ok, Err, Option}
use Rattle.std.proofs.Common.{option_to_list}
use Rattle.std.proofs.Common.{List, [], ◌∷◌, ◌++◌, length, nat_lt, refl, ap, ◌∙◌, arith, inl, codes}
use Rattle.std.proofs.lemmas.Bool.{lt-ltb, ltb-true}
use Rattle.std.proofs.lemmas.Bool.Decides.{nat_tests}
use Rattle.proto_lex.specs.declared.span.Span.{Span}
use Rattle.proto_lex.specs.declared.token.TokenKind.{TokenKind}
use Rattle.proto_lex.specs.declared.token.TokenKind.TheVariants.{Identifier, StringLiteral, Semicolon, Equals}
use Rattle.proto_lex.specs.declared.token.TokenKind.TheVariants.{Dot, OpenParenthesis, CloseParenthesis}
use Rattle.proto_grammar.specs.declared.dialect.CustomOptions.{CustomOptions}
use Rattle.proto_grammar.specs.declared.dialect.CustomOptions.TheVariants.{Refuse, Skip}
use Rattle.proto_grammar.specs.declared.fault.SyntaxFault.{SyntaxFault}
use Rattle.proto_grammar.specs.declared.tree.TypeName.{TypeName}
use Rattle.proto_grammar.specs.Lexeme.{Lexeme, Place}
use Rattle.proto_grammar.specs.Terminal.{first_is, of_kind, is_word, not_next}
use Rattle.proto_grammar.specs.Reading.Repetition.{Read, and_then, token_that, until_at, adding as adding_at}
use Rattle.proto_grammar.specs.Reading.Repetition.{passing as passing_at}
use Rattle.proto_grammar.specs.Reading.Names.{dot_name_at, dot_names_at, name_at, pass_dot_name_at, pass_dot_names_at}
use Rattle.proto_grammar.specs.Reading.Names.{pass_name_at, leading_dot_at, type_name_at, pass_type_name_at}
use Rattle.proto_grammar.specs.Reading.Names.{named_type_at}
use Rattle.proto_grammar.specs.Reading.Options.{extension_at, part_at, dot_part_at, dot_parts_at, option_name_at}
use Rattle.proto_grammar.specs.Reading.Options.{literal_at, literals_at, strings_at, closed_by, closed_at, aggregate_at}
use Rattle.proto_grammar.specs.Reading.Options.{signed_at, constant_at, setting_at}
use Rattle.proto_grammar.specs.Reading.Options.{option_at}
use Rattle.proto_grammar.proofs.RepetitionUntilLemmas.{Falls, until_at-step}
use Rattle.proto_steps.specs.Step.{Step, While, adding, passing, passed, run, count_by, count_at}
use Rattle.proto_steps.specs.Grammar.Parts.{dot_name, dot_names, name, leading_dot, type_name, named_type, extension}
use Rattle.proto_steps.specs.Grammar.Parts.{part, dot_part, dot_parts, option_name, string, more_strings, strings}
use Rattle.proto_steps.specs.Grammar.Parts.{open_behind, aggregate, signed, constant, setting}
use Rattle.proto_steps.specs.Grammar.Parts.{option_statement}
use Rattle.proto_steps.proofs.TurnLemmas.{by_bool, by_result, first_turn, same_bind}
use Rattle.proto_steps.proofs.MoveLemmas.{Moves, shorter}

-- ---- loops

module _ {S : Type 0} (goes : Lexeme → Bool) (ends : List Lexeme → Bool) (step : S → Step S) (old : S → Read S)
    (same : (a : List Lexeme) → first_is goes a ≡ not (ends a))
    (agree : (s : S) (place : Place) → run (step s) place ≡ old s place) (moving : (s : S) → Moves (step s))
  where
    falls : Falls old
    falls s place x e = shorter (step s) (moving s) place x.1 x.0 (agree s place ∙ e)

    turns_by-agree : (n : ℕ) (s : S) (place : Place) → length place.left < n
        → run (While goes step s) place ≡ until_at ends old s place
    unfolding run
    turns_by-agree zero s place l = absurd (omega arith)
    turns_by-agree (suc n) s place l =
        by_bool (ends place.left)
        (λ over.
        rw (
          first_turn goes (λ t. run (step t)) s place,
          until_at-step ends old falls s place,
          same place.left,
          over,
        )
        refl)
        (λ go.
        by_result (old s place)
        (λ x e.
        let less = falls s place x e in
        rw (
          first_turn goes (λ t. run (step t)) s place,
          until_at-step ends old falls s place,
          same place.left,
          go,
          agree s place,
          e,
          lt-ltb _ _ less,
        )
        (turns_by-agree n x.0 x.1 (omega (arith, less))))
        (λ fault e.
        rw (
          first_turn goes (λ t. run (step t)) s place,
          until_at-step ends old falls s place,
          same place.left,
          go,
          agree s place,
          e,
        )
        refl))

    pub turns_agree : (s : S) (place : Place) → run (While goes step s) place ≡ until_at ends old s place
    turns_agree s place = turns_by-agree (suc (length place.left)) s place (omega arith)

pub twice : (b : Bool) → b ≡ not (not b)
twice true = refl
twice false = refl

-- a loop that forgets what it keeps is one that keeps nothing
forgets_by : {A : Type 0} (goes : Lexeme → Bool) (item : Step (Option A)) (n : ℕ) (list : List A) (place : Place)
    → length place.left < n
    → run (passed (While goes (adding item) list)) place ≡ run (While goes (passing (passed item)) tt) place
unfolding run
forgets_by goes item zero list place l = absurd (omega arith)
forgets_by goes item (suc n) list place l =
    by_bool (first_is goes place.left)
    (λ go.
    by_result (run item place)
    (λ x e.
    by_bool (nat_lt (length x.1.left) (length place.left))
    (λ less.
    rw (
      first_turn goes (λ t. run (adding item t)) list place,
      first_turn goes (λ t. run (passing (passed item) t)) tt place,
      go,
      e,
      less,
    )
    (forgets_by goes item n (list ++ option_to_list x.0) x.1 (omega (arith, ltb-true _ _ less))))
    (λ no_less.
    rw (
      first_turn goes (λ t. run (adding item t)) list place,
      first_turn goes (λ t. run (passing (passed item) t)) tt place,
      go,
      e,
      no_less,
    )
    refl))
    (λ fault e.
    rw (
      first_turn goes (λ t. run (adding item t)) list place,
      first_turn goes (λ t. run (passing (passed item) t)) tt place,
      go,
      e,
    )
    refl))
    (λ over.
    rw (
      first_turn goes (λ t. run (adding item t)) list place,
      first_turn goes (λ t. run (passing (passed item) t)) tt place,
      over,
    )
    refl)

pub forgets : {A : Type 0} (goes : Lexeme → Bool) (item : Step (Option A)) (list : List A) (place : Place)
    → run (passed (While goes (adding item) list)) place ≡ run (While goes (passing (passed item)) tt) place
forgets goes item list place = forgets_by goes item (suc (length place.left)) list place (omega arith)

abbrev type_of : Option Span → List Span → TypeName
type_of dot components = record { leading_dot = dot; components = components }

pub bind_assoc : {A B C : Type 0} (o : Result A SyntaxFault) (f : A → Result B SyntaxFault)
    (g : B → Result C SyntaxFault) → and_then (and_then o f) g ≡ and_then o (λ x. and_then (f x) g)
bind_assoc (Ok x) f g = refl
bind_assoc (Err e) f g = refl

pub bind_agree : {A B : Type 0} {o u : Result A SyntaxFault} {f g : A → Result B SyntaxFault} → o ≡ u
    → ((x : A) → f x ≡ g x) → and_then o f ≡ and_then u g
bind_agree {u = u} {f = f} {g = g} e h = ap (λ z. and_then z f) e ∙ same_bind u f g h

-- ---- names

dot_name_agrees : (place : Place) → run dot_name place ≡ dot_name_at place
unfolding run dot_name dot_name_at
dot_name_agrees place = refl

dot_name_moves : Moves dot_name
unfolding dot_name
dot_name_moves = inl tt

pub dot_names_agree : (list : List Span) (place : Place) → run (dot_names list) place ≡ dot_names_at list place
unfolding run dot_names dot_names_at
dot_names_agree list place =
    turns_agree (of_kind Dot) (not_next Dot) (adding dot_name) (adding_at dot_name_at)
    (λ a. twice (first_is (of_kind Dot) a)) (λ s at. rw (dot_name_agrees at) refl) (λ s. inl dot_name_moves) list place

pub name_agrees : (place : Place) → run name place ≡ name_at place
unfolding run name name_at
name_agrees place = same_bind {A = Span × Place} _ _ _ (λ x. dot_names_agree (x.0 ∷ []) x.1)

pass_dot_name_agrees : (place : Place) → run (passed dot_name) place ≡ pass_dot_name_at place
unfolding run pass_dot_name_at
pass_dot_name_agrees place = rw (dot_name_agrees place) refl

pass_dot_names_agree : (list : List Span) (place : Place) → run (passed (dot_names list)) place ≡ pass_dot_names_at
    place
unfolding run dot_names pass_dot_names_at
pass_dot_names_agree list place =
    forgets (of_kind Dot) dot_name list place
    ∙ turns_agree (of_kind Dot) (not_next Dot) (passing (passed dot_name)) (passing_at pass_dot_name_at)
    (λ a. twice (first_is (of_kind Dot) a)) (λ s at. pass_dot_name_agrees at) (λ s. inl dot_name_moves) tt place

pub pass_name_agrees : (place : Place) → run (passed name) place ≡ pass_name_at place
unfolding run name pass_name_at
pass_name_agrees place =
    bind_assoc {A = Span × Place} {B = List Span × Place} (token_that (of_kind Identifier) place)
    (λ x. run (dot_names (x.0 ∷ [])) x.1) (λ y. Ok (tt, y.1))
    ∙ same_bind {A = Span × Place} _ _ _ (λ x. pass_dot_names_agree (x.0 ∷ []) x.1)

leading_dot_agrees : (place : Place) → run leading_dot place ≡ leading_dot_at place
unfolding run leading_dot leading_dot_at
leading_dot_agrees place = refl

-- a name behind a dot, or behind none
abbrev dotted : Option Span × Place → List Span × Place → Result (TypeName × Place) SyntaxFault
dotted dot y = Ok (type_of dot.0 y.0, y.1)

dotted_agrees : (dot : Option Span × Place) → and_then (run name dot.1) (dotted dot) ≡ and_then (name_at dot.1)
    (dotted dot)
dotted_agrees dot = ap (λ o. and_then o (dotted dot)) (name_agrees dot.1)

pub type_name_agrees : (place : Place) → run type_name place ≡ type_name_at place
unfolding run type_name type_name_at
type_name_agrees place = bind_agree (leading_dot_agrees place) dotted_agrees

-- without its value
abbrev pub forgotten : {A : Type 0} → A × Place → Result (Unit {0} × Place) SyntaxFault
forgotten x = Ok (tt, x.1)

pass_dotted_agrees : (dot : Option Span × Place)
    → and_then (and_then (run name dot.1) (dotted dot)) forgotten ≡ pass_name_at dot.1
unfolding run
pass_dotted_agrees dot =
    bind_assoc {A = List Span × Place} {B = TypeName × Place} (run name dot.1) (dotted dot) forgotten
    ∙ pass_name_agrees dot.1

pub pass_type_name_agrees : (place : Place) → run (passed type_name) place ≡ pass_type_name_at place
unfolding run type_name pass_type_name_at
pass_type_name_agrees place =
    bind_assoc {A = Option Span × Place} {B = TypeName × Place} (run leading_dot place)
    (λ x. and_then (run name x.1) (dotted x)) forgotten
    ∙ bind_agree (leading_dot_agrees place) pass_dotted_agrees

pub named_type_agrees : (place : Place) → run named_type place ≡ named_type_at place
unfolding run named_type named_type_at
named_type_agrees place = rw (type_name_agrees place) refl

-- ---- options

-- up to and with a sign
abbrev pub then_sign : TokenKind → Unit {0} × Place → Result (Unit {0} × Place) SyntaxFault
then_sign kind x = and_then (token_that (of_kind kind) x.1) forgotten

closed_name_agrees : (x : Span × Place) → and_then (run (passed type_name) x.1) (then_sign CloseParenthesis)
    ≡ and_then (pass_type_name_at x.1) (then_sign CloseParenthesis)
closed_name_agrees x = ap (λ o. and_then o (then_sign CloseParenthesis)) (pass_type_name_agrees x.1)

extension_agrees : (custom : CustomOptions) (place : Place) → run (extension custom) place ≡ extension_at custom place
unfolding run extension extension_at
extension_agrees Refuse place = refl
extension_agrees Skip place = bind_agree {o = token_that (of_kind OpenParenthesis) place} refl closed_name_agrees

part_agrees : (custom : CustomOptions) (place : Place) → run (part custom) place ≡ part_at custom place
unfolding run part part_at
part_agrees custom place = rw (extension_agrees custom place) refl

dot_part_agrees : (custom : CustomOptions) (place : Place) → run (dot_part custom) place ≡ dot_part_at custom place
unfolding run dot_part dot_part_at
dot_part_agrees custom place = same_bind {A = Span × Place} _ _ _ (λ x. part_agrees custom x.1)

dot_part_moves : (custom : CustomOptions) → Moves (dot_part custom)
unfolding dot_part
dot_part_moves custom = inl tt

dot_parts_agree : (custom : CustomOptions) (place : Place) → run (dot_parts custom) place ≡ dot_parts_at custom place
unfolding run dot_parts dot_parts_at
dot_parts_agree custom place =
    turns_agree (of_kind Dot) (not_next Dot) (passing (dot_part custom)) (passing_at (dot_part_at custom))
    (λ a. twice (first_is (of_kind Dot) a)) (λ s at. dot_part_agrees custom at) (λ s. dot_part_moves custom) tt place

option_name_agrees : (custom : CustomOptions) (place : Place)
    → run (option_name custom) place ≡ option_name_at custom place
unfolding run option_name option_name_at
option_name_agrees custom place =
    bind_agree (part_agrees custom place) (λ (x : Unit {0} × Place). dot_parts_agree custom x.1)

string_agrees : (place : Place) → run string place ≡ literal_at place
unfolding run string literal_at
string_agrees place = refl

string_moves : Moves string
unfolding string
string_moves = inl tt

more_strings_agree : (place : Place) → run more_strings place ≡ literals_at place
unfolding run more_strings literals_at
more_strings_agree place =
    turns_agree (of_kind StringLiteral) (not_next StringLiteral) (passing string) (passing_at literal_at)
    (λ a. twice (first_is (of_kind StringLiteral) a)) (λ s at. string_agrees at) (λ s. string_moves) tt place

pub strings_agree : (place : Place) → run strings place ≡ strings_at place
unfolding run strings strings_at
strings_agree place = bind_agree (string_agrees place) (λ (x : Unit {0} × Place). more_strings_agree x.1)

not_zero : (depth : ℕ) → (suc depth == 0) ≡ false
not_zero depth = grind (arith, nat_tests)

count_agrees : (depth : ℕ) (a : List Lexeme) (end : ℕ) → count_by open_behind depth a end ≡ closed_by depth a end
count_agrees zero [] end = refl
count_agrees zero (t ∷ a) end = refl
count_agrees (suc depth) [] end = rw (not_zero depth) refl
count_agrees (suc depth) (t ∷ a) end = rw (not_zero depth) (count_agrees (open_behind t (suc depth)) a end)

closed_agrees : (depth : ℕ) (place : Place) → count_at open_behind depth place ≡ closed_at depth place
unfolding count_at closed_at
closed_agrees depth place = count_agrees depth place.left place.end

aggregate_agrees : (custom : CustomOptions) (place : Place) → run (aggregate custom) place ≡ aggregate_at custom place
unfolding run aggregate aggregate_at
aggregate_agrees Refuse place = refl
aggregate_agrees Skip place = same_bind {A = Span × Place} _ _ _ (λ x. closed_agrees 1 x.1)

signed_agrees : (place : Place) → run signed place ≡ signed_at place
unfolding run signed signed_at
signed_agrees place = refl

constant_agrees : (custom : CustomOptions) (place : Place) → run (constant custom) place ≡ constant_at custom place
unfolding run constant constant_at
constant_agrees custom place =
    rw (pass_name_agrees place, signed_agrees place, strings_agree place, aggregate_agrees custom place) refl

given_agrees : (custom : CustomOptions) (x : Unit {0} × Place)
    → and_then (token_that (of_kind Equals) x.1) (λ y. run (constant custom) y.1)
    ≡ and_then (token_that (of_kind Equals) x.1) (λ y. constant_at custom y.1)
given_agrees custom x = same_bind {A = Span × Place} _ _ _ (λ y. constant_agrees custom y.1)

pub setting_agrees : (custom : CustomOptions) (place : Place) → run (setting custom) place ≡ setting_at custom place
unfolding run setting setting_at
setting_agrees custom place = bind_agree (option_name_agrees custom place) (given_agrees custom)

ended_setting_agrees : (custom : CustomOptions) (x : Span × Place)
    → and_then (run (setting custom) x.1) (then_sign Semicolon) ≡ and_then (setting_at custom x.1) (then_sign Semicolon)
ended_setting_agrees custom x = ap (λ o. and_then o (then_sign Semicolon)) (setting_agrees custom x.1)

pub option_statement_agrees : (custom : CustomOptions) (place : Place)
    → run (option_statement custom) place ≡ option_at custom place
unfolding run option_statement option_at
option_statement_agrees custom place =
    bind_agree {o = token_that (is_word (codes "option")) place} refl (ended_setting_agrees custom)
