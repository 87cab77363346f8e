-- The word that is next chooses the production, and a field or a group is next if nothing else is.
use Rattle.std.proofs.Common.{◌≡◌, ℕ, Bool, true, false, cond, List, [], ◌∷◌, refl, ◌∙◌, codes, bytes_eq}
use Rattle.std.proofs.lemmas.Slice.Eq.{bytes_eq-Decides}
use Rattle.std.specs.List.{list_any}
use Rattle.proto_lex.specs.declared.span.Span.{Span}
use Rattle.proto_lex.specs.declared.token.TokenKind.TheVariants.{Identifier, Semicolon, Less}
use Rattle.proto_grammar.specs.declared.dialect.CustomOptions.{CustomOptions}
use Rattle.proto_grammar.specs.declared.dialect.Syntax.{Syntax}
use Rattle.proto_grammar.specs.declared.dialect.Syntax.TheVariants.{Proto3, Extended, Proto2}
use Rattle.proto_grammar.specs.declared.tree.Heading.{Heading}
use Rattle.proto_grammar.specs.declared.tree.MapField.{MapField}
use Rattle.proto_grammar.specs.declared.tree.Enum.{Enum}
use Rattle.proto_grammar.specs.declared.tree.Method.{Method}
use Rattle.proto_grammar.specs.declared.tree.Service.{Service}
use Rattle.proto_grammar.specs.declared.tree.Import.{Import}
use Rattle.proto_grammar.specs.declared.tree.Item.{Item}
use Rattle.proto_steps.specs.declared.statement.MessageStatement.{MessageStatement}
use Rattle.proto_steps.specs.declared.statement.MessageStatement.TheVariants as choice
use Rattle.std.proofs.Common.{Option}
use Rattle.std.proofs.lemmas.Bool.{and_parts}
use Rattle.proto_grammar.specs.Lexeme.{Lexeme}
use Rattle.proto_grammar.specs.Terminal.{is_kind, first_is, others, of_kind, is_word}
use Rattle.proto_grammar.specs.Tree.{BlockTree}
use Rattle.proto_grammar.specs.Grammar.Repetition.{One}
use Rattle.proto_grammar.specs.Grammar.Options.{IsOption}
use Rattle.proto_grammar.specs.Grammar.Options.IsOption.{option as an_option}
use Rattle.proto_grammar.specs.Grammar.Fields.{IsMapField}
use Rattle.proto_grammar.specs.Grammar.Fields.IsMapField.{map_field}
use Rattle.proto_grammar.specs.Grammar.Reserved.{IsReserved, IsExtensions}
use Rattle.proto_grammar.specs.Grammar.Reserved.IsReserved.{reserved}
use Rattle.proto_grammar.specs.Grammar.Reserved.IsExtensions.{extensions}
use Rattle.proto_grammar.proofs.RepetitionStepLemmas.{both_false}
use Rattle.proto_grammar.proofs.TerminalTokenLemmas.{same_kind, one_next, one_others}
use Rattle.proto_parse.specs.Choice.{statement_words, begins_other}
use Rattle.proto_steps.specs.Choice.{begins_map}
use Rattle.proto_steps.specs.Choice.{file_statement_of, message_statement_of}
use Rattle.proto_parse.specs.Grammar.Files.{IsImport, IsPackage}
use Rattle.proto_parse.specs.Grammar.Files.IsImport.{import}
use Rattle.proto_parse.specs.Grammar.Files.IsPackage.{package_statement}
use Rattle.proto_parse.specs.Grammar.Messages.{IsHeading, IsEnum, IsOneof, IsExtendStatement}
use Rattle.proto_parse.specs.Grammar.Messages.{IsMessage}
use Rattle.proto_parse.specs.Grammar.Messages.IsHeading.{heading}
use Rattle.proto_parse.specs.Grammar.Messages.IsEnum.{enum}
use Rattle.proto_parse.specs.Grammar.Messages.IsOneof.{oneof}
use Rattle.proto_parse.specs.Grammar.Messages.IsExtend.{extend}
use Rattle.proto_parse.specs.Grammar.Messages.IsPassedExtend.{passed_extend}
use Rattle.proto_parse.specs.Grammar.Messages.IsExtendStatement.{kept, passed}
use Rattle.proto_parse.specs.Grammar.Messages.IsMessage.{message}
use Rattle.proto_parse.specs.Grammar.Services.{IsMethod, IsService}
use Rattle.proto_parse.specs.Grammar.Services.IsMethod.{method}
use Rattle.proto_parse.specs.Grammar.Services.IsService.{service}

-- ---- a word, by its spelling

abbrev pub named : List ℕ → Lexeme
named word = record { kind = Identifier; spelling = word; span = record { start = 0; end = 0 }; dotted = false }

word_parts : (word : List ℕ) (t : Lexeme) → is_word word t ≡ true → (t.kind ≡ Identifier) × (t.spelling ≡ word)
word_parts word t is =
    let both = and_parts (is_kind Identifier t.kind) (bytes_eq t.spelling word) is in
    (same_kind Identifier t.kind both.0, (bytes_eq-Decides t.spelling word).0 both.1)

pub file_word : (word : List ℕ) (a : List Lexeme) → first_is (is_word word) a ≡ true
    → file_statement_of a ≡ file_statement_of (named word ∷ [])
file_word word [] is = cc
file_word word (t ∷ rest) is = by_parts (word_parts word t is).0 (word_parts word t is).1
  where
    by_parts : t.kind ≡ Identifier → t.spelling ≡ word
        → file_statement_of (t ∷ rest) ≡ file_statement_of (named word ∷ [])
    by_parts e f = rw (e, f) refl

pub message_word : (syntax : Syntax) (word : List ℕ) (a : List Lexeme) → first_is (is_word word) a ≡ true
    → message_statement_of syntax a ≡ message_statement_of syntax (named word ∷ others a)
message_word syntax word [] is = cc
message_word syntax word (t ∷ rest) is = by_parts (word_parts word t is).0 (word_parts word t is).1
  where
    by_parts : t.kind ≡ Identifier → t.spelling ≡ word
        → message_statement_of syntax (t ∷ rest) ≡ message_statement_of syntax (named word ∷ rest)
    by_parts e f = rw (e, f) refl

-- ---- what each production begins with

pub import_begins : {a b : List Lexeme} {x : Import} → IsImport a x b → first_is (is_word (codes "import")) a ≡ true
import_begins (import k i l u s) = one_next k

pub package_begins : {a b : List Lexeme} {x : List Span} → IsPackage a x b
    → first_is (is_word (codes "package")) a ≡ true
package_begins (package_statement k n s) = one_next k

pub option_begins : {custom : CustomOptions} {a b : List Lexeme} → IsOption custom a b
    → first_is (is_word (codes "option")) a ≡ true
option_begins (an_option k v s) = one_next k

pub heading_begins : {word : List ℕ} {a b : List Lexeme} {x : Heading} → IsHeading word a x b
    → first_is (is_word word) a ≡ true
heading_begins (heading f n c) = one_next f

pub message_begins : {Inner : List Lexeme → List Item → List Lexeme → Type 0} {a b : List Lexeme} (x : BlockTree)
    → IsMessage Inner a x b → first_is (is_word (codes "message")) a ≡ true
message_begins x (message h i) = heading_begins h

pub enum_begins : {custom : CustomOptions} {a b : List Lexeme} {x : Enum} → IsEnum custom a x b
    → first_is (is_word (codes "enum")) a ≡ true
enum_begins (enum h u c) = heading_begins h

pub service_begins : {custom : CustomOptions} {a b : List Lexeme} {x : Service} → IsService custom a x b
    → first_is (is_word (codes "service")) a ≡ true
service_begins (service h u c) = heading_begins h

pub oneof_begins : {syntax : Syntax} {Inner : List Lexeme → List Item → List Lexeme → Type 0} {a b : List Lexeme}
    (x : BlockTree) → IsOneof syntax Inner a x b → first_is (is_word (codes "oneof")) a ≡ true
oneof_begins x (oneof h i) = heading_begins h

pub extend_begins : {syntax : Syntax} {Inner : List Lexeme → List Item → List Lexeme → Type 0} {a b : List Lexeme}
    (x : Option BlockTree) → IsExtendStatement Inner syntax a x b → first_is (is_word (codes "extend")) a ≡ true
extend_begins x (kept is (extend k not n o i)) = one_next k
extend_begins x (passed (passed_extend k n o u c)) = one_next k

pub reserved_begins : {negative : Bool} {a b : List Lexeme} → IsReserved negative a b
    → first_is (is_word (codes "reserved")) a ≡ true
reserved_begins (reserved k is i u s) = one_next k

pub method_begins : {custom : CustomOptions} {a b : List Lexeme} {x : Method} → IsMethod custom a x b
    → first_is (is_word (codes "rpc")) a ≡ true
method_begins (method f n i r o c) = one_next f

pub extensions_begins : {custom : CustomOptions} {a b : List Lexeme} → IsExtensions custom a b
    → first_is (is_word (codes "extensions")) a ≡ true
extensions_begins (extensions k r u o s) = one_next k

-- a map field is chosen by two tokens
map_by : (syntax : Syntax) (a b c : List Lexeme) {first less : Span} → One (is_word (codes "map")) a first b
    → One (of_kind Less) b less c → message_statement_of syntax a ≡ choice.Map
map_by (Proto3 custom) a b c f l =
    message_word (Proto3 custom) (codes "map") a (one_next f) ∙ rw (one_others f, one_next l) refl
map_by Extended a b c f l =
    message_word Extended (codes "map") a (one_next f) ∙ rw (one_others f, one_next l) refl
map_by Proto2 a b c f l = message_word Proto2 (codes "map") a (one_next f)

pub map_chosen : (syntax : Syntax) {custom : CustomOptions} {a b : List Lexeme} {x : MapField} → IsMapField custom a x b
    → message_statement_of syntax a ≡ choice.Map
map_chosen syntax {a = a} (map_field {b = c} {c = d} f l k s v g h) = map_by syntax a c d f l

-- ---- fields and groups

not_chosen : (b : Bool) (x y : MessageStatement) → (x ≡ choice.Member → ⊥) → cond b x y ≡ choice.Member
    → (b ≡ false) × (y ≡ choice.Member)
not_chosen true x y never e = absurd (never e)
not_chosen false x y never e = (refl, e)

pub member_next : (syntax : Syntax) (a : List Lexeme) → message_statement_of syntax a ≡ choice.Member
    → begins_other syntax a ≡ false
member_next syntax [] is = refl
member_next syntax (t ∷ rest) is =
    let s = not_chosen (of_kind Semicolon t) choice.Empty _ (λ e. cc) is in
    let a = not_chosen (is_word (codes "message") t) choice.Message _ (λ e. cc) s.1 in
    let b = not_chosen (is_word (codes "enum") t) choice.Enum _ (λ e. cc) a.1 in
    let c = not_chosen (is_word (codes "option") t) choice.Option _ (λ e. cc) b.1 in
    let d = not_chosen (is_word (codes "oneof") t) choice.Oneof _ (λ e. cc) c.1 in
    let m = not_chosen (begins_map syntax (t ∷ rest)) choice.Map _ (λ e. cc) d.1 in
    let f = not_chosen (is_word (codes "reserved") t) choice.Reserved _ (λ e. cc) m.1 in
    let g = not_chosen (is_word (codes "extend") t) choice.Extend _ (λ e. cc) f.1 in
    let h = not_chosen (is_word (codes "extensions") t) choice.Extensions _ (λ e. cc) g.1 in
    rw (s.0, a.0, b.0, c.0, d.0, f.0, g.0, h.0, m.0) refl

pub member_chosen : (syntax : Syntax) (a : List Lexeme) → begins_other syntax a ≡ false
    → message_statement_of syntax a ≡ choice.Member
member_chosen syntax [] off = refl
member_chosen syntax (t ∷ rest) off =
    let s = both_false (of_kind Semicolon t) _ off in
    let m = both_false (list_any (λ word. is_word word t) statement_words) (begins_map syntax (t ∷ rest)) s.1 in
    let a = both_false (is_word (codes "message") t) _ m.0 in
    let b = both_false (is_word (codes "enum") t) _ a.1 in
    let c = both_false (is_word (codes "option") t) _ b.1 in
    let d = both_false (is_word (codes "oneof") t) _ c.1 in
    let f = both_false (is_word (codes "reserved") t) _ d.1 in
    let g = both_false (is_word (codes "extend") t) _ f.1 in
    let h = both_false (is_word (codes "extensions") t) _ g.1 in
    rw (s.0, a.0, b.0, c.0, d.0, m.1, f.0, g.0, h.0) refl
