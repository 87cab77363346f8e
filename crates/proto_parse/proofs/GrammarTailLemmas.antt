-- What is left of the tokens after a part is a tail of them, as it is of each step of the grammar.
use Rattle.std.proofs.Common.{◌≡◌, Bool, Ok, Option, List, ◌∷◌, [], ◌++◌, sym, subst, ◌∙◌}
use Rattle.proto_grammar.specs.declared.dialect.CustomOptions.{CustomOptions}
use Rattle.proto_grammar.specs.declared.dialect.Dialect.{Dialect}
use Rattle.proto_grammar.specs.declared.dialect.Syntax.{Syntax}
use Rattle.proto_grammar.specs.declared.tree.Enum.{Enum}
use Rattle.proto_grammar.specs.declared.tree.Import.{Import}
use Rattle.proto_grammar.specs.declared.tree.ImportKind.{ImportKind}
use Rattle.proto_grammar.specs.declared.tree.Label.{Label}
use Rattle.proto_grammar.specs.declared.tree.Service.{Service}
use Rattle.proto_grammar.specs.Lexeme.{Lexeme, place_of}
use Rattle.proto_grammar.specs.Tree.{BlockTree}
use Rattle.proto_lex.specs.declared.span.Span.{Span}
use Rattle.proto_grammar.specs.Grammar.Repetition.{Until, Passes}
use Rattle.proto_grammar.specs.Grammar.Repetition.Until.{done, more}
use Rattle.proto_grammar.specs.Grammar.Repetition.Passes.{passes}
use Rattle.proto_grammar.specs.Grammar.Options.{IsOption, IsOptions}
use Rattle.proto_grammar.specs.Grammar.Fields.{IsLabel}
use Rattle.proto_grammar.specs.Grammar.Reserved.{IsInteger, IsReserved, IsExtensions}
use Rattle.proto_grammar.proofs.Exact.Options.{option_exact, options_exact}
use Rattle.proto_grammar.proofs.Exact.Fields.{label_exact, integer_exact, reserved_exact, extensions_exact}
use Rattle.proto_parse.specs.Grammar.Messages.{IsEnum, IsPassedExtend, IsMessage, IsExtendStatement, IsInside}
use Rattle.proto_parse.specs.Grammar.Services.{IsMethodItem, IsService}
use Rattle.proto_parse.specs.Grammar.Files.{IsSyntax, IsImportKind, IsImport, IsPackage}
use Rattle.proto_parse.proofs.Reading.Messages.{inside_at}
use Rattle.proto_steps.specs.Limits.{max_message_depth}
use Rattle.proto_steps.specs.Step.{Step, run}
use Rattle.proto_steps.specs.Grammar.Parts.{option_statement, options, label, integer, reserved, extensions}
use Rattle.proto_steps.specs.Grammar.Definitions.{enumeration, passed_extend, extend_statement, message, inside}
use Rattle.proto_steps.specs.Grammar.Definitions.{method_item, service, syntax, import_kind, import, package_statement}
use Rattle.proto_steps.proofs.StepLaws.{taken, found}
use Rattle.proto_steps.proofs.AgreeLemmas.{option_statement_agrees}
use Rattle.proto_steps.proofs.AgreeFieldLemmas.{options_agree, label_agrees, integer_agrees, reserved_agrees}
use Rattle.proto_steps.proofs.AgreeFieldLemmas.{extensions_agree}
use Rattle.proto_parse.proofs.Agreement.Enums.{enum_agrees}
use Rattle.proto_parse.proofs.Agreement.Messages.{passed_extend_agrees, extend_statement_agrees, message_agrees}
use Rattle.proto_parse.proofs.Agreement.Messages.{inside_agrees}
use Rattle.proto_parse.proofs.Agreement.Services.{method_item_agrees, service_agrees}
use Rattle.proto_parse.proofs.Agreement.Files.{syntax_agrees, import_kind_agrees, import_agrees, package_agrees}
use Rattle.proto_parse.proofs.Exact.Messages.{enum_exact, passed_extend_exact, extend_statement_exact, message_exact}
use Rattle.proto_parse.proofs.Exact.Messages.{inside_exact, method_item_exact, service_exact}
use Rattle.proto_parse.proofs.Exact.Files.{syntax_exact, import_kind_exact, import_exact, package_exact}
use Rattle.proto_parse.proofs.ReadingFallLemmas.{items_fall}

-- One list of tokens is what is left of another.
pub data IsTail (tail : List Lexeme) : List Lexeme → Type 0 where
  here : IsTail tail tail
  onward : {t : Lexeme} {rest : List Lexeme} → IsTail tail rest → IsTail tail (t ∷ rest)

all_onward : {tail b : List Lexeme} (front : List Lexeme) → IsTail tail b → IsTail tail (front ++ b)
all_onward [] behind = behind
all_onward (t ∷ front) behind = onward (all_onward front behind)

-- what is read by a step
read_past : {A : Type 0} (p : Step A) {a b tail : List Lexeme} {x : A}
    → run p (place_of 0 a) ≡ Ok (x, place_of 0 b) → IsTail tail b → IsTail tail a
read_past p {a} {b} {tail} {x} e behind =
    let f = taken p a b x (found p (place_of 0 a) (x, place_of 0 b) e) in
    subst (IsTail tail) (sym f.1) (all_onward f.0 behind)

-- what is not kept
pub until_past : {S : Type 0} {ends : List Lexeme → Bool} {Step : S → List Lexeme → S → List Lexeme → Type 0}
    (tail : List Lexeme)
    → ((s t : S) (a b : List Lexeme) → Step s a t b → IsTail tail b → IsTail tail a)
    → (s t : S) (a b : List Lexeme) → Until ends Step s a t b → IsTail tail b → IsTail tail a
until_past tail steps s t a b (done e) behind = behind
until_past tail steps s u a c (more {t = t} {b = b} further first rest) behind =
    steps s t a b first (until_past tail steps t u b c rest behind)

pub option_past : {custom : CustomOptions} {a b : List Lexeme} {tail : List Lexeme} → IsOption custom a b
    → IsTail tail b → IsTail tail a
option_past {custom} {a} is behind =
    read_past (option_statement custom) (option_statement_agrees custom (place_of 0 a) ∙ option_exact 0 is) behind

pub options_past : {custom : CustomOptions} {a b : List Lexeme} {tail : List Lexeme} → IsOptions custom a b
    → IsTail tail b → IsTail tail a
options_past {custom} {a} is behind =
    read_past (options custom) (options_agree custom (place_of 0 a) ∙ options_exact 0 is) behind

pub label_past : {syntax : Syntax} {a b : List Lexeme} {x : Option Label} {tail : List Lexeme} → IsLabel syntax a x b
    → IsTail tail b → IsTail tail a
label_past {syntax} {a} is behind =
    read_past (label syntax) (label_agrees syntax (place_of 0 a) ∙ label_exact 0 is) behind

pub integer_past : {negative : Bool} {a b : List Lexeme} {tail : List Lexeme} → IsInteger negative a b → IsTail tail b
    → IsTail tail a
integer_past {negative} {a} is behind =
    read_past (integer negative) (integer_agrees negative (place_of 0 a) ∙ integer_exact 0 is) behind

pub reserved_past : {negative : Bool} {a b : List Lexeme} {tail : List Lexeme} → IsReserved negative a b → IsTail tail b
    → IsTail tail a
reserved_past {negative} {a} is behind =
    read_past (reserved negative) (reserved_agrees negative (place_of 0 a) ∙ reserved_exact 0 is) behind

pub extensions_past : {custom : CustomOptions} {a b : List Lexeme} {tail : List Lexeme} → IsExtensions custom a b
    → IsTail tail b → IsTail tail a
extensions_past {custom} {a} is behind =
    read_past (extensions custom) (extensions_agree custom (place_of 0 a) ∙ extensions_exact 0 is) behind

pub passed_extend_past : {custom : CustomOptions} {a b : List Lexeme} {tail : List Lexeme} → IsPassedExtend custom a b
    → IsTail tail b → IsTail tail a
passed_extend_past {custom} {a} is behind =
    read_past (passed_extend custom) (passed_extend_agrees custom (place_of 0 a) ∙ passed_extend_exact 0 is) behind

pub method_item_past : (custom : CustomOptions) (tail : List Lexeme) (s t : Unit {0}) (a b : List Lexeme)
    → Passes (IsMethodItem custom) s a t b → IsTail tail b → IsTail tail a
method_item_past custom tail s t a b (passes is) behind =
    read_past (method_item custom) (method_item_agrees custom (place_of 0 a) ∙ method_item_exact 0 custom a b is) behind

-- declarations that stand between the tail
pub enum_past : {custom : CustomOptions} {a b : List Lexeme} {x : Enum} {tail : List Lexeme} → IsEnum custom a x b
    → IsTail tail b → IsTail tail a
enum_past {custom} {a} is behind =
    read_past (enumeration custom) (enum_agrees custom (place_of 0 a) ∙ enum_exact 0 is) behind

pub service_past : {custom : CustomOptions} {a b : List Lexeme} {x : Service} {tail : List Lexeme}
    → IsService custom a x b → IsTail tail b → IsTail tail a
service_past {custom} {a} is behind =
    read_past (service custom) (service_agrees custom (place_of 0 a) ∙ service_exact 0 is) behind

pub file_message_past : (syntax : Syntax) (a b : List Lexeme) (x : BlockTree)
    → IsMessage (IsInside syntax max_message_depth) a x b → (tail : List Lexeme) → IsTail tail b → IsTail tail a
file_message_past syntax a b x is tail behind =
    read_past (message (inside syntax max_message_depth))
    (message_agrees syntax (inside syntax max_message_depth) (inside_at syntax max_message_depth)
    (inside_agrees syntax max_message_depth) (place_of 0 a)
    ∙ message_exact 0 (inside_at syntax max_message_depth) (IsInside syntax max_message_depth)
    (inside_exact 0 syntax max_message_depth) a b x is) behind

pub file_extend_past : (syntax : Syntax) (a b : List Lexeme) (x : Option BlockTree)
    → IsExtendStatement (IsInside syntax max_message_depth) syntax a x b → (tail : List Lexeme) → IsTail tail b
    → IsTail tail a
file_extend_past syntax a b x is tail behind =
    read_past (extend_statement syntax (inside syntax max_message_depth))
    (extend_statement_agrees syntax (inside syntax max_message_depth) (inside_at syntax max_message_depth)
    (inside_agrees syntax max_message_depth) (place_of 0 a)
    ∙ extend_statement_exact 0 syntax (inside_at syntax max_message_depth) (IsInside syntax max_message_depth)
    (inside_exact 0 syntax max_message_depth) (λ within. items_fall within syntax max_message_depth) a b x is) behind

-- ---- statements of a file

pub package_past : {a b : List Lexeme} {x : List Span} {tail : List Lexeme} → IsPackage a x b → IsTail tail b
    → IsTail tail a
package_past {a} is behind = read_past package_statement (package_agrees (place_of 0 a) ∙ package_exact 0 is) behind

pub import_kind_past : {a b : List Lexeme} {x : ImportKind} {tail : List Lexeme} → IsImportKind a x b → IsTail tail b
    → IsTail tail a
import_kind_past {a} is behind = read_past import_kind (import_kind_agrees (place_of 0 a) ∙ import_kind_exact 0 is)
    behind

pub import_past : {a b : List Lexeme} {x : Import} {tail : List Lexeme} → IsImport a x b → IsTail tail b → IsTail tail a
import_past {a} is behind = read_past import (import_agrees (place_of 0 a) ∙ import_exact 0 is) behind

pub syntax_past : {dialect : Dialect} {a b : List Lexeme} {x : Syntax} {tail : List Lexeme} → IsSyntax dialect a x b
    → IsTail tail b → IsTail tail a
syntax_past {dialect} {a} is behind =
    read_past (syntax dialect) (syntax_agrees dialect (place_of 0 a) ∙ syntax_exact 0 is) behind
