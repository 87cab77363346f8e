-- What is added to the line of a fault if it is to be explained: the place, a sentence, and the source's line. (The
-- texts are this project's own.)
use Rattle.std.specs.Prelude.{◌≡◌, ℕ, ◌-◌, Bool, true, false, List, [], ◌++◌, Option, None, Some, take, drop}
use Rattle.std.specs.Prelude.{codes, if◌then◌else◌, nat_eq}
use Rattle.std.specs.List.{list_any, slice_get, starts_with}
use Rattle.std.specs.Str.{bytes_eq}
use Rattle.std.specs.Option.{option_map, unwrap_or}
use Rattle.diagnostics.specs.Excerpts.{excerpt, met}
use Rattle.diagnostics.specs.Literals.{joined}
use Rattle.diagnostics.specs.Places.{place_text, token_len}
use Rattle.proto_lex.specs.FaultNames.{lex_offset}
use Rattle.proto_parse.specs.FaultNames.{syntax_offset}
use Rattle.proto_parse.specs.fault.SyntaxFault.{SyntaxFault}
use Rattle.proto_parse.specs.fault.SyntaxFault.TheVariants as parsing
use Rattle.proto_parse.specs.dialect.Dialect.{Dialect}
use Rattle.proto_visibility.specs.declared.files.FilePlace.{FilePlace}
use Rattle.source_tree.specs.Files.{TreeFile}
use Rattle.diagnostics.specs.Hints.{IsHinted}
use Rattle.protoscip.specs.FaultLines.{line_of, path_of}
use Rattle.protoscip.specs.FaultTexts.{sentence_of, syntax_sentence}
use Rattle.protoscip.specs.Required.{has_required}
use Rattle.protoscip.specs.declared.fault.Fault.{Fault}
use Rattle.protoscip.specs.declared.fault.Fault.TheVariants.{Memory, Lex, Syntax, Duplicate, MissingImport}
use Rattle.protoscip.specs.declared.fault.Fault.TheVariants.{Unresolved, Ambiguous, OptionGap, Uncertain}

-- ---- sentences

-- of the first of two places with one full name
abbrev pub first_sentence : List ℕ
first_sentence = codes "it is given here"

-- ---- places

-- what the file with this number holds; nothing if there is none
abbrev pub bytes_of : List TreeFile → ℕ → List ℕ
bytes_of tree number = unwrap_or (option_map (λ (file : TreeFile). file.bytes) (slice_get tree number)) []

-- what is read of it
abbrev pub text_of : List TreeFile → ℕ → List ℕ
text_of tree number = unwrap_or (option_map (λ (file : TreeFile). file.text) (slice_get tree number)) []

-- a place of a file, a sentence about it, and its line, so many bytes of it marked
abbrev pub explained : (path text : List ℕ) → (at len : ℕ) → (sentence : List ℕ) → List ℕ
explained path text at len sentence = codes "\n" ++ place_text path text at ++ sentence ++ excerpt text at len

-- with the token marked that begins there
abbrev pub at_token : (path text : List ℕ) → Option ℕ → (sentence : List ℕ) → List ℕ
at_token path text None sentence = []
at_token path text (Some at) sentence = explained path text at (token_len (drop at text)) sentence

-- what could be there instead is told behind the sentence
abbrev pub at_met : (path text : List ℕ) → Option ℕ → (sentence hints : List ℕ) → List ℕ
at_met path text None sentence hints = []
at_met path text (Some at) sentence hints =
    explained path text at (token_len (drop at text)) (met (drop at text) ++ sentence ++ hints)

abbrev pub at_place : List TreeFile → FilePlace → (sentence : List ℕ) → List ℕ
at_place tree place sentence =
    explained (path_of tree place.file) (bytes_of tree place.file) place.span.start
    (place.span.end - place.span.start) sentence

-- the second of two places with one full name, and then the first
abbrev pub at_both : List TreeFile → (first second : FilePlace) → (sentence : List ℕ) → List ℕ
at_both tree first second sentence = at_place tree second sentence ++ at_place tree first first_sentence

-- ---- hints

-- none where the sentence says that a word before the place is to go
abbrev pub AreHintsBehind : (is_to_go : Bool) → Dialect → (front hints : List ℕ) → Type 0
AreHintsBehind true dialect front hints = hints ≡ []
AreHintsBehind false dialect front hints = IsHinted dialect front hints

-- If the grammar wants something else than what the parser met, what could be there is told, by what is before it.
abbrev pub AreSyntaxHints : Dialect → (text : List ℕ) → SyntaxFault → (hints : List ℕ) → Type 0
AreSyntaxHints dialect text (parsing.Grammar at) hints =
    AreHintsBehind (has_required text at) dialect (take at text) hints
AreSyntaxHints dialect text fault hints = hints ≡ []

-- of a tree whose sources are parsed in this dialect
abbrev pub AreHintsOf : Dialect → List TreeFile → Fault → (hints : List ℕ) → Type 0
AreHintsOf dialect tree (Syntax number fault) hints = AreSyntaxHints dialect (text_of tree number) fault hints
AreHintsOf dialect tree fault hints = hints ≡ []

-- ---- sentences, by what the tree holds

-- the bytes of a place
abbrev pub spanned : List TreeFile → FilePlace → List ℕ
spanned tree place = take (place.span.end - place.span.start) (drop place.span.start (bytes_of tree place.file))

-- one of the files has a path
abbrev pub has_path : (path : List ℕ) → List TreeFile → Bool
has_path path tree = list_any (λ (file : TreeFile). bytes_eq file.path path) tree

-- the token there is the word `edition`
abbrev pub is_edition : List ℕ → Bool
is_edition bytes = bytes_eq (take (token_len bytes) bytes) (codes "edition")

abbrev pub met_sentence : (text : List ℕ) → SyntaxFault → List ℕ
met_sentence text (parsing.NotProto3 at) =
    if is_edition (drop at text) then codes "editions aren't read, only proto3, and, with `--accept all`, proto2"
    else syntax_sentence (parsing.NotProto3 at)
met_sentence text (parsing.Grammar at) =
    if has_required text at
    then codes "proto3 has no `required`: leave it out; with `--accept all` a source may be proto2"
    else syntax_sentence (parsing.Grammar at)
met_sentence text fault = syntax_sentence fault

-- the first of an import's literals begins as the paths of the well-known files do (Protocol Buffers Well-Known Types)
abbrev pub is_well_known : (literals : List ℕ) → Bool
is_well_known literals = starts_with nat_eq (drop 1 literals) (codes "google/protobuf/")

-- an import without a file may be of one that is left out, or of a well-known one
abbrev pub sentence_in : List TreeFile → Fault → List ℕ
sentence_in tree (Syntax number fault) = met_sentence (bytes_of tree number) fault
sentence_in tree (MissingImport place) =
    if has_path (joined (spanned tree place)) tree then codes "the file with this path is left out"
    else (if is_well_known (spanned tree place)
    then codes "no source has this path; `--well-known` includes the well-known files"
    else sentence_of (MissingImport place))
sentence_in tree fault = sentence_of fault

-- ---- explanations

-- It begins with a line end. Nothing is said about lack of memory.
abbrev pub explanation_of : List TreeFile → Fault → (hints : List ℕ) → List ℕ
explanation_of tree Memory hints = []
explanation_of tree (Lex number fault) hints =
    at_token (path_of tree number) (bytes_of tree number) (lex_offset fault)
    (sentence_of (Lex number fault))
explanation_of tree (Syntax number fault) hints =
    at_met (path_of tree number) (bytes_of tree number) (syntax_offset fault)
    (met_sentence (bytes_of tree number) fault) hints
explanation_of tree (Duplicate first second) hints = at_both tree first second (sentence_of (Duplicate first second))
explanation_of tree (MissingImport place) hints = at_place tree place (sentence_in tree (MissingImport place))
explanation_of tree (Unresolved place) hints = at_place tree place (sentence_of (Unresolved place))
explanation_of tree (Ambiguous place) hints = at_place tree place (sentence_of (Ambiguous place))
explanation_of tree (OptionGap place) hints = at_place tree place (sentence_of (OptionGap place))
explanation_of tree (Uncertain place behind) hints = at_place tree place (sentence_of (Uncertain place behind))
explanation_of tree fault hints = codes "\n" ++ sentence_of fault

-- with what a fault is explained, if that is asked for: the dialect in which sources are parsed
abbrev pub explain_in : (asked : Bool) → Dialect → Option Dialect
explain_in asked dialect = if asked then Some dialect else None

-- a line about a fault, and its explanation if that is asked for
abbrev pub IsExplained : (explain : Option Dialect) → List TreeFile → Fault → (line text : List ℕ) → Type 0
IsExplained None tree fault line text = text ≡ line
IsExplained (Some dialect) tree fault line text =
    (hints : List ℕ) × AreHintsOf dialect tree fault hints × (text ≡ line ++ explanation_of tree fault hints)

-- the line of a fault, with its explanation if that is asked for
abbrev pub IsFaultText : (explain : Option Dialect) → List TreeFile → Fault → (text : List ℕ) → Type 0
IsFaultText explain tree fault text = IsExplained explain tree fault (line_of tree fault) text
