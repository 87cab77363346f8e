-- Why tokens derive no tree: which fault they have, and at which token. No reading is spoken of. As a rule the fault is
-- at the first token with which what is in front of it can't be finished to a file any more. But another version is
-- told at the first literal, and a group too deep at its label. That a `.` follows is part of a token: so a word that
-- only a `.` can follow is itself at fault if none does.
use Rattle.std.specs.Prelude.{◌≡◌, ℕ, suc, Bool, true, false, cond, ◌||◌, is_some, List, [], ◌∷◌, ◌++◌, length, codes}
use Rattle.proto_lex.specs.declared.token.TokenKind.TheVariants.{StringLiteral, Equals, OpenBrace, OpenParenthesis}
use Rattle.proto_grammar.specs.declared.fault.SyntaxFault.{SyntaxFault}
use Rattle.proto_grammar.specs.declared.fault.SyntaxFault.TheVariants.{NotProto3, CustomOption, Aggregate, Extend}
use Rattle.proto_grammar.specs.declared.fault.SyntaxFault.TheVariants.{TwoPackages, ImportEscape, TooDeep, Grammar}
use Rattle.proto_grammar.specs.declared.dialect.CustomOptions.{CustomOptions}
use Rattle.proto_grammar.specs.declared.dialect.CustomOptions.TheVariants.{Refuse, Skip}
use Rattle.proto_grammar.specs.declared.dialect.Dialect.{Dialect}
use Rattle.proto_grammar.specs.declared.dialect.Dialect.TheVariants.{Proto3, All}
use Rattle.proto_grammar.specs.declared.tree.File.{File}
use Rattle.proto_lex.specs.declared.token.Token.{Token}
use Rattle.proto_grammar.specs.Lexeme.{Lexeme, place_of, lexemes_of}
use Rattle.proto_grammar.specs.Terminal.{first_is, of_kind, is_word, is_plain_literal, offset_at}
use Rattle.proto_steps.specs.Limits.{max_message_depth}
use Rattle.proto_steps.specs.Step.{Derives as DerivesBy, ◌>>=◌}
use Rattle.proto_steps.specs.Grammar.Definitions.{content, more_contents}
use Rattle.proto_parse.specs.Derives.{DerivesWithin}

-- The front can be finished: some tokens behind it make a file, in which at most `levels` messages and groups are
-- inside one another.
pub record GoesOn (levels : ℕ) (dialect : Dialect) (front : List Lexeme) : Type 0 where
  pub more : List Lexeme
  pub tree : File
  pub is_file : DerivesWithin levels dialect (front ++ more) tree

-- A token with which what is in front of it can't be finished. There is at most one.
pub record IsWrong (dialect : Dialect) (front : List Lexeme) (t : Lexeme) : Type 0 where
  pub before : GoesOn max_message_depth dialect front
  pub here : GoesOn max_message_depth dialect (front ++ t ∷ []) → ⊥

-- No version is named that is accepted ("Syntax" of both specifications): the first token isn't the word `syntax`, and
-- only proto3 is accepted; it is the word `edition`, and all sources are; or the literals behind `syntax =`, joined,
-- spell another version. The fault is at the first token, or at the first literal.
pub data NamesNoVersion : Dialect → (front behind : List Lexeme) → Type 0 where
  no_statement : {custom : CustomOptions} {a : List Lexeme} → first_is (is_word (codes "syntax")) a ≡ false
      → NamesNoVersion (Proto3 custom) [] a
  edition : {a : List Lexeme} → first_is (is_word (codes "edition")) a ≡ true → NamesNoVersion All [] a
  other : {dialect : Dialect} {keyword equals : Lexeme} {a : List Lexeme} {text : List ℕ} (b : List Lexeme)
      → is_word (codes "syntax") keyword ≡ true → of_kind Equals equals ≡ true
      → DerivesBy (content >>= more_contents) a text b
      → (text ≡ codes "proto3" → ⊥) → (dialect ≡ All → text ≡ codes "proto2" → ⊥)
      → NamesNoVersion dialect (keyword ∷ (equals ∷ [])) a

abbrev pub NamesAVersion : Dialect → List Lexeme → Type 0
NamesAVersion dialect tokens =
    (front behind : List Lexeme) → tokens ≡ front ++ behind → NamesNoVersion dialect front behind → ⊥

-- Whether the token is a label (proto2 specification, "Fields").
abbrev pub is_label : Lexeme → Bool
is_label t =
    is_word (codes "repeated") t || (is_word (codes "optional") t || is_word (codes "required") t)

-- Where a group begins that has its word at `t`: at the label in front of it, if there is one.
abbrev pub group_start : List Lexeme → Lexeme → ℕ
group_start [] t = t.span.start
group_start (l ∷ []) t = cond (is_label l) l.span.start t.span.start
group_start (l ∷ (u ∷ rest)) t = group_start (u ∷ rest) t

-- What would go on with the wrong token if more were accepted: custom options; a second package; in an import a literal
-- with a `\`, for which one without stands; a level more. A group is told at its first token.
pub data WouldGoOn (dialect : Dialect) (front : List Lexeme) (t : Lexeme) : SyntaxFault → Type 0 where
  custom_option : dialect ≡ Proto3 Refuse → of_kind OpenParenthesis t ≡ true
      → GoesOn max_message_depth (Proto3 Skip) (front ++ t ∷ [])
      → WouldGoOn dialect front t (CustomOption t.span.start)
  aggregate : dialect ≡ Proto3 Refuse → of_kind OpenBrace t ≡ true
      → GoesOn max_message_depth (Proto3 Skip) (front ++ t ∷ [])
      → WouldGoOn dialect front t (Aggregate t.span.start)
  extend : dialect ≡ Proto3 Refuse → is_word (codes "extend") t ≡ true
      → GoesOn max_message_depth (Proto3 Skip) (front ++ t ∷ [])
      → WouldGoOn dialect front t (Extend t.span.start)
  two_packages : (tree : File) → is_word (codes "package") t ≡ true → DerivesWithin max_message_depth dialect front tree
      → is_some tree.package_name ≡ true → WouldGoOn dialect front t (TwoPackages t.span.start)
  import_escape : (plain : Lexeme) → of_kind StringLiteral t ≡ true → is_plain_literal t ≡ false
      → is_plain_literal plain ≡ true → GoesOn max_message_depth dialect (front ++ plain ∷ [])
      → WouldGoOn dialect front t (ImportEscape t.span.start)
  too_deep : is_word (codes "message") t ≡ true
      → GoesOn (suc max_message_depth) dialect (front ++ t ∷ [])
      → WouldGoOn dialect front t (TooDeep t.span.start)
  group_too_deep : is_word (codes "group") t ≡ true
      → GoesOn (suc max_message_depth) dialect (front ++ t ∷ [])
      → WouldGoOn dialect front t (TooDeep (group_start front t))

-- The tokens of a text that ends at `end` have the fault. That no version is named goes before all others.
pub data IsRefused (dialect : Dialect) (tokens : List Lexeme) (end : ℕ) : SyntaxFault → Type 0 where
  not_proto3 : {front behind : List Lexeme} → tokens ≡ front ++ behind → NamesNoVersion dialect front behind
      → IsRefused dialect tokens end (NotProto3 (offset_at (place_of end behind)))
  would_go_on : {front : List Lexeme} {t : Lexeme} {fault : SyntaxFault} (behind : List Lexeme)
      → NamesAVersion dialect tokens
      → tokens ≡ front ++ t ∷ behind → IsWrong dialect front t → WouldGoOn dialect front t fault
      → IsRefused dialect tokens end fault
  wrong : {front : List Lexeme} {t : Lexeme} (behind : List Lexeme) → NamesAVersion dialect tokens
      → tokens ≡ front ++ t ∷ behind → IsWrong dialect front t
      → ((fault : SyntaxFault) → WouldGoOn dialect front t fault → ⊥)
      → IsRefused dialect tokens end (Grammar t.span.start)
  -- more tokens are missing
  missing : NamesAVersion dialect tokens → GoesOn max_message_depth dialect tokens
      → ((tree : File) → DerivesWithin max_message_depth dialect tokens tree → ⊥)
      → IsRefused dialect tokens end (Grammar end)

-- The tokens of the text have the fault. They have at most one.
abbrev pub HasFault : Dialect → List ℕ → List Token → SyntaxFault → Type 0
HasFault dialect text tokens fault = IsRefused dialect (lexemes_of text tokens) (length text) fault
