-- What the bytes of a file say, and why they say nothing (proto3 and proto2 language specifications).
use Rattle.std.specs.Prelude.{◌≡◌, ◌⊎◌, ℕ, Bool, true, false, Option, None, Some, List, []}
use Rattle.proto_lex.specs.Text.{IsText, IsNoText}
use Rattle.proto_lex.specs.Lexed.{Lexed, IsLexed}
use Rattle.proto_lex.specs.Lexes.{LexesWith}
use Rattle.proto_lex.specs.Faults.{IsFirstFaultWith}
use Rattle.proto_lex.specs.declared.fault.LexFault.{LexFault}
use Rattle.comment_texts.specs.Forms.{nul_replaced}
use Rattle.proto_decl.specs.declared.form.FactForm.{FactForm}
use Rattle.proto_parse.specs.dialect.Dialect.{Dialect}
use Rattle.proto_parse.specs.dialect.Dialect.TheVariants.{Proto3, All}
use Rattle.proto_parse.specs.Syntax.{hashes_in}
use Rattle.proto_parse.specs.tree.File.{File}
use Rattle.proto_parse.specs.fault.SyntaxFault.{SyntaxFault}
use Rattle.proto_parse.specs.Derives.{Derives}
use Rattle.proto_parse.specs.Refused.{HasFault}
use Rattle.proto_decl.specs.Facts.{Facts, AreFactsOf}
use Rattle.proto_options.specs.Fields.{fields_in}
use Rattle.proto_options.specs.Messages.{messages_in}
use Rattle.proto_options.specs.Options.{AreOptionsOf}
use Rattle.option_link.specs.declared.facts.OptionFacts.{OptionFacts}
use Rattle.scip_build.specs.declared.fault.FileFault.{FileFault}
use Rattle.scip_build.specs.declared.fault.FileFault.TheVariants.{Unread, Lex, Syntax}

-- the bytes are a text, with these tokens and comments in the dialect
pub record HasLexing (dialect : Dialect) (bytes : List ℕ) (lexed : Lexed) : Type 0 where
  pub text : IsText bytes
  pub of_bytes : lexed.text ≡ bytes
  pub lexes : LexesWith (hashes_in dialect) bytes lexed.tokens lexed.comments
  pub is_lexed : IsLexed lexed.text lexed.tokens lexed.comments

-- The form in which a file's facts are told: in the dialect of all sources U+FFFD stands for each NUL of a comment, as
-- a NUL is read for each byte in a comment that isn't UTF-8.
abbrev pub form_by : Dialect → FactForm → FactForm
form_by (Proto3 custom) form = form
form_by All form = record { comments = nul_replaced form.comments; details = form.details }

-- the facts of the file with this number and these bytes: those of a tree that the tokens of its text derive,
-- in a form
pub record AreFactsIn (dialect : Dialect) (form : FactForm) (number : ℕ) (bytes : List ℕ)
    (facts : Facts) : Type 0 where
  pub lexed : Lexed
  pub tree : File
  pub lexing : HasLexing dialect bytes lexed
  pub derives : Derives dialect lexed.text lexed.tokens tree
  pub of_tree : AreFactsOf (form_by dialect form) number lexed tree facts

-- What is known beside the facts of a file with these bytes: its options, if it is a source, its fields, and what its
-- messages say of names. An included file has no document, so its options aren't looked at.
pub record IsBesideIn (bytes : List ℕ) (is_included : Bool) (beside : OptionFacts) : Type 0 where
  pub lexed : Lexed
  pub tree : File
  pub lexing : HasLexing All bytes lexed
  pub derives : Derives All lexed.text lexed.tokens tree
  pub of_source : is_included ≡ false → AreOptionsOf All lexed tree beside.options
  pub of_included : is_included ≡ true → beside.options ≡ []
  pub fields : beside.fields ≡ fields_in tree
  pub messages : beside.messages ≡ messages_in lexed tree

-- names in options are linked in the dialect of all sources only
abbrev pub asks_options : Dialect → (options : Bool) → Bool
asks_options (Proto3 custom) options = false
asks_options All options = options

-- the same, if it is asked for
abbrev pub IsBesideIf : (asked : Bool) → (bytes : List ℕ) → (is_included : Bool) → Option OptionFacts → Type 0
IsBesideIf false bytes is_included beside = beside ≡ None
IsBesideIf true bytes is_included None = ⊥
IsBesideIf true bytes is_included (Some beside) = IsBesideIn bytes is_included beside

-- the bytes are no text, or the text has no lexing
abbrev pub IsUnlexed : Dialect → List ℕ → LexFault → Type 0
IsUnlexed dialect bytes fault =
    IsNoText bytes fault ⊎ (IsText bytes × IsFirstFaultWith (hashes_in dialect) bytes fault)

-- the text has a lexing, but its tokens have this fault of the grammar
pub record IsUnparsed (dialect : Dialect) (bytes : List ℕ) (fault : SyntaxFault) : Type 0 where
  pub lexed : Lexed
  pub lexing : HasLexing dialect bytes lexed
  pub has_fault : HasFault dialect lexed.text lexed.tokens fault

-- why a file has no facts: it couldn't be read, or it has these bytes, and they say nothing
abbrev pub IsUnreadable : Dialect → (is_unread : Bool) → (bytes : List ℕ) → FileFault → Type 0
IsUnreadable dialect is_unread bytes Unread = is_unread ≡ true
IsUnreadable dialect is_unread bytes (Lex fault) = (is_unread ≡ false) × IsUnlexed dialect bytes fault
IsUnreadable dialect is_unread bytes (Syntax fault) = (is_unread ≡ false) × IsUnparsed dialect bytes fault
