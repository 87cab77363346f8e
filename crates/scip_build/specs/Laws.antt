-- What the definitions say about parsed files and faults, whatever the code does.
use Rattle.std.specs.Prelude.{◌≡◌, ℕ, Bool, false, List}
use Rattle.proto_lex.specs.declared.fault.LexFault.{LexFault}
use Rattle.proto_decl.specs.declared.form.FactForm.{FactForm}
use Rattle.scip_build.specs.declared.read_form.ReadForm.{ReadForm}
use Rattle.proto_parse.specs.dialect.Dialect.{Dialect}
use Rattle.proto_parse.specs.fault.SyntaxFault.{SyntaxFault}
use Rattle.proto_decl.specs.Facts.{Facts}
use Rattle.proto_decl.specs.Values.{Seen}
use Rattle.index_hooks.specs.declared.choice.Choice.{Choice}
use Rattle.scip_build.specs.declared.faulty.Faulty.{Faulty}
use Rattle.scip_build.specs.declared.faulty.Faulty.TheVariants.{Refuse}
use Rattle.scip_build.specs.declared.fault.FileFault.{FileFault}
use Rattle.option_link.specs.declared.facts.OptionFacts.{OptionFacts}
use Rattle.scip_build.specs.Parsed.{AreFactsIn, IsBesideIn, IsUnlexed, IsUnparsed, IsUnreadable}
use Rattle.proto_visibility.specs.Files as link
use Rattle.source_tree.specs.Files.{TreeFile}
use Rattle.source_tree.specs.Trees.{HaveOwnPaths}
use Rattle.scip_build.specs.Files.{ReadFile}
use Rattle.scip_build.specs.ParsedFiles.{AreParsedFiles, IsFirstFaulty}
use Rattle.scip_build.specs.Linking.{linked_files}

-- A file has one list of facts at most in each form,
abbrev pub OneListOfFacts : Type 0
OneListOfFacts =
    (dialect : Dialect) (form : FactForm) (number : ℕ) (bytes : List ℕ) (facts other : Facts)
    → AreFactsIn dialect form number bytes facts → AreFactsIn dialect form number bytes other → facts ≡ other

-- one of what is known beside them,
abbrev pub OneBesideAFile : Type 0
OneBesideAFile = (bytes : List ℕ) (is_included : Bool) (beside other : OptionFacts)
    → IsBesideIn bytes is_included beside → IsBesideIn bytes is_included other → beside ≡ other

-- and none if its bytes say nothing,
abbrev pub NoFactsWhereUnreadable : Type 0
NoFactsWhereUnreadable =
    (dialect : Dialect) (form : FactForm) (number : ℕ) (bytes : List ℕ) (facts : Facts) (fault : FileFault)
    → AreFactsIn dialect form number bytes facts → IsUnreadable dialect false bytes fault → ⊥

-- which it can't be for one kind of fault.
abbrev pub LexedWhereUnparsed : Type 0
LexedWhereUnparsed = (dialect : Dialect) (bytes : List ℕ) (lexing : LexFault) (parsing : SyntaxFault)
    → IsUnparsed dialect bytes parsing → IsUnlexed dialect bytes lexing → ⊥

-- It has one fault at most.
abbrev pub OneFileFault : Type 0
OneFileFault = (dialect : Dialect) (is_unread : Bool) (bytes : List ℕ) (fault other : FileFault)
    → IsUnreadable dialect is_unread bytes fault → IsUnreadable dialect is_unread bytes other → fault ≡ other

-- One of the sources that can't be read is the first.
abbrev pub OneFirstFaulty : Type 0
OneFirstFaulty =
    (dialect : Dialect) (files : List TreeFile) (number other : ℕ) (fault another : FileFault)
    → IsFirstFaulty dialect files number fault → IsFirstFaulty dialect files other another → number ≡ other

-- If there is one, the files have no parsed files, if it is refused.
abbrev pub NoParsedFilesWhereFaulty : (allows : Seen → Choice → Type 0) → Type 0
NoParsedFilesWhereFaulty allows =
    (dialect : Dialect) (form : ReadForm) (files : List TreeFile) (parsed : List ReadFile) (number : ℕ)
    (fault : FileFault) → AreParsedFiles Refuse dialect form allows files parsed
    → IsFirstFaulty dialect files number fault → ⊥

-- Files that were read have paths of their own, as the tree's have, so that they can be handed to the linker.
abbrev pub ParsedFilesHaveOwnPaths : (allows : Seen → Choice → Type 0) → Type 0
ParsedFilesHaveOwnPaths allows =
    (faulty : Faulty) (dialect : Dialect) (form : ReadForm) (files : List TreeFile) (parsed : List ReadFile)
    → AreParsedFiles faulty dialect form allows files parsed → HaveOwnPaths files
    → link.HaveOwnPaths (linked_files parsed)

-- Files that were read link as one list of files, whatever was chosen.
abbrev pub OneLinking : (allows others : Seen → Choice → Type 0) → Type 0
OneLinking allows others =
    (faulty other : Faulty) (dialect : Dialect) (form : ReadForm) (files : List TreeFile)
    (parsed again : List ReadFile)
    → AreParsedFiles faulty dialect form allows files parsed → AreParsedFiles other dialect form others files again
    → linked_files parsed ≡ linked_files again
