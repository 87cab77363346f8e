-- A run about a tree that ends with the status 0 made an index that navigates the tree.
use Rattle.std.proofs.Common.{◌≡◌, ◌∙◌, inl, inr, sym, subst, ℕ, zero, suc, Bool, List, Option, Ok, Err}
use Rattle.streams.specs.Readers.{Reader}
use Rattle.streams.specs.Writers.{Writer}
use Rattle.proto_lex.specs.declared.fault.LexFault.{LexFault}
use Rattle.proto_lex.specs.declared.fault.LexFault.TheVariants as lexing
use Rattle.proto_parse.specs.fault.SyntaxFault.{SyntaxFault}
use Rattle.proto_parse.specs.fault.SyntaxFault.TheVariants as parsing
use Rattle.command_line.specs.declared.options.IndexOptions.{IndexOptions}
use Rattle.command_line.specs.declared.options.IndexRequest.{IndexRequest}
use Rattle.scip_query.specs.declared.manner.Manner.{Manner}
use Rattle.source_files.specs.Listings.{Listing}
use Rattle.source_tree.specs.Files.{TreeFile}
use Rattle.source_files.specs.declared.load_fault.LoadFault.TheVariants.{Unreadable, TooMany, BadPath, SamePath}
use Rattle.source_files.specs.declared.load_fault.LoadFault.TheVariants as load
use Rattle.protoscip.specs.FaultTexts.{lex_text, status_of, syntax_text}
use Rattle.protoscip.specs.declared.fault.Fault.{Fault}
use Rattle.protoscip.specs.declared.fault.Fault.TheVariants.{Spawn, Memory, Unread, Lex, Syntax, Duplicate}
use Rattle.protoscip.specs.declared.fault.Fault.TheVariants.{MissingImport, Unresolved, Ambiguous, OptionGap, Uncertain}
use Rattle.protoscip.specs.declared.fault.Fault.TheVariants.{TooLarge, Write, Read, Answer}
use Rattle.programs.specs.Indexing.{Indexed, WritesNavigable, into_part, too_poor}
use Rattle.programs.specs.Indexing as indexing
use Rattle.programs.specs.Limits.{limit_status}
use Rattle.programs.specs.Messages.{Tells, TellsOne}
use Rattle.programs.specs.OptionLaws.{HeadlineOfFiles}
use Rattle.programs.specs.Placing.{Place, filled}
use Rattle.programs.proofs.PlacingLemmas.{held_now}
use Rattle.programs.specs.Serving.{AnswersNavigable, Served, not_begun, not_started, over_tree}
use Rattle.programs.specs.StartFaults.{status_of as start_status}
use Rattle.programs.specs.declared.start_fault.StartFault.{StartFault}
use Rattle.programs.specs.declared.start_fault.StartFault.TheVariants.{BadPart, BadFolder, Load, IsSource}
use Rattle.programs.specs.declared.start_fault.StartFault.TheVariants.{ReportIsSource, ReportIsOut, Unlisted}

-- ---- no fault has the status of a success

abbrev IsFailure : ℕ → Type 0
IsFailure zero = ⊥
IsFailure (suc status) = Unit {0}

no_success : {status due : ℕ} → IsFailure due → status ≡ due → status ≡ 0 → ⊥
no_success failure is none = subst IsFailure (sym is ∙ none) failure

lex_fails : (fault : LexFault) → IsFailure (lex_text fault).status
lex_fails lexing.TooLong = tt
lex_fails (lexing.NotUtf8 at) = tt
lex_fails (lexing.BadByte at) = tt
lex_fails (lexing.OpenString at) = tt
lex_fails (lexing.OpenComment at) = tt
lex_fails (lexing.BadEscape at) = tt
lex_fails (lexing.BadNumber at) = tt
lex_fails lexing.Memory = tt

syntax_fails : (fault : SyntaxFault) → IsFailure (syntax_text fault).status
syntax_fails (parsing.NotProto3 at) = tt
syntax_fails (parsing.CustomOption at) = tt
syntax_fails (parsing.Aggregate at) = tt
syntax_fails (parsing.Extend at) = tt
syntax_fails (parsing.TwoPackages at) = tt
syntax_fails (parsing.ImportEscape at) = tt
syntax_fails (parsing.TooDeep at) = tt
syntax_fails (parsing.Grammar at) = tt
syntax_fails parsing.Memory = tt

fails : (fault : Fault) → IsFailure (status_of fault)
fails Spawn = tt
fails Memory = tt
fails (Lex number fault) = lex_fails fault
fails (Syntax number fault) = syntax_fails fault
fails (Unread number) = tt
fails (Duplicate first second) = tt
fails (MissingImport place) = tt
fails (Unresolved place) = tt
fails (Ambiguous place) = tt
fails (OptionGap place) = tt
fails (Uncertain place behind) = tt
fails TooLarge = tt
fails (Write count) = tt
fails Read = tt
fails (Answer count) = tt

start_fails : (fault : StartFault) → IsFailure (start_status fault)
start_fails BadPart = tt
start_fails (BadFolder path) = tt
start_fails (Unlisted place path) = tt
start_fails (Load (Unreadable name)) = tt
start_fails (Load TooMany) = tt
start_fails (Load (BadPath path)) = tt
start_fails (Load (SamePath path)) = tt
start_fails (Load load.Memory) = tt
start_fails (IsSource path) = tt
start_fails (ReportIsSource path) = tt
start_fails (ReportIsOut path) = tt

told_no_success : {M : Type 0} (line : List ℕ) (due : ℕ) (messages : Writer M) (status : ℕ) → IsFailure due
    → Tells line due messages status → status ≡ 0 → ⊥
told_no_success line due messages status failure (inl said) none = no_success failure said.0 none
told_no_success line due messages status failure (inr said) none = no_success (fails Memory) said.0 none

told_one_no_success : {M : Type 0} (Due : List ℕ → Type 0) (due : ℕ) (messages : Writer M) (status : ℕ)
    → IsFailure due → TellsOne Due due messages status → status ≡ 0 → ⊥
told_one_no_success Due due messages status failure (inl one) none = no_success failure one.2.0 none
told_one_no_success Due due messages status failure (inr said) none = no_success (fails Memory) said.0 none

-- ---- so after a success there is an index

module _ (lists : List ℕ → List ℕ → Option Listing → Type 0) (gives : List ℕ → Option (List ℕ) → Type 0)
    (finds : List ℕ → List ℕ → Bool → Type 0) (asked : IndexRequest)
    (headline : HeadlineOfFiles lists gives finds asked.options) where
  pub writes : {P W Q V M : Type 0} (blames : List ℕ → Option (List ℕ) → Type 0)
      (none_found : List TreeFile → Option (List ℕ) → Type 0) (suspects : Bool → Type 0)
      (at : Place P W) (report : Place Q V) (messages : Writer M) (status : ℕ)
      → Indexed lists gives finds blames none_found suspects asked at report messages status
      → WritesNavigable lists gives finds asked.options at status
  writes blames none_found suspects at report messages status
      (indexing.not_started fault said is_out may left out reported tells) none =
      absurd (told_one_no_success _ (start_status said) messages status (start_fails said) tells none)
  writes blames none_found suspects at report messages status
      (indexing.over_tree tree unread ids named folders (indexing.not_begun fault may left as_it_was tells)) none =
      absurd (told_no_success _ (start_status fault) messages status (start_fails fault) tells none)
  writes blames none_found suspects at report messages status
      (indexing.over_tree tree unread ids named folders
      (into_part (Ok recorded) apart (filled begun whole nothing keeps runs told put) ends)) none =
      record {
        tree = tree;
        unread = unread;
        ids = ids;
        recorded = recorded;
        folders = folders;
        navigable = (
          runs.0,
          runs.1.index,
          headline tree unread ids folders recorded runs.0 runs.1,
          record {
            begun = begun;
            whole = whole;
            nothing = nothing;
            written = runs.2;
            put = put;
            held = λ known. held_now (at.sink.contents begun) (at.sink.contents whole) (at.holds at.after) runs.0 known
                runs.2.written put;
          },
        );
      }
  writes blames none_found suspects at report messages status
      (indexing.over_tree tree unread ids named folders (into_part (Err fault) apart fills ends)) none =
      absurd (told_one_no_success _ (status_of fault) messages status (fails fault) ends none)
  writes blames none_found suspects at report messages status
      (indexing.over_tree tree unread ids named folders (too_poor recorded fault apart forgoes breaks ends)) none =
      absurd (told_no_success _ limit_status _ status tt ends.2 none)

module _ (manner : Manner) (lists : List ℕ → List ℕ → Option Listing → Type 0)
    (gives : List ℕ → Option (List ℕ) → Type 0) (finds : List ℕ → List ℕ → Bool → Type 0) (options : IndexOptions)
    (headline : HeadlineOfFiles lists gives finds options) where
  pub answers : {Q V R W M : Type 0} (blames : List ℕ → Option (List ℕ) → Type 0)
      (none_found : List TreeFile → Option (List ℕ) → Type 0) (suspects : Bool → Type 0)
      (report : Place Q V) (commands : Reader R) (written : Writer W) (messages : Writer M) (status : ℕ)
      → Served manner lists gives finds blames none_found suspects options report commands written messages status
      → AnswersNavigable manner lists gives finds options commands written status
  answers blames none_found suspects report commands written messages status
      (not_started fault said may untouched reported tells) none =
      absurd (told_one_no_success _ (start_status said) messages status (start_fails said) tells none)
  answers blames none_found suspects report commands written messages status
      (not_begun tree unread ids fault named folders may untouched tells) none =
      absurd (told_no_success _ (start_status fault) messages status (start_fails fault) tells none)
  answers blames none_found suspects report commands written messages status
      (over_tree tree unread ids (Ok recorded) (Ok done) named folders apart runs told ends) none = record {
        tree = tree;
        unread = unread;
        ids = ids;
        recorded = recorded;
        folders = folders;
        navigable = (
          runs.bytes,
          runs.indexed.index,
          headline tree unread ids folders recorded runs.bytes runs.indexed,
          runs.are,
        );
      }
  answers blames none_found suspects report commands written messages status
      (over_tree tree unread ids (Ok recorded) (Err fault) named folders apart runs told ends) none =
      absurd (told_one_no_success _ (status_of fault) messages status (fails fault) ends none)
  answers blames none_found suspects report commands written messages status
      (over_tree tree unread ids (Err fault) reported named folders apart runs told ends) none =
      absurd (told_one_no_success _ (status_of fault) messages status (fails fault) ends none)
