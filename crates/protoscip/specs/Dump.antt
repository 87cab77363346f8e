-- What a dump answers of a source: its listing, or why there is none.
use Rattle.std.specs.Prelude.{◌≡◌, ℕ, false, List, [], ◌∷◌, Some, Result, Ok, Err, codes}
use Rattle.proto_lex.specs.declared.position.Encoding.TheVariants.{Utf8}
use Rattle.comment_texts.specs.declared.form.CommentForm.TheVariants.{Raw}
use Rattle.proto_parse.specs.dialect.CustomOptions.TheVariants as custom
use Rattle.proto_parse.specs.dialect.Dialect.{Dialect}
use Rattle.proto_parse.specs.dialect.Dialect.TheVariants.{Proto3}
use Rattle.proto_decl.specs.Values.{Seen}
use Rattle.index_hooks.specs.declared.choice.Choice.{Choice}
use Rattle.index_hooks.specs.MayChoose.{IsDefaultChoice}
use Rattle.source_tree.specs.Files.{TreeFile}
use Rattle.source_tree.specs.Reading.{kept_bytes}
use Rattle.streams.specs.Readers.{Reader, known_before, IsReadFault, IsReadThrough, IsUnfailed}
use Rattle.streams.specs.Writers.{Writer, IsWritten, IsCutOff, IsUntouched}
use Rattle.proto_visibility.specs.declared.clash.Duplicates.TheVariants as names
use Rattle.scip_model.specs.Packages.{Packages, all_in}
use Rattle.scip_build.specs.AsRead.{AreReadIn}
use Rattle.scip_build.specs.declared.settings.Settings.{Settings}
use Rattle.scip_build.specs.declared.faulty.Faulty.TheVariants.{Refuse}
use Rattle.scip_records.specs.declared.records.Index.{Index}
use Rattle.scip_wire.specs.Spelling.{spelling_of}
use Rattle.protoscip.specs.DumpText.{dump_text}
use Rattle.protoscip.specs.Indexes.{IsIndexed, IsRefused, IsSpelled}
use Rattle.protoscip.specs.declared.recorded.Recorded.{Recorded}
use Rattle.protoscip.specs.declared.fault.Fault.{Fault}
use Rattle.protoscip.specs.declared.fault.Fault.TheVariants.{Memory, Read, Write}

-- the path under which a dump, and what is said of its fault, shows its source
abbrev pub source_path : List ℕ
source_path = codes "input.proto"

-- the one file of such a tree
abbrev pub dump_file : List ℕ → TreeFile
dump_file bytes =
    record { path = source_path; bytes = bytes; text = bytes; is_included = false; is_unread = false }

-- its tree: only this source
abbrev pub dump_tree : List ℕ → List TreeFile
dump_tree bytes = dump_file bytes ∷ []

-- what it accepts if nothing else is said: proto3 without custom options
abbrev pub plain_dialect : Dialect
plain_dialect = Proto3 custom.Refuse

-- the package without manager, name and version
abbrev pub no_package : Packages
no_package = all_in (record { manager = []; name = []; version = [] })

-- its settings: that package; columns in UTF-8; comments as they are written; its document has the path of the source
abbrev pub dump_settings : Dialect → Settings
dump_settings dialect = record {
  project_root = codes "file:///";
  at = [];
  «package» = no_package;
  encoding = Utf8;
  dialect = dialect;
  comments = Raw;
  details = false;
  options = false;
  faulty = Refuse;
  duplicates = names.Refuse;
}

-- each declaration is kept, with its leading text
abbrev pub default_choices : Seen → Choice → Type 0
default_choices seen choice = IsDefaultChoice choice

-- the listing of a source: that of the index of its tree, as it is read
pub record IsListing (dialect : Dialect) (bytes listing : List ℕ) : Type 0 where
  pub tree : List TreeFile
  pub read : AreReadIn dialect (dump_tree bytes) tree
  pub recorded : Recorded
  pub spelling : List ℕ
  pub indexed : IsIndexed default_choices (dump_settings dialect) tree recorded spelling
  pub listing_is : listing ≡ dump_text indexed.index

-- the listing of an index that has a spelling
abbrev pub IsListingOf : Index → List ℕ → Type 0
IsListingOf index listing = IsSpelled index (spelling_of index) × (listing ≡ dump_text index)

-- why a source has no listing: why its tree, as it is read, isn't indexed, by one worker; nothing is said about memory
abbrev pub IsRefusal : Dialect → List ℕ → Fault → Type 0
IsRefusal dialect bytes Memory = Unit {0}
IsRefusal dialect bytes fault =
    (tree : List TreeFile) × AreReadIn dialect (dump_tree bytes) tree
    × IsRefused default_choices (dump_settings dialect) tree 1 fault

-- what a dump of these bytes answers, and what it has to write: the listing, of which all is written, or, if a write
-- fails, a part of it from its start; or why there is none. (Read says nothing about the bytes.)
abbrev pub Dumps : Dialect → List ℕ → List ℕ → Result (Unit {0}) Fault → Type 0
Dumps dialect bytes due (Ok done) = IsListing dialect bytes due
Dumps dialect bytes due (Err (Write count)) = IsListing dialect bytes due
Dumps dialect bytes due (Err Read) = Unit {0}
Dumps dialect bytes due (Err fault) = IsRefusal dialect bytes fault

-- the reader: it was read to its end; at Read, why it wasn't; at Memory, no read failed
abbrev pub LeavesReader : {R : Type 0} → Reader R → Result (Unit {0}) Fault → Type 0
LeavesReader source (Err Memory) = IsUnfailed source
LeavesReader source (Err Read) = IsReadFault source
LeavesReader source other = IsReadThrough source

-- the writer: the whole text was written; at Write, its first `count` bytes; after any other fault the writer is as it
-- was
abbrev pub LeavesWriter : {W : Type 0} → Writer W → List ℕ → Result (Unit {0}) Fault → Type 0
LeavesWriter out due (Ok done) = IsWritten out due
LeavesWriter out due (Err (Write count)) = IsCutOff out due count
LeavesWriter out due (Err fault) = IsUntouched out

-- What a dump leaves of its writer, by the text that it has to write: that of the bytes which the reader tells that
-- it has left; if it tells none, of some bytes.
pub record IsDumped {R W : Type 0} (dialect : Dialect) (source : Reader R) (out : Writer W)
    (done : Result (Unit {0}) Fault) : Type 0 where
  pub due : List ℕ
  pub writer : LeavesWriter out due done
  pub some : (bytes : List ℕ) × Dumps dialect bytes due done
  pub told : (bytes : List ℕ) → known_before source ≡ Some bytes → Dumps dialect bytes due done

-- The tree is that of what was kept of a source, as it is read: of the bytes which the reader tells that it has left;
-- if it tells none, of some bytes.
pub record IsTreeOfSource {R : Type 0} (dialect : Dialect) (source : Reader R) (tree : List TreeFile) : Type 0 where
  pub kept : List ℕ
  pub tree_is : AreReadIn dialect (dump_tree kept) tree
  pub told : (bytes : List ℕ) → known_before source ≡ Some bytes → kept ≡ kept_bytes bytes

-- the tree in which a dump's fault has its places; any tree if the source wasn't read, or memory ran out
abbrev pub IsTreeOfFault : {R : Type 0} → Dialect → Reader R → List TreeFile → Fault → Type 0
IsTreeOfFault dialect source tree Read = Unit {0}
IsTreeOfFault dialect source tree Memory = Unit {0}
IsTreeOfFault dialect source tree fault = IsTreeOfSource dialect source tree
