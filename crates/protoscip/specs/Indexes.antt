-- What indexing a tree answers, and what it leaves of the writer. `allows` says which choices may come for a
-- declaration.
use Rattle.std.specs.Prelude.{◌≡◌, ℕ, ◌<◌, ◌≤◌, ⊤, List, length, Result, Ok, Err}
use Rattle.proto_decl.specs.Values.{Seen}
use Rattle.index_hooks.specs.declared.choice.Choice.{Choice}
use Rattle.source_tree.specs.Files.{TreeFile}
use Rattle.scip_model.specs.Chosen.{Chosen}
use Rattle.streams.specs.Writers.{Writer, IsWritten, IsCutOff, IsUntouched}
use Rattle.scip_records.specs.declared.records.Index.{Index}
use Rattle.scip_build.specs.Builds.{IsBuilt, IsBuildFault}
use Rattle.scip_build.specs.declared.built.Built.{Built}
use Rattle.scip_build.specs.declared.omission.Omission.{Omission}
use Rattle.scip_build.specs.declared.settings.Settings.{Settings}
use Rattle.scip_build.specs.declared.fault.BuildFault.TheVariants as build
use Rattle.scip_build.specs.declared.fault.FileFault.TheVariants as file
use Rattle.scip_wire.specs.Decodes.{Decodes}
use Rattle.scip_wire.specs.Spelling.{spelling_of, max_index_len}
use Rattle.protoscip.specs.declared.recorded.Recorded.{Recorded}
use Rattle.protoscip.specs.declared.fault.Fault.{Fault}
use Rattle.protoscip.specs.declared.fault.Fault.TheVariants.{Spawn, Memory, Unread, Lex, Syntax, Duplicate}
use Rattle.protoscip.specs.declared.fault.Fault.TheVariants.{MissingImport, Unresolved, Ambiguous, OptionGap, Uncertain}
use Rattle.protoscip.specs.declared.fault.Fault.TheVariants.{TooLarge, Write, Read, Answer}

-- the bytes of an index: its spelling, which isn't too long, and which decodes to it and to no other index
pub record IsSpelled (index : Index) (bytes : List ℕ) : Type 0 where
  pub spelling : bytes ≡ spelling_of index
  pub small : length bytes ≤ max_index_len
  pub decodes : Decodes bytes index
  pub alone : (other : Index) → Decodes bytes other → other ≡ index

-- what was recorded beside an index: the choices that it is made by, and what was left out
abbrev pub recorded_of : Chosen → List Omission → Recorded
recorded_of choices told = record { choices = choices; told = told }

abbrev pub built_of : Index → Recorded → Built
built_of index recorded = record { index = index; choices = recorded.choices; told = recorded.told }

-- The bytes of a tree's index, and what was recorded beside it: the index is built from the tree by these choices and
-- the settings, this was left out, and these are its bytes.
pub record IsIndexed (allows : Seen → Choice → Type 0) (settings : Settings) (tree : List TreeFile)
    (recorded : Recorded)
    (bytes : List ℕ) : Type 0 where
  pub index : Index
  pub built : IsBuilt allows settings tree (built_of index recorded)
  pub spelled : IsSpelled index bytes

-- Why a tree isn't indexed: why it isn't built; or that the index which it has by some choices would have too many
-- bytes. A thread is refused only if one is to be started; nothing is said about memory, and reading and writing are
-- no matter of the tree.
abbrev pub IsRefused : (allows : Seen → Choice → Type 0) → Settings → List TreeFile → (workers : ℕ) → Fault → Type 0
IsRefused allows settings tree workers Spawn = 1 < workers
IsRefused allows settings tree workers Memory = ⊤
IsRefused allows settings tree workers (Unread number) =
    IsBuildFault allows settings tree workers (build.File number file.Unread)
IsRefused allows settings tree workers (Lex number fault) =
    IsBuildFault allows settings tree workers (build.File number (file.Lex fault))
IsRefused allows settings tree workers (Syntax number fault) =
    IsBuildFault allows settings tree workers (build.File number (file.Syntax fault))
IsRefused allows settings tree workers (Duplicate first second) =
    IsBuildFault allows settings tree workers (build.Duplicate first second)
IsRefused allows settings tree workers (MissingImport place) =
    IsBuildFault allows settings tree workers (build.MissingImport place)
IsRefused allows settings tree workers (Unresolved place) =
    IsBuildFault allows settings tree workers (build.Unresolved place)
IsRefused allows settings tree workers (Ambiguous place) =
    IsBuildFault allows settings tree workers (build.Ambiguous place)
IsRefused allows settings tree workers (OptionGap place) =
    IsBuildFault allows settings tree workers (build.OptionGap place)
IsRefused allows settings tree workers (Uncertain place behind) = ⊥
IsRefused allows settings tree workers TooLarge =
    (built : Built) × IsBuilt allows settings tree built × (max_index_len < length (spelling_of built.index))
IsRefused allows settings tree workers (Write count) = ⊥
IsRefused allows settings tree workers Read = ⊥
IsRefused allows settings tree workers (Answer count) = ⊥

-- The tree is indexed and the bytes are written; or a write fails, and their first `count` are; or the tree isn't
-- indexed, and the writer is as it was.
abbrev pub Indexes : {W : Type 0} → (allows : Seen → Choice → Type 0) → Settings → List TreeFile → (workers : ℕ)
    → Writer W → Result Recorded Fault → Type 0
Indexes allows settings tree workers out (Ok recorded) =
    (bytes : List ℕ) × IsIndexed allows settings tree recorded bytes × IsWritten out bytes
Indexes allows settings tree workers out (Err (Write count)) =
    (recorded : Recorded) × (bytes : List ℕ) × IsIndexed allows settings tree recorded bytes
    × IsCutOff out bytes count
Indexes allows settings tree workers out (Err fault) =
    IsRefused allows settings tree workers fault × IsUntouched out
