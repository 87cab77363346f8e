-- How a dump ends.
use Rattle.std.proofs.Common.{ℕ, Bool, ◌&&◌, List, [], Option, Err, subst}
use Rattle.streams.specs.Readers.{Reader}
use Rattle.streams.specs.Writers.{Writer}
use Rattle.proto_parse.specs.dialect.Dialect.{Dialect}
use Rattle.source_tree.specs.Files.{TreeFile}
use Rattle.source_tree.specs.Reading.{kept_bytes}
use Rattle.scip_build.specs.AsRead.{AreReadIn}
use Rattle.protoscip.specs.Dump.{IsTreeOfFault, IsTreeOfSource, dump_tree}
use Rattle.protoscip.specs.Explanations.{IsFaultText}
use Rattle.protoscip.specs.FaultTexts.{status_of}
use Rattle.protoscip.specs.declared.fault.Fault.{Fault}
use Rattle.protoscip.specs.declared.fault.Fault.TheVariants.{Spawn, Memory, Unread, Lex, Syntax, Duplicate}
use Rattle.protoscip.specs.declared.fault.Fault.TheVariants.{MissingImport, Unresolved, Ambiguous, OptionGap, Uncertain}
use Rattle.protoscip.specs.declared.fault.Fault.TheVariants.{TooLarge, Write, Read, Answer}
use Rattle.programs.specs.Dumping.{EndsDump, IsTreeOfDump, is_write}
use Rattle.programs.specs.Messages.{TellsOne}
use Rattle.programs.specs.Printing.{EndsCut}

module _ {R M : Type 0} (dialect : Dialect) (explain : Option Dialect) (closed : Bool) (source : Reader R)
    (messages : Writer M) (status : ℕ) where
  abbrev due : List TreeFile → Fault → Type 0
  due tree fault = TellsOne (IsFaultText explain tree fault) (status_of fault) messages status

  abbrev tells : List TreeFile → Fault → Type 0
  tells tree fault = EndsCut (is_write fault && closed) (due tree fault) messages status

  abbrev ends : Fault → Type 0
  ends fault = EndsDump dialect explain closed source (Err fault) messages status

  -- a fault is told of the source's tree,
  of_source : (fault : Fault) (tree : List TreeFile)
      → ((kept : List ℕ) → AreReadIn dialect (dump_tree kept) tree → IsTreeOfDump dialect kept (Err fault) tree)
      → IsTreeOfSource dialect source tree → tells tree fault → ends fault
  of_source fault tree of is said_so = record {
    some = (is.kept, (tree, of is.kept is.tree_is, said_so));
    told = λ bytes known. (
      tree,
      of (kept_bytes bytes)
          (subst (λ (kept : List ℕ). AreReadIn dialect (dump_tree kept) tree) (is.told bytes known) is.tree_is),
      said_so,
    );
  }

  -- or names no place
  pub of_fault : (fault : Fault) (tree : List TreeFile) → IsTreeOfFault dialect source tree fault → tells tree fault
      → ends fault
  of_fault Read tree is said_so =
      record { some = ([], (tree, tt, said_so)); told = λ bytes known. (tree, tt, said_so) }
  of_fault Memory tree is said_so =
      record { some = ([], (tree, tt, said_so)); told = λ bytes known. (tree, tt, said_so) }
  of_fault Spawn tree is said_so = of_source Spawn tree (λ kept read. read) is said_so
  of_fault (Unread number) tree is said_so = of_source (Unread number) tree (λ kept read. read) is said_so
  of_fault (Lex number e) tree is said_so = of_source (Lex number e) tree (λ kept read. read) is said_so
  of_fault (Syntax number e) tree is said_so = of_source (Syntax number e) tree (λ kept read. read) is said_so
  of_fault (Duplicate first second) tree is said_so =
      of_source (Duplicate first second) tree (λ kept read. read) is said_so
  of_fault (MissingImport place) tree is said_so = of_source (MissingImport place) tree (λ kept read. read) is said_so
  of_fault (Unresolved place) tree is said_so = of_source (Unresolved place) tree (λ kept read. read) is said_so
  of_fault (Ambiguous place) tree is said_so = of_source (Ambiguous place) tree (λ kept read. read) is said_so
  of_fault (OptionGap place) tree is said_so = of_source (OptionGap place) tree (λ kept read. read) is said_so
  of_fault (Uncertain place behind) tree is said_so =
      of_source (Uncertain place behind) tree (λ kept read. read) is said_so
  of_fault TooLarge tree is said_so = of_source TooLarge tree (λ kept read. read) is said_so
  of_fault (Write count) tree is said_so = of_source (Write count) tree (λ kept read. read) is said_so
  of_fault (Answer count) tree is said_so = of_source (Answer count) tree (λ kept read. read) is said_so
