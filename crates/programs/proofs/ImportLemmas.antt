-- What texts import that can't be read, and what trees import.
use Rattle.std.proofs.Common.{◌≡◌, ◌≢◌, ◌⊎◌, ◌∙◌, ◌<◌, ℕ, false, List, [], ◌∷◌, ◌++◌, Some, ap, arith, inl, inr, length}
use Rattle.std.proofs.Common.{map, refl, subst, sym}
use Rattle.std.specs.List.{slice_get}
use Rattle.std.specs.Option.{option_map}
use Rattle.std.proofs.lemmas.Option.{same_Some}
use Rattle.std.proofs.Math.Logic.{⊎_elim}
use Rattle.proto_lex.specs.Text.{IsNoText, IsText}
use Rattle.proto_lex.specs.Lexed.{Lexed}
use Rattle.proto_lex.specs.Faults.{IsFirstFaultWith}
use Rattle.proto_lex.specs.declared.fault.LexFault.{LexFault}
use Rattle.proto_lex.specs.declared.fault.LexFault.TheVariants as lexing
use Rattle.proto_parse.specs.dialect.Dialect.{Dialect}
use Rattle.proto_parse.specs.dialect.Dialect.TheVariants.{All, Proto3}
use Rattle.proto_parse.specs.fault.SyntaxFault.{SyntaxFault}
use Rattle.proto_parse.specs.fault.SyntaxFault.TheVariants as parsing
use Rattle.proto_parse.specs.Syntax.{hashes_in}
use Rattle.proto_parse.specs.tree.File.{File}
use Rattle.proto_parse.specs.Derives.{Derives}
use Rattle.proto_parse.specs.Refused.{HasFault}
use Rattle.proto_decl.specs.Imports.{imports_of}
use Rattle.proto_decl.specs.declared.imports.Imported.{Imported}
use Rattle.scip_build.specs.AsRead.{AreReadIn}
use Rattle.scip_build.specs.Parsed.{HasLexing}
use Rattle.scip_build.specs.declared.fault.FileFault.TheVariants.{Lex, Syntax}
use Rattle.source_tree.specs.Files.{SourceFile, TreeFile, in_tree}
use Rattle.source_tree.specs.Mending.{IsMended}
use Rattle.source_tree.specs.Trees.{IsFileOf, IsTreeOf, of_included, of_source}
use Rattle.source_files.specs.Reached.{Import}
use Rattle.source_files.proofs.ClosureLemmas.{at_front, front_or_behind, nothing_there}
use Rattle.programs.specs.Imports.{IsReadIn, IsTreeOfOne, TellsText, import_of, of_fault, of_tree}

module _ (dialect : Dialect) (text : List ℕ) (found : List Import) (none : found ≡ []) where
  nothing : TellsText dialect text [] → TellsText dialect text found
  nothing tells = subst (TellsText dialect text) (sym none) tells

  -- no text
  pub of_no_text : (fault : LexFault) → (fault ≡ lexing.Memory) ⊎ IsNoText text fault → fault ≢ lexing.Memory
      → TellsText dialect text found
  of_no_text fault may real =
      ⊎_elim (λ lacks. absurd (real lacks)) (λ bad. nothing (of_fault (Lex fault) (refl, inl bad))) may

  -- a text without a lexing
  pub of_unlexed : (fault : LexFault) → IsText text → (fault ≡ lexing.Memory) ⊎ IsFirstFaultWith (hashes_in dialect) text fault
      → fault ≢ lexing.Memory → TellsText dialect text found
  of_unlexed fault is may real =
      ⊎_elim (λ lacks. absurd (real lacks)) (λ bad. nothing (of_fault (Lex fault) (refl, inr (is, bad)))) may

  -- a lexing without a tree
  pub of_unparsed : (lexed : Lexed) (fault : SyntaxFault) → HasLexing dialect text lexed
      → (fault ≡ parsing.Memory) ⊎ HasFault dialect lexed.text lexed.tokens fault → fault ≢ parsing.Memory
      → TellsText dialect text found
  of_unparsed lexed fault is_lexed may real =
      ⊎_elim (λ lacks. absurd (real lacks))
      (λ bad. nothing (of_fault (Syntax fault) (refl, record { lexed = lexed; lexing = is_lexed; has_fault = bad })))
      may

-- a tree
pub of_parsed : (dialect : Dialect) (text : List ℕ) (lexed : Lexed) (tree : File) (all : List Imported)
    (found : List Import) → HasLexing dialect text lexed → Derives dialect lexed.text lexed.tokens tree
    → all ≡ imports_of lexed.text tree.imports → found ≡ map import_of all → TellsText dialect text found
of_parsed dialect text lexed tree all found is_lexed derives are is =
    subst (TellsText dialect text) (sym (is ∙ ap (map import_of) are)) (of_tree tree is_lexed derives)

pub ruleset of_tells = (of_no_text, of_unlexed, of_unparsed, of_parsed)

-- ---- the tree of one file

not_empty : {A : Type 0} (before : List A) (x : A) (behind : List A) → [] ≡ before ++ x ∷ behind → ⊥
not_empty [] x behind is = absurd cc
not_empty (y ∷ before) x behind is = absurd cc

from_one : (file : SourceFile) (first : TreeFile) → IsFileOf (file ∷ []) [] first
    → (first.bytes ≡ file.bytes) × (first.text ≡ file.bytes)
from_one file _ (of_source {file = same} there) =
    ⊎_elim (λ is. (ap (λ (f : SourceFile). f.bytes) (sym is), ap (λ (f : SourceFile). f.bytes) (sym is)))
    (λ none. absurd (nothing_there same none)) (front_or_behind file [] same there)
from_one file _ (of_included {file = other} counts) =
    absurd (not_empty counts.before other counts.behind counts.listed)

-- its first file
pub one_file : (dialect : Dialect) (file : SourceFile) (files read : List TreeFile) → IsTreeOf (file ∷ []) [] files
    → AreReadIn dialect files read → IsTreeOfOne dialect file.bytes read
one_file dialect file [] read is as_read =
    absurd (nothing_there (in_tree false file) ((is.whole (in_tree false file)).1 (of_source (at_front file []))))
one_file (Proto3 custom) file (first ∷ behind) read is same = record {
  first = first;
  behind = behind;
  files_are = same;
  is_read = (from_one file first ((is.whole first).0 (at_front first behind))).1;
}
one_file All file (first ∷ behind) [] is mended = absurd mended
one_file All file (first ∷ behind) (got ∷ rest) is mended = record {
  first = got;
  behind = rest;
  files_are = refl;
  is_read = subst (λ (bytes : List ℕ). IsMended bytes got.text)
      (from_one file first ((is.whole first).0 (at_front first behind))).0 mended.0.text;
}

pub some_file : {dialect : Dialect} {bytes : List ℕ} {files : List TreeFile} → IsTreeOfOne dialect bytes files
    → 0 < length files
some_file one = rw one.files_are (omega arith)

pub text_of_one : {dialect : Dialect} {bytes : List ℕ} {files : List TreeFile} (text : List ℕ)
    → IsTreeOfOne dialect bytes files → option_map (λ (file : TreeFile). file.text) (slice_get files 0) ≡ Some text
    → IsReadIn dialect bytes text
text_of_one {dialect = dialect} {bytes = bytes} text one is =
    subst (IsReadIn dialect bytes) (same_Some one.first.text text (rw one.files_are at is)) one.is_read
