-- What a dump answers, by where it stops.
use Rattle.std.proofs.Common.{◌≡◌, inl, inr, ℕ, zero, suc, ◌<◌, ◌≤◌, List, [], ◌∷◌, length, Some, Option}
use Rattle.std.proofs.Common.{Result, Ok, Err, refl, ap, sym, subst, arith}
use Rattle.std.proofs.lemmas.Bool.{cases_lt}
use Rattle.std.proofs.lemmas.List.Elements.{length_all_zip}
use Rattle.std.specs.Prelude.{true, false, IfErr, IfSome, MatchResult}
use Rattle.std.proofs.lemmas.Option.{same_Some, none-some}
use Rattle.std.proofs.lemmas.List.{take_all, length-take}
use Rattle.proto_lex.specs.declared.fault.LexFault.{LexFault}
use Rattle.proto_lex.specs.declared.fault.LexFault.TheVariants as lexing
use Rattle.proto_lex.specs.Text.{IsNoText, max_text_length}
use Rattle.proto_decl.specs.Facts.{plain_form}
use Rattle.proto_parse.specs.dialect.Dialect.{Dialect}
use Rattle.proto_parse.specs.dialect.Dialect.TheVariants.{Proto3, All}
use Rattle.proto_decl.specs.Values.{Seen}
use Rattle.index_hooks.specs.declared.choice.Choice.{Choice}
use Rattle.source_tree.specs.Files.{TreeFile}
use Rattle.source_tree.specs.Reading.{kept_bytes, max_kept_length}
use Rattle.source_tree.specs.Mending.{IsMended, IsMendedFile, in_comments, outside, too_long}
use Rattle.scip_build.specs.AsRead.{AreReadIn}
use Rattle.scip_build.specs.Builds.{IsBuilt, IsBuildFault}
use Rattle.streams.specs.Readers.{Reader}
use Rattle.streams.specs.Writers.{SinkOf, Writer, writing}
use Rattle.scip_build.specs.Files.{FileContents, ReadFile}
use Rattle.scip_build.specs.Parsed.{IsUnlexed, IsUnreadable}
use Rattle.scip_build.specs.declared.faulty.Faulty.TheVariants.{Refuse}
use Rattle.scip_build.specs.ParsedFiles.{HasContents, AreParsedFiles, IsFirstFaulty}
use Rattle.scip_build.specs.declared.read_form.ReadForm.{ReadForm}
use Rattle.scip_build.specs.declared.built.Built.{Built}
use Rattle.scip_build.specs.declared.settings.Settings.{Settings}
use Rattle.scip_build.specs.declared.fault.BuildFault.{BuildFault}
use Rattle.scip_build.specs.declared.fault.BuildFault.TheVariants as build
use Rattle.scip_build.specs.declared.fault.FileFault.{FileFault}
use Rattle.scip_build.specs.declared.fault.FileFault.TheVariants as file
use Rattle.scip_wire.specs.Spelling.{spelling_of}
use Rattle.protoscip.specs.Faults.{fault_of_build}
use Rattle.protoscip.specs.FaultLines.{HasFilesOf}
use Rattle.protoscip.specs.Indexes.{IsRefused}
use Rattle.protoscip.specs.Writing.{IsNotReadBack}
use Rattle.protoscip.specs.Writing.IsNotReadBack.{reading_lacks_memory, has_no_bytes}
use Rattle.protoscip.specs.Output.{Writes}
use Rattle.protoscip.specs.Indexes.{recorded_of}
use Rattle.protoscip.specs.Dump.{dump_file, dump_tree, dump_settings, default_choices, IsListing, IsRefusal, Dumps}
use Rattle.protoscip.specs.Dump.{LeavesWriter, IsDumped, IsListingOf, IsTreeOfFault, IsTreeOfSource}
use Rattle.protoscip.specs.declared.fault.Fault.{Fault}
use Rattle.protoscip.specs.declared.fault.Fault.TheVariants as fault
use Rattle.protoscip.proofs.HeadlineFileLemmas.{files_of_build}

refused_of_build : (allows : Seen → Choice → Type 0) (settings : Settings) (tree : List TreeFile) (workers : ℕ)
    (e : BuildFault) → IsBuildFault allows settings tree workers e
    → IsRefused allows settings tree workers (fault_of_build e)
refused_of_build allows settings tree workers build.Spawn is = is
refused_of_build allows settings tree workers build.Memory is = is
refused_of_build allows settings tree workers (build.File number (file.Lex e)) is = is
refused_of_build allows settings tree workers (build.File number (file.Syntax e)) is = is
refused_of_build allows settings tree workers (build.File number file.Unread) is = is
refused_of_build allows settings tree workers (build.Duplicate first second) is = is
refused_of_build allows settings tree workers (build.MissingImport place) is = is
refused_of_build allows settings tree workers (build.Unresolved place) is = is
refused_of_build allows settings tree workers (build.Ambiguous place) is = is
refused_of_build allows settings tree workers (build.OptionGap place) is = is

module _ (dialect : Dialect) (bytes : List ℕ) (settings : Settings) (tree : List TreeFile)
    (set : settings ≡ dump_settings dialect) (read : AreReadIn dialect (dump_tree bytes) tree) where
  by_refusal : (e : Fault) → IsRefused default_choices (dump_settings dialect) tree 1 e → IsRefusal dialect bytes e
  by_refusal fault.Spawn is = (tree, read, is)
  by_refusal fault.Memory is = tt
  by_refusal (fault.Lex number e) is = (tree, read, is)
  by_refusal (fault.Syntax number e) is = (tree, read, is)
  by_refusal (fault.Unread number) is = (tree, read, is)
  by_refusal (fault.Duplicate first second) is = (tree, read, is)
  by_refusal (fault.MissingImport place) is = (tree, read, is)
  by_refusal (fault.Unresolved place) is = (tree, read, is)
  by_refusal (fault.Ambiguous place) is = (tree, read, is)
  by_refusal (fault.OptionGap place) is = (tree, read, is)
  by_refusal (fault.Uncertain place behind) is = (tree, read, is)
  by_refusal fault.TooLarge is = (tree, read, is)
  by_refusal (fault.Write count) is = (tree, read, is)
  by_refusal fault.Read is = (tree, read, is)
  by_refusal (fault.Answer count) is = (tree, read, is)

  -- why its tree isn't built is why a source has no listing
  pub refusal_of_build : (workers : ℕ) (e : BuildFault) → workers ≡ 1
      → IsBuildFault default_choices settings tree workers e
      → IsRefusal dialect bytes (fault_of_build e)
  refusal_of_build workers e one is =
      let of : IsRefused default_choices settings tree workers (fault_of_build e) =
      refused_of_build default_choices settings tree workers e is in
      let by_settings = subst (λ (s : Settings). IsRefused default_choices s tree workers (fault_of_build e)) set of in
      by_refusal (fault_of_build e)
      (subst (λ (n : ℕ). IsRefused default_choices (dump_settings dialect) tree n (fault_of_build e)) one by_settings)

  built_of_dump : (built : Built) → IsBuilt default_choices settings tree built
      → IsBuilt default_choices (dump_settings dialect) tree built
  built_of_dump built is = subst (λ (s : Settings). IsBuilt default_choices s tree built) set is

  -- the listing of its index is that of the source; where it has none, the source has none
  pub listed_or_refused : {S : Type 0} (text : S → List ℕ) (built : Built) (listed : Result S Fault)
      → IsBuilt default_choices settings tree built
      → MatchResult listed (λ s. IsListingOf built.index (text s)) (IsNotReadBack built.index)
      → MatchResult listed (λ s. IsListing dialect bytes (text s)) (IsRefusal dialect bytes)
  listed_or_refused text built (Ok s) is listing = record {
    tree = tree;
    read = read;
    recorded = recorded_of built.choices built.told;
    spelling = spelling_of built.index;
    indexed = record { index = built.index; built = built_of_dump built is; spelled = listing.0 };
    listing_is = listing.1;
  }
  listed_or_refused text built (Err _) is (reading_lacks_memory short) = tt
  listed_or_refused text built (Err _) is (has_no_bytes large) =
      (tree, read, (built, built_of_dump built is, large))

-- ---- what is kept of bytes is all of them, where that isn't too long

all_kept : (bytes : List ℕ) → length (kept_bytes bytes) ≤ max_text_length → kept_bytes bytes ≡ bytes
all_kept bytes short = take_all max_kept_length bytes (omega (arith, length-take max_kept_length bytes))

longer : (bytes : List ℕ) → max_text_length < length (kept_bytes bytes) → max_text_length < length bytes
longer bytes long = omega (arith, length-take max_kept_length bytes)

whole : (P : List ℕ → Type 0) (bytes : List ℕ) → length (kept_bytes bytes) ≤ max_text_length → P (kept_bytes bytes)
    → P bytes
whole P bytes short p = subst P (all_kept bytes short) p

-- in the form in which a dump reads
abbrev plain_read : ReadForm
plain_read = record { facts = plain_form; options = false }

-- a source that was read isn't too long
module _ (dialect : Dialect) (bytes : List ℕ) where
  abbrev pub alone : TreeFile
  alone = dump_file bytes

  short_contents : (contents : Result FileContents FileFault)
      → HasContents Refuse dialect plain_read default_choices zero alone contents → length bytes ≤ max_text_length
  short_contents (Ok contents) has = has.1.facts_in.lexing.text.short
  short_contents (Err e) has = absurd (let same : false ≡ true = has.0 in cc)

  pub short_source : (parsed : List ReadFile)
      → AreParsedFiles Refuse dialect plain_read default_choices (dump_tree bytes) parsed
      → length bytes ≤ max_text_length
  short_source [] are = absurd (let none = are.one_each in omega (arith, none))
  short_source (parsed_file ∷ others) are = short_contents parsed_file.contents
      (are.each zero alone parsed_file refl refl).contents

-- what is kept of bytes that are too long is read as it is
long_text : (bytes text : List ℕ) → max_text_length < length bytes → IsMended bytes text → text ≡ bytes
long_text bytes text long (in_comments short reads same) = absurd (omega (arith, short, long))
long_text bytes _ long (outside read at short reads first other) = absurd (omega (arith, short, long))
long_text bytes _ long (too_long longer) = refl

long_tree : (dialect : Dialect) (bytes : List ℕ) → max_text_length < length bytes → (tree : List TreeFile)
    → AreReadIn dialect (dump_tree bytes) tree → tree ≡ dump_tree bytes
long_tree (Proto3 custom) bytes long tree read = read
long_tree All bytes long [] read = absurd read
long_tree All bytes long (f ∷ (g ∷ others)) read = absurd read.1
long_tree All bytes long (f ∷ []) read =
    let text = long_text bytes f.text long read.0.text in
    let is : f ≡ dump_file bytes = λ i. record {
      path = read.0.path i;
      bytes = read.0.bytes i;
      text = text i;
      is_included = read.0.is_included i;
      is_unread = read.0.is_unread i;
    } in
    ap (λ (x : TreeFile). x ∷ []) is

long_read : (dialect : Dialect) (bytes : List ℕ) → max_text_length < length bytes
    → AreReadIn dialect (dump_tree bytes) (dump_tree bytes)
long_read (Proto3 custom) bytes long = refl
long_read All bytes long =
    (record { path = refl; bytes = refl; text = too_long long; is_included = refl; is_unread = refl }, tt)

module _ (dialect : Dialect) (bytes : List ℕ) (long : max_text_length < length (kept_bytes bytes)) where
  long_no_text : (e : LexFault) → IsNoText (kept_bytes bytes) e → IsNoText bytes e
  long_no_text lexing.TooLong is = longer bytes is
  long_no_text (lexing.NotUtf8 at) is = absurd (omega (arith, long, is.0))
  long_no_text (lexing.BadByte at) is = is
  long_no_text (lexing.OpenString at) is = is
  long_no_text (lexing.OpenComment at) is = is
  long_no_text (lexing.BadEscape at) is = is
  long_no_text (lexing.BadNumber at) is = is
  long_no_text lexing.Memory is = is

  long_unlexed : (e : LexFault) → IsUnlexed dialect (kept_bytes bytes) e → IsUnlexed dialect bytes e
  long_unlexed e (inl none) = inl (long_no_text e none)
  long_unlexed e (inr is) = absurd (omega (arith, long, is.0.short))

  long_unreadable : (e : FileFault) → IsUnreadable dialect false (kept_bytes bytes) e
      → IsUnreadable dialect false bytes e
  long_unreadable file.Unread is = is
  long_unreadable (file.Lex e) is = (is.0, long_unlexed e is.1)
  long_unreadable (file.Syntax e) is = absurd (let text = is.1.lexing.text in omega (arith, long, text.short))

  -- the one source is the first that can't be read
  long_faulty : (number : ℕ) (e : FileFault) → IsFirstFaulty dialect (dump_tree (kept_bytes bytes)) number e
      → IsFirstFaulty dialect (dump_tree bytes) number e
  long_faulty zero e is =
      let one : is.file ≡ alone dialect (kept_bytes bytes) = sym (same_Some _ is.file is.numbered) in
      let faulty = subst (λ (f : TreeFile). IsUnreadable dialect f.is_unread f.text e) one is.faulty.unreadable in
      record {
        file = dump_file bytes;
        numbered = refl;
        faulty = record { source = refl; unreadable = long_unreadable e faulty };
        before = λ lesser other less at. absurd (omega arith);
      }
  long_faulty (suc number) e is = absurd (none-some is.file is.numbered)

  not_parsed : {X : Type 0} → (parsed : List ReadFile)
      → AreParsedFiles Refuse dialect plain_read default_choices (dump_tree (kept_bytes bytes)) parsed → X
  not_parsed parsed are = absurd (omega (arith, long, short_source dialect (kept_bytes bytes) parsed are))

  long_fault : (number : ℕ) (e : FileFault)
      → IsBuildFault default_choices (dump_settings dialect) (dump_tree (kept_bytes bytes)) 1 (build.File number e)
      → IsBuildFault default_choices (dump_settings dialect) (dump_tree bytes) 1 (build.File number e)
  long_fault number e (refuse, inl first) = (refuse, inl (long_faulty number e first))
  long_fault number e (refuse, inr of) = not_parsed of.0 of.1

  long_refused : (e : Fault)
      → IsRefused default_choices (dump_settings dialect) (dump_tree (kept_bytes bytes)) 1 e
      → IsRefused default_choices (dump_settings dialect) (dump_tree bytes) 1 e
  long_refused fault.Spawn is = is
  long_refused fault.Memory is = tt
  long_refused (fault.Lex number e) is = long_fault number (file.Lex e) is
  long_refused (fault.Syntax number e) is = long_fault number (file.Syntax e) is
  long_refused (fault.Unread number) is = long_fault number file.Unread is
  long_refused (fault.Duplicate first second) is = not_parsed is.1.0 is.1.1
  long_refused (fault.MissingImport place) is = not_parsed is.1.0 is.1.1
  long_refused (fault.Unresolved place) is = not_parsed is.1.0 is.1.1
  long_refused (fault.Ambiguous place) is = not_parsed is.1.0 is.1.1
  long_refused (fault.OptionGap place) is = not_parsed is.1.0 is.1.1
  long_refused (fault.Uncertain place behind) is = is
  long_refused fault.TooLarge is = not_parsed is.1.all is.1.read
  long_refused (fault.Write count) is = is
  long_refused fault.Read is = is
  long_refused (fault.Answer count) is = is

  of_kept : (e : Fault) (tree : List TreeFile) → AreReadIn dialect (dump_tree (kept_bytes bytes)) tree
      → IsRefused default_choices (dump_settings dialect) tree 1 e
      → (other : List TreeFile) × AreReadIn dialect (dump_tree bytes) other
      × IsRefused default_choices (dump_settings dialect) other 1 e
  of_kept e tree read is = (
    dump_tree bytes,
    long_read dialect bytes (longer bytes long),
    long_refused e
        (subst (λ (t : List TreeFile). IsRefused default_choices (dump_settings dialect) t 1 e)
        (long_tree dialect (kept_bytes bytes) long tree read) is),
  )

  long_refusal : (e : Fault) → IsRefusal dialect (kept_bytes bytes) e → IsRefusal dialect bytes e
  long_refusal fault.Spawn is = of_kept fault.Spawn is.0 is.1 is.2
  long_refusal fault.Memory is = tt
  long_refusal (fault.Lex number e) is = of_kept (fault.Lex number e) is.0 is.1 is.2
  long_refusal (fault.Syntax number e) is = of_kept (fault.Syntax number e) is.0 is.1 is.2
  long_refusal (fault.Unread number) is = of_kept (fault.Unread number) is.0 is.1 is.2
  long_refusal (fault.Duplicate first second) is = of_kept (fault.Duplicate first second) is.0 is.1 is.2
  long_refusal (fault.MissingImport place) is = of_kept (fault.MissingImport place) is.0 is.1 is.2
  long_refusal (fault.Unresolved place) is = of_kept (fault.Unresolved place) is.0 is.1 is.2
  long_refusal (fault.Ambiguous place) is = of_kept (fault.Ambiguous place) is.0 is.1 is.2
  long_refusal (fault.OptionGap place) is = of_kept (fault.OptionGap place) is.0 is.1 is.2
  long_refusal (fault.Uncertain place behind) is = of_kept (fault.Uncertain place behind) is.0 is.1 is.2
  long_refusal fault.TooLarge is = of_kept fault.TooLarge is.0 is.1 is.2
  long_refusal (fault.Write count) is = of_kept (fault.Write count) is.0 is.1 is.2
  long_refusal fault.Read is = of_kept fault.Read is.0 is.1 is.2
  long_refusal (fault.Answer count) is = of_kept (fault.Answer count) is.0 is.1 is.2

  long_listing : (listing : List ℕ) → IsListing dialect (kept_bytes bytes) listing → IsListing dialect bytes listing
  long_listing listing is =
      let built = is.indexed.built in
      not_parsed built.all
      (subst (λ (t : List TreeFile). AreParsedFiles Refuse dialect plain_read default_choices t built.all)
      (long_tree dialect (kept_bytes bytes) long is.tree is.read) built.read)

module _ (dialect : Dialect) (bytes : List ℕ) where
  -- what holds of the bytes that are kept holds of all
  pub refusal_of_all : (e : Fault) → IsRefusal dialect (kept_bytes bytes) e → IsRefusal dialect bytes e
  refusal_of_all e is = elim (cases_lt max_text_length (length (kept_bytes bytes))) [
    | inl long ↦ long_refusal dialect bytes long e is
    | inr short ↦ whole (λ b. IsRefusal dialect b e) bytes short is
  ]

  pub listing_of_all : (listing : List ℕ) → IsListing dialect (kept_bytes bytes) listing
      → IsListing dialect bytes listing
  listing_of_all listing is = elim (cases_lt max_text_length (length (kept_bytes bytes))) [
    | inl long ↦ long_listing dialect bytes long listing is
    | inr short ↦ whole (λ b. IsListing dialect b listing) bytes short is
  ]

  -- a source that has no listing is refused,
  pub refused_dumps : (due : List ℕ) (e : Fault) → IsRefusal dialect bytes e → Dumps dialect bytes due (Err e)
  refused_dumps due fault.Spawn is = is
  refused_dumps due fault.Memory is = is
  refused_dumps due (fault.Lex number e) is = is
  refused_dumps due (fault.Syntax number e) is = is
  refused_dumps due (fault.Unread number) is = is
  refused_dumps due (fault.Duplicate first second) is = is
  refused_dumps due (fault.MissingImport place) is = is
  refused_dumps due (fault.Unresolved place) is = is
  refused_dumps due (fault.Ambiguous place) is = is
  refused_dumps due (fault.OptionGap place) is = is
  refused_dumps due (fault.Uncertain place behind) is = absurd is.2
  refused_dumps due fault.TooLarge is = is
  refused_dumps due (fault.Write count) is = absurd is.2
  refused_dumps due fault.Read is = absurd is.2
  refused_dumps due (fault.Answer count) is = is

  -- with the writer as it was,
  pub refused_writer : {W : Type 0} (sink : SinkOf W) (out : W) (due : List ℕ) (e : Fault) → IsRefusal dialect bytes e
      → LeavesWriter (writing sink out out) due (Err e)
  refused_writer sink out due fault.Spawn is = refl
  refused_writer sink out due fault.Memory is = refl
  refused_writer sink out due (fault.Lex number e) is = refl
  refused_writer sink out due (fault.Syntax number e) is = refl
  refused_writer sink out due (fault.Unread number) is = refl
  refused_writer sink out due (fault.Duplicate first second) is = refl
  refused_writer sink out due (fault.MissingImport place) is = refl
  refused_writer sink out due (fault.Unresolved place) is = refl
  refused_writer sink out due (fault.Ambiguous place) is = refl
  refused_writer sink out due (fault.OptionGap place) is = refl
  refused_writer sink out due (fault.Uncertain place behind) is = absurd is.2
  refused_writer sink out due fault.TooLarge is = refl
  refused_writer sink out due (fault.Write count) is = absurd is.2
  refused_writer sink out due fault.Read is = refl
  refused_writer sink out due (fault.Answer count) is = refl

-- more files have those of a fault, too
more_files : (e : Fault) (tree others : List TreeFile) → length tree ≤ length others → HasFilesOf tree e
    → HasFilesOf others e
more_files fault.Spawn tree others more has = tt
more_files fault.Memory tree others more has = tt
more_files (fault.Lex number e) tree others more has = omega (arith, has, more)
more_files (fault.Syntax number e) tree others more has = omega (arith, has, more)
more_files (fault.Unread number) tree others more has = omega (arith, has, more)
more_files (fault.Duplicate first second) tree others more has =
    (omega (arith, has.0, more), omega (arith, has.1, more))
more_files (fault.MissingImport place) tree others more has = omega (arith, has, more)
more_files (fault.Unresolved place) tree others more has = omega (arith, has, more)
more_files (fault.Ambiguous place) tree others more has = omega (arith, has, more)
more_files (fault.OptionGap place) tree others more has = omega (arith, has, more)
more_files (fault.Uncertain place behind) tree others more has =
    (omega (arith, has.0, more), omega (arith, has.1, more))
more_files fault.TooLarge tree others more has = tt
more_files (fault.Write count) tree others more has = tt
more_files fault.Read tree others more has = tt
more_files (fault.Answer count) tree others more has = tt

length_read : (dialect : Dialect) (files tree : List TreeFile) → AreReadIn dialect files tree
    → length tree ≡ length files
length_read (Proto3 custom) files tree read = ap length read
length_read All files tree read = sym (length_all_zip IsMendedFile files tree read)

-- a refusal is of no other file than the first
module _ (dialect : Dialect) (bytes : List ℕ) where
  one_file : (tree : List TreeFile) → AreReadIn dialect (dump_tree bytes) tree → (others : List TreeFile)
      → 1 ≤ length others → length tree ≤ length others
  one_file tree read others some = omega (arith, length_read dialect (dump_tree bytes) tree read, some)

  pub dump_files : (e : Fault) → IsRefusal dialect bytes e → (others : List TreeFile) → 1 ≤ length others
      → HasFilesOf others e
  dump_files fault.Spawn is others some = tt
  dump_files fault.Memory is others some = tt
  dump_files (fault.Lex number e) is others some =
      more_files (fault.Lex number e) is.0 others (one_file is.0 is.1 others some)
      (files_of_build default_choices (dump_settings dialect) is.0 1 (build.File number (file.Lex e)) is.2)
  dump_files (fault.Syntax number e) is others some =
      more_files (fault.Syntax number e) is.0 others (one_file is.0 is.1 others some)
      (files_of_build default_choices (dump_settings dialect) is.0 1 (build.File number (file.Syntax e)) is.2)
  dump_files (fault.Unread number) is others some =
      more_files (fault.Unread number) is.0 others (one_file is.0 is.1 others some)
      (files_of_build default_choices (dump_settings dialect) is.0 1 (build.File number file.Unread) is.2)
  dump_files (fault.Duplicate first second) is others some =
      more_files (fault.Duplicate first second) is.0 others (one_file is.0 is.1 others some)
      (files_of_build default_choices (dump_settings dialect) is.0 1 (build.Duplicate first second) is.2)
  dump_files (fault.MissingImport place) is others some =
      more_files (fault.MissingImport place) is.0 others (one_file is.0 is.1 others some)
      (files_of_build default_choices (dump_settings dialect) is.0 1 (build.MissingImport place) is.2)
  dump_files (fault.Unresolved place) is others some =
      more_files (fault.Unresolved place) is.0 others (one_file is.0 is.1 others some)
      (files_of_build default_choices (dump_settings dialect) is.0 1 (build.Unresolved place) is.2)
  dump_files (fault.Ambiguous place) is others some =
      more_files (fault.Ambiguous place) is.0 others (one_file is.0 is.1 others some)
      (files_of_build default_choices (dump_settings dialect) is.0 1 (build.Ambiguous place) is.2)
  dump_files (fault.OptionGap place) is others some =
      more_files (fault.OptionGap place) is.0 others (one_file is.0 is.1 others some)
      (files_of_build default_choices (dump_settings dialect) is.0 1 (build.OptionGap place) is.2)
  dump_files (fault.Uncertain place behind) is others some = absurd is.2
  dump_files fault.TooLarge is others some = tt
  dump_files (fault.Write count) is others some = tt
  dump_files fault.Read is others some = tt
  dump_files (fault.Answer count) is others some = tt

-- the tree of a source has a file
pub has_file : (dialect : Dialect) (bytes : List ℕ) (tree : List TreeFile) → AreReadIn dialect (dump_tree bytes) tree
    → 1 ≤ length tree
has_file dialect bytes tree read = omega (arith, length_read dialect (dump_tree bytes) tree read)

-- where the listing is written, or cut off
module _ {W : Type 0} (out : Writer W) (due : List ℕ) where
  pub written_dumps : (dialect : Dialect) (bytes : List ℕ) (done : Result (Unit {0}) Fault)
      → IsListing dialect bytes due → Writes out due done → Dumps dialect bytes due done
  written_dumps dialect bytes (Ok done) is wrote = is
  written_dumps dialect bytes (Err e) is wrote = let P : Fault → Type 0 = λ f. Dumps dialect bytes due (Err f) in
      subst P (sym wrote.1) is

  pub written_writer : (done : Result (Unit {0}) Fault) → Writes out due done
      → LeavesWriter out due done
  written_writer (Ok done) wrote = wrote
  written_writer (Err e) wrote =
      let P : Fault → Type 0 = λ f. LeavesWriter out due (Err f) in
      subst P (sym wrote.1) wrote.2

-- what is said of what is read, if it is
pub said_of_read : {A : Type 0} (P : A → Type 0) (read : Option A) (bytes : A) → read ≡ Some bytes → IfSome read P
    → P bytes
said_of_read P read bytes is said = subst (λ o. IfSome o P) is said

-- where the source isn't read nothing is due, of any bytes
module _ {R W : Type 0} (source : Reader R) (sink : SinkOf W) (dialect : Dialect) (out : W) where
  pub unread_dumped : IsDumped dialect source (writing sink out out) (Err fault.Read)
  unread_dumped = record { due = []; writer = refl; some = ([], tt); told = λ bytes known. tt }

  pub starved_dumped : IsDumped dialect source (writing sink out out) (Err fault.Memory)
  starved_dumped = record { due = []; writer = refl; some = ([], tt); told = λ bytes known. tt }

-- a source that was read has the tree in which any fault has its places
module _ {R : Type 0} (dialect : Dialect) (source : Reader R) (tree : List TreeFile) where
  pub tree_of_fault : (e : Fault) → IsTreeOfSource dialect source tree → IsTreeOfFault dialect source tree e
  tree_of_fault fault.Spawn is = is
  tree_of_fault fault.Memory is = tt
  tree_of_fault (fault.Lex number e) is = is
  tree_of_fault (fault.Syntax number e) is = is
  tree_of_fault (fault.Unread number) is = is
  tree_of_fault (fault.Duplicate first second) is = is
  tree_of_fault (fault.MissingImport place) is = is
  tree_of_fault (fault.Unresolved place) is = is
  tree_of_fault (fault.Ambiguous place) is = is
  tree_of_fault (fault.OptionGap place) is = is
  tree_of_fault (fault.Uncertain place behind) is = is
  tree_of_fault fault.TooLarge is = is
  tree_of_fault (fault.Write count) is = is
  tree_of_fault fault.Read is = tt
  tree_of_fault (fault.Answer count) is = is

  pub tree_of_done : (done : Result (Unit {0}) Fault) → IsTreeOfSource dialect source tree
      → IfErr done (IsTreeOfFault dialect source tree)
  tree_of_done (Ok done) is = tt
  tree_of_done (Err e) is = tree_of_fault e is
