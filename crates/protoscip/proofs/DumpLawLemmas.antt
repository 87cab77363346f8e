-- A source has one listing, and is refused for want of memory alone where it has one.
use Rattle.std.proofs.Common.{◌≡◌, ◌∙◌, ℕ, false, ◌<◌, List, [], ◌∷◌, ap, sym, subst, refl, arith}
use Rattle.proto_parse.specs.dialect.Dialect.{Dialect}
use Rattle.proto_parse.specs.dialect.Dialect.TheVariants.{Proto3, All}
use Rattle.source_tree.specs.Files.{TreeFile}
use Rattle.source_tree.specs.Mending.{IsMendedFile}
use Rattle.source_tree.specs.MendingLaws.{OneReading}
use Rattle.scip_build.specs.AsRead.{AreReadIn}
use Rattle.scip_wire.specs.Decodes.{Decodes}
use Rattle.protoscip.specs.Indexes.{IsIndexed, IsRefused}
use Rattle.protoscip.specs.Dump.{dump_file, dump_tree, dump_settings, default_choices, IsListing}
use Rattle.protoscip.specs.DumpLaws.{OneListing, ListedUnlessMemory}
use Rattle.protoscip.specs.DumpText.{dump_text}
use Rattle.protoscip.specs.IndexLaws.{AllowOneChoice, OneIndexing, OneIndexingHasNoFault, is_of_tree}
use Rattle.protoscip.specs.declared.fault.Fault.{Fault}
use Rattle.protoscip.specs.declared.fault.Fault.TheVariants as fault

one_choice : AllowOneChoice default_choices default_choices
one_choice seen choice another is also =
    let keep = is.keep ∙ sym also.keep in
    let doc = is.doc ∙ sym also.doc in
    λ i. record { keep = keep i; doc = doc i }

one_file : (file first second : TreeFile) → OneReading → IsMendedFile file first → IsMendedFile file second
    → first ≡ second
one_file file first second one is also =
    let text = one file.bytes first.text second.text is.text also.text in
    let path = is.path ∙ sym also.path in
    let bytes = is.bytes ∙ sym also.bytes in
    let flag = is.is_included ∙ sym also.is_included in
    let mark = is.is_unread ∙ sym also.is_unread in
    λ i. record { path = path i; bytes = bytes i; text = text i; is_included = flag i; is_unread = mark i }

-- a source's tree is read in one way
one_tree : OneReading → (dialect : Dialect) (bytes : List ℕ) (tree other : List TreeFile)
    → AreReadIn dialect (dump_tree bytes) tree → AreReadIn dialect (dump_tree bytes) other → tree ≡ other
one_tree one (Proto3 custom) bytes tree other is also = is ∙ sym also
one_tree one All bytes [] other is also = absurd is
one_tree one All bytes (f ∷ (x ∷ xs)) other is also = absurd is.1
one_tree one All bytes (f ∷ []) [] is also = absurd also
one_tree one All bytes (f ∷ []) (g ∷ (x ∷ xs)) is also = absurd also.1
one_tree one All bytes (f ∷ []) (g ∷ []) is also =
    ap (λ (x : TreeFile). x ∷ [])
    (one_file (dump_file bytes) f g one is.0 also.0)

pub one_listing : OneReading → OneIndexing default_choices default_choices → OneListing
one_listing reading one dialect bytes listing other is also =
    let tree = one_tree reading dialect bytes also.tree is.tree also.read is.read in
    let moved = subst (λ (t : List TreeFile). IsIndexed default_choices (dump_settings dialect) t also.recorded
    also.spelling) tree also.indexed in
    let same = one (dump_settings dialect)
    is.tree is.recorded also.recorded is.spelling also.spelling one_choice is.indexed moved in
    let decodes = subst (λ (b : List ℕ). Decodes b also.indexed.index) (sym same.1) also.indexed.spelled.decodes in
    let index = is.indexed.spelled.alone also.indexed.index decodes in
    is.listing_is ∙ (ap dump_text (sym index) ∙ sym also.listing_is)

module _ (reading : OneReading) (accepted : OneIndexingHasNoFault default_choices default_choices) where
  none : (dialect : Dialect) (bytes listing : List ℕ) (e : Fault) → IsListing dialect bytes listing
      → (tree : List TreeFile) × AreReadIn dialect (dump_tree bytes) tree
      × IsRefused default_choices (dump_settings dialect) tree 1 e → is_of_tree e ≡ false
  none dialect bytes listing e is (tree, read, refused) =
      accepted (dump_settings dialect) is.tree 1 is.recorded is.spelling e one_choice is.indexed
      (subst (λ (t : List TreeFile). IsRefused default_choices (dump_settings dialect) t 1 e)
      (one_tree reading dialect bytes tree is.tree read is.read) refused)

  pub listed_unless_memory : ListedUnlessMemory
  listed_unless_memory dialect bytes listing fault.Spawn is refused =
      absurd (let more : 1 < 1 = refused.2 in omega (arith, more))
  listed_unless_memory dialect bytes listing fault.Memory is refused = refl
  listed_unless_memory dialect bytes listing (fault.Lex number e) is refused =
      absurd (let same = none dialect bytes listing (fault.Lex number e) is refused in cc)
  listed_unless_memory dialect bytes listing (fault.Syntax number e) is refused =
      absurd (let same = none dialect bytes listing (fault.Syntax number e) is refused in cc)
  listed_unless_memory dialect bytes listing (fault.Unread number) is refused =
      absurd (let same = none dialect bytes listing (fault.Unread number) is refused in cc)
  listed_unless_memory dialect bytes listing (fault.Duplicate first second) is refused =
      absurd (let same = none dialect bytes listing (fault.Duplicate first second) is refused in cc)
  listed_unless_memory dialect bytes listing (fault.MissingImport place) is refused =
      absurd (let same = none dialect bytes listing (fault.MissingImport place) is refused in cc)
  listed_unless_memory dialect bytes listing (fault.Unresolved place) is refused =
      absurd (let same = none dialect bytes listing (fault.Unresolved place) is refused in cc)
  listed_unless_memory dialect bytes listing (fault.Ambiguous place) is refused =
      absurd (let same = none dialect bytes listing (fault.Ambiguous place) is refused in cc)
  listed_unless_memory dialect bytes listing (fault.OptionGap place) is refused =
      absurd (let same = none dialect bytes listing (fault.OptionGap place) is refused in cc)
  listed_unless_memory dialect bytes listing (fault.Uncertain place behind) is refused = absurd refused.2
  listed_unless_memory dialect bytes listing fault.TooLarge is refused =
      absurd (let same = none dialect bytes listing fault.TooLarge is refused in cc)
  listed_unless_memory dialect bytes listing (fault.Write count) is refused = absurd refused.2
  listed_unless_memory dialect bytes listing fault.Read is refused = absurd refused.2
  listed_unless_memory dialect bytes listing (fault.Answer count) is refused = absurd refused.2
