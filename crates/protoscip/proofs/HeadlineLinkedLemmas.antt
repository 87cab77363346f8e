-- Files that were read are linked with facts of their texts, and under the tree's paths.
use Rattle.std.proofs.Common.{◌≡◌, ◌∙◌, ℕ, ◌<◌, false, true, List, length, Some, Result, Ok, Err, ap, sym, subst}
use Rattle.std.specs.Prelude.{All}
use Rattle.std.specs.List.{slice_get}
use Rattle.std.proofs.lemmas.Option.{same_Some, none-some, slice_get_within}
use Rattle.std.proofs.lemmas.List.Elements.{All-contains}
use Rattle.basics.proofs.ListLemmas.{item_at}
use Rattle.scip_build.specs.declared.read_form.ReadForm.{ReadForm}
use Rattle.proto_parse.specs.dialect.Dialect.{Dialect}
use Rattle.proto_decl.specs.Facts.{Facts, AreFactsOf, AreOfSomeFile}
use Rattle.proto_decl.specs.Values.{Seen}
use Rattle.index_hooks.specs.declared.choice.Choice.{Choice}
use Rattle.proto_visibility.specs.Files.{File, HaveOrigins}
use Rattle.proto_visibility.specs.Kept.{Omissions, number_among_all}
use Rattle.proto_visibility.proofs.KeptAmongLemmas.{IsOrigin, at_all, origin, original, present_kept}
use Rattle.basics.proofs.FirstLemmas.{contained}
use Rattle.scip_symbol.specs.Path.{IsGoodPath}
use Rattle.scip_model.specs.Conditions.{HaveGoodPaths}
use Rattle.source_tree.specs.Files.{TreeFile}
use Rattle.scip_build.specs.declared.fault.FileFault.{FileFault}
use Rattle.scip_build.specs.Parsed.{asks_options, form_by, AreFactsIn}
use Rattle.scip_build.specs.Files.{FileContents, ReadFile}
use Rattle.scip_build.specs.declared.faulty.Faulty.{Faulty}
use Rattle.scip_build.specs.ParsedFiles.{HasContents, IsParsedFile, AreParsedFiles}
use Rattle.scip_build.specs.Keeping.{linked_of}
use Rattle.scip_build.specs.Linking.{facts_in, linked_file, linked_files}
use Rattle.scip_build.proofs.KeptTreeLemmas.{linked_is}
use Rattle.scip_build.proofs.LinkingLemmas.{mapped_at}

-- a file as it is linked, among all
pub linked_origin : (omissions : Omissions) (all : List ReadFile) (number : ℕ) (file : File)
    → slice_get (linked_files (linked_of omissions all)) number ≡ Some file
    → IsOrigin (linked_files all) omissions (origin (linked_files all) omissions number) file
linked_origin omissions all number file at =
    original (linked_files all) omissions number file
    (subst (λ fs. slice_get fs number ≡ Some file) (linked_is omissions all) at)

-- one that isn't left out is kept
pub present_origin : (omissions : Omissions) (all : List ReadFile) (number : ℕ) (file : File)
    → slice_get (linked_files (linked_of omissions all)) number ≡ Some file → file.is_left_out ≡ false
    → slice_get (linked_files all) (number_among_all omissions number) ≡ Some file
present_origin omissions all number file at present =
    at_all omissions (linked_files all) number file
    (present_kept (linked_files all) omissions number file
    (subst (λ fs. slice_get fs number ≡ Some file) (linked_is omissions all) at) present)

-- names in the options of each file are linked
abbrev pub EachLinksOptions : List File → Type 0
EachLinksOptions files = (number : ℕ) (file : File) → slice_get files number ≡ Some file → file.links_options ≡ true

module _ (faulty : Faulty) (dialect : Dialect) (form : ReadForm) (allows : Seen → Choice → Type 0)
    (tree : List TreeFile) (parsed : List ReadFile)
    (are : AreParsedFiles faulty dialect form allows tree parsed) where
  -- a linked file, as it was read and as it is in the tree
  record IsLinkedAt (number : ℕ) (file : File) : Type 0 where
    parsed_file : ReadFile
    of : TreeFile
    linked : file ≡ linked_file parsed_file
    numbered : slice_get tree number ≡ Some of
    is : IsParsedFile faulty dialect form allows number of parsed_file

  linked_at : (number : ℕ) (file : File) → slice_get (linked_files parsed) number ≡ Some file → IsLinkedAt number file
  linked_at number file at =
      let read = mapped_at linked_file parsed number file at in
      let within : number < length tree = rw (sym are.one_each) (slice_get_within parsed number read.0 read.1) in
      let there = item_at tree number within in
      record {
        parsed_file = read.0;
        of = there.0;
        linked = read.2;
        numbered = there.1;
        is = are.each number there.0 read.0 there.1 read.1;
      }

  of_some_file : (number : ℕ) (bytes : List ℕ) (facts : Facts) → AreFactsIn dialect form.facts number bytes facts
      → AreOfSomeFile facts
  of_some_file number bytes facts has =
      let Of : ℕ → Type 0 = λ n. AreFactsOf (form_by dialect form.facts) n has.lexed has.tree facts in
      record {
        form = form_by dialect form.facts;
        lexed = has.lexed;
        file = has.tree;
        is_lexed = has.lexing.is_lexed;
        derives = (dialect, has.derives);
        of_file = subst Of (sym has.of_tree.numbered) has.of_tree;
      }

  origin_in : (number : ℕ) (file : TreeFile) (contents : Result FileContents FileFault)
      → HasContents faulty dialect form allows number file contents → (facts : Facts) → facts_in contents ≡ Some facts
      → AreOfSomeFile facts
  origin_in number file (Ok contents) has facts known =
      subst AreOfSomeFile (same_Some contents.facts facts known)
      (of_some_file number file.text contents.facts has.1.facts_in)
  origin_in number file (Err fault) has facts known = absurd (none-some facts known)

  pub have_origins : HaveOrigins (linked_files parsed)
  have_origins number facts has =
      let at = linked_at number has.file has.numbered in
      origin_in number at.of at.parsed_file.contents at.is.contents facts
      (sym (ap (λ (f : File). f.facts) at.linked) ∙ has.known)

  pub good_paths : All (λ (file : TreeFile). IsGoodPath file.path) tree → HaveGoodPaths (linked_files parsed)
  good_paths good number file at =
      let here = linked_at number file at in
      let Good : TreeFile → Type 0 = λ f. IsGoodPath f.path in
      let path = ap (λ (f : File). f.path) here.linked ∙ here.is.path in
      subst IsGoodPath (sym path) (All-contains Good tree here.of good (contained tree number here.of here.numbered))

  pub link_options : asks_options dialect form.options ≡ true → EachLinksOptions (linked_files parsed)
  link_options asks number file at =
      let here = linked_at number file at in
      ap (λ (f : File). f.links_options) here.linked ∙ (here.is.links ∙ asks)
