-- What is read of a part of a tree is a part of what is read of the whole.
use Rattle.std.proofs.Common.{◌≡◌, ◌∙◌, ℕ, ◌<◌, false, List, length, Option, Some, None, ap, sym, refl}
use Rattle.std.proofs.Common.{subst}
use Rattle.std.specs.List.{slice_get}
use Rattle.std.specs.Option.{option_map}
use Rattle.std.proofs.lemmas.Option.{none-some, same_Some, slice_get-map, slice_get_within}
use Rattle.basics.proofs.FirstLemmas.{at_contained, contained}
use Rattle.basics.proofs.ListLemmas.{item_at}
use Rattle.proto_decl.specs.Values.{Seen}
use Rattle.proto_parse.specs.dialect.Dialect.{Dialect}
use Rattle.proto_visibility.specs.Files.{File, HaveOwnPaths}
use Rattle.proto_visibility.specs.Parts.{HasAllReached, IsPart, StandsAt}
use Rattle.proto_visibility.proofs.KeptAmongLemmas.{from_mapped}
use Rattle.index_hooks.specs.declared.choice.Choice.{Choice}
use Rattle.source_tree.specs.Files.{TreeFile}
use Rattle.scip_build.specs.declared.read_form.ReadForm.{ReadForm}
use Rattle.scip_build.specs.declared.settings.Settings.{Settings}
use Rattle.scip_build.specs.FactForms.{form_of}
use Rattle.scip_build.specs.ParsedFiles.{AreParsedFiles, IsParsedFile}
use Rattle.scip_build.specs.Files.{ReadFile}
use Rattle.scip_build.specs.Linking.{linked_file, linked_files}
use Rattle.scip_build.specs.Laws.{NoFactsWhereUnreadable, OneBesideAFile, OneListOfFacts}
use Rattle.scip_build.specs.Parts.{BuiltTree, IsBuiltTree, IsPartTree}
use Rattle.scip_build.proofs.PartFileLemmas.{AreReadAlike, read_alike}

-- a tree that was read by settings
pub record ReadTree (allows : Seen → Choice → Type 0) : Type 0 where
  pub settings : Settings
  pub tree : List TreeFile
  pub all : List ReadFile
  pub read : AreParsedFiles settings.faulty settings.dialect (form_of settings) allows tree all

module _ (one : OneListOfFacts) (one_beside : OneBesideAFile) (apart : NoFactsWhereUnreadable)
    (allows : Seen → Choice → Type 0) (whole : BuiltTree) (is : IsBuiltTree allows whole) (part : ReadTree allows)
    (of : IsPartTree whole is.all part.settings part.tree) where
  abbrev pub all : List ReadFile
  all = is.all

  abbrev pub own : List ReadFile
  own = part.all

  -- ---- where the files are in the whole

  at_of : (k : ℕ) (o : Option TreeFile) → slice_get part.tree k ≡ o → ℕ
  at_of k None e = 0
  at_of k (Some file) e = (of.files file (contained part.tree k file e)).listed.0

  pub at : ℕ → ℕ
  at k = at_of k (slice_get part.tree k) refl

  pub record IsTreeFile (number : ℕ) (file : TreeFile) : Type 0 where
    pub other : TreeFile
    pub numbered : slice_get whole.tree number ≡ Some other
    pub path : file.path ≡ other.path
    pub text : file.text ≡ other.text
    pub unread : file.is_unread ≡ other.is_unread
    pub source : file.is_included ≡ false → other.is_included ≡ false

  pub tree_at : (k : ℕ) (file : TreeFile) → slice_get part.tree k ≡ Some file → IsTreeFile (at k) file
  unfolding at at_of
  tree_at k file stands = by (slice_get part.tree k) refl stands
    where
      by : (o : Option TreeFile) (e : slice_get part.tree k ≡ o) → o ≡ Some file → IsTreeFile (at_of k o e) file
      by None e some = absurd (none-some file some)
      by (Some f) e some =
          let has = of.files f (contained part.tree k f e) in
          subst (IsTreeFile has.listed.0) (same_Some f file some) (record {
            other = has.other;
            numbered = at_contained whole.tree has.other has.listed;
            path = has.path;
            text = has.text;
            unread = has.unread;
            source = has.source;
          })

  -- ---- what is read of them

  read_own : AreParsedFiles part.settings.faulty whole.settings.dialect (form_of whole.settings) allows part.tree own
  read_own =
      let By : Dialect → Type 0 =
      λ d. AreParsedFiles part.settings.faulty d (form_of part.settings) allows part.tree own in
      let In : ReadForm → Type 0 =
      λ form. AreParsedFiles part.settings.faulty whole.settings.dialect form allows part.tree own in
      subst In of.set.same.form (subst By of.set.same.dialect part.read)

  pub record IsReadThere (k : ℕ) (read : ReadFile) : Type 0 where
    pub file : TreeFile
    pub of_tree : slice_get part.tree k ≡ Some file
    pub is_own : IsParsedFile part.settings.faulty whole.settings.dialect (form_of whole.settings) allows k file read
    pub there : IsTreeFile (at k) file
    pub other : ReadFile
    pub numbered : slice_get all (at k) ≡ Some other
    pub is_other : IsParsedFile whole.settings.faulty whole.settings.dialect (form_of whole.settings) allows (at k)
        there.other other
    pub path : read.path ≡ other.path
    pub alike : AreReadAlike one one_beside apart whole.settings.dialect (form_of whole.settings) part.settings.faulty
        whole.settings.faulty allows allows k (at k) file there.other there.text there.unread there.source
        read.contents
        other.contents

  pub read_there : (k : ℕ) (read : ReadFile) → slice_get own k ≡ Some read → IsReadThere k read
  read_there k read stands =
      let within : k < length part.tree = rw (sym read_own.one_each) (slice_get_within own k read stands) in
      let file = item_at part.tree k within in
      let is_own = read_own.each k file.0 read file.1 stands in
      let there = tree_at k file.0 file.1 in
      let inside : at k < length all = rw is.read.one_each
      (slice_get_within whole.tree (at k) there.other there.numbered)
      in
      let other = item_at all (at k) inside in
      let is_other = is.read.each (at k) there.other other.0 there.numbered other.1 in
      record {
        file = file.0;
        of_tree = file.1;
        is_own = is_own;
        there = there;
        other = other.0;
        numbered = other.1;
        is_other = is_other;
        path = is_own.path ∙ (there.path ∙ sym is_other.path);
        alike = read_alike one one_beside apart whole.settings.dialect (form_of whole.settings) part.settings.faulty
            whole.settings.faulty allows allows k (at k) file.0 there.other there.text there.unread there.source
            read.contents
            other.0.contents is_own.contents is_other.contents;
      }

  -- ---- so the files that are linked are a part

  pub is_part : IsPart (linked_files own) (linked_files all) at
  is_part k file stands =
      let read = from_mapped linked_file own k file stands in
      let its = read_there k read.0 read.1 in
      subst (StandsAt (linked_files all) (at k)) read.2 (record {
        other = linked_file its.other;
        numbered = slice_get-map linked_file all (at k) ∙ ap (option_map linked_file) its.numbered;
        same = record {
          path = its.path;
          facts = its.alike.facts;
          included = λ source. its.is_other.is_included ∙ its.there.source (sym its.is_own.is_included ∙ source);
          left_out = its.is_own.present ∙ sym its.is_other.present;
          links = its.is_own.links ∙ sym its.is_other.links;
        };
      })

  -- and has what its sources reach
  pub has_all_reached : HaveOwnPaths (linked_files all) → HasAllReached (linked_files own) (linked_files all) at
  has_all_reached paths source reached is_source way =
      let read = from_mapped linked_file own source is_source.file is_source.numbered in
      let its = read_there source read.0 read.1 in
      let included : its.file.is_included ≡ false =
      sym its.is_own.is_included ∙ (ap (λ (f : File). f.is_included) read.2 ∙ is_source.source) in
      let there = of.reached its.file (contained part.tree source its.file its.of_tree) included (at source) reached (
        linked_file its.other,
        slice_get-map linked_file all (at source) ∙ ap (option_map linked_file) its.numbered,
        sym its.path ∙ its.is_own.path,
      ) way in
      let j = there.1.0 in
      let stands = at_contained part.tree there.0 there.1 in
      let inside : j < length own = rw read_own.one_each (slice_get_within part.tree j there.0 stands) in
      let found = item_at own j inside in
      let more = read_there j found.0 found.1 in
      let one_file : there.0 ≡ more.file = same_Some there.0 more.file (sym stands ∙ more.of_tree) in
      record {
        number = j;
        file = linked_file found.0;
        numbered = slice_get-map linked_file own j ∙ ap (option_map linked_file) found.1;
        same = paths (at j) reached (linked_file more.other) there.2.0
            (slice_get-map linked_file all (at j) ∙ ap (option_map linked_file) more.numbered) there.2.1
            (sym more.path ∙ (more.is_own.path ∙ (ap (λ (f : TreeFile). f.path) (sym one_file) ∙ sym there.2.2)));
      }
