-- Files as they are linked.
use Rattle.std.proofs.Common.{◌≡◌, ◌∙◌, ℕ, zero, suc, ◌<◌, List, [], ◌∷◌, length, map, Some, Result, Ok, Err}
use Rattle.std.proofs.Common.{ap, sym, refl, arith, subst}
use Rattle.std.specs.List.{slice_get}
use Rattle.std.proofs.lemmas.Option.{slice_get_within, none-some, same_Some}
use Rattle.basics.proofs.ListLemmas.{item_at}
use Rattle.proto_visibility.specs.Files.{File}
use Rattle.proto_visibility.specs.Files as link
use Rattle.scip_build.specs.declared.read_form.ReadForm.{ReadForm}
use Rattle.proto_parse.specs.dialect.Dialect.{Dialect}
use Rattle.proto_decl.specs.Values.{Seen}
use Rattle.index_hooks.specs.declared.choice.Choice.{Choice}
use Rattle.source_tree.specs.Files.{TreeFile}
use Rattle.source_tree.specs.Trees.{HaveOwnPaths}
use Rattle.scip_build.specs.declared.faulty.Faulty.{Faulty}
use Rattle.scip_build.specs.declared.fault.FileFault.{FileFault}
use Rattle.scip_build.specs.Files.{FileContents, ReadFile}
use Rattle.scip_build.specs.Parsed.{IsUnreadable}
use Rattle.scip_build.specs.ParsedFiles.{HasContents, IsParsedFile, AreParsedFiles}
use Rattle.scip_build.specs.Laws.{OneListOfFacts, NoFactsWhereUnreadable}
use Rattle.scip_build.specs.Linking.{facts_in, linked_file, linked_files}

-- what a mapped list has at a number
pub mapped_at : {A B : Type 0} (f : A → B) (xs : List A) (k : ℕ) (y : B) → slice_get (map f xs) k ≡ Some y
    → (x : A) × (slice_get xs k ≡ Some x) × (y ≡ f x)
mapped_at f [] k y at = absurd (none-some y at)
mapped_at f (x ∷ xs) zero y at = (x, refl, sym (same_Some (f x) y at))
mapped_at f (x ∷ xs) (suc k) y at = mapped_at f xs k y at

module _ (faulty : Faulty) (dialect : Dialect) (form : ReadForm) (allows : Seen → Choice → Type 0)
    (files : List TreeFile) (parsed : List ReadFile)
    (are : AreParsedFiles faulty dialect form allows files parsed) where
  -- the file of the tree that a linked file is
  pub in_tree : (number : ℕ) (file : File) → slice_get (linked_files parsed) number ≡ Some file
      → (of : TreeFile) × (slice_get files number ≡ Some of) × (file.path ≡ of.path)
  in_tree number file at =
      let read = mapped_at linked_file parsed number file at in
      let within : number < length files = rw (sym are.one_each) (slice_get_within parsed number read.0 read.1) in
      let there = item_at files number within in
      (there.0, there.1, ap (λ (f : File). f.path) read.2 ∙ (are.each number there.0 read.0 there.1 read.1).path)

  pub own_paths : HaveOwnPaths files → link.HaveOwnPaths (linked_files parsed)
  own_paths own i j a b at_i at_j same =
      let first = in_tree i a at_i in
      let second = in_tree j b at_j in
      own i j first.0 second.0 first.1 second.1 (sym first.2 ∙ (same ∙ second.2))

-- lists whose items are mapped to the same
pub same_mapped : {A B : Type 0} (f : A → B) (xs ys : List A) → length xs ≡ length ys
    → ((k : ℕ) (x y : A) → slice_get xs k ≡ Some x → slice_get ys k ≡ Some y → f x ≡ f y) → map f xs ≡ map f ys
same_mapped f [] [] few each = refl
same_mapped f [] (y ∷ ys) few each = absurd (omega (arith, few))
same_mapped f (x ∷ xs) [] few each = absurd (omega (arith, few))
same_mapped f (x ∷ xs) (y ∷ ys) few each =
    let here = each zero x y refl refl in
    let others = same_mapped f xs ys (omega (arith, few)) (λ k a b. each (suc k) a b) in
    λ i. here i ∷ others i

module _ (one : OneListOfFacts) (apart : NoFactsWhereUnreadable) (faulty other : Faulty)
    (dialect : Dialect) (form : ReadForm) (allows others : Seen → Choice → Type 0) where
  -- two parsed files of one file have the same facts, or both none
  pub same_facts : (number : ℕ) (file : TreeFile) (a b : Result FileContents FileFault)
      → HasContents faulty dialect form allows number file a → HasContents other dialect form others number file b
      → facts_in a ≡ facts_in b
  same_facts number file (Ok a) (Ok b) has also =
      ap Some (one dialect form.facts number file.text a.facts b.facts has.1.facts_in also.1.facts_in)
  same_facts number file (Ok a) (Err f) has also =
      absurd (apart dialect form.facts number file.text a.facts f has.1.facts_in
      (subst (λ flag. IsUnreadable dialect flag file.text f) has.3 also.1))
  same_facts number file (Err f) (Ok b) has also =
      absurd (apart dialect form.facts number file.text b.facts f also.1.facts_in
      (subst (λ flag. IsUnreadable dialect flag file.text f) also.3 has.1))
  same_facts number file (Err f) (Err g) has also = refl

  same_linked : (number : ℕ) (file : TreeFile) (a b : ReadFile) → IsParsedFile faulty dialect form allows number file a
      → IsParsedFile other dialect form others number file b → linked_file a ≡ linked_file b
  same_linked number file a b reads again =
      let path = reads.path ∙ sym again.path in
      let facts = same_facts number file a.contents b.contents reads.contents again.contents in
      let is_included = reads.is_included ∙ sym again.is_included in
      let is_left_out = reads.present ∙ sym again.present in
      let links_options = reads.links ∙ sym again.links in
      λ i. record {
        path = path i;
        facts = facts i;
        is_included = is_included i;
        is_left_out = is_left_out i;
        links_options = links_options i;
      }

  pub one_linking : (files : List TreeFile) (parsed again : List ReadFile)
      → AreParsedFiles faulty dialect form allows files parsed → AreParsedFiles other dialect form others files again
      → linked_files parsed ≡ linked_files again
  one_linking files parsed again are also =
      same_mapped linked_file parsed again (are.one_each ∙ sym also.one_each) (λ k a b at and.
      let within : k < length files = rw (sym are.one_each) (slice_get_within parsed k a at) in
      let there = item_at files k within in
      same_linked k there.0 a b (are.each k there.0 a there.1 at) (also.each k there.0 b there.1 and))
