-- What is read of one tree twice is the same, whatever is chosen.
use Rattle.std.proofs.Common.{◌≡◌, ◌∙◌, ℕ, ◌<◌, Bool, true, false, List, length, Option, Some, None, Result, Ok}
use Rattle.std.proofs.Common.{Err, ap, sym, refl, subst}
use Rattle.std.specs.List.{slice_get}
use Rattle.std.specs.Option.{unwrap_or}
use Rattle.std.proofs.lemmas.Option.{slice_get_within}
use Rattle.basics.proofs.ListLemmas.{item_at}
use Rattle.proto_parse.specs.dialect.Dialect.{Dialect}
use Rattle.proto_decl.specs.Values.{Seen}
use Rattle.index_hooks.specs.declared.choice.Choice.{Choice}
use Rattle.option_link.specs.Beside.{nothing_beside}
use Rattle.option_link.specs.declared.facts.OptionFacts.{OptionFacts}
use Rattle.source_tree.specs.Files.{TreeFile}
use Rattle.scip_build.specs.declared.read_form.ReadForm.{ReadForm}
use Rattle.scip_build.specs.declared.faulty.Faulty.{Faulty}
use Rattle.scip_build.specs.declared.fault.FileFault.{FileFault}
use Rattle.scip_build.specs.Files.{FileContents, ReadFile}
use Rattle.scip_build.specs.Parsed.{asks_options, IsBesideIf, IsUnreadable}
use Rattle.scip_build.specs.ParsedFiles.{AreContentsOf, HasContents, AreParsedFiles}
use Rattle.scip_build.specs.Documents.{beside_in, known_in, text_in, text_of, texts_of}
use Rattle.scip_build.specs.Laws.{NoFactsWhereUnreadable, OneBesideAFile}
use Rattle.scip_build.proofs.LinkingLemmas.{same_mapped}
use Rattle.scip_build.proofs.OptionGapLemmas.{read_in, reads_of}

-- what is known beside facts is one, if it is asked for
one_beside_if : OneBesideAFile → (asked : Bool) (bytes : List ℕ) (is_included : Bool) (a b : Option OptionFacts)
    → IsBesideIf asked bytes is_included a → IsBesideIf asked bytes is_included b → a ≡ b
one_beside_if one false bytes is_included a b is also = is ∙ sym also
one_beside_if one true bytes is_included None b is also = absurd is
one_beside_if one true bytes is_included (Some a) None is also = absurd also
one_beside_if one true bytes is_included (Some a) (Some b) is also = ap Some (one bytes is_included a b is also)

module _ (apart : NoFactsWhereUnreadable) (allows others : Seen → Choice → Type 0) (faulty another : Faulty)
    (dialect : Dialect) (form : ReadForm) where
  -- what is the same of contents, and of any two faults, is of one file read twice
  pub same_in : {Y : Type 0} (f : Result FileContents FileFault → Y) (number : ℕ) (file : TreeFile)
      → ((a b : FileContents) → AreContentsOf dialect form file.is_included file.is_unread allows number file.text a
      → AreContentsOf dialect form file.is_included file.is_unread others number file.text b → f (Ok a) ≡ f (Ok b))
      → ((fault other : FileFault) → f (Err fault) ≡ f (Err other))
      → (a b : Result FileContents FileFault)
      → HasContents faulty dialect form allows number file a → HasContents another dialect form others number file b
      → f a ≡ f b
  same_in f number file read unread (Ok a) (Ok b) has also = read a b has also
  same_in f number file read unread (Ok a) (Err fault) has also =
      absurd (apart dialect form.facts number file.text a.facts fault has.1.facts_in
      (subst (λ flag. IsUnreadable dialect flag file.text fault) has.3 also.1))
  same_in f number file read unread (Err fault) (Ok b) has also =
      absurd (apart dialect form.facts number file.text b.facts fault also.1.facts_in
      (subst (λ flag. IsUnreadable dialect flag file.text fault) also.3 has.1))
  same_in f number file read unread (Err fault) (Err other) has also = unread fault other

  module _ (tree : List TreeFile) (parsed again : List ReadFile)
      (are : AreParsedFiles faulty dialect form allows tree parsed)
      (also : AreParsedFiles another dialect form others tree again) where
    -- both read the same file there
    pub contents_at : (k : ℕ) (a b : ReadFile) → slice_get parsed k ≡ Some a → slice_get again k ≡ Some b
        → (file : TreeFile) × HasContents faulty dialect form allows k file a.contents
        × HasContents another dialect form others k file b.contents
    contents_at k a b at and =
        let within : k < length tree = rw (sym are.one_each) (slice_get_within parsed k a at) in
        let there = item_at tree k within in
        (there.0, (are.each k there.0 a there.1 at).contents, (also.each k there.0 b there.1 and).contents)

    pub same_texts : texts_of parsed ≡ texts_of again
    same_texts = same_mapped text_of parsed again (are.one_each ∙ sym also.one_each)
        (λ k a b at and. let has = contents_at k a b at and in
        same_in text_in k has.0 (λ x y is too. is.0 ∙ sym too.0) (λ x y. refl) a.contents b.contents has.1 has.2)

    pub same_reads : reads_of parsed ≡ reads_of again
    same_reads = same_mapped (λ (parsed_file : ReadFile). read_in parsed_file.contents) parsed again
        (are.one_each ∙ sym also.one_each)
        (λ k a b at and. let has = contents_at k a b at and in
        same_in read_in k has.0 (λ x y is too. ap Some (is.0 ∙ sym too.0)) (λ x y. refl) a.contents b.contents
        has.1 has.2)

    pub same_known : OneBesideAFile → known_in parsed ≡ known_in again
    same_known one = same_mapped (λ (parsed_file : ReadFile). beside_in parsed_file.contents) parsed again
        (are.one_each ∙ sym also.one_each)
        (λ k a b at and. let has = contents_at k a b at and in
        same_in beside_in k has.0
        (λ x y is too. ap (λ (known : Option OptionFacts). unwrap_or known nothing_beside)
        (one_beside_if one (asks_options dialect form.options) has.0.text has.0.is_included x.beside y.beside is.2
        too.2))
        (λ x y. refl) a.contents b.contents has.1 has.2)
