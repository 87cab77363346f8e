-- What is read of a file of a part is what is read of it in the whole.
use Rattle.std.proofs.Common.{◌≡◌, ◌∙◌, ℕ, Bool, true, false, List, [], Option, Some, None, Result, Ok, Err, ap, sym}
use Rattle.std.proofs.Common.{refl}
use Rattle.std.proofs.Common.{subst}
use Rattle.std.specs.Option.{unwrap_or}
use Rattle.std.proofs.lemmas.Bool.{false≢true}
use Rattle.proto_decl.specs.Facts.{Facts}
use Rattle.proto_decl.specs.Values.{Seen}
use Rattle.proto_decl.specs.declared.form.FactForm.{FactForm}
use Rattle.proto_parse.specs.dialect.Dialect.{Dialect}
use Rattle.proto_visibility.specs.Parts.{AreAlike, renumbered}
use Rattle.index_hooks.specs.declared.choice.Choice.{Choice}
use Rattle.option_link.specs.Beside.{nothing_beside}
use Rattle.option_link.specs.declared.facts.OptionFacts.{OptionFacts}
use Rattle.source_tree.specs.Files.{TreeFile}
use Rattle.scip_build.specs.declared.read_form.ReadForm.{ReadForm}
use Rattle.scip_build.specs.declared.faulty.Faulty.{Faulty}
use Rattle.scip_build.specs.declared.fault.FileFault.{FileFault}
use Rattle.scip_build.specs.Parsed.{AreFactsIn, IsBesideIf, IsBesideIn, IsUnreadable, asks_options}
use Rattle.scip_build.specs.ParsedFiles.{AreChosen, HasContents}
use Rattle.scip_build.specs.Files.{FileContents}
use Rattle.scip_build.specs.BuildLaws.{AllowOne}
use Rattle.scip_build.specs.Linking.{choices_in, facts_in}
use Rattle.scip_build.specs.Documents.{beside_in, text_in}
use Rattle.scip_build.specs.Laws.{NoFactsWhereUnreadable, OneBesideAFile, OneListOfFacts}
use Rattle.scip_build.proofs.ChosenAlikeLemmas.{same_choices}

module _ (one : OneListOfFacts) (one_beside : OneBesideAFile) (apart : NoFactsWhereUnreadable) where
  -- the facts of a file under another number
  facts_under : (dialect : Dialect) (form : FactForm) (number other : ℕ) (bytes : List ℕ) (facts : Facts)
      → AreFactsIn dialect form number bytes facts → AreFactsIn dialect form other bytes (renumbered other facts)
  facts_under dialect form number other bytes facts is = record {
    lexed = is.lexed;
    tree = is.tree;
    lexing = is.lexing;
    derives = is.derives;
    of_tree = record {
      numbered = refl;
      package_name = is.of_tree.package_name;
      imports = is.of_tree.imports;
      declarations = is.of_tree.declarations;
      uses = is.of_tree.uses;
      details = is.of_tree.details;
    };
  }

  same_facts : (dialect : Dialect) (form : FactForm) (number other : ℕ) (bytes : List ℕ) (a b : Facts)
      → AreFactsIn dialect form number bytes a → AreFactsIn dialect form other bytes b → b ≡ renumbered b.number a
  same_facts dialect form number other bytes a b is too =
      one dialect form other bytes b (renumbered other a) too (facts_under dialect form number other bytes a is)
      ∙ ap (λ n. renumbered n a) (sym too.of_tree.numbered)

  -- what is known beside the facts of an included file is known of a source
  as_included : (bytes : List ℕ) (beside : OptionFacts) → IsBesideIn bytes false beside
      → IsBesideIn bytes true (record { options = []; fields = beside.fields; messages = beside.messages })
  as_included bytes beside is = record {
    lexed = is.lexed;
    tree = is.tree;
    lexing = is.lexing;
    derives = is.derives;
    of_source = λ source. absurd (false≢true (sym source));
    of_included = λ included. refl;
    fields = is.fields;
    messages = is.messages;
  }

  -- fields and what messages say are the same of both, and options if both are sources
  pub record AreBesideAlike (source : Bool) (a b : OptionFacts) : Type 0 where
    pub fields : a.fields ≡ b.fields
    pub messages : a.messages ≡ b.messages
    pub options : source ≡ false → a.options ≡ b.options

  same_beside : (bytes : List ℕ) (included other : Bool) → (included ≡ false → other ≡ false) → (a b : OptionFacts)
      → IsBesideIn bytes included a → IsBesideIn bytes other b → AreBesideAlike included a b
  same_beside bytes false false source a b is too =
      let same = one_beside bytes false a b is too in record {
        fields = ap (λ (f : OptionFacts). f.fields) same;
        messages = ap (λ (f : OptionFacts). f.messages) same;
        options = λ of. ap (λ (f : OptionFacts). f.options) same;
      }
  same_beside bytes false true source a b is too = absurd (false≢true (sym (source refl)))
  same_beside bytes true true source a b is too =
      let same = one_beside bytes true a b is too in record {
        fields = ap (λ (f : OptionFacts). f.fields) same;
        messages = ap (λ (f : OptionFacts). f.messages) same;
        options = λ of. absurd (false≢true (sym of));
      }
  same_beside bytes true false source a b is too =
      let same = one_beside bytes true a (record { options = []; fields = b.fields; messages = b.messages }) is
      (as_included bytes b too) in
      record {
        fields = ap (λ (f : OptionFacts). f.fields) same;
        messages = ap (λ (f : OptionFacts). f.messages) same;
        options = λ of. absurd (false≢true (sym of));
      }

  same_beside_if : (asked : Bool) (bytes : List ℕ) (included other : Bool) → (included ≡ false → other ≡ false)
      → (a b : Option OptionFacts) → IsBesideIf asked bytes included a → IsBesideIf asked bytes other b
      → AreBesideAlike included (unwrap_or a nothing_beside) (unwrap_or b nothing_beside)
  same_beside_if false bytes included other source a b is too =
      let same : unwrap_or a nothing_beside ≡ unwrap_or b nothing_beside =
      ap (λ o. unwrap_or o nothing_beside) (is ∙ sym too) in
      record {
        fields = ap (λ (f : OptionFacts). f.fields) same;
        messages = ap (λ (f : OptionFacts). f.messages) same;
        options = λ of. ap (λ (f : OptionFacts). f.options) same;
      }
  same_beside_if true bytes included other source None b is too = absurd is
  same_beside_if true bytes included other source (Some a) None is too = absurd too
  same_beside_if true bytes included other source (Some a) (Some b) is too =
      same_beside bytes included other source a b is too

  -- ---- of a file that is read twice, under two numbers

  module _ (dialect : Dialect) (form : ReadForm) (faulty another : Faulty) (allows others : Seen → Choice → Type 0)
      (number there : ℕ) (file other : TreeFile) (same_text : file.text ≡ other.text)
      (same_mark : file.is_unread ≡ other.is_unread)
      (source : file.is_included ≡ false → other.is_included ≡ false) where
    pub record AreReadAlike (a b : Result FileContents FileFault) : Type 0 where
      pub facts : AreAlike (facts_in a) (facts_in b)
      pub text : text_in a ≡ text_in b
      pub beside : AreBesideAlike file.is_included (beside_in a) (beside_in b)
      pub choices : AllowOne allows others → choices_in a ≡ choices_in b
      pub read : (contents : FileContents) → a ≡ Ok contents
          → (other_contents : FileContents) × (b ≡ Ok other_contents) × (other_contents.text ≡ contents.text)

    pub read_alike : (a b : Result FileContents FileFault) → HasContents faulty dialect form allows number file a
        → HasContents another dialect form others there other b → AreReadAlike a b
    read_alike (Ok a) (Ok b) is too =
        let facts = subst (λ bytes. AreFactsIn dialect form.facts there bytes b.facts) (sym same_text) too.1.facts_in in
        let beside = subst (λ bytes. IsBesideIf (asks_options dialect form.options) bytes other.is_included b.beside)
        (sym same_text) too.2 in
        record {
          facts = same_facts dialect form.facts number there file.text a.facts b.facts is.1.facts_in facts;
          text = is.0 ∙ (same_text ∙ sym too.0);
          beside = same_beside_if (asks_options dialect form.options) file.text file.is_included other.is_included
              source
              a.beside b.beside is.2 beside;
          choices = λ agree.
              same_choices allows others agree a.facts.declarations a.choices b.choices is.1.chosen
              (subst (λ (f : Facts). AreChosen others f.declarations b.choices)
              (same_facts dialect form.facts number there file.text a.facts b.facts is.1.facts_in facts) too.1.chosen);
          read = λ contents same. (b, refl, too.0 ∙ (sym same_text ∙ (sym is.0 ∙ ap text_in same)));
        }
    read_alike (Ok a) (Err fault) is too =
        absurd (apart dialect form.facts number file.text a.facts fault is.1.facts_in
        (subst (λ bytes. IsUnreadable dialect false bytes fault) (sym same_text)
        (subst (λ flag. IsUnreadable dialect flag other.text fault) (sym same_mark ∙ is.3) too.1)))
    read_alike (Err fault) (Ok b) is too =
        absurd (apart dialect form.facts there other.text b.facts fault too.1.facts_in
        (subst (λ bytes. IsUnreadable dialect false bytes fault) same_text
        (subst (λ flag. IsUnreadable dialect flag file.text fault) (same_mark ∙ too.3) is.1)))
    read_alike (Err fault) (Err more) is too = record {
      facts = tt;
      text = refl;
      beside = record { fields = refl; messages = refl; options = λ of. refl };
      choices = λ agree. refl;
      read = λ contents same. absurd (cc);
    }
