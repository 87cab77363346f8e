-- What the phase answers, file by file.
use Rattle.std.proofs.Common.{◌≡◌, ◌∙◌, ℕ, ◌<◌, Bool, true, true≢false, List, length, Option, None, Some}
use Rattle.std.proofs.Common.{Result, Ok, Err, sym, subst}
use Rattle.std.specs.List.{slice_get}
use Rattle.std.specs.Option.{IfSome, option_map}
use Rattle.std.proofs.lemmas.Option.{slice_get_within}
use Rattle.basics.proofs.ListLemmas.{item_at}
use Rattle.scip_build.specs.declared.read_form.ReadForm.{ReadForm}
use Rattle.proto_parse.specs.dialect.Dialect.{Dialect}
use Rattle.proto_decl.specs.Values.{Seen}
use Rattle.index_hooks.specs.declared.choice.Choice.{Choice}
use Rattle.index_pool.specs.Phase.{AnswersEach, IsLeastFault}
use Rattle.scip_build.specs.declared.faulty.Faulty.{Faulty}
use Rattle.scip_build.specs.declared.faulty.Faulty.TheVariants.{Refuse}
use Rattle.scip_build.specs.declared.fault.FileFault.{FileFault}
use Rattle.scip_build.specs.declared.file_parsing.NoContents.{NoContents}
use Rattle.scip_build.specs.declared.file_parsing.NoContents.TheVariants as lacking
use Rattle.scip_build.specs.FileFaults.{fault_of_file}
use Rattle.scip_build.specs.Laws.{NoFactsWhereUnreadable}
use Rattle.scip_build.specs.Parsed.{IsUnreadable}
use Rattle.source_tree.specs.Files.{TreeFile}
use Rattle.scip_build.specs.Files.{FileContents, ReadFile}
use Rattle.scip_build.specs.ParsedFiles.{may_be_unread, HasContents, IsParsedFile, AreParsedFiles, IsReadIfSource}
use Rattle.scip_build.specs.ParsedFiles.{IsFirstFaulty, GivesParsedFile, MayRefuseFiles, MayRefuseParsing}
use Rattle.scip_build.specs.ParsedFiles.MayRefuseFiles.{files_lack_memory, first_is_faulty}

-- what holds where a list has something, holds of what it has
holds_at : {X : Type 0} (P : X → Type 0) (xs : List X) (k : ℕ) (x : X) → slice_get xs k ≡ Some x
    → IfSome (slice_get xs k) P → P x
holds_at {X} P xs k x at holds = let Q : Option X → Type 0 = λ o. IfSome o P in subst Q at holds

same_file : (file : TreeFile) (path text : List ℕ) (is_included is_unread : Bool) → file.path ≡ path → file.text ≡ text
    → file.is_included ≡ is_included → file.is_unread ≡ is_unread
    → file ≡ record { path = path; bytes = file.bytes; text = text; is_included = is_included; is_unread = is_unread }
same_file file path text is_included is_unread paths texts flags marks =
    λ i. record { path = paths i; bytes = file.bytes; text = texts i; is_included = flags i; is_unread = marks i }

-- what holds of any file with this path, this text and these marks, holds of the file that has them
pub given_at : (Holds : TreeFile → Type 0) (found : Option TreeFile) (path text : List ℕ) (is_included is_unread : Bool)
    → option_map (λ (file : TreeFile). file.path) found ≡ Some path
    → option_map (λ (file : TreeFile). file.text) found ≡ Some text
    → option_map (λ (file : TreeFile). file.is_included) found ≡ Some is_included
    → option_map (λ (file : TreeFile). file.is_unread) found ≡ Some is_unread
    → ((held : List ℕ) → Holds (record {
      path = path;
      bytes = held;
      text = text;
      is_included = is_included;
      is_unread = is_unread;
    }))
    → IfSome found Holds
given_at Holds None path text is_included is_unread paths texts flags marks each = tt
given_at Holds (Some file) path text is_included is_unread paths texts flags marks each =
    let path_is : file.path ≡ path = cc in
    let text_is : file.text ≡ text = cc in
    let flag_is : file.is_included ≡ is_included = cc in
    let mark_is : file.is_unread ≡ is_unread = cc in
    subst Holds (sym (same_file file path text is_included is_unread path_is text_is flag_is mark_is)) (each file.bytes)

-- a source that was read has facts, where it is refused else
pub source_has_facts : (faulty : Faulty) → faulty ≡ Refuse
    → (dialect : Dialect) (form : ReadForm) (allows : Seen → Choice → Type 0) (number : ℕ) (file : TreeFile)
    (contents : Result FileContents FileFault)
    → HasContents faulty dialect form allows number file contents → IsReadIfSource dialect number file
source_has_facts faulty refused dialect form allows number file (Ok contents) has source =
    (form.facts, contents.facts, has.1.facts_in, has.3)
source_has_facts faulty refused dialect form allows number file (Err fault) has source =
    let May : Faulty → Type 0 = λ f. may_be_unread f file.is_included ≡ true in
    absurd (true≢false (sym (subst May refused has.0) ∙ source))

module _ (faulty : Faulty) (dialect : Dialect) (form : ReadForm) (allows : Seen → Choice → Type 0)
    (files : List TreeFile) where
  pub parsed_of : (parsed : List ReadFile)
      → AnswersEach (GivesParsedFile faulty dialect form allows files) (length files) parsed
      → AreParsedFiles faulty dialect form allows files parsed
  parsed_of parsed answers = record {
    one_each = answers.0;
    each = λ number file parsed_file at is. holds_at
        (λ f. IsParsedFile faulty dialect form allows number f parsed_file) files number file at
        (answers.1 number parsed_file is);
  }

  -- why a file stops the run, the first of those that do, is why the files aren't read
  pub refused_of : (workers number : ℕ) (fault : NoContents)
      → IsLeastFault (GivesParsedFile faulty dialect form allows files) (length files) number fault
      → MayRefuseFiles faulty dialect files workers (fault_of_file number fault)
  refused_of workers number fault least =
      let there = item_at files number least.0 in
      by fault there.0 there.1
      (holds_at (λ f. MayRefuseParsing faulty dialect f fault) files number there.0 there.1 least.1)
    where
      by : (fault : NoContents) (file : TreeFile) → slice_get files number ≡ Some file
          → MayRefuseParsing faulty dialect file fault
          → MayRefuseFiles faulty dialect files workers (fault_of_file number fault)
      by lacking.Memory file at may = files_lack_memory
      by (lacking.Unreadable of_file) file at may =
          first_is_faulty may.0 (record {
            file = file;
            numbered = at;
            faulty = may.1;
            before = λ lesser before less there.
                let read = least.2 lesser less in
                source_has_facts faulty may.0 dialect form allows lesser before read.0.contents
                (holds_at (λ f. IsParsedFile faulty dialect form allows lesser f read.0) files lesser before there
                read.1).contents;
          })

  -- parsed files have no faulty source, where it is refused
  pub no_parsed_files_where_faulty : faulty ≡ Refuse → NoFactsWhereUnreadable
      → (parsed : List ReadFile) (number : ℕ) (fault : FileFault)
      → AreParsedFiles faulty dialect form allows files parsed
      → IsFirstFaulty dialect files number fault → ⊥
  no_parsed_files_where_faulty refused no_facts parsed number fault are first =
      let within : number < length parsed =
      rw are.one_each (slice_get_within files number first.file first.numbered) in
      let there = item_at parsed number within in
      let has = source_has_facts faulty refused dialect form allows number first.file there.0.contents
      (are.each number first.file there.0 first.numbered there.1).contents first.faulty.source in
      no_facts dialect has.0 number first.file.text has.1 fault has.2
      (subst (λ flag. IsUnreadable dialect flag first.file.text fault) has.3 first.faulty.unreadable)
