-- The options of linked files, if names in options are linked.
use Rattle.std.proofs.Common.{◌≡◌, ◌∙◌, Bool, true, false, List, Option, Some, None, length, ap, sym, refl, subst}
use Rattle.std.specs.Prelude.{MatchOption}
use Rattle.std.specs.Option.{option_copied}
use Rattle.std.proofs.lemmas.List.{length-map}
use Rattle.std.proofs.lemmas.Option.{none-some}
use Rattle.option_link.specs.Linked.{LinkedOptions}
use Rattle.option_link.specs.declared.facts.OptionFacts.{OptionFacts}
use Rattle.proto_visibility.specs.Files.{File}
use Rattle.scip_model.specs.Options.{AllLinkOptions}
use Rattle.scip_build.specs.declared.settings.Settings.{Settings}
use Rattle.scip_build.specs.Files.{ReadFile}
use Rattle.scip_build.specs.Linking.{linked_file, linked_files}
use Rattle.scip_build.specs.Documents.{asked_if, asked_in, asks_in, beside_in, known_in}
use Rattle.scip_build.specs.Works.{AreLent}
use denote.Ref.{Bor}

-- there are some if it is asked for, of these files
abbrev pub AreAsked : (asked : Option (List OptionFacts)) → List File → Option LinkedOptions → Type 0
AreAsked asked files options = MatchOption options (asked ≡ None)
    (λ linked. (asked ≡ Some linked.known) × (linked.files ≡ files) × AllLinkOptions files)

pub options_asked : (settings : Settings) (parsed : List ReadFile) (asked : Bool) → asked ≡ asks_in settings
    → (known : List OptionFacts) → (asked ≡ true → known ≡ known_in parsed) → (files : List File)
    → (asks_in settings ≡ true → AllLinkOptions files) → (options : Option LinkedOptions)
    → MatchOption options (asked ≡ false) (λ linked. (asked ≡ true)
    × (linked ≡ record { files = files; known = known })) → AreAsked (asked_in settings parsed) files options
options_asked settings parsed asked same known known_is files link None none =
    ap (λ asks. asked_if asks parsed) (sym same ∙ none)
options_asked settings parsed asked same known known_is files link (Some linked) some = (
  ap (λ asks. asked_if asks parsed) (sym same ∙ some.0)
      ∙ ap Some (sym (known_is some.0) ∙ sym (ap (λ (l : LinkedOptions). l.known) some.1)),
  ap (λ (l : LinkedOptions). l.files) some.1,
  link (sym same ∙ some.0),
)

-- the same of what is lent of them
pub options_lent : (asked : Option (List OptionFacts)) (files : List File) (options : Option LinkedOptions)
    (lent : Option (Bor LinkedOptions)) → option_copied lent ≡ options → AreAsked asked files options
    → AreLent asked files lent
options_lent asked files options None same has = subst (AreAsked asked files) (sym same) has
options_lent asked files options (Some linked) same has = subst (AreAsked asked files) (sym same) has

-- it is known of each file
pub known_each : (parsed : List ReadFile) → length (known_in parsed) ≡ length (linked_files parsed)
known_each parsed =
    length-map parsed (λ (parsed_file : ReadFile). beside_in parsed_file.contents)
    ∙ sym (length-map parsed linked_file)

-- where something is known of their options it was asked for
pub asks_if : (asks : Bool) (parsed : List ReadFile) (known : List OptionFacts) → asked_if asks parsed ≡ Some known
    → asks ≡ true
asks_if true parsed known same = refl
asks_if false parsed known same = absurd (none-some known same)
