-- What the programs are told by their options: a file for each, with its words, its rule and what it says.
use Rattle.std.specs.Prelude.{Bool, ◌≡◌, List, [], ◌∷◌, ◌++◌, codes, map, string_bytes}
use Rattle.std.specs.Option.{option_map}
use Rattle.clap.specs.Words.{Row, Rule}
use Rattle.command_line.specs.Arguments.{texts_at}
use Rattle.command_line.specs.Values.{text_of, texts_of}
use Rattle.command_line.specs.Options.Accept.{accept_rule, accept_words, dialect_of}
use Rattle.command_line.specs.Options.Also.{indexes_of}
use Rattle.command_line.specs.Options.At.{at_of, at_rule}
use Rattle.command_line.specs.Options.Comments.{comments_of, comments_rule, comments_words}
use Rattle.command_line.specs.Options.CustomOptions.{custom_options_rule, custom_options_words}
use Rattle.command_line.specs.Options.Details.{details_in, details_rule}
use Rattle.command_line.specs.Options.Doc.{doc_of, doc_rule, doc_words}
use Rattle.command_line.specs.Options.Duplicates.{duplicates_of, duplicates_rule, duplicates_words}
use Rattle.command_line.specs.Options.Exclude.{exclude_of, exclude_rule}
use Rattle.command_line.specs.Options.Explain.{explain_rule, explains_in, unexplained_rule}
use Rattle.command_line.specs.Options.Faulty.{faulty_of, faulty_rule, faulty_words}
use Rattle.command_line.specs.Options.Include.{folder_of, include_of, include_package_rule, include_rule}
use Rattle.command_line.specs.Options.Include.{package_folders_of}
use Rattle.command_line.specs.Options.JoinedRoot.{joined_root_of}
use Rattle.command_line.specs.Options.Json.{json_in}
use Rattle.command_line.specs.Options.Limits.{limits_of, max_skipped_rule, min_sources_rule}
use Rattle.command_line.specs.Options.Links.{links_of, links_rule, links_words}
use Rattle.command_line.specs.Options.More.{more_in}
use Rattle.command_line.specs.Options.Only.{only_of, only_rule}
use Rattle.command_line.specs.Options.OptionsLinked.{links_options, options_rule, options_words}
use Rattle.command_line.specs.Options.Package.{manager_of, manager_rule, package_of, package_rule, release_of}
use Rattle.command_line.specs.Options.Package.{release_rule}
use Rattle.command_line.specs.Options.Positions.{encoding_of, positions_rule, positions_words}
use Rattle.command_line.specs.Options.ProjectRoot.{project_root_of, project_root_rule}
use Rattle.command_line.specs.Options.Quiet.{quiet_in, quiet_rule}
use Rattle.command_line.specs.Options.Real.{is_real, real_rule}
use Rattle.command_line.specs.Options.Replace.{replaces_in}
use Rattle.command_line.specs.Options.Report.{CarriesReport, format_rule, format_words, report_rule}
use Rattle.command_line.specs.Options.Root.{root_of}
use Rattle.command_line.specs.Options.Sources.{file_of, nothing_listed, sources_of, sources_rule}
use Rattle.command_line.specs.Options.Sync.{sync_in, sync_rule}
use Rattle.command_line.specs.Options.To.{to_of}
use Rattle.command_line.specs.Options.WellKnown.{well_known_in, well_known_rule}
use Rattle.command_line.specs.Options.Workers.{workers_of, workers_rule}
use Rattle.command_line.specs.Verbs.{asked_of}
use Rattle.command_line.specs.declared.options.AskOptions.{AskOptions}
use Rattle.command_line.specs.declared.options.DumpOptions.{DumpOptions}
use Rattle.command_line.specs.declared.options.IndexOptions.{IndexOptions}
use Rattle.command_line.specs.declared.options.IndexRequest.{IndexRequest}
use Rattle.command_line.specs.declared.options.JoinOptions.{JoinOptions}
use Rattle.command_line.specs.declared.options.PagesOptions.{PagesOptions}
use Rattle.command_line.specs.declared.options.QueryOptions.{QueryOptions}
use Rattle.command_line.specs.declared.options.ShellRequest.{ShellRequest}
use Rattle.command_line.specs.declared.options.SnapshotOptions.{SnapshotOptions}
use Rattle.command_line.specs.declared.options.WordLists.{WordLists}
pub mod Accept
pub mod Also
pub mod At
pub mod Comments
pub mod CustomOptions
pub mod Details
pub mod Doc
pub mod Duplicates
pub mod Exclude
pub mod Explain
pub mod Faulty
pub mod Include
pub mod JoinedRoot
pub mod Json
pub mod Limits
pub mod Links
pub mod More
pub mod Only
pub mod OptionsLinked
pub mod Package
pub mod Positions
pub mod ProjectRoot
pub mod Quiet
pub mod Real
pub mod Replace
pub mod Report
pub mod Root
pub mod Sources
pub mod Sync
pub mod To
pub mod WellKnown
pub mod Workers

-- ---- their rules

-- the lists hold the words of the options that take only listed words
pub record AreListed (lists : WordLists) : Type 0 where
  pub doc : texts_at lists.doc ≡ doc_words
  pub comments : texts_at lists.comments ≡ comments_words
  pub positions : texts_at lists.positions ≡ positions_words
  pub accept : texts_at lists.accept ≡ accept_words
  pub custom_options : texts_at lists.custom_options ≡ custom_options_words
  pub options : texts_at lists.options ≡ options_words
  pub faulty : texts_at lists.faulty ≡ faulty_words
  pub duplicates : texts_at lists.duplicates ≡ duplicates_words
  pub links : texts_at lists.links ≡ links_words
  pub report_format : texts_at lists.report_format ≡ format_words

-- the options of `index` alone
abbrev pub own_rules : List Rule
own_rules = quiet_rule ∷ sync_rule ∷ max_skipped_rule ∷ min_sources_rule ∷ []

-- those of `index` and of `shell`: for trees as they lie, on the run, on where the sources are, and on the package
abbrev pub setting_rules : List Rule
setting_rules = real_rule ∷ workers_rule ∷ project_root_rule ∷ at_rule ∷ manager_rule ∷ package_rule ∷ release_rule ∷ []

-- on what is indexed
abbrev pub choice_rules : WordLists → List Rule
choice_rules lists = only_rule ∷ doc_rule lists.doc ∷ comments_rule lists.comments ∷ details_rule ∷ include_rule
    ∷ include_package_rule ∷ well_known_rule ∷ []

-- on how it is read
abbrev pub reading_rules : WordLists → List Rule
reading_rules lists = positions_rule lists.positions
    ∷ accept_rule lists.accept
    ∷ custom_options_rule lists.custom_options
    ∷ options_rule lists.options
    ∷ faulty_rule lists.faulty
    ∷ duplicates_rule lists.duplicates
    ∷ explain_rule
    ∷ unexplained_rule
    ∷ []

-- on which sources there are, how folders are searched, and on the report
abbrev pub search_rules : WordLists → List Rule
search_rules lists = exclude_rule
    ∷ links_rule lists.links
    ∷ sources_rule
    ∷ report_rule
    ∷ format_rule lists.report_format
    ∷ []

-- all of these
abbrev pub tree_rules : WordLists → List Rule
tree_rules lists = setting_rules ++ (choice_rules lists ++ (reading_rules lists ++ search_rules lists))

-- all options of `index`
abbrev pub index_option_rules : WordLists → List Rule
index_option_rules lists = own_rules ++ tree_rules lists

-- ---- what they say

-- the options of `index` and of `shell` are those that the rows give, each by its name
pub record Carries (on_terminal : Bool) (rows : List Row) (options : IndexOptions) : Type 0 where
  pub root : string_bytes options.root ≡ text_of (codes "ROOT") rows
  pub is_real : options.is_real ≡ is_real rows
  pub workers : options.workers ≡ workers_of rows
  pub project_root : string_bytes options.project_root ≡ project_root_of rows
  pub at : string_bytes options.at ≡ at_of rows
  pub manager : string_bytes options.manager ≡ manager_of rows
  pub «package» : string_bytes options.«package» ≡ package_of rows
  pub release : string_bytes options.release ≡ release_of rows
  pub only : option_map string_bytes options.only ≡ only_of rows
  pub doc : options.doc ≡ doc_of rows
  pub comments : options.comments ≡ comments_of rows
  pub details : options.details ≡ details_in rows
  pub include : map string_bytes options.include.items ≡ include_of rows
  pub include_packages : map folder_of options.include_packages.items ≡ package_folders_of rows
  pub well_known : options.well_known ≡ well_known_in rows
  pub encoding : options.encoding ≡ encoding_of rows
  pub dialect : options.dialect ≡ dialect_of rows
  pub links_options : options.links_options ≡ links_options rows
  pub faulty : options.faulty ≡ faulty_of rows
  pub duplicates : options.duplicates ≡ duplicates_of rows
  pub explain : options.explain ≡ explains_in on_terminal rows
  pub exclude : map string_bytes options.exclude.items ≡ exclude_of rows
  pub links : options.links ≡ links_of rows
  pub sources : option_map file_of options.sources ≡ sources_of rows
  pub unread : nothing_listed options.sources
  pub report : CarriesReport rows options.report

-- and so all that `index` is given
pub record CarriesIndex (on_terminal : Bool) (rows : List Row) (given : IndexRequest) : Type 0 where
  pub options : Carries on_terminal rows given.options
  pub out : string_bytes given.out ≡ text_of (codes "OUT") rows
  pub quiet : given.quiet ≡ quiet_in rows
  pub sync : given.sync ≡ sync_in rows
  pub limits : given.limits ≡ limits_of rows

-- and all that `shell` is given
pub record CarriesShell (on_terminal : Bool) (rows : List Row) (given : ShellRequest) : Type 0 where
  pub options : Carries on_terminal rows given.options
  pub more : given.more ≡ more_in rows

-- and the options of `query`
pub record CarriesQuery (on_terminal : Bool) (rows : List Row) (options : QueryOptions) : Type 0 where
  pub indexes : map string_bytes options.indexes.items ≡ texts_of (codes "INDEX") rows
  pub explain : options.explain ≡ explains_in on_terminal rows
  pub more : options.more ≡ more_in rows
  pub json : options.json ≡ json_in rows

-- and what is asked in one line
pub record CarriesAsk (on_terminal : Bool) (rows : List Row) (options : AskOptions) : Type 0 where
  pub indexes : map string_bytes options.indexes.items ≡ indexes_of rows
  pub asked : string_bytes options.asked ≡ asked_of options.verb rows
  pub root : option_map string_bytes options.root ≡ root_of rows
  pub json : options.json ≡ json_in rows
  pub explain : options.explain ≡ explains_in on_terminal rows

-- and so the options of `dump`
pub record CarriesDump (on_terminal : Bool) (rows : List Row) (options : DumpOptions) : Type 0 where
  pub dialect : options.dialect ≡ dialect_of rows
  pub explain : options.explain ≡ explains_in on_terminal rows

-- and those of `snapshot`
pub record CarriesSnapshot (on_terminal : Bool) (rows : List Row) (options : SnapshotOptions) : Type 0 where
  pub indexes : map string_bytes options.indexes.items ≡ indexes_of rows
  pub root : string_bytes options.root ≡ text_of (codes "ROOT") rows
  pub to : option_map string_bytes options.to ≡ to_of rows
  pub explain : options.explain ≡ explains_in on_terminal rows

-- and those of `pages`
pub record CarriesPages (on_terminal : Bool) (rows : List Row) (options : PagesOptions) : Type 0 where
  pub indexes : map string_bytes options.indexes.items ≡ indexes_of rows
  pub root : string_bytes options.root ≡ text_of (codes "ROOT") rows
  pub out : string_bytes options.out ≡ text_of (codes "OUT") rows
  pub explain : options.explain ≡ explains_in on_terminal rows

-- and those of `join`
pub record CarriesJoin (on_terminal : Bool) (rows : List Row) (options : JoinOptions) : Type 0 where
  pub out : string_bytes options.out ≡ text_of (codes "OUT") rows
  pub indexes : map string_bytes options.indexes.items ≡ texts_of (codes "INDEX") rows
  pub project_root : option_map string_bytes options.project_root ≡ joined_root_of rows
  pub replace : options.replace ≡ replaces_in rows
  pub sync : options.sync ≡ sync_in rows
  pub explain : options.explain ≡ explains_in on_terminal rows
