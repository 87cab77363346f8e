-- The programs of the command line with their arguments and options, as the rules of the crate `clap`
-- see them.
use Rattle.std.specs.Prelude.{Bool, List, [], ◌∷◌, true, codes}
use Rattle.std.specs.List.{list_all}
use Rattle.clap.specs.Words.{App, Rule, Shape, Text, new_app, with_rule, with_subcommand}
use Rattle.command_line.specs.Arguments.{optional_rule, repeated, required_rule}
use Rattle.command_line.specs.Options.{index_option_rules, tree_rules}
use Rattle.command_line.specs.Options.Accept.{accept_rule}
use Rattle.command_line.specs.Options.Also.{also_rule}
use Rattle.command_line.specs.Options.CustomOptions.{custom_options_rule}
use Rattle.command_line.specs.Options.Explain.{explain_rule, unexplained_rule}
use Rattle.command_line.specs.Options.JoinedRoot.{joined_root_rule}
use Rattle.command_line.specs.Options.Json.{json_rule}
use Rattle.command_line.specs.Options.More.{more_rule}
use Rattle.command_line.specs.Options.Replace.{replace_rule}
use Rattle.command_line.specs.Options.Root.{root_rule}
use Rattle.command_line.specs.Options.Sync.{sync_rule}
use Rattle.command_line.specs.Options.To.{to_rule}
use Rattle.command_line.specs.Verbs.{argument_of, name_of}
use Rattle.command_line.specs.declared.verb.Verb.{Verb}
use Rattle.command_line.specs.declared.verb.Verb.TheVariants.{Def, Ref, Hover, Outline, Find, Stats, Lint}
use Rattle.command_line.specs.declared.options.WordLists.{WordLists}

abbrev pub with_rules : App → List Rule → App
with_rules a [] = a
with_rules a (rule ∷ rules) = with_rules (with_rule a rule) rules

-- none has a setting that changes how words are read, or is one of the programs below, too
abbrev pub are_simple : List Rule → Bool
are_simple rules = list_all (λ (rule : Rule). rule.is_simple) rules

-- a program by its name, arguments and options
abbrev pub line_of : Text → List Rule → Shape
line_of name rules = (with_rules (new_app name) rules).top

abbrev pub index_rules : WordLists → List Rule
index_rules lists = required_rule (codes "ROOT") ∷ required_rule (codes "OUT") ∷ index_option_rules lists

abbrev pub index_line : WordLists → Shape
index_line lists = line_of (codes "index") (index_rules lists)

-- `shell` wants the folder alone, and has an option of its own
abbrev pub shell_rules : WordLists → List Rule
shell_rules lists = required_rule (codes "ROOT") ∷ more_rule ∷ tree_rules lists

abbrev pub shell_line : WordLists → Shape
shell_line lists = line_of (codes "shell") (shell_rules lists)

-- `query` wants the paths of one index or more
abbrev pub query_line : Shape
query_line =
    line_of (codes "query")
    (repeated (required_rule (codes "INDEX")) ∷ more_rule ∷ json_rule ∷ explain_rule ∷ unexplained_rule ∷ [])

-- what asks in one line wants the path of an index, and what is asked about
abbrev pub ask_line : Verb → Shape
ask_line verb =
    line_of (name_of verb)
    (required_rule (codes "INDEX")
    ∷ required_rule (argument_of verb)
    ∷ also_rule
    ∷ root_rule
    ∷ json_rule
    ∷ explain_rule
    ∷ unexplained_rule
    ∷ [])

-- what says how much an index has, or what is wrong with it, wants its path alone
abbrev pub survey_line : Verb → Shape
survey_line verb =
    line_of (name_of verb)
    (required_rule (codes "INDEX") ∷ also_rule ∷ json_rule ∷ explain_rule ∷ unexplained_rule ∷ [])

-- and `print` may have the path of a document
abbrev pub print_line : Shape
print_line =
    line_of (codes "print")
    (required_rule (codes "INDEX")
    ∷ optional_rule (codes "PATH")
    ∷ also_rule
    ∷ json_rule
    ∷ explain_rule
    ∷ unexplained_rule
    ∷ [])

-- `snapshot` wants the path of an index, and the folder with its sources; the paths of further indexes are an option's
abbrev pub snapshot_line : Shape
snapshot_line =
    line_of (codes "snapshot")
    (required_rule (codes "INDEX")
    ∷ required_rule (codes "ROOT")
    ∷ also_rule
    ∷ to_rule
    ∷ explain_rule
    ∷ unexplained_rule
    ∷ [])

-- `pages` wants a folder for them, too
abbrev pub pages_line : Shape
pages_line =
    line_of (codes "pages")
    (required_rule (codes "INDEX")
    ∷ required_rule (codes "ROOT")
    ∷ required_rule (codes "OUT")
    ∷ also_rule
    ∷ explain_rule
    ∷ unexplained_rule
    ∷ [])

-- `join` wants the path of a file for the index, and then the paths of one index or more
abbrev pub join_line : Shape
join_line =
    line_of (codes "join")
    (required_rule (codes "OUT")
    ∷ repeated (required_rule (codes "INDEX"))
    ∷ joined_root_rule
    ∷ replace_rule
    ∷ sync_rule
    ∷ explain_rule
    ∷ unexplained_rule
    ∷ [])

abbrev pub dump_line : WordLists → Shape
dump_line lists =
    line_of (codes "dump")
    (accept_rule lists.accept ∷ custom_options_rule lists.custom_options ∷ explain_rule ∷ unexplained_rule ∷ [])

-- `protoscip` has a version and wants a program
abbrev pub no_program : App
no_program =
    let plain = (new_app (codes "protoscip")).top in
    record { top = record plain { has_version = true; subcommand_required = true }; subs = [] }

-- the programs that ask in one line
abbrev pub with_asking : App → App
with_asking app =
    with_subcommand (with_subcommand (with_subcommand (with_subcommand (with_subcommand app (ask_line Def))
    (ask_line Ref)) (ask_line Hover)) (ask_line Outline)) (ask_line Find)

-- those that tell of an index as a whole
abbrev pub with_surveying : App → App
with_surveying app =
    with_subcommand (with_subcommand (with_subcommand app (survey_line Stats)) print_line) (survey_line Lint)

abbrev pub command_line : WordLists → App
command_line lists =
    with_surveying (with_asking (with_subcommand (with_subcommand (with_subcommand (with_subcommand (with_subcommand
    (with_subcommand (with_subcommand no_program (index_line lists)) (shell_line lists)) query_line) snapshot_line)
    pages_line) join_line) (dump_line lists)))
