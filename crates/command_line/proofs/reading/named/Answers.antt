use Rattle.std.proofs.Common.{◌∙◌, refl, sym, subst, List}
use Rattle.clap.specs.Words.{Row}
use Rattle.command_line.specs.Options.{CarriesIndex, CarriesJoin, CarriesPages, CarriesShell}
use Rattle.command_line.proofs.ValueLemmas.{matches_name, matches_rows}
use Rattle.command_line.proofs.reading.named.Goals as goal

pub returns-in-Some : goal.returns-in-Some
returns-in-Some c =
    let index = c.in-Some.ensures in (
      matches_name _ ∙ index.found.0 refl,
      subst (λ (rows : List Row). CarriesIndex c.args.on_terminal rows c.in_ok-index_request_of.field-0)
          (sym (matches_rows _ _ index.rows)) c.in_ok-index_request_of.ensures,
    )

pub returns-in-Some-subcommand_matches : goal.returns-in-Some-subcommand_matches
returns-in-Some-subcommand_matches c =
    let shell = c.in-Some-subcommand_matches.ensures in (
      matches_name _ ∙ shell.found.0 refl,
      subst (λ (rows : List Row). CarriesShell c.args.on_terminal rows c.in_ok-shell_request_of.field-0)
          (sym (matches_rows _ _ shell.rows)) c.in_ok-shell_request_of.ensures,
    )

pub returns-in-Some-subcommand_matches-4 : goal.returns-in-Some-subcommand_matches-4
returns-in-Some-subcommand_matches-4 c =
    let pages = c.in-Some-subcommand_matches-4.ensures in (
      matches_name _ ∙ pages.found.0 refl,
      subst (λ (rows : List Row). CarriesPages c.args.on_terminal rows c.in_ok-pages_options_of.field-0)
          (sym (matches_rows _ _ pages.rows)) c.in_ok-pages_options_of.ensures,
    )

pub returns-in-Some-subcommand_matches-5 : goal.returns-in-Some-subcommand_matches-5
returns-in-Some-subcommand_matches-5 c =
    let join = c.in-Some-subcommand_matches-5.ensures in (
      matches_name _ ∙ join.found.0 refl,
      subst (λ (rows : List Row). CarriesJoin c.args.on_terminal rows c.in_ok-join_options_of.field-0)
          (sym (matches_rows _ _ join.rows)) c.in_ok-join_options_of.ensures,
    )
