use Rattle.std.proofs.Common.{◌∙◌, ◌++◌, ap, map, append_assoc}
use Rattle.clap.specs.Words.{rule_of}
use Rattle.command_line.specs.Options.{choice_rules, reading_rules, search_rules, setting_rules}
use Rattle.command_line.proofs.ProgramRuleLemmas.{rules_more}
use Rattle.command_line.proofs.options.add_tree_options.Goals as goal

pub returns : goal.returns
returns c =
    let choices = choice_rules c.args.lists in
    let readings = reading_rules c.args.lists in
    let search = search_rules c.args.lists in
    let old = map rule_of c.args.args.now.items in
    rules_more _ _ _ c.in_ok-append-4.ensures.items c.in_ok-searching.ensures
    ∙ ap (λ l. l ++ search) (rules_more _ _ _ c.in_ok-append-3.ensures.items c.in_ok-readings.ensures
    ∙ ap (λ l. l ++ readings) (rules_more _ _ _ c.in_ok-append-2.ensures.items c.in_ok-choices.ensures
    ∙ ap (λ l. l ++ choices) (rules_more _ _ _ c.in_ok-append.ensures.items c.in_ok-settings.ensures)))
    ∙ append_assoc ((old ++ setting_rules) ++ choices) readings search
    ∙ append_assoc (old ++ setting_rules) choices (readings ++ search)
    ∙ append_assoc old setting_rules (choices ++ (readings ++ search))
