use Rattle.std.proofs.Common.{◌∙◌, ◌++◌, ap, map, append_assoc}
use Rattle.clap.specs.Words.{rule_of}
use Rattle.command_line.specs.Options.{tree_rules}
use Rattle.command_line.proofs.ProgramRuleLemmas.{rules_more}
use Rattle.command_line.proofs.options.add_index_options.Goals as goal

pub returns : goal.returns
returns c =
    let tree = tree_rules c.args.lists in
    c.in_ok-add_tree_options.ensures
    ∙ ap (λ l. l ++ tree) (rules_more _ _ _ c.in_ok-append.ensures.items c.in_ok-own_options.ensures)
    ∙ append_assoc (map rule_of c.args.args.now.items) _ tree
