use Rattle.std.proofs.Common.{◌∙◌, rules, sym}
use Rattle.scip_build.proofs.OptionReadingLemmas.{beside_from, derives_all, lexing_in}
use Rattle.scip_build.proofs.file_parsing.facts_of.Goals as goal

pub beside_if_asked-requires-clause-derives : goal.beside_if_asked-requires-clause-derives
beside_if_asked-requires-clause-derives c = λ asked.
    derives_all c.args.dialect c.args.form.options (sym c.asks_options-asked.ensures ∙ asked) _ _ _
    c.in-Ok-parse_with.ensures.found

pub returns : goal.returns
returns c =
    let dialect = c.args.dialect in
    let bytes = c.args.text.now in
    let lexed = c.in-Ok.lexed in
    let has = lexing_in dialect c.hashes.result bytes lexed c.hashes.ensures c.requires c.in-Ok.ensures.text
    c.in-Ok.ensures.found (search rules) in (
      record {
        lexed = lexed;
        tree = c.in-Ok-parse_with.tree;
        lexing = has;
        derives = c.in-Ok-parse_with.ensures.found;
        of_tree = search rules;
      },
      beside_from dialect c.args.form.options c.asks_options-asked.result c.args.is_included bytes lexed
          c.in_ok-beside.beside c.asks_options-asked.ensures c.in_ok-beside.ensures.given has,
    )
