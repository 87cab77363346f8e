use Rattle.std.proofs.Common.{◌≡◌, List, length, map, ◌∙◌, ap, arith}
use Rattle.std.specs.String.{string_bytes}
use Rattle.proto_decl.specs.Names.{dotted}
use Rattle.proto_decl.specs.declared.uses.Component.{Component}
use Rattle.proto_link.proofs.ResolveLemmas.{AnswersUse, CompoundFound, ok_each, use_dotted, word_alone, compound_of_use}
use Rattle.proto_link.proofs.lookup.full_name_of_use.Goals as goal

pub returns-then-type_use : goal.returns-then-type_use
returns-then-type_use c =
    use_dotted c.args.namespace.now c.args.file c.args.type_use.now string_bytes c.if_wanted.result
    (string_bytes c.in_ok-words.words) c.if-type_use.true
    (c.in_ok-words.ensures ∙ ap (λ (cs : List Component). dotted (map (λ x. x.name) cs)) c.as_slice-components.ensures)
    c.if_wanted.ensures

pub one_word-requires-clause-alone : goal.one_word-requires-clause-alone
one_word-requires-clause-alone c =
    let size : length c.as_slice-components.result.now ≡ 1 =
    omega (arith, c.in-len1.len_at_least, c.in-len1.len_below) in
    word_alone c.args.type_use.now c.as_slice-components.result.now c.word-item.result c.as_str.result.now
    c.as_slice-components.ensures size c.word-item.is c.as_str.ensures

pub returns-in_ok-words-in-len2-up : goal.returns-in_ok-words-in-len2-up
returns-in_ok-words-in-len2-up c =
    let files = c.args.namespace.now in
    let file = c.args.file in
    let type_use = c.args.type_use.now in
    let text = c.as_str-in-len2-up.result.now in
    let words = c.as_str-in-len2-up-2.result.now in
    ok_each (CompoundFound files file string_bytes type_use.is_extended text words type_use.scope)
    (AnswersUse files file type_use string_bytes) c.compound.result c.compound.ensures
    (λ found h. compound_of_use files file type_use string_bytes c.if-type_use.false c.as_slice-components.result.now
    c.first-item.result text words found c.as_slice-components.ensures c.in-len2-up.len_at_least c.first-item.is
    c.as_str-in-len2-up.ensures (c.as_str-in-len2-up-2.ensures.value ∙ c.in_ok-words-in-len2-up.ensures) h)
