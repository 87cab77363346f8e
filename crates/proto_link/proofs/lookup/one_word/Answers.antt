use Rattle.std.specs.String.{string_bytes}
use Rattle.proto_link.proofs.ResolveLemmas.{AnswersUse, SingleFound, CompoundFound, ok_each, use_extended, single_of_use}
use Rattle.proto_link.proofs.lookup.one_word.Goals as goal

pub returns-then-type_use : goal.returns-then-type_use
returns-then-type_use c =
    let files = c.args.namespace.now in
    let file = c.args.file in
    let type_use = c.args.type_use.now in
    let word = c.args.word.now in
    ok_each (CompoundFound files file string_bytes type_use.is_extended word word type_use.scope)
    (AnswersUse files file type_use string_bytes) c.compound.result c.compound.ensures
    (λ found h. use_extended files file type_use string_bytes found word c.if-type_use.true c.requires.plain
    c.requires.alone h)

pub returns-else-type_use : goal.returns-else-type_use
returns-else-type_use c =
    let files = c.args.namespace.now in
    let file = c.args.file in
    let type_use = c.args.type_use.now in
    let word = c.args.word.now in
    let scope = c.as_str.result.now in
    ok_each (SingleFound files file string_bytes word scope)
    (AnswersUse files file type_use string_bytes) c.single.result c.single.ensures
    (λ found h. single_of_use files file type_use string_bytes c.requires.plain word scope found c.if-type_use.false
    c.requires.alone c.as_str.ensures h)
