use Rattle.std.proofs.Common.{length, ap, sym, ◌∙◌, subst}
use Rattle.proto_visibility.specs.Reaches.{descriptor_path}
use Rattle.proto_visibility.specs.Tables.OptionTables.{AreAnswers, AreFirstEnds}
use Rattle.proto_visibility.proofs.OptionLemmas.{no_options, all_options, ends_within, reversed_within}
use Rattle.proto_visibility.proofs.options.options_of.Goals as goal

pub first_ends-requires-clause-ends : goal.first_ends-requires-clause-ends
first_ends-requires-clause-ends c =
    ends_within c.args.files.now c.args.table.now c.as_slice.result.now c.in_ok-ends.ends.items
    c.as_slice-2.result.now c.requires.table (ap length c.as_slice.ensures.value ∙ c.in_ok-back.ensures.one_each)
    c.in_ok-ends.ensures.each c.as_slice-2.ensures.value

pub first_ends-requires-2-clause-ends : goal.first_ends-requires-2-clause-ends
first_ends-requires-2-clause-ends c =
    reversed_within c.args.files.now c.args.table.now c.as_slice-3.result.now c.in_ok-ends.ends.items
    c.as_slice-4.result.now c.requires.table (ap length c.as_slice-3.ensures.value ∙ c.in_ok-back.ensures.one_each)
    c.in_ok-ends.ensures.each (c.as_slice-4.ensures.value ∙ c.reverse.ensures.items)

pub returns-then-not-link_options : goal.returns-then-not-link_options
returns-then-not-link_options c =
    no_options c.args.files.now (sym c.link_options.ensures ∙ c.if-not-link_options.true) c.new.result.items
    c.new.ensures.items

pub returns : goal.returns
returns c =
    let back = c.in_ok-back.back.items in
    let ends = c.in_ok-ends.ends.items in
    let firsts = c.in_ok-firsts.firsts.items in
    let lasts = c.in_ok-lasts.lasts.items in
    all_options c.args.files.now c.args.table.now back ends firsts lasts c.built_in_file-built_in.result
    c.in_ok-known.known.items c.requires.table c.in_ok-back.ensures c.in_ok-ends.ensures.each
    c.in_ok-ends.ensures.in_order
    (subst (λ xs. AreFirstEnds back xs firsts) c.as_slice-2.ensures.value
    (subst (λ ts. AreFirstEnds ts c.as_slice-2.result.now firsts) c.as_slice.ensures.value c.in_ok-firsts.ensures))
    (subst (λ xs. AreFirstEnds back xs lasts) (c.as_slice-4.ensures.value ∙ c.reverse.ensures.items)
    (subst (λ ts. AreFirstEnds ts c.as_slice-4.result.now lasts) c.as_slice-3.ensures.value c.in_ok-lasts.ensures))
    (λ number. (
      λ at. (c.requires.numbers descriptor_path number).0 (sym c.built_in_file-built_in.ensures ∙ at),
      λ path. c.built_in_file-built_in.ensures ∙ (c.requires.numbers descriptor_path number).1 path,
    ))
    (subst (λ xs. AreAnswers firsts xs c.built_in_file-built_in.result c.in_ok-known.known.items) c.as_slice-6.ensures.value
    (subst (λ xs. AreAnswers xs c.as_slice-6.result.now c.built_in_file-built_in.result c.in_ok-known.known.items)
    c.as_slice-5.ensures.value c.in_ok-known.ensures))
