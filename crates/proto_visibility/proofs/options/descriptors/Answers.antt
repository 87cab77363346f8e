use Rattle.std.proofs.Common.{◌≡◌, ◌<◌, ◌+◌, Some, length, refl, sym, ◌∙◌, subst, arith}
use Rattle.std.specs.List.{slice_get}
use Rattle.std.proofs.lemmas.Option.{slice_get_read}
use Rattle.proto_visibility.specs.Reaches.{IsDescriptor}
use Rattle.proto_visibility.proofs.OptionLemmas.{descriptor_from, no_descriptor_from, descriptor_within}
use Rattle.proto_visibility.proofs.ThoseLemmas.{AreThoseUpTo, those_none, those_skip, those_more, those_all}
use Rattle.proto_visibility.proofs.options.descriptors.Goals as goal

pub loop-number-init : goal.loop-number-init
loop-number-init c =
    subst (AreThoseUpTo (IsDescriptor c.args.files.now) 0) (sym c.new-numbers.ensures.items)
    (those_none (IsDescriptor c.args.files.now))

pub loop-number-preserved-then-not-has_file_options : goal.loop-number-preserved-then-not-has_file_options
loop-number-preserved-then-not-has_file_options c =
    let files = c.args.files.now in
    let file = c.index-files-number.result in
    let number = c.loop-number.number in
    let within : number < length files = omega arith in
    let stands : slice_get files number ≡ Some file =
    slice_get_read files (length files) number file refl within c.index-files-number.is in
    those_skip (IsDescriptor files) number c.loop-number.numbers.items
    (no_descriptor_from files number file stands (sym c.has_file_options.ensures ∙ c.if-not-has_file_options.true))
    c.loop-number.invariant

pub loop-number-preserved : goal.loop-number-preserved
loop-number-preserved c =
    let files = c.args.files.now in
    let file = c.index-files-number.result in
    let number = c.loop-number.number in
    let within : number < length files = omega arith in
    let stands : slice_get files number ≡ Some file =
    slice_get_read files (length files) number file refl within c.index-files-number.is in
    subst (AreThoseUpTo (IsDescriptor files) (number + 1)) (sym c.in_ok-push.ensures.items)
    (those_more (IsDescriptor files) number c.loop-number.numbers.items
    (descriptor_from files number file stands (sym c.has_file_options.ensures ∙ c.if-not-has_file_options.false))
    c.loop-number.invariant)

pub returns-clause-each : goal.returns-clause-each
returns-clause-each c = those_all (IsDescriptor c.args.files.now) (length c.args.files.now) c.loop-number.number
    c.loop-number.numbers.items (descriptor_within c.args.files.now) (omega arith) c.loop-number.invariant

pub returns-clause-in_order : goal.returns-clause-in_order
returns-clause-in_order c = c.loop-number.invariant.in_order
