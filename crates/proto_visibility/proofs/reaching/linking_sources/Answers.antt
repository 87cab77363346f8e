use Rattle.std.proofs.Common.{◌≡◌, ◌<◌, ◌+◌, Some, length, refl, sym, ◌∙◌, subst, arith}
use Rattle.std.specs.List.{slice_get}
use Rattle.std.proofs.lemmas.Option.{slice_get_read}
use Rattle.proto_visibility.specs.Tables.OptionTables.{IsLinkingSource}
use Rattle.proto_visibility.proofs.SeeingReachableLemmas.{source_within}
use Rattle.proto_visibility.proofs.ReachingLemmas.{linking_from, no_linking_from}
use Rattle.proto_visibility.proofs.ThoseLemmas.{AreThoseUpTo, those_none, those_skip, those_more, those_all}
use Rattle.proto_visibility.proofs.reaching.linking_sources.Goals as goal

pub loop-number-init : goal.loop-number-init
loop-number-init c =
    subst (AreThoseUpTo (IsLinkingSource c.args.files.now) 0) (sym c.new-numbers.ensures.items)
    (those_none (IsLinkingSource c.args.files.now))

pub loop-number-preserved-then-not-is_linking_source : goal.loop-number-preserved-then-not-is_linking_source
loop-number-preserved-then-not-is_linking_source c =
    let files = c.args.files.now in
    let file = c.index-files-number.result in
    let number = c.loop-number.number in
    let within : number < length files = omega arith in
    let stands : slice_get files number ≡ Some file =
    slice_get_read files (length files) number file refl within c.index-files-number.is in
    those_skip (IsLinkingSource files) number c.loop-number.numbers.items
    (no_linking_from files number file stands (sym c.is_linking_source.ensures ∙ c.if-not-is_linking_source.true))
    c.loop-number.invariant

pub loop-number-preserved : goal.loop-number-preserved
loop-number-preserved c =
    let files = c.args.files.now in
    let file = c.index-files-number.result in
    let number = c.loop-number.number in
    let within : number < length files = omega arith in
    let stands : slice_get files number ≡ Some file =
    slice_get_read files (length files) number file refl within c.index-files-number.is in
    subst (AreThoseUpTo (IsLinkingSource files) (number + 1)) (sym c.in_ok-push.ensures.items)
    (those_more (IsLinkingSource files) number c.loop-number.numbers.items
    (linking_from files number file stands (sym c.is_linking_source.ensures ∙ c.if-not-is_linking_source.false))
    c.loop-number.invariant)

pub returns : goal.returns
returns c = those_all (IsLinkingSource c.args.files.now) (length c.args.files.now) c.loop-number.number
    c.loop-number.numbers.items (λ number is. source_within c.args.files.now number is.0) (omega arith)
    c.loop-number.invariant
