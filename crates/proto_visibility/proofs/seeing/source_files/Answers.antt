use Rattle.std.proofs.Common.{◌≡◌, ◌↔◌, ◌<◌, ◌+◌, ℕ, List, Some, length, eqb, refl, sym, ◌∙◌, subst, arith}
use Rattle.std.specs.List.{Contains, IsDistinct, slice_get}
use Rattle.std.proofs.lemmas.Option.{slice_get_read}
use Rattle.proto_visibility.specs.Files.{IsSource}
use Rattle.proto_visibility.proofs.SeeingReachableLemmas.{source_from, no_source_from, source_within}
use Rattle.proto_visibility.proofs.ThoseLemmas.{AreThoseUpTo, those_none, those_skip, those_more, those_all}
use Rattle.proto_visibility.proofs.seeing.source_files.Goals as goal

pub loop-number-init : goal.loop-number-init
loop-number-init c =
    subst (AreThoseUpTo (IsSource c.args.files.now) 0) (sym c.new-numbers.ensures.items)
    (those_none (IsSource c.args.files.now))

pub loop-number-preserved-then-not-is_source : goal.loop-number-preserved-then-not-is_source
loop-number-preserved-then-not-is_source c =
    let files = c.args.files.now in
    let file = c.index-files-number.result in
    let number = c.loop-number.number in
    let within : number < length files = omega arith in
    let stands : slice_get files number ≡ Some file =
    slice_get_read files (length files) number file refl within c.index-files-number.is in
    those_skip (IsSource files) number c.loop-number.numbers.items
    (no_source_from files number file stands (sym c.is_source.ensures ∙ c.if-not-is_source.true))
    c.loop-number.invariant

pub loop-number-preserved : goal.loop-number-preserved
loop-number-preserved c =
    let files = c.args.files.now in
    let file = c.index-files-number.result in
    let number = c.loop-number.number in
    let within : number < length files = omega arith in
    let stands : slice_get files number ≡ Some file =
    slice_get_read files (length files) number file refl within c.index-files-number.is in
    subst (AreThoseUpTo (IsSource files) (number + 1)) (sym c.in_ok-push.ensures.items)
    (those_more (IsSource files) number c.loop-number.numbers.items
    (source_from files number file stands (sym c.is_source.ensures ∙ c.if-not-is_source.false))
    c.loop-number.invariant)

pub of-requires : goal.of-requires
of-requires c = subst (IsDistinct eqb) (sym c.as_slice.ensures.value) c.loop-number.invariant.distinct

pub returns : goal.returns
returns c = λ number.
    let sources = those_all (IsSource c.args.files.now) (length c.args.files.now) c.loop-number.number
    c.loop-number.numbers.items (source_within c.args.files.now) (omega arith) c.loop-number.invariant number in
    let same = subst (λ (xs : List ℕ). Contains c.in_ok-sources.sources number ↔ Contains xs number)
    c.as_slice.ensures.value (c.in_ok-sources.ensures number) in (
      λ there. sources.0 (same.0 there),
      λ is. same.1 (sources.1 is),
    )
