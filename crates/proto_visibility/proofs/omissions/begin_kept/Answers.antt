use Rattle.std.proofs.Common.{◌≡◌, ◌<◌, Some, length, refl, sym, ◌∙◌, arith}
use Rattle.std.specs.List.{slice_get}
use Rattle.std.proofs.lemmas.Bool.{false≢true}
use Rattle.std.proofs.lemmas.Option.{slice_get_read}
use Rattle.proto_visibility.specs.Tables.Passes.{IsKeptSource}
use Rattle.proto_visibility.proofs.SeeingReachableLemmas.{begun_none, begun_skip, begun_more, begun_all}
use Rattle.proto_visibility.proofs.SeeingReachableLemmas.{source_from, no_source_from}
use Rattle.proto_visibility.proofs.OmissionLemmas.{kept_source_within}
use Rattle.proto_visibility.proofs.omissions.begin_kept.Goals as goal

pub loop-number-init : goal.loop-number-init
loop-number-init c = record {
  files = c.requires.files;
  begun = begun_none (IsKeptSource c.args.files.now c.args.omissions.now) c.args.table.now c.args.search.now.numbers;
}

pub loop-number-preserved-then-not-is_source : goal.loop-number-preserved-then-not-is_source
loop-number-preserved-then-not-is_source c =
    let files = c.args.files.now in
    let file = c.index-files-number.result in
    let number = c.loop-number.number in
    let within : number < length files = omega arith in
    let stands : slice_get files number ≡ Some file =
    slice_get_read files (length files) number file refl within c.index-files-number.is in
    record {
      files = c.loop-number.invariant.files;
      begun = begun_skip (IsKeptSource files c.args.omissions.now) c.args.table.now number
          c.args.search.now.numbers c.loop-number.search.numbers
          (λ is. no_source_from files number file stands (sym c.is_source.ensures ∙ c.if-not-is_source.true) is.0)
          c.loop-number.invariant.begun;
    }

pub loop-number-preserved-then-not-is_kept : goal.loop-number-preserved-then-not-is_kept
loop-number-preserved-then-not-is_kept c = record {
  files = c.loop-number.invariant.files;
  begun = begun_skip (IsKeptSource c.args.files.now c.args.omissions.now) c.args.table.now c.loop-number.number
      c.args.search.now.numbers c.loop-number.search.numbers
      (λ is. false≢true (sym c.if-not-is_kept.true ∙ c.is_kept.ensures.1 is.1)) c.loop-number.invariant.begun;
}

pub begin-requires-clause-within : goal.begin-requires-clause-within
begin-requires-clause-within c = c.requires.table.within

pub begin-requires-clause-files : goal.begin-requires-clause-files
begin-requires-clause-files c = c.loop-number.invariant.files

pub begin-requires-clause-file : goal.begin-requires-clause-file
begin-requires-clause-file c = omega (arith, c.requires.table.one_each)

pub loop-number-preserved : goal.loop-number-preserved
loop-number-preserved c =
    let files = c.args.files.now in
    let file = c.index-files-number.result in
    let number = c.loop-number.number in
    let within : number < length files = omega arith in
    let stands : slice_get files number ≡ Some file =
    slice_get_read files (length files) number file refl within c.index-files-number.is in
    record {
      files = c.in_ok-begin.ensures.files ∙ c.loop-number.invariant.files;
      begun = begun_more (IsKeptSource files c.args.omissions.now) c.args.table.now number
          c.args.search.now.numbers c.loop-number.search.numbers c.begin.new.search.numbers (
            source_from files number file stands (sym c.is_source.ensures ∙ c.if-not-is_source.false),
            c.is_kept.ensures.0 c.if-not-is_kept.false,
          )
          c.in_ok-begin.ensures.begun c.loop-number.invariant.begun;
    }

pub returns-clause-begun : goal.returns-clause-begun
returns-clause-begun c =
    let files = c.args.files.now in
    begun_all (IsKeptSource files c.args.omissions.now) files c.args.table.now c.loop-number.number
    c.args.search.now.numbers c.loop-number.search.numbers (kept_source_within files c.args.omissions.now) (omega arith)
    c.loop-number.invariant.begun
