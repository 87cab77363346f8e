use Rattle.std.proofs.Common.{◌≡◌, ◌<◌, ◌+◌, true, false, Some, length, is_some, cond, refl, ap, sym, ◌∙◌, subst, arith}
use Rattle.std.specs.List.{slice_get}
use Rattle.std.specs.Str.{bytes_eq}
use Rattle.std.proofs.lemmas.Bool.{cond-false, false≢true}
use Rattle.std.proofs.lemmas.Option.{slice_get_read}
use Rattle.proto_visibility.specs.Files.{File}
use Rattle.proto_visibility.specs.Tables.ImportTables.{number_in}
use Rattle.proto_visibility.proofs.ImportTableLemmas.{OwnUpTo, numbered_more, own_more, own_all, not_own, no_number}
use Rattle.proto_visibility.proofs.import_table.have_own_paths.Goals as goal

pub returns-then-is_some : goal.returns-then-is_some
returns-then-is_some c =
    let files = c.args.files.now in
    let file = c.index-files-number.result in
    let number = c.loop-number.number in
    let old = c.loop-number.numbers in
    let first = c.in_ok-first.first in
    let within : number < length files = omega arith in
    let stands : slice_get files number ≡ Some file =
    slice_get_read files (length files) number file refl within c.index-files-number.is in
    let path = ap (λ (f : File). f.path) c.file.view_is in
    let found : first ≡ number_in old file.path = c.in_ok-first.ensures.found ∙ ap (number_in old) path in
    let some : is_some first ≡ true = sym c.is_some.ensures ∙ c.if-is_some.true in (
      λ wrong. absurd (false≢true wrong),
      λ own. absurd (not_own files old number file first stands found some c.loop-number.invariant.numbered own),
    )

pub loop-number-preserved : goal.loop-number-preserved
loop-number-preserved c =
    let files = c.args.files.now in
    let file = c.index-files-number.result in
    let number = c.loop-number.number in
    let old = c.loop-number.numbers in
    let new = c.first_at.new.numbers in
    let first = c.in_ok-first.first in
    let within : number < length files = omega arith in
    let stands : slice_get files number ≡ Some file =
    slice_get_read files (length files) number file refl within c.index-files-number.is in
    let path = ap (λ (f : File). f.path) c.file.view_is in
    let found : first ≡ number_in old file.path = c.in_ok-first.ensures.found ∙ ap (number_in old) path in
    let none : is_some first ≡ false = sym c.is_some.ensures ∙ c.if-is_some.false in
    let own : OwnUpTo files (number + 1) =
    own_more files old number file stands
    (no_number first (number_in old file.path) found none) c.loop-number.invariant.numbered
    c.loop-number.invariant.own in
    record {
      numbered = numbered_more files old new number file
          (λ k x h at same. own k number x file h (omega arith) at stands same) stands
          (λ q. subst (λ p. number_in new q ≡ cond (bytes_eq p q) (Some number) (number_in old q)) path
          (c.in_ok-first.ensures.kept q
          ∙ cond-false (is_some first) (number_in old q)
          (cond (bytes_eq c.file.inside.path.now q) (Some number) (number_in old q)) none))
          c.loop-number.invariant.numbered;
      own = own;
    }

pub returns : goal.returns
returns c =
    let own = own_all c.args.files.now c.loop-number.number (omega arith) c.loop-number.invariant.own in
    (λ _. own, λ _. refl)
