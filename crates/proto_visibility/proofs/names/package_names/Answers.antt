use Rattle.std.proofs.Common.{◌≡◌, ◌<◌, ◌↔◌, ◌⊎◌, [], List, ℕ, Some, length, refl, subst, arith}
use Rattle.std.specs.List.{Contains, slice_get}
use Rattle.std.proofs.lemmas.Option.{slice_get_read}
use Rattle.proto_visibility.specs.Tables.GivenNames.{owned_at}
use Rattle.proto_visibility.proofs.NameLemmas.{HasPrefixOf, up_to_more, up_to_all, from_nothing, prefixes_of_file}
use Rattle.proto_visibility.proofs.NameLemmas.{prefix_within, of_prefixes, files_behind}
use Rattle.proto_visibility.proofs.names.package_names.Goals as goal

pub loop-number-preserved : goal.loop-number-preserved
loop-number-preserved c =
    let prefixes = c.args.prefixes.now in
    let its = c.index-prefixes-number.result in
    let number = c.loop-number.number in
    let now = owned_at c.loop-number.names in
    let new = owned_at c.add_prefixes.new.names in
    let within : number < length prefixes = omega arith in
    let stands : slice_get prefixes number ≡ Some its =
    slice_get_read prefixes (length prefixes) number its refl within c.index-prefixes-number.is in
    let more = subst (λ (texts : List (List ℕ)). (name : List ℕ) (other : ℕ) → Contains (new name) other
    ↔ (Contains (now name) other ⊎ ((other ≡ number) × Contains texts name))) c.as_slice.ensures
    c.in_ok-add_prefixes.ensures.files in
    record {
      has = up_to_more (λ name. []) (HasPrefixOf prefixes) now new number
          (prefixes_of_file prefixes number its now new stands more) c.loop-number.invariant.has;
      order = c.in_ok-add_prefixes.ensures.order;
    }

pub add_prefixes-requires-clause-behind : goal.add_prefixes-requires-clause-behind
add_prefixes-requires-clause-behind c =
    files_behind c.args.prefixes.now c.loop-number.number (owned_at c.loop-number.names) c.loop-number.invariant.has

pub returns-clause-files : goal.returns-clause-files
returns-clause-files c =
    let prefixes = c.args.prefixes.now in
    let now = owned_at c.loop-number.names in
    of_prefixes prefixes now
    (from_nothing now (HasPrefixOf prefixes)
    (up_to_all (λ name. []) (HasPrefixOf prefixes) now c.loop-number.number (length prefixes) (omega arith)
    (prefix_within prefixes) c.loop-number.invariant.has))
