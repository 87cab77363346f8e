use Rattle.std.proofs.Common.{◌≡◌, ◌<◌, ◌++◌, ◌∷◌, [], List, ℕ, Some, cond, length, refl, subst, arith}
use Rattle.std.specs.List.{slice_get}
use Rattle.std.specs.Str.{bytes_eq}
use Rattle.std.proofs.lemmas.Option.{slice_get_read}
use Rattle.proto_visibility.specs.Tables.GivenNames.{owned_at}
use Rattle.proto_visibility.proofs.NameLemmas.{IsPrefixAt, up_to_more, up_to_all, prefix_here, prefixes_all}
use Rattle.proto_visibility.proofs.NameLemmas.{prefix_at_within, order_more, prefixes_behind}
use Rattle.proto_visibility.proofs.names.add_prefixes.Goals as goal

pub loop-prefix-preserved : goal.loop-prefix-preserved
loop-prefix-preserved c =
    let prefixes = c.args.prefixes.now in
    let prefix = c.prefix-item.result in
    let index = c.loop-prefix.prefix-index in
    let now = owned_at c.loop-prefix.names in
    let new = owned_at c.add_prefix.new.names in
    let within : index < length prefixes = omega arith in
    let stands : slice_get prefixes index ≡ Some prefix =
    slice_get_read prefixes (length prefixes) index prefix refl within c.prefix-item.is in
    let after = λ (name : List ℕ). subst
    (λ key. new name ≡ cond (bytes_eq key name) (now name ++ c.args.number ∷ []) (now name)) c.as_str.ensures
    (c.in_ok-add_prefix.ensures name) in
    record {
      has = up_to_more (owned_at c.args.names.now) (IsPrefixAt c.args.number prefixes) now new index
          (prefix_here c.args.number prefixes index prefix stands now new after) c.loop-prefix.invariant.has;
      order = order_more now new prefix c.args.number after
          (prefixes_behind c.args.number prefixes index
          (owned_at c.args.names.now) now c.loop-prefix.invariant.has c.requires.behind) c.loop-prefix.invariant.order;
    }

pub returns-clause-files : goal.returns-clause-files
returns-clause-files c =
    let prefixes = c.args.prefixes.now in
    let old = owned_at c.args.names.now in
    let new = owned_at c.loop-prefix.names in
    prefixes_all c.args.number prefixes old new
    (up_to_all old (IsPrefixAt c.args.number prefixes) new c.loop-prefix.prefix-index (length prefixes)
    (omega arith) (prefix_at_within c.args.number prefixes) c.loop-prefix.invariant.has)
