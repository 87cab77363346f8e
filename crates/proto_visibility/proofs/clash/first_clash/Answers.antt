use Rattle.std.proofs.Common.{◌≡◌, ◌<◌, ℕ, List, Some, None, MatchOption, is_some, cond, length, refl, ap, sym, ◌∙◌}
use Rattle.std.proofs.Common.{subst, arith}
use Rattle.std.specs.List.{Contains, slice_get}
use Rattle.std.specs.Str.{bytes_eq}
use Rattle.std.proofs.lemmas.Option.{slice_get_read}
use Rattle.proto_visibility.specs.Clashes.{Before, Item, ClashBy}
use Rattle.proto_visibility.specs.Tables.ClashTables.{HasNone, IsFirstNamed, index_in}
use Rattle.proto_visibility.proofs.ClashLemmas.{none_clash_more, is_clash, no_clash, first_more}
use Rattle.proto_visibility.proofs.clash.first_clash.Goals as goal

pub returns-in-Some : goal.returns-in-Some
returns-in-Some c =
    let items = c.args.items.now in
    let item = c.index-items-index.result in
    let index = c.loop-index.index in
    let names = c.loop-index.names in
    let first = c.in_ok-first.first in
    let within : index < length items = omega arith in
    let stands : slice_get items index ≡ Some item =
    slice_get_read items (length items) index item refl within c.index-items-index.is in
    let name = c.copy-name.ensures ∙ ap (λ (i : Item). i.full_name) c.item.view_is in
    let found = c.in_ok-first.ensures.found ∙ ap (index_in names) name in
    let is = subst (λ o. MatchOption o (HasNone items index item.full_name) (IsFirstNamed items index item.full_name))
    (sym found) (c.loop-index.invariant.first item.full_name) in
    subst (ClashBy Before (Contains items) c.in-Some.earlier) (sym (ap (λ (i : Item). i.place) c.item.view_is))
    (is_clash items index item first c.in-Some.earlier c.requires stands is
    (sym c.in-Some.ensures) c.loop-index.invariant.clear)

pub loop-index-preserved : goal.loop-index-preserved
loop-index-preserved c =
    let items = c.args.items.now in
    let item = c.index-items-index.result in
    let index = c.loop-index.index in
    let names = c.loop-index.names in
    let new = c.first_named.new.names in
    let first = c.in_ok-first.first in
    let within : index < length items = omega arith in
    let stands : slice_get items index ≡ Some item =
    slice_get_read items (length items) index item refl within c.index-items-index.is in
    let name = c.copy-name.ensures ∙ ap (λ (i : Item). i.full_name) c.item.view_is in
    let found = c.in_ok-first.ensures.found ∙ ap (index_in names) name in
    let is = subst (λ o. MatchOption o (HasNone items index item.full_name) (IsFirstNamed items index item.full_name))
    (sym found) (c.loop-index.invariant.first item.full_name) in
    let kept = λ (other : List ℕ). subst
    (λ n. index_in new other
    ≡ cond (is_some first) (index_in names other) (cond (bytes_eq n other) (Some index) (index_in names other)))
    name (c.in_ok-first.ensures.kept other) in
    record {
      first = first_more items index item first names new stands found kept c.loop-index.invariant.first;
      clear = none_clash_more items index item first stands is
          (λ place e. (let wrong : None ≡ Some place = c.in_default.ensures ∙ e in absurd (cc)))
          c.loop-index.invariant.clear;
    }

pub returns : goal.returns
returns c = no_clash c.args.items.now c.loop-index.index c.requires (omega arith) c.loop-index.invariant.clear
