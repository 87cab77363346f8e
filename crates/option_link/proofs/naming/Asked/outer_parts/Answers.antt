use Rattle.std.proofs.Common.{◌≡◌, ◌+◌, ◌≤◌, [], List, ℕ, length, ap, sym, ◌∙◌, subst, arith}
use Rattle.std.specs.String.{string_bytes}
use Rattle.proto_decl.specs.Names.{components_of}
use Rattle.proto_decl.specs.declared.declaration.Declaration.{Declaration}
use Rattle.option_link.proofs.PartLemmas.{components_within, declared_in_file, none_outer, outer_by}
use Rattle.option_link.specs.Found.{AreOuterEntitiesAt, NamesOuterParts}
use Rattle.option_link.proofs.LoopLemmas.{ok_as}
use Rattle.option_link.proofs.PlaceLemmas.{same_declaration}
use Rattle.option_link.proofs.naming.Asked.outer_parts.Goals as goal

pub overflow_add-all : goal.overflow_add-all
overflow_add-all c =
    let has = c.requires in
    let same = same_declaration c.args.self.files.names.now c.args.place has.declaration c.in-Some.declared.now has.stands
    c.in-Some.ensures.stands in
    let size : length c.as_slice-count.result.now ≡ length c.args.name.now.name.components = ap length
    c.as_slice-count.ensures in
    let few : length c.args.name.now.name.components + c.args.behind
    ≤ length (components_of (string_bytes c.in_ok-full_name-in-Some.full_name)) =
    subst (λ (n : List ℕ). length c.args.name.now.name.components + c.args.behind ≤ length (components_of n))
    (sym (c.in_ok-full_name-in-Some.ensures ∙ ap (λ (d : Declaration). d.full_name) (sym same))) has.few in
    omega (arith, size, few, components_within (string_bytes c.in_ok-full_name-in-Some.full_name))

pub parts_around-requires-clause-declared : goal.parts_around-requires-clause-declared
parts_around-requires-clause-declared c =
    declared_in_file c.args.self.files.names.now c.args.place c.in-Some.declared.now c.as_str.result.now
    c.in-Some.ensures.stands (c.as_str.ensures.value ∙ c.in_ok-full_name-in-Some.ensures)

pub parts_around-requires-clause-some : goal.parts_around-requires-clause-some
parts_around-requires-clause-some c =
    let size : length c.as_slice-count.result.now ≡ length c.args.name.now.name.components = ap length
    c.as_slice-count.ensures in
    omega (arith, c.requires.some, size)

pub parts_around-requires-clause-few : goal.parts_around-requires-clause-few
parts_around-requires-clause-few c =
    let files = c.args.self.files.names.now in
    let has = c.requires in
    let behind = c.args.behind in
    let same = same_declaration files c.args.place has.declaration c.in-Some.declared.now has.stands
    c.in-Some.ensures.stands in
    let size : length c.as_slice-count.result.now ≡ length c.args.name.now.name.components = ap length
    c.as_slice-count.ensures in
    let few : length c.args.name.now.name.components + behind ≤ length (components_of c.as_str.result.now) =
    subst (λ (n : List ℕ). length c.args.name.now.name.components + behind ≤ length (components_of n))
    (sym (c.as_str.ensures.value ∙ (c.in_ok-full_name-in-Some.ensures ∙ ap (λ (d : Declaration). d.full_name)
    (sym same)))) has.few in
    omega (arith, size, few)

pub returns-then-count-eq1 : goal.returns-then-count-eq1
returns-then-count-eq1 c =
    let has = c.requires in
    let one : length c.args.name.now.name.components ≡ 1 =
    sym (ap length c.as_slice-count.ensures) ∙ c.if-count-eq1.true in
    let files = c.args.self.files.names.now in
    let name = c.args.name.now in
    let place = c.args.place in
    let behind = c.args.behind in
    ok_as c.with_capacity.result (λ parts. parts.items ≡ [])
    (λ parts. NamesOuterParts files name place behind parts.items)
    (λ parts none. subst (NamesOuterParts files name place behind) (sym none)
    (none_outer files name place behind has.declaration has.stands one has.few)) c.with_capacity.ensures.items

pub returns-in_ok-parts-in-Some : goal.returns-in_ok-parts-in-Some
returns-in_ok-parts-in-Some c =
    let files = c.args.self.files.names.now in
    let name = c.args.name.now in
    let place = c.args.place in
    let behind = c.args.behind in
    let d = c.in-Some.declared.now in
    let stands = c.in-Some.ensures.stands in
    let has = c.requires in
    let same = same_declaration files place has.declaration d has.stands stands in
    let count = length c.as_slice-count.result.now in
    let size : count ≡ length name.name.components = ap length c.as_slice-count.ensures in
    let few : length name.name.components + behind ≤ length (components_of d.full_name) =
    subst (λ (e : Declaration). length name.name.components + behind ≤ length (components_of e.full_name)) same has.few
    in
    let named : c.as_str.result.now ≡ d.full_name = c.as_str.ensures.value ∙ c.in_ok-full_name-in-Some.ensures in
    let all = c.in_ok-parts-in-Some.parts.items in
    outer_by files name place behind d stands count size (omega (arith, has.some, size)) (omega (arith, few, size)) all
    (subst (λ (n : List ℕ). AreOuterEntitiesAt files place.file n (count + behind) all) named
    c.in_ok-parts-in-Some.ensures) c.truncate.new.self.items c.truncate.ensures.items

pub returns-in-None : goal.returns-in-None
returns-in-None c = absurd (c.in-None.ensures.stands c.requires.declaration c.requires.stands)
