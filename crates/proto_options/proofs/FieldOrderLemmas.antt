-- The names of fields are some of the declared names of a file, in their order: so they start one behind the other.
use Rattle.std.proofs.Common.{◌≡◌, ℕ, zero, suc, ◌+◌, ◌<◌, Option, None, List, [], ◌∷◌, ◌++◌, length, map, get_or}
use Rattle.std.proofs.Common.{refl, ap, sym, subst, arith}
use Rattle.std.specs.List.{flat_map}
use Rattle.std.specs.List.Sorted.{IsStrictlyIncreasing}
use Rattle.std.proofs.lemmas.List.{map-append}
use Rattle.proto_lex.specs.declared.span.Span.{Span}
use Rattle.proto_lex.specs.Lexed.{AreInOrder}
use Rattle.proto_parse.specs.tree.Head.{Head}
use Rattle.proto_parse.specs.tree.Head.TheVariants as head
use Rattle.proto_parse.specs.tree.Leaf.{Leaf}
use Rattle.proto_parse.specs.tree.Leaf.TheVariants as leaf
use Rattle.proto_parse.specs.tree.FileItem.{FileItem}
use Rattle.proto_parse.specs.tree.FileItem.TheVariants as item
use Rattle.proto_parse.specs.tree.File.{File}
use Rattle.proto_parse.specs.Tree.{Body, BlockTree}
use Rattle.proto_parse.specs.Tree.Body.{NoMore, LeafThen, BlockThen}
use Rattle.proto_parse.specs.Parts.{of_leaf, of_body, of_block}
use Rattle.proto_parse.specs.Parts.Part.{BlockPart}
use Rattle.proto_decl.specs.Declares.{file_surrounding, inside_part, in_head, outlines_of}
use Rattle.proto_decl.specs.Walked.{in_leaf, in_body, in_block, in_item}
use Rattle.proto_decl.proofs.OutlinePickLemmas.{heading_names, names-append}
use Rattle.proto_decl.proofs.OutlineOrderLemmas.{order_from}
use Rattle.proto_decl.proofs.WalkedLemmas.{outlines_are}
use Rattle.proto_options.specs.declared.fields.FieldFact.{FieldFact}
use Rattle.proto_options.specs.Fields.{extended_in, fields_by, fields_in, fields_in_item}
use Rattle.proto_options.proofs.FieldLemmas.{no_fields_in_enum, no_fields_in_service}

-- ---- some of all spans, in their order

data Picks : (some all : List Span) → Type 0 where
  nothing : {all : List Span} → Picks [] all
  passed : {span : Span} {some all : List Span} → Picks some all → Picks some (span ∷ all)
  taken : {span : Span} {some all : List Span} → Picks some all → Picks (span ∷ some) (span ∷ all)

beyond : (front : List Span) {some all : List Span} → Picks some all → Picks some (front ++ all)
beyond [] picks = picks
beyond (span ∷ front) picks = passed (beyond front picks)

join : {some all more others : List Span} → Picks some all → Picks more others → Picks (some ++ more) (all ++ others)
join (nothing {all = all}) more = beyond all more
join (passed first) more = passed (join first more)
join (taken first) more = taken (join first more)

abbrev field_names : List FieldFact → List Span
field_names fields = map (λ (fact : FieldFact). fact.name) fields

-- the names of the fields are some of these
abbrev Among : List FieldFact → List Span → Type 0
Among fields spans = Picks (field_names fields) spans

both : (fields others : List FieldFact) {spans more all : List Span} → spans ++ more ≡ all → Among fields spans
    → Among others more → Among (fields ++ others) all
both fields others {spans} {more} are first next =
    subst (Picks (field_names (fields ++ others))) are
    (subst (λ (some : List Span). Picks some (spans ++ more))
    (sym (map-append (λ (fact : FieldFact). fact.name) fields others)) (join first next))

-- ---- of each part of the tree

module _ (text : List ℕ) where
  head_among : (extended : Option ℕ) (surrounding : _) (head : Head)
      → Among (fields_by extended (BlockPart head)) (heading_names (in_head text surrounding head))
  head_among extended surrounding (head.Message heading) = nothing
  head_among extended surrounding (head.Group group) = taken nothing
  head_among extended surrounding (head.Oneof heading) = nothing
  head_among extended surrounding (head.Extend type) = nothing

  leaf_among : (extended : Option ℕ) (surrounding : _) (leaf : Leaf)
      → Among (of_leaf extended_in fields_by extended leaf) (heading_names (in_leaf text surrounding leaf))
  leaf_among extended surrounding (leaf.Enum enum) =
      subst (λ (fields : List FieldFact). Among fields (heading_names (in_leaf text surrounding (leaf.Enum enum))))
      (sym (no_fields_in_enum extended enum)) nothing
  leaf_among extended surrounding (leaf.Field field) = taken nothing
  leaf_among extended surrounding (leaf.MapField field) = taken nothing

  body_among : (extended : Option ℕ) (surrounding : _) (body : Body)
      → Among (of_body extended_in fields_by extended body) (heading_names (in_body text surrounding body))
  body_among extended surrounding NoMore = nothing
  body_among extended surrounding (LeafThen leaf others) =
      both (of_leaf extended_in fields_by extended leaf) (of_body extended_in fields_by extended others)
      (names-append (in_leaf text surrounding leaf) (in_body text surrounding others))
      (leaf_among extended surrounding leaf) (body_among extended surrounding others)
  body_among extended surrounding (BlockThen head inner others) =
      let within = extended_in extended (BlockPart head) in
      let around = inside_part text surrounding (BlockPart head) in
      both (fields_by extended (BlockPart head))
      (of_body extended_in fields_by within inner ++ of_body extended_in fields_by extended others)
      (names-append (in_head text surrounding head) (in_body text around inner ++ in_body text surrounding others))
      (head_among extended surrounding head)
      (both (of_body extended_in fields_by within inner) (of_body extended_in fields_by extended others)
      (names-append (in_body text around inner) (in_body text surrounding others)) (body_among within around inner)
      (body_among extended surrounding others))

  block_among : (extended : Option ℕ) (surrounding : _) (block : BlockTree)
      → Among (of_block extended_in fields_by extended block) (heading_names (in_block text surrounding block))
  block_among extended surrounding block =
      let within = extended_in extended (BlockPart block.head) in
      let around = inside_part text surrounding (BlockPart block.head) in
      both (fields_by extended (BlockPart block.head)) (of_body extended_in fields_by within block.body)
      (names-append (in_head text surrounding block.head) (in_body text around block.body))
      (head_among extended surrounding block.head) (body_among within around block.body)

  item_among : (surrounding : _) (item : FileItem)
      → Among (fields_in_item item) (heading_names (in_item text surrounding item))
  item_among surrounding (item.Block block) = block_among None surrounding block
  item_among surrounding (item.Enum enum) =
      subst (λ (fields : List FieldFact). Among fields (heading_names (in_item text surrounding (item.Enum enum))))
      (sym (no_fields_in_enum None enum)) nothing
  item_among surrounding (item.Service service) =
      subst (λ (fields : List FieldFact). Among fields
      (heading_names (in_item text surrounding (item.Service service))))
      (sym (no_fields_in_service None service)) nothing

  items_among : (surrounding : _) (items : List FileItem)
      → Among (flat_map fields_in_item items) (heading_names (flat_map (in_item text surrounding) items))
  items_among surrounding [] = nothing
  items_among surrounding (item ∷ items) =
      both (fields_in_item item) (flat_map fields_in_item items)
      (names-append (in_item text surrounding item) (flat_map (in_item text surrounding) items))
      (item_among surrounding item) (items_among surrounding items)

-- ---- what is picked of spans in order is in order, and so are its starts

picked_in_order : (place : ℕ) {some all : List Span} → Picks some all → AreInOrder place all → AreInOrder place some
picked_in_order place nothing order = tt
picked_in_order place (passed {span = span} {some = some} picks) order =
    order_from span.end place some (omega (arith, order.0, order.1)) (picked_in_order span.end picks order.2)
picked_in_order place (taken {span = span} picks) order =
    (order.0, order.1, picked_in_order span.end picks order.2)

abbrev starts : List Span → List ℕ
starts spans = map (λ (span : Span). span.start) spans

rises_at : (place : ℕ) (spans : List Span) → AreInOrder place spans → (k j : ℕ) → j ≡ k + 1
    → j < length (starts spans) → get_or (starts spans) k 0 < get_or (starts spans) j 0
rises_at place [] order k j same within = absurd (omega (arith, within))
rises_at place (span ∷ spans) order k zero same within = absurd (omega (arith, same))
rises_at place (span ∷ []) order k (suc j) same within = absurd (omega (arith, within))
rises_at place (span ∷ (next ∷ others)) order zero (suc zero) same within = omega (arith, order.1, order.2.0)
rises_at place (span ∷ (next ∷ others)) order zero (suc (suc j)) same within = absurd (omega (arith, same))
rises_at place (span ∷ (next ∷ others)) order (suc k) (suc j) same within =
    rises_at span.end (next ∷ others) order.2 k j (omega (arith, same)) (omega (arith, within))

starts_rise : (spans : List Span) → AreInOrder 0 spans → IsStrictlyIncreasing (starts spans)
starts_rise spans order k within = rises_at 0 spans order k (k + 1) refl within

starts_are : (fields : List FieldFact)
    → starts (field_names fields) ≡ map (λ (fact : FieldFact). fact.name.start) fields
starts_are [] = refl
starts_are (fact ∷ fields) = ap (λ (ns : List ℕ). fact.name.start ∷ ns) (starts_are fields)

-- where declared names are in order, fields start one behind the other
pub fields_rise : (text : List ℕ) (file : File) → AreInOrder 0 (heading_names (outlines_of text file))
    → IsStrictlyIncreasing (map (λ (fact : FieldFact). fact.name.start) (fields_in file))
fields_rise text file order =
    let around = file_surrounding text file in
    let among : Among (fields_in file) (heading_names (outlines_of text file)) =
    subst (Picks (field_names (fields_in file))) (ap heading_names (outlines_are text around file.items))
    (items_among text around file.items) in
    subst IsStrictlyIncreasing (starts_are (fields_in file))
    (starts_rise (field_names (fields_in file)) (picked_in_order 0 among order))
