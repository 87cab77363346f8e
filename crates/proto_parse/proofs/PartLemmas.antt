-- What is found in the parts of a tree.
use Rattle.std.proofs.Common.{◌≡◌, refl, sym, ◌∙◌, ap, List, [], ◌∷◌, ◌++◌, append-nil}
use Rattle.std.specs.List.{All, flat_map}
use Rattle.std.proofs.lemmas.Grind.{flat_map-append}
use Rattle.std.proofs.lemmas.List.Elements.{All-nil, All-cons, All-head, All-tail, All-append}
use Rattle.proto_grammar.specs.declared.tree.Heading.{Heading}
use Rattle.proto_grammar.specs.declared.tree.Enum.{Enum}
use Rattle.proto_grammar.specs.declared.tree.Leaf.{Leaf}
use Rattle.proto_grammar.specs.declared.tree.Leaf.TheVariants as leaf
use Rattle.proto_grammar.specs.declared.tree.Method.{Method}
use Rattle.proto_grammar.specs.declared.tree.Service.{Service}
use Rattle.proto_grammar.specs.declared.tree.FileItem.{FileItem}
use Rattle.proto_grammar.specs.declared.tree.FileItem.TheVariants as item
use Rattle.proto_grammar.specs.Tree.{Body, BlockTree}
use Rattle.proto_grammar.specs.Tree.Body.{NoMore, LeafThen, BlockThen}
use Rattle.proto_parse.specs.Parts.{Part, of_enum, of_leaf, of_body, of_block, of_service, of_item, of_items}
use Rattle.proto_parse.specs.Parts.{Placed, placed, placed_parts, anywhere, one_part, parts_in}
use Rattle.proto_parse.specs.Parts.Part.{BlockPart, EnumPart, ValuePart, FieldPart, MapFieldPart, ServicePart}
use Rattle.proto_parse.specs.Parts.Part.{MethodPart}
use Rattle.proto_parse.proofs.SplitLemmas.{all_left, all_right}

pub flat-flat : {X A B : Type 0} (f : A → List B) (g : X → List A) (xs : List X)
    → flat_map (λ x. flat_map f (g x)) xs ≡ flat_map f (flat_map g xs)
flat-flat f g [] = refl
flat-flat f g (x ∷ xs) =
    ap (λ ys. flat_map f (g x) ++ ys) (flat-flat f g xs) ∙ sym (flat_map-append f (g x) (flat_map g xs))

-- ---- what is found in all that is found

module _ {S A B : Type 0} (within : S → Part → S) (found : S → Part → List A) (f : A → List B) where
  abbrev further : S → Part → List B
  further around part = flat_map f (found around part)

  enum-further : (s : S) (enum : Enum) → of_enum within further s enum ≡ flat_map f (of_enum within found s enum)
  enum-further s enum =
      let inner : S = within s (EnumPart enum.heading) in
      ap (λ ys. further s (EnumPart enum.heading) ++ ys)
      (flat-flat f (λ (value : Heading). found inner (ValuePart value)) enum.values)
      ∙ sym (flat_map-append f (found s (EnumPart enum.heading))
      (flat_map (λ (value : Heading). found inner (ValuePart value)) enum.values))

  leaf-further : (s : S) (leaf : Leaf) → of_leaf within further s leaf ≡ flat_map f (of_leaf within found s leaf)
  leaf-further s (leaf.Enum enum) = enum-further s enum
  leaf-further s (leaf.Field field) = refl
  leaf-further s (leaf.MapField field) = refl

  body-further : (s : S) (body : Body) → of_body within further s body ≡ flat_map f (of_body within found s body)
  body-further s NoMore = refl
  body-further s (LeafThen leaf others) =
      ap (λ ys. ys ++ of_body within further s others) (leaf-further s leaf)
      ∙ ap (λ ys. flat_map f (of_leaf within found s leaf) ++ ys) (body-further s others)
      ∙ sym (flat_map-append f (of_leaf within found s leaf) (of_body within found s others))
  body-further s (BlockThen head inner others) =
      let t : S = within s (BlockPart head) in
      ap (λ ys. further s (BlockPart head) ++ (ys ++ of_body within further s others)) (body-further t inner)
      ∙ ap (λ ys. further s (BlockPart head) ++ (flat_map f (of_body within found t inner) ++ ys))
      (body-further s others)
      ∙ ap (λ ys. further s (BlockPart head) ++ ys)
      (sym (flat_map-append f (of_body within found t inner) (of_body within found s others)))
      ∙ sym (flat_map-append f (found s (BlockPart head))
      (of_body within found t inner ++ of_body within found s others))

  block-further : (s : S) (block : BlockTree)
      → of_block within further s block ≡ flat_map f (of_block within found s block)
  block-further s block =
      let t : S = within s (BlockPart block.head) in
      ap (λ ys. further s (BlockPart block.head) ++ ys) (body-further t block.body)
      ∙ sym (flat_map-append f (found s (BlockPart block.head)) (of_body within found t block.body))

  service-further : (s : S) (service : Service)
      → of_service within further s service ≡ flat_map f (of_service within found s service)
  service-further s service =
      let inner : S = within s (ServicePart service.heading) in
      ap (λ ys. further s (ServicePart service.heading) ++ ys)
      (flat-flat f (λ (method : Method). found inner (MethodPart method)) service.methods)
      ∙ sym (flat_map-append f (found s (ServicePart service.heading))
      (flat_map (λ (method : Method). found inner (MethodPart method)) service.methods))

  item-further : (s : S) (item : FileItem) → of_item within further s item ≡ flat_map f (of_item within found s item)
  item-further s (item.Block block) = block-further s block
  item-further s (item.Enum enum) = enum-further s enum
  item-further s (item.Service service) = service-further s service

  items-further : (s : S) (items : List FileItem)
      → of_items within further s items ≡ flat_map f (of_items within found s items)
  items-further s [] = refl
  items-further s (item ∷ items) =
      ap (λ ys. ys ++ of_items within further s items) (item-further s item)
      ∙ ap (λ ys. flat_map f (of_item within found s item) ++ ys) (items-further s items)
      ∙ sym (flat_map-append f (of_item within found s item) (of_items within found s items))

-- what is found part by part is found in the list of the parts
pub items-each : {S A B : Type 0} (within : S → Part → S) (shown : S → Part → A) (f : A → List B) (s : S)
    (items : List FileItem)
    → of_items within (λ around part. f (shown around part)) s items
    ≡ flat_map f (of_items within (λ around part. shown around part ∷ []) s items)
items-each {S} {A} {B} within shown f s items =
    let alone : (λ (around : S) (part : Part). f (shown around part))
    ≡ (λ (around : S) (part : Part). flat_map f (shown around part ∷ [])) =
    λ i. λ around part. sym (append-nil (f (shown around part))) i in
    ap (λ (found : S → Part → List B). of_items within found s items) alone
    ∙ items-further within (λ around part. shown around part ∷ []) f s items

-- ---- what holds of each part

module _ {S A : Type 0} (within : S → Part → S) (found : S → Part → List A) (Q : Part → Type 0) (P : A → Type 0)
    (each : (s : S) (part : Part) → Q part → All P (found s part)) where
  -- of a list of parts that have nothing in them
  row-all : {X : Type 0} (part : X → Part) (s : S) (xs : List X) → All Q (flat_map (λ x. part x ∷ []) xs)
      → All P (flat_map (λ x. found s (part x)) xs)
  row-all part s [] all = All-nil P
  row-all part s (x ∷ xs) all =
      let others : List Part = flat_map (λ y. part y ∷ []) xs in
      All-append P (found s (part x)) (flat_map (λ y. found s (part y)) xs)
      (each s (part x) (All-head Q (part x) others all)) (row-all part s xs (All-tail Q (part x) others all))

  enum-all : (s : S) (enum : Enum) → All Q (of_enum anywhere one_part tt enum) → All P (of_enum within found s enum)
  enum-all s enum all =
      let inner : S = within s (EnumPart enum.heading) in
      let values : List Part = flat_map (λ (value : Heading). ValuePart value ∷ []) enum.values in
      All-append P (found s (EnumPart enum.heading))
      (flat_map (λ (value : Heading). found inner (ValuePart value)) enum.values)
      (each s (EnumPart enum.heading) (All-head Q (EnumPart enum.heading) values all))
      (row-all ValuePart inner enum.values (All-tail Q (EnumPart enum.heading) values all))

  leaf-all : (s : S) (leaf : Leaf) → All Q (of_leaf anywhere one_part tt leaf) → All P (of_leaf within found s leaf)
  leaf-all s (leaf.Enum enum) all = enum-all s enum all
  leaf-all s (leaf.Field field) all = each s (FieldPart field) (All-head Q (FieldPart field) [] all)
  leaf-all s (leaf.MapField field) all = each s (MapFieldPart field) (All-head Q (MapFieldPart field) [] all)

  body-all : (s : S) (body : Body) → All Q (of_body anywhere one_part tt body) → All P (of_body within found s body)
  body-all s NoMore all = All-nil P
  body-all s (LeafThen leaf others) all =
      let here : List Part = of_leaf anywhere one_part tt leaf in
      let later : List Part = of_body anywhere one_part tt others in
      All-append P (of_leaf within found s leaf) (of_body within found s others)
      (leaf-all s leaf (all_left Q here later all)) (body-all s others (all_right Q here later all))
  body-all s (BlockThen head inner others) all =
      let t : S = within s (BlockPart head) in
      let below : List Part = of_body anywhere one_part tt inner in
      let later : List Part = of_body anywhere one_part tt others in
      let behind : All Q (below ++ later) = All-tail Q (BlockPart head) (below ++ later) all in
      All-append P (found s (BlockPart head)) (of_body within found t inner ++ of_body within found s others)
      (each s (BlockPart head) (All-head Q (BlockPart head) (below ++ later) all))
      (All-append P (of_body within found t inner) (of_body within found s others)
      (body-all t inner (all_left Q below later behind)) (body-all s others (all_right Q below later behind)))

  block-all : (s : S) (block : BlockTree) → All Q (of_block anywhere one_part tt block)
      → All P (of_block within found s block)
  block-all s block all =
      let t : S = within s (BlockPart block.head) in
      let below : List Part = of_body anywhere one_part tt block.body in
      All-append P (found s (BlockPart block.head)) (of_body within found t block.body)
      (each s (BlockPart block.head) (All-head Q (BlockPart block.head) below all))
      (body-all t block.body (All-tail Q (BlockPart block.head) below all))

  service-all : (s : S) (service : Service) → All Q (of_service anywhere one_part tt service)
      → All P (of_service within found s service)
  service-all s service all =
      let inner : S = within s (ServicePart service.heading) in
      let methods : List Part = flat_map (λ (method : Method). MethodPart method ∷ []) service.methods in
      All-append P (found s (ServicePart service.heading))
      (flat_map (λ (method : Method). found inner (MethodPart method)) service.methods)
      (each s (ServicePart service.heading) (All-head Q (ServicePart service.heading) methods all))
      (row-all MethodPart inner service.methods (All-tail Q (ServicePart service.heading) methods all))

  item-all : (s : S) (item : FileItem) → All Q (of_item anywhere one_part tt item) → All P (of_item within found s item)
  item-all s (item.Block block) all = block-all s block all
  item-all s (item.Enum enum) all = enum-all s enum all
  item-all s (item.Service service) all = service-all s service all

  -- what holds of each part holds of all that is found in the parts
  pub items-all : (s : S) (items : List FileItem) → All Q (parts_in items) → All P (of_items within found s items)
  items-all s [] all = All-nil P
  items-all s (item ∷ items) all =
      let here : List Part = of_item anywhere one_part tt item in
      let later : List Part = parts_in items in
      All-append P (of_item within found s item) (of_items within found s items)
      (item-all s item (all_left Q here later all)) (items-all s items (all_right Q here later all))

-- what holds of each of a list holds of all that is found in it, by what is known of what is found
pub flat-all : {X A : Type 0} (found : X → List A) (Q : X → Type 0) (K P : A → Type 0)
    → ((x : X) → Q x → All K (found x) → All P (found x)) → (xs : List X) → All Q xs → All K (flat_map found xs)
    → All P (flat_map found xs)
flat-all found Q K P each [] all known = All-nil P
flat-all found Q K P each (x ∷ xs) all known =
    All-append P (found x) (flat_map found xs)
    (each x (All-head Q x xs all) (all_left K (found x) (flat_map found xs) known))
    (flat-all found Q K P each xs (All-tail Q x xs all) (all_right K (found x) (flat_map found xs) known))

pub placed-all : {S : Type 0} (within : S → Part → S) (Q : Part → Type 0) (s : S) (items : List FileItem)
    → All Q (parts_in items) → All (λ (p : Placed S). Q p.part) (placed_parts within s items)
placed-all {S} within Q s items all =
    items-all within (λ around part. placed around part ∷ []) Q (λ (p : Placed S). Q p.part)
    (λ around part h. All-cons (λ (p : Placed S). Q p.part) (placed around part) [] h
    (All-nil (λ (p : Placed S). Q p.part))) s items all

-- ---- what holds of what surrounds each part

module _ {S A : Type 0} (within : S → Part → S) (found : S → Part → List A) (I : S → Type 0) (Q : Part → Type 0)
    (K : A → Type 0) (down : (s : S) (part : Part) → I s → Q part → All K (found s part) → I (within s part)) where
  abbrev AllAround : List (Placed S) → Type 0
  AllAround parts = All (λ (p : Placed S). I p.around) parts

  and-placed : (s : S) (part : Part) (others : List (Placed S)) → I s → AllAround others
      → AllAround (placed s part ∷ others)
  and-placed s part others here all = All-cons (λ (p : Placed S). I p.around) (placed s part) others here all

  and-all : (xs ys : List (Placed S)) → AllAround xs → AllAround ys → AllAround (xs ++ ys)
  and-all xs ys = All-append (λ (p : Placed S). I p.around) xs ys

  row-around : {X : Type 0} (part : X → Part) (s : S) (xs : List X) → I s
      → AllAround (flat_map (λ x. placed s (part x) ∷ []) xs)
  row-around part s [] here = All-nil (λ (p : Placed S). I p.around)
  row-around part s (x ∷ xs) here =
      and-placed s (part x) (flat_map (λ y. placed s (part y) ∷ []) xs) here (row-around part s xs here)

  abbrev one : S → Part → List (Placed S)
  one s part = placed s part ∷ []

  enum-around : (s : S) (enum : Enum) → I s → All Q (of_enum anywhere one_part tt enum)
      → All K (of_enum within found s enum) → AllAround (of_enum within one s enum)
  enum-around s enum here all known =
      let inner : S = within s (EnumPart enum.heading) in
      let values : List Part = flat_map (λ (value : Heading). ValuePart value ∷ []) enum.values in
      and-placed s (EnumPart enum.heading)
      (flat_map (λ (value : Heading). placed inner (ValuePart value) ∷ []) enum.values) here
      (row-around ValuePart inner enum.values
      (down s (EnumPart enum.heading) here (All-head Q (EnumPart enum.heading) values all)
      (all_left K (found s (EnumPart enum.heading))
      (flat_map (λ (value : Heading). found inner (ValuePart value)) enum.values) known)))

  leaf-around : (s : S) (leaf : Leaf) → I s → All Q (of_leaf anywhere one_part tt leaf)
      → All K (of_leaf within found s leaf) → AllAround (of_leaf within one s leaf)
  leaf-around s (leaf.Enum enum) here all known = enum-around s enum here all known
  leaf-around s (leaf.Field field) here all known =
      and-placed s (FieldPart field) [] here (All-nil (λ (p : Placed S). I p.around))
  leaf-around s (leaf.MapField field) here all known =
      and-placed s (MapFieldPart field) [] here (All-nil (λ (p : Placed S). I p.around))

  body-around : (s : S) (body : Body) → I s → All Q (of_body anywhere one_part tt body)
      → All K (of_body within found s body) → AllAround (of_body within one s body)
  body-around s NoMore here all known = All-nil (λ (p : Placed S). I p.around)
  body-around s (LeafThen leaf others) here all known =
      let mine : List Part = of_leaf anywhere one_part tt leaf in
      let later : List Part = of_body anywhere one_part tt others in
      and-all (of_leaf within one s leaf) (of_body within one s others)
      (leaf-around s leaf here (all_left Q mine later all)
      (all_left K (of_leaf within found s leaf) (of_body within found s others) known))
      (body-around s others here (all_right Q mine later all)
      (all_right K (of_leaf within found s leaf) (of_body within found s others) known))
  body-around s (BlockThen head inner others) here all known =
      let t : S = within s (BlockPart head) in
      let below : List Part = of_body anywhere one_part tt inner in
      let later : List Part = of_body anywhere one_part tt others in
      let behind : All Q (below ++ later) = All-tail Q (BlockPart head) (below ++ later) all in
      let declared : List A = found s (BlockPart head) in
      let found_below : List A = of_body within found t inner in
      let found_later : List A = of_body within found s others in
      let known_behind : All K (found_below ++ found_later) =
      all_right K declared (found_below ++ found_later) known in
      and-placed s (BlockPart head) (of_body within one t inner ++ of_body within one s others) here
      (and-all (of_body within one t inner) (of_body within one s others)
      (body-around t inner
      (down s (BlockPart head) here (All-head Q (BlockPart head) (below ++ later) all)
      (all_left K declared (found_below ++ found_later) known)) (all_left Q below later behind)
      (all_left K found_below found_later known_behind))
      (body-around s others here (all_right Q below later behind)
      (all_right K found_below found_later known_behind)))

  block-around : (s : S) (block : BlockTree) → I s → All Q (of_block anywhere one_part tt block)
      → All K (of_block within found s block) → AllAround (of_block within one s block)
  block-around s block here all known =
      let t : S = within s (BlockPart block.head) in
      let below : List Part = of_body anywhere one_part tt block.body in
      let declared : List A = found s (BlockPart block.head) in
      let found_below : List A = of_body within found t block.body in
      and-placed s (BlockPart block.head) (of_body within one t block.body) here
      (body-around t block.body
      (down s (BlockPart block.head) here (All-head Q (BlockPart block.head) below all)
      (all_left K declared found_below known)) (All-tail Q (BlockPart block.head) below all)
      (all_right K declared found_below known))

  service-around : (s : S) (service : Service) → I s → All Q (of_service anywhere one_part tt service)
      → All K (of_service within found s service) → AllAround (of_service within one s service)
  service-around s service here all known =
      let inner : S = within s (ServicePart service.heading) in
      let methods : List Part = flat_map (λ (method : Method). MethodPart method ∷ []) service.methods in
      and-placed s (ServicePart service.heading)
      (flat_map (λ (method : Method). placed inner (MethodPart method) ∷ []) service.methods) here
      (row-around MethodPart inner service.methods
      (down s (ServicePart service.heading) here (All-head Q (ServicePart service.heading) methods all)
      (all_left K (found s (ServicePart service.heading))
      (flat_map (λ (method : Method). found inner (MethodPart method)) service.methods) known)))

  item-around : (s : S) (item : FileItem) → I s → All Q (of_item anywhere one_part tt item)
      → All K (of_item within found s item) → AllAround (of_item within one s item)
  item-around s (item.Block block) here all known = block-around s block here all known
  item-around s (item.Enum enum) here all known = enum-around s enum here all known
  item-around s (item.Service service) here all known = service-around s service here all known

  pub items-around : (s : S) (items : List FileItem) → I s → All Q (parts_in items)
      → All K (of_items within found s items) → AllAround (placed_parts within s items)
  items-around s [] here all known = All-nil (λ (p : Placed S). I p.around)
  items-around s (item ∷ items) here all known =
      let mine : List Part = of_item anywhere one_part tt item in
      let later : List Part = parts_in items in
      let declared : List A = of_item within found s item in
      let found_later : List A = of_items within found s items in
      and-all (of_item within one s item) (placed_parts within s items)
      (item-around s item here (all_left Q mine later all) (all_left K declared found_later known))
      (items-around s items here (all_right Q mine later all) (all_right K declared found_later known))
