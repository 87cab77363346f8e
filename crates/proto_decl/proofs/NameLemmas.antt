-- Declared names are spelled as they stand, but for those of groups' fields, and aren't empty.
use Rattle.std.proofs.Common.{◌≡◌, ◌≢◌, ◌∙◌, sym, ap, refl, ℕ, ◌-◌, ◌<◌, ◌≤◌, List, [], ◌∷◌, ◌++◌, length, drop}
use Rattle.std.proofs.Common.{arith, length-append}
use Rattle.std.specs.Char.{to_ascii_lowercase}
use Rattle.std.specs.List.{All, AllZip, Contains}
use Rattle.std.proofs.lemmas.List.{length-take-le, length-drop, length-map}
use Rattle.std.proofs.lemmas.List.Elements.{All-nil, All-cons, All-head, All-tail, All-contains_itself}
use Rattle.proto_lex.specs.declared.span.Span.{Span}
use Rattle.proto_lex.specs.Lexed.{Lexed, IsPart, part_of}
use Rattle.comment_texts.specs.declared.form.CommentForm.{CommentForm}
use Rattle.proto_parse.specs.tree.Heading.{Heading}
use Rattle.proto_parse.specs.tree.Head.{Head}
use Rattle.proto_parse.specs.tree.Head.TheVariants as head
use Rattle.proto_parse.specs.tree.FileItem.{FileItem}
use Rattle.proto_parse.specs.tree.File.{File}
use Rattle.proto_parse.specs.Parts.{Part, Placed, placed_parts, parts_in, parts_of}
use Rattle.proto_parse.specs.Parts.Part.{BlockPart, EnumPart, ValuePart, FieldPart, MapFieldPart, ServicePart}
use Rattle.proto_parse.specs.Parts.Part.{MethodPart}
use Rattle.proto_parse.proofs.PartLemmas.{flat-all, placed-all}
use Rattle.proto_decl.specs.Names.{qualified, small_letters}
use Rattle.proto_decl.specs.Spans.{OfHeading, OfHead, OfPart}
use Rattle.proto_decl.specs.Declares.{heading_name, step_named, step_to, outline_at, group_field, in_head, inside_part}
use Rattle.proto_decl.specs.Declares.{declared_by, file_surrounding, outlines_in, outlines_of}
use Rattle.proto_decl.specs.Declares.{IsDeclaration, simple_name}
use Rattle.proto_decl.specs.Laws.{AreOfGroup, IsSpelled, IsNamedAt}
use Rattle.proto_decl.specs.Laws.IsSpelled.{as_it_stands, as_its_group}
use Rattle.proto_decl.specs.declared.declaration.DeclarationKind.{DeclarationKind}
use Rattle.proto_decl.specs.declared.declaration.DeclarationKind.TheVariants as kind
use Rattle.proto_decl.specs.declared.declaration.DeclarationStep.{DeclarationStep}
use Rattle.proto_decl.specs.declared.declaration.Declaration.{Declaration}
use Rattle.proto_decl.specs.declared.declaration.Outline.{Outline}
use Rattle.proto_decl.specs.declared.surrounding.Surrounding.{Surrounding}

pub simple_name-push : (path : List DeclarationStep) (step : DeclarationStep)
    → simple_name (path ++ step ∷ []) ≡ step.name
simple_name-push [] step = refl
simple_name-push (first ∷ []) step = refl
simple_name-push (first ∷ (next ∷ others)) step = simple_name-push (next ∷ others) step

-- the field and the message of one group
record OfGroup (text : List ℕ) (field message : Outline) : Type 0 where
  place : IsPart text message.heading.name
  outer : List DeclarationStep
  message_path : message.path ≡ outer ++ step_named kind.Message (part_of text message.heading.name) ∷ []
  field_path : field.path ≡ outer ++ step_named kind.Field (small_letters (part_of text message.heading.name)) ∷ []

-- its name is at its place, or it is the field of a group, the message of which is known
data HasName (text : List ℕ) (K : Outline → Type 0) (outline : Outline) : Type 0 where
  at_place : simple_name outline.path ≡ part_of text outline.heading.name → HasName text K outline
  of_group : {message : Outline} → K message → OfGroup text outline message → HasName text K outline

record IsNamed (text : List ℕ) (K : Outline → Type 0) (outline : Outline) : Type 0 where
  place : IsPart text outline.heading.name
  name : HasName text K outline
  scope : List ℕ
  full : outline.full_name ≡ qualified scope (simple_name outline.path)

-- Where what a part of the tree declares is known: all of it is named.
module _ (text : List ℕ) (K : Outline → Type 0) where
  abbrev Named : List Outline → Type 0
  Named outlines = All (IsNamed text K) outlines

  named : (surrounding : Surrounding) (kind : DeclarationKind) (heading : Heading) → OfHeading (IsPart text) heading
      → IsNamed text K (outline_at text surrounding kind heading)
  named surrounding kind heading spans =
      let simple = simple_name-push surrounding.path (step_to text kind heading) in
      record {
        place = spans.1;
        name = at_place simple;
        scope = surrounding.scope;
        full = ap (qualified surrounding.scope) (sym simple);
      }

  alone : (surrounding : Surrounding) (kind : DeclarationKind) (heading : Heading) → OfHeading (IsPart text) heading
      → Named (outline_at text surrounding kind heading ∷ [])
  alone surrounding kind heading spans =
      All-cons (IsNamed text K) (outline_at text surrounding kind heading) [] (named surrounding kind heading spans)
      (All-nil (IsNamed text K))

  head_named : (surrounding : Surrounding) (head : Head) → All K (in_head text surrounding head)
      → OfHead (IsPart text) head → Named (in_head text surrounding head)
  head_named surrounding (head.Message heading) known spans = alone surrounding kind.Message heading spans
  head_named surrounding (head.Group group) known spans =
      let field = group_field text surrounding group in
      let self = outline_at text surrounding kind.Message group.heading in
      let small = small_letters (heading_name text group.heading) in
      All-cons (IsNamed text K) field (self ∷ [])
      (record {
        place = spans.1;
        name = of_group {message = self} (All-head K self [] (All-tail K field (self ∷ []) known))
            (record { place = spans.0.1; outer = surrounding.path; message_path = refl; field_path = refl });
        scope = surrounding.scope;
        full = ap (qualified surrounding.scope)
            (sym (simple_name-push surrounding.path (step_named kind.Field small)));
      })
      (alone surrounding kind.Message group.heading spans.0)
  head_named surrounding (head.Oneof heading) known spans = alone surrounding kind.Oneof heading spans
  head_named surrounding (head.Extend type) known spans = All-nil (IsNamed text K)

  part_named : (surrounding : Surrounding) (part : Part) → OfPart (IsPart text) part
      → All K (declared_by text surrounding part) → Named (declared_by text surrounding part)
  part_named surrounding (BlockPart head) spans known = head_named surrounding head known spans
  part_named surrounding (EnumPart heading) spans known = alone surrounding kind.Enum heading spans
  part_named surrounding (ValuePart heading) spans known = alone surrounding kind.Value heading spans
  part_named surrounding (FieldPart field) spans known = alone surrounding kind.Field field.heading spans.0
  part_named surrounding (MapFieldPart field) spans known = alone surrounding kind.Field field.heading spans.0
  part_named surrounding (ServicePart heading) spans known = alone surrounding kind.Service heading spans
  part_named surrounding (MethodPart method) spans known = alone surrounding kind.Method method.heading spans.0

  items_named : (surrounding : Surrounding) (items : List FileItem) → All (OfPart (IsPart text)) (parts_in items)
      → All K (outlines_in text surrounding items) → Named (outlines_in text surrounding items)
  items_named surrounding items spans known =
      flat-all (λ (p : Placed Surrounding). declared_by text p.around p.part)
      (λ (p : Placed Surrounding). OfPart (IsPart text) p.part) K (IsNamed text K)
      (λ p of_part known. part_named p.around p.part of_part known)
      (placed_parts (inside_part text) surrounding items)
      (placed-all (inside_part text) (OfPart (IsPart text)) surrounding items spans) known

-- from outlines to declarations
module _ (form : CommentForm) (lexed : Lexed) (declarations : List Declaration) where
  -- a declaration of the outline is among all
  record IsDeclared (outline : Outline) : Type 0 where
    found : Declaration
    listed : Contains declarations found
    declared : IsDeclaration form lexed outline found

  all_declared : (os : List Outline) (ds : List Declaration) → AllZip (IsDeclaration form lexed) os ds
      → All (Contains declarations) ds → All IsDeclared os
  all_declared [] [] all listed = All-nil IsDeclared
  all_declared [] (d ∷ ds) all listed = absurd all
  all_declared (o ∷ os) [] all listed = absurd all
  all_declared (o ∷ os) (d ∷ ds) all listed =
      All-cons IsDeclared o os
      (record { found = d; listed = All-head (Contains declarations) d ds listed; declared = all.0 })
      (all_declared os ds all.1 (All-tail (Contains declarations) d ds listed))

  group_named : (o message : Outline) (d : Declaration) → IsDeclaration form lexed o d → OfGroup lexed.text o message
      → (found : Declaration) → IsDeclaration form lexed message found → AreOfGroup lexed.text d found
  group_named o message d is group found of_message = record {
    place = rw of_message.name group.place;
    outer = group.outer;
    message_path = of_message.path ∙ (group.message_path
        ∙ ap (λ span. group.outer ++ step_named kind.Message (part_of lexed.text span) ∷ []) (sym of_message.name));
    field_path = is.path ∙ (group.field_path
        ∙ ap (λ span. group.outer ++ step_named kind.Field (small_letters (part_of lexed.text span)) ∷ [])
        (sym of_message.name));
  }

  name_spelled : (o : Outline) (d : Declaration) → IsDeclaration form lexed o d → HasName lexed.text IsDeclared o
      → IsSpelled lexed.text declarations d
  name_spelled o d is (at_place simple) =
      as_it_stands (ap simple_name is.path ∙ (simple ∙ ap (part_of lexed.text) (sym is.name)))
  name_spelled o d is (of_group {message = message} known group) =
      as_its_group known.listed (group_named o message d is group known.found known.declared)

  declared_named : (o : Outline) (d : Declaration) → IsDeclaration form lexed o d → IsNamed lexed.text IsDeclared o
      → IsNamedAt lexed.text declarations d
  declared_named o d is named = record {
    place = rw is.name named.place;
    spelled = name_spelled o d is named.name;
    scope = named.scope;
    full = is.full_name ∙ (named.full ∙ ap (λ path. qualified named.scope (simple_name path)) (sym is.path));
  }

  all_named : (os : List Outline) (ds : List Declaration) → AllZip (IsDeclaration form lexed) os ds
      → All (IsNamed lexed.text IsDeclared) os → All (IsNamedAt lexed.text declarations) ds
  all_named [] [] all names = All-nil (IsNamedAt lexed.text declarations)
  all_named [] (d ∷ ds) all names = absurd all
  all_named (o ∷ os) [] all names = absurd all
  all_named (o ∷ os) (d ∷ ds) all names =
      All-cons (IsNamedAt lexed.text declarations) d ds
      (declared_named o d all.0 (All-head (IsNamed lexed.text IsDeclared) o os names))
      (all_named os ds all.1 (All-tail (IsNamed lexed.text IsDeclared) o os names))

pub declarations_named : (form : CommentForm) (lexed : Lexed) (file : File) (ds : List Declaration)
    → All (OfPart (IsPart lexed.text)) (parts_of file)
    → AllZip (IsDeclaration form lexed) (outlines_of lexed.text file) ds → All (IsNamedAt lexed.text ds) ds
declarations_named form lexed file ds spans all =
    let known = all_declared form lexed ds (outlines_of lexed.text file) ds all (All-contains_itself ds) in
    all_named form lexed ds (outlines_of lexed.text file) ds all
    (items_named lexed.text (IsDeclared form lexed ds) (file_surrounding lexed.text file) file.items spans known)

-- a name in a scope is no shorter than the name
qualified-length : (scope name : List ℕ) → length name ≤ length (qualified scope name)
qualified-length [] name = omega arith
qualified-length (byte ∷ scope) name = omega (arith, length-append (byte ∷ scope) (46 ∷ name))

part-length : (text : List ℕ) (span : Span) → IsPart text span → 0 < length (part_of text span)
part-length text span is =
    let left = length-drop span.start text in
    let count = length-take-le (span.end - span.start) (drop span.start text) (omega (arith, is.some, is.within, left))
    in
    omega (arith, is.some, count)

-- no simple name is empty
simple_some : (text : List ℕ) (declarations : List Declaration) (declaration : Declaration)
    → IsPart text declaration.name → IsSpelled text declarations declaration → 0 < length (simple_name declaration.path)
simple_some text declarations declaration place (as_it_stands simple) =
    omega (arith, part-length text declaration.name place, ap length simple)
simple_some text declarations declaration place (as_its_group {message = message} listed group) =
    let name = part_of text message.name in
    let simple = ap simple_name group.field_path
    ∙ simple_name-push group.outer (step_named kind.Field (small_letters name)) in
    omega (arith, part-length text message.name group.place, length-map name to_ascii_lowercase, ap length simple)

-- so no full name is
pub named_some : (text : List ℕ) (declarations : List Declaration) (declaration : Declaration)
    → IsNamedAt text declarations declaration → 0 < length declaration.full_name
named_some text declarations declaration is =
    let some = simple_some text declarations declaration is.place is.spelled in
    omega (arith, some, ap length is.full, qualified-length is.scope (simple_name declaration.path))

-- and each path has a step
pub path_some : (text : List ℕ) (declarations : List Declaration) (declaration : Declaration)
    → IsNamedAt text declarations declaration → declaration.path ≢ []
path_some text declarations declaration is none =
    let some = simple_some text declarations declaration is.place is.spelled in
    omega (arith, some, ap length (ap simple_name none))
