-- The scope of a use is that of its file's package or of a declaration.
use Rattle.std.proofs.Common.{sym, subst, ℕ, Bool, List, [], ◌∷◌, map}
use Rattle.std.specs.List.{All, flat_map}
use Rattle.std.proofs.lemmas.List.Elements.{All-nil, All-cons, All-head, All-tail, All-append, All-contains_itself}
use Rattle.proto_lex.specs.Lexed.{Lexed}
use Rattle.proto_parse.specs.tree.Head.{Head}
use Rattle.proto_parse.specs.tree.Head.TheVariants as head
use Rattle.proto_parse.specs.tree.TypeName.{TypeName}
use Rattle.proto_parse.specs.tree.FileItem.{FileItem}
use Rattle.proto_parse.specs.tree.File.{File}
use Rattle.proto_parse.specs.Parts.{Part, Placed, placed_parts, types_of}
use Rattle.proto_parse.specs.Parts.Part.{BlockPart, EnumPart, ValuePart, FieldPart, MapFieldPart, ServicePart}
use Rattle.proto_parse.specs.Parts.Part.{MethodPart}
use Rattle.proto_parse.proofs.PartLemmas.{items-around}
use Rattle.proto_decl.specs.Declares.{outline_at, group_field, within, scope_heading, in_head, inside_part, declared_by}
use Rattle.proto_decl.specs.Declares.{file_surrounding, outlines_in, outlines_of}
use Rattle.proto_decl.specs.Facts.{Facts, AreFactsOf}
use Rattle.proto_decl.specs.Laws.{IsScope}
use Rattle.proto_decl.specs.Uses.{is_extending, use_of, used_by}
use Rattle.proto_decl.specs.declared.declaration.DeclarationKind.TheVariants as kind
use Rattle.proto_decl.specs.declared.declaration.Outline.{Outline}
use Rattle.proto_decl.specs.declared.form.FactForm.{FactForm}
use Rattle.proto_decl.specs.declared.surrounding.Surrounding.{Surrounding}
use Rattle.proto_decl.specs.declared.uses.Use.{Use}
use Rattle.proto_decl.proofs.OutlineScopedLemmas.{outlines_known, package_known}
use Rattle.proto_decl.proofs.WalkedLemmas.{outlines_are}

-- ---- what surrounds a part is a scope that is known, if what is declared is one

module _ (text : List ℕ) (K : List ℕ → Type 0) where
  abbrev Known : Outline → Type 0
  Known outline = K outline.full_name

  abbrev InKnown : Use → Type 0
  InKnown used = K used.scope

  abbrev AroundKnown : Placed Surrounding → Type 0
  AroundKnown placed = K placed.around.scope

  head_known : (surrounding : Surrounding) (head : Head) → K surrounding.scope
      → All Known (in_head text surrounding head) → K (within text surrounding (scope_heading head)).scope
  head_known surrounding (head.Message heading) known all =
      All-head Known (outline_at text surrounding kind.Message heading) [] all
  head_known surrounding (head.Group group) known all =
      let self = outline_at text surrounding kind.Message group.heading in
      All-head Known self [] (All-tail Known (group_field text surrounding group) (self ∷ []) all)
  head_known surrounding (head.Oneof heading) known all = known
  head_known surrounding (head.Extend type) known all = known

  inside_known : (surrounding : Surrounding) (part : Part) → K surrounding.scope → Unit {0}
      → All Known (declared_by text surrounding part) → K (inside_part text surrounding part).scope
  inside_known surrounding (BlockPart head) known any all = head_known surrounding head known all
  inside_known surrounding (EnumPart heading) known any all = known
  inside_known surrounding (ValuePart heading) known any all = known
  inside_known surrounding (FieldPart field) known any all = known
  inside_known surrounding (MapFieldPart field) known any all = known
  inside_known surrounding (ServicePart heading) known any all =
      All-head Known (outline_at text surrounding kind.Service heading) [] all
  inside_known surrounding (MethodPart method) known any all = known

  around_known : (surrounding : Surrounding) (items : List FileItem) → K surrounding.scope
      → All Known (outlines_in text surrounding items)
      → All AroundKnown (placed_parts (inside_part text) surrounding items)
  around_known surrounding items known all =
      items-around (inside_part text) (declared_by text) (λ (s : Surrounding). K s.scope)
      (λ (part : Part). Unit {0}) Known inside_known surrounding items known (λ k d within. tt)
      (subst (λ (os : List Outline). All Known os) (sym (outlines_are text surrounding items)) all)

  -- so is the scope of a use
  names_known : (is_extended : Bool) (scope : List ℕ) → K scope → (names : List TypeName)
      → All InKnown (map (use_of is_extended text scope) names)
  names_known is_extended scope known [] = All-nil InKnown
  names_known is_extended scope known (name ∷ names) =
      All-cons InKnown (use_of is_extended text scope name) (map (use_of is_extended text scope) names) known
      (names_known is_extended scope known names)

  parts_known : (parts : List (Placed Surrounding)) → All AroundKnown parts
      → All InKnown (flat_map (λ placed. used_by text placed.around placed.part) parts)
  parts_known [] all = All-nil InKnown
  parts_known (placed ∷ parts) all =
      All-append InKnown (used_by text placed.around placed.part)
      (flat_map (λ other. used_by text other.around other.part) parts)
      (names_known (is_extending placed.part) placed.around.scope (All-head AroundKnown placed parts all)
      (types_of placed.part)) (parts_known parts (All-tail AroundKnown placed parts all))

-- ---- of a file

pub uses_in_scopes : (form : FactForm) (number : ℕ) (lexed : Lexed) (file : File) (facts : Facts)
    → AreFactsOf form number lexed file facts → All (λ (used : Use). IsScope facts used.scope) facts.uses
uses_in_scopes form number lexed file facts is =
    let text = lexed.text in
    let around = file_surrounding text file in
    let outlines = outlines_known form number lexed file facts is (outlines_of text file) facts.declarations
    is.declarations (All-contains_itself facts.declarations) in
    let parts = around_known text (IsScope facts) around file.items
    (package_known form number lexed file facts is) outlines in
    subst (λ (uses : List Use). All (λ (used : Use). IsScope facts used.scope) uses) (sym is.uses)
    (parts_known text (IsScope facts) (placed_parts (inside_part text) around file.items) parts)
