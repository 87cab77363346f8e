-- Each declaration has a simple name in a scope of its file.
use Rattle.std.proofs.Common.{◌≡◌, ◌∙◌, sym, ap, refl, subst, ℕ, ◌==◌, Bool, true, false, not, Option, Some}
use Rattle.std.proofs.Common.{None, List, [], ◌∷◌, map, arith, option_to_list}
use Rattle.std.specs.List.{All, AllZip, Contains, list_all}
use Rattle.std.proofs.lemmas.Bool.Decides.{nat_tests}
use Rattle.std.proofs.lemmas.List.Elements.{All-nil, All-cons, All-head, All-tail, All-contains_itself}
use Rattle.std.proofs.lemmas.Bool.{and_parts}
use Rattle.proto_lex.specs.Bytes.{is_letter, is_word}
use Rattle.proto_lex.specs.Lexes.{Spells}
use Rattle.proto_lex.specs.Lexes.Spells.{literal, sign, identifier, integer, float}
use Rattle.proto_lex.specs.Lexed.{Lexed, IsLexed, part_of}
use Rattle.proto_lex.specs.declared.span.Span.{Span}
use Rattle.proto_lex.specs.declared.token.TokenKind.{TokenKind}
use Rattle.proto_lex.specs.declared.token.TokenKind.TheVariants.{Identifier}
use Rattle.proto_lex.proofs.PieceFound.{sign_cases}
use Rattle.proto_decl.specs.declared.form.FactForm.{FactForm}
use Rattle.proto_parse.specs.Lexeme.{lexemes_of}
use Rattle.proto_parse.specs.tree.Heading.{Heading}
use Rattle.proto_parse.specs.tree.Field.{Field}
use Rattle.proto_parse.specs.tree.Method.{Method}
use Rattle.proto_parse.specs.tree.Head.{Head}
use Rattle.proto_parse.specs.tree.Head.TheVariants as head
use Rattle.proto_parse.specs.tree.FileItem.{FileItem}
use Rattle.proto_parse.specs.tree.File.{File}
use Rattle.proto_parse.specs.Parts.{Part, Placed, placed_parts, parts_in, parts_of}
use Rattle.proto_parse.specs.Parts.Part.{BlockPart, EnumPart, ValuePart, FieldPart, MapFieldPart, ServicePart}
use Rattle.proto_parse.specs.Parts.Part.{MethodPart}
use Rattle.proto_parse.specs.Walk.{Mark, Among, marks_of_items}
use Rattle.proto_parse.proofs.PartLemmas.{flat-all, placed-all, items-around}
use Rattle.proto_parse.proofs.Walk.Then.{Name, Other, each_then, names_then, type_name_then, field_then, head_then}
use Rattle.proto_parse.proofs.Walk.Then.{method_then, parts_are}
use Rattle.proto_decl.proofs.SpanMarkLemmas.{OfNames, OfPartNames, of_lexemes, of_names, of_part_names, past_type_name}
use Rattle.proto_decl.proofs.SpanMarkLemmas.{past_type}
use Rattle.proto_decl.proofs.NameSmallLemmas.{simple_small}
use Rattle.proto_decl.proofs.WalkedLemmas.{outlines_are}
use Rattle.proto_decl.specs.Names.{qualified, IsSimple, dotted, components_at, small_letters}
use Rattle.proto_decl.specs.Declares.{heading_name, outline_at, group_field, within, scope_heading, in_head}
use Rattle.proto_decl.specs.Declares.{inside_part}
use Rattle.proto_decl.specs.Declares.{declared_by, file_surrounding, package_scope, package_spans, outlines_in}
use Rattle.proto_decl.specs.Declares.{outlines_of, IsDeclaration}
use Rattle.proto_decl.specs.Facts.{Facts, AreFactsOf}
use Rattle.proto_decl.specs.Laws.{IsScope, StandsInScope}
use Rattle.proto_decl.specs.Laws.IsScope.{of_package, of_declaration}
use Rattle.proto_decl.specs.declared.declaration.DeclarationKind.{DeclarationKind}
use Rattle.proto_decl.specs.declared.declaration.DeclarationKind.TheVariants as kind
use Rattle.proto_decl.specs.declared.declaration.Outline.{Outline}
use Rattle.proto_decl.specs.declared.surrounding.Surrounding.{Surrounding}
use Rattle.proto_decl.specs.declared.declaration.Declaration.{Declaration}
use Rattle.proto_decl.specs.declared.uses.Component.{Component}
use Rattle.basics.proofs.BoolLemmas.{never}

-- identifiers are simple

letter_no_dot : (b : ℕ) → is_letter b ≡ true → not (b == 46) ≡ true
letter_no_dot b e = grind (arith, nat_tests)

word_no_dot : (b : ℕ) → is_word b ≡ true → not (b == 46) ≡ true
word_no_dot b e = grind (arith, nat_tests)

words_no_dot : (others : List ℕ) → list_all is_word others ≡ true → list_all (λ byte. not (byte == 46)) others ≡ true
words_no_dot [] e = refl
words_no_dot (b ∷ others) e = let p = and_parts (is_word b) (list_all is_word others) e in
    rw (word_no_dot b p.0, words_no_dot others p.1) refl

is_identifier : TokenKind → Bool
is_identifier Identifier = true
is_identifier _ = false

spelled_simple : {k : TokenKind} {spelling : List ℕ} → Spells k spelling → k ≡ Identifier → IsSimple spelling
unfolding is_identifier
spelled_simple (identifier {b} {others} e f) is =
    record { some = omega arith; no_dot = rw (letter_no_dot b e, words_no_dot others f) refl }
spelled_simple (integer e) is = never (ap is_identifier is)
spelled_simple (float e) is = never (ap is_identifier is)
spelled_simple (literal e ends) is = never (ap is_identifier is)
spelled_simple (sign {b} {k} e) is =
    never (sym (sign_cases (λ b k. is_identifier k ≡ false) b k e refl refl refl refl refl refl refl refl refl refl refl
    refl refl refl refl refl) ∙ ap is_identifier is)

-- a simple name in a scope that is known
record IsScoped (K : List ℕ → Type 0) (outline : Outline) : Type 0 where
  scope : List ℕ
  name : List ℕ
  simple : IsSimple name
  full : outline.full_name ≡ qualified scope name
  known : K scope

-- Where the names of a part of the tree are simple, its scope is known, and the names that it declares are known
-- scopes: all that it
-- declares is so, and the names behind are simple too.
module _ (text : List ℕ) (K : List ℕ → Type 0) where
  abbrev Simple : Span → Type 0
  Simple span = IsSimple (part_of text span)

  abbrev Known : Outline → Type 0
  Known outline = K outline.full_name

  abbrev Scoped : List Outline → Type 0
  Scoped outlines = All (IsScoped K) outlines

  scoped : (surrounding : Surrounding) (kind : DeclarationKind) (heading : Heading) → K surrounding.scope
      → Simple heading.name → IsScoped K (outline_at text surrounding kind heading)
  scoped surrounding kind heading known simple =
      record {
        scope = surrounding.scope;
        name = heading_name text heading;
        simple = simple;
        full = refl;
        known = known;
      }

  field_simple : (field : Field) (marks : List Mark) → OfNames Simple (field_then field marks)
      → Simple field.heading.name × OfNames Simple marks
  field_simple field marks h = let behind =
      past_type Simple field.field_type (Name field.heading.name ∷ (Other field.heading.closing ∷ marks)) h in
      (behind.0, behind.1)

  method_simple : (method : Method) (marks : List Mark) → OfNames Simple (method_then method marks)
      → Simple method.heading.name × OfNames Simple marks
  method_simple method marks h = (
    h.0,
    past_type_name Simple method.output (Other method.heading.closing ∷ marks)
        (past_type_name Simple method.input
        (type_name_then method.output (Other method.heading.closing ∷ marks)) h.1),
  )

  -- what a block declares, and the scope of what is in it
  head_scoped : (surrounding : Surrounding) (head : Head) (marks : List Mark) → K surrounding.scope
      → All Known (in_head text surrounding head) → OfNames Simple (head_then head marks)
      → Scoped (in_head text surrounding head) × K (within text surrounding (scope_heading head)).scope
      × OfNames Simple marks
  head_scoped surrounding (head.Message heading) marks known all h =
      let self = outline_at text surrounding kind.Message heading in (
        All-cons (IsScoped K) self [] (scoped surrounding kind.Message heading known h.0) (All-nil (IsScoped K)),
        All-head Known self [] all,
        h.1,
      )
  head_scoped surrounding (head.Group group) marks known all h =
      let field = group_field text surrounding group in
      let self = outline_at text surrounding kind.Message group.heading in (
        All-cons (IsScoped K) field (self ∷ [])
            (record {
              scope = surrounding.scope;
              name = small_letters (heading_name text group.heading);
              simple = simple_small (heading_name text group.heading) h.1.0;
              full = refl;
              known = known;
            })
            (All-cons (IsScoped K) self [] (scoped surrounding kind.Message group.heading known h.1.0)
            (All-nil (IsScoped K))),
        All-head Known self [] (All-tail Known field (self ∷ []) all),
        h.1.1,
      )
  head_scoped surrounding (head.Oneof heading) marks known all h = (
    All-cons (IsScoped K) (outline_at text surrounding kind.Oneof heading) []
        (scoped surrounding kind.Oneof heading known h.0) (All-nil (IsScoped K)),
    known,
    h.1,
  )
  head_scoped surrounding (head.Extend type) marks known all h =
      (All-nil (IsScoped K), known, past_type_name Simple type marks h)

  alone_scoped : (surrounding : Surrounding) (kind : DeclarationKind) (heading : Heading) → K surrounding.scope
      → Simple heading.name → Scoped (outline_at text surrounding kind heading ∷ [])
  alone_scoped surrounding kind heading known simple =
      All-cons (IsScoped K) (outline_at text surrounding kind heading) [] (scoped surrounding kind heading known simple)
      (All-nil (IsScoped K))

  part_scoped : (surrounding : Surrounding) (part : Part) → K surrounding.scope → OfPartNames Simple part
      → All Known (declared_by text surrounding part) → Scoped (declared_by text surrounding part)
  part_scoped surrounding (BlockPart head) known h all = (head_scoped surrounding head [] known all h).0
  part_scoped surrounding (EnumPart heading) known h all = alone_scoped surrounding kind.Enum heading known h.0
  part_scoped surrounding (ValuePart heading) known h all = alone_scoped surrounding kind.Value heading known h.0
  part_scoped surrounding (FieldPart field) known h all =
      alone_scoped surrounding kind.Field field.heading known (field_simple field [] h).0
  part_scoped surrounding (MapFieldPart field) known h all =
      alone_scoped surrounding kind.Field field.heading known
      (past_type Simple field.value (Name field.heading.name ∷ (Other field.heading.closing ∷ [])) h.1).0
  part_scoped surrounding (ServicePart heading) known h all = alone_scoped surrounding kind.Service heading known h.0
  part_scoped surrounding (MethodPart method) known h all =
      alone_scoped surrounding kind.Method method.heading known (method_simple method [] h).0

  inside_scoped : (surrounding : Surrounding) (part : Part) → K surrounding.scope → OfPartNames Simple part
      → All Known (declared_by text surrounding part) → K (inside_part text surrounding part).scope
  inside_scoped surrounding (BlockPart head) known h all = (head_scoped surrounding head [] known all h).1
  inside_scoped surrounding (EnumPart heading) known h all = known
  inside_scoped surrounding (ValuePart heading) known h all = known
  inside_scoped surrounding (FieldPart field) known h all = known
  inside_scoped surrounding (MapFieldPart field) known h all = known
  inside_scoped surrounding (ServicePart heading) known h all =
      All-head Known (outline_at text surrounding kind.Service heading) [] all
  inside_scoped surrounding (MethodPart method) known h all = known

  items_scoped : (surrounding : Surrounding) (items : List FileItem) → K surrounding.scope
      → All (OfPartNames Simple) (parts_in items) → All Known (outlines_in text surrounding items)
      → Scoped (outlines_in text surrounding items)
  items_scoped surrounding items known names all =
      let around = items-around (inside_part text) (declared_by text) (λ (s : Surrounding). K s.scope)
      (OfPartNames Simple) Known inside_scoped surrounding items known names
      (subst (λ (os : List Outline). All Known os) (sym (outlines_are text surrounding items)) all) in
      let each = placed-all (inside_part text) (OfPartNames Simple) surrounding items names in
      flat-all (λ (p : Placed Surrounding). declared_by text p.around p.part)
      (λ (p : Placed Surrounding). K p.around.scope × OfPartNames Simple p.part) Known (IsScoped K)
      (λ p both declared. part_scoped p.around p.part both.0 both.1 declared)
      (placed_parts (inside_part text) surrounding items) (λ k d h. (around k d h, each k d h)) all

-- the names of a text's marks are simple
pub names_simple : (lexed : Lexed) → IsLexed lexed.text lexed.tokens lexed.comments → {marks : List Mark}
    → Among marks (lexemes_of lexed.text lexed.tokens)
    → OfNames (λ span. IsSimple (part_of lexed.text span)) marks
names_simple lexed is among =
    let N : Span → Type 0 = λ span. IsSimple (part_of lexed.text span) in
    of_names N among (of_lexemes N lexed.text lexed.tokens (λ k d h kind. spelled_simple (is.spelled k d h) kind))

-- so are a package's components
components_simple : (text : List ℕ) (names : List Span) (marks : List Mark)
    → OfNames (λ span. IsSimple (part_of text span)) (names_then names marks)
    → All (λ (component : Component). IsSimple component.name) (components_at text names)
components_simple text [] marks h = All-nil (λ (component : Component). IsSimple component.name)
components_simple text (name ∷ names) marks h =
    All-cons (λ (component : Component). IsSimple component.name) (record { name = part_of text name; span = name })
    (components_at text names) h.0 (components_simple text names marks h.1)

pub package_simple : (text : List ℕ) (package_name : Option (List Span))
    → OfNames (λ span. IsSimple (part_of text span)) (each_then names_then (option_to_list package_name) [])
    → All (λ (component : Component). IsSimple component.name) (components_at text (package_spans package_name))
package_simple text None h = All-nil (λ (component : Component). IsSimple component.name)
package_simple text (Some names) h = components_simple text names [] h

names_of_components : (text : List ℕ) (spans : List Span)
    → map (λ (component : Component). component.name) (components_at text spans) ≡ map (part_of text) spans
names_of_components text [] = refl
names_of_components text (span ∷ spans) = ap (λ names. part_of text span ∷ names) (names_of_components text spans)

module _ (form : FactForm) (number : ℕ) (lexed : Lexed) (file : File) (facts : Facts)
    (is : AreFactsOf form number lexed file facts) where
  pub outlines_known : (os : List Outline) (ds : List Declaration) → AllZip (IsDeclaration form.comments lexed) os ds
      → All (Contains facts.declarations) ds → All (λ (o : Outline). IsScope facts o.full_name) os
  outlines_known [] [] all listed = All-nil (λ (o : Outline). IsScope facts o.full_name)
  outlines_known [] (d ∷ ds) all listed = absurd all
  outlines_known (o ∷ os) [] all listed = absurd all
  outlines_known (o ∷ os) (d ∷ ds) all listed =
      All-cons (λ (o : Outline). IsScope facts o.full_name) o os
      (subst (λ (name : List ℕ). IsScope facts name) all.0.full_name
      (of_declaration {declaration = d} (All-head (Contains facts.declarations) d ds listed)))
      (outlines_known os ds all.1 (All-tail (Contains facts.declarations) d ds listed))

  pub package_known : IsScope facts (package_scope lexed.text file)
  package_known =
      subst (λ (name : List ℕ). IsScope facts name)
      (ap (λ (components : List Component). dotted (map (λ (component : Component). component.name) components))
      is.package_name ∙ ap dotted (names_of_components lexed.text (package_spans file.package_name))) of_package

  declared_scoped : (os : List Outline) (ds : List Declaration) → AllZip (IsDeclaration form.comments lexed) os ds
      → All (IsScoped (IsScope facts)) os → All (StandsInScope facts) ds
  declared_scoped [] [] all scopes = All-nil (StandsInScope facts)
  declared_scoped [] (d ∷ ds) all scopes = absurd all
  declared_scoped (o ∷ os) [] all scopes = absurd all
  declared_scoped (o ∷ os) (d ∷ ds) all scopes =
      let first = All-head (IsScoped (IsScope facts)) o os scopes in
      All-cons (StandsInScope facts) d ds
      (record {
        scope = first.scope;
        name = first.name;
        simple = first.simple;
        full = all.0.full_name ∙ first.full;
        stands = first.known;
      })
      (declared_scoped os ds all.1 (All-tail (IsScoped (IsScope facts)) o os scopes))

  pub stand_in_scopes : OfNames (λ span. IsSimple (part_of lexed.text span)) (marks_of_items file)
      → All (StandsInScope facts) facts.declarations
  stand_in_scopes simple =
      let outlines = outlines_of lexed.text file in
      let known = outlines_known outlines facts.declarations is.declarations (All-contains_itself facts.declarations) in
      declared_scoped outlines facts.declarations is.declarations
      (items_scoped lexed.text (IsScope facts) (file_surrounding lexed.text file) file.items package_known
      (of_part_names (λ span. IsSimple (part_of lexed.text span)) (parts_of file)
      (subst (OfNames (λ span. IsSimple (part_of lexed.text span))) (sym (parts_are file.items)) simple)) known)
