-- What a file's facts tell has places of its own: the components of uses stand apart from names, and no import begins
-- where one of those does.
use Rattle.std.proofs.Common.{◌≡◌, ◌∙◌, sym, ap, refl, subst, ◌⊎◌, inl, inr, ℕ, ◌<◌, ◌≤◌, ◌==◌, Option, Some, None}
use Rattle.std.proofs.Common.{List, [], ◌∷◌, ◌++◌, length, map, arith, append-nil}
use Rattle.std.specs.Prelude.{if◌then◌else◌}
use Rattle.std.specs.List.{All, Contains, slice_index_or}
use Rattle.std.proofs.lemmas.Bool.Decides.{nat_tests}
use Rattle.std.proofs.lemmas.List.Elements.{All-nil, All-cons, All-head, All-weaker, All-map, All-contains}
use Rattle.std.proofs.lemmas.List.Elements.{Contains-append_left, Contains-append_right, Contains-append_cases}
use Rattle.proto_lex.specs.declared.span.Span.{Span}
use Rattle.proto_lex.specs.declared.token.Token.{Token}
use Rattle.proto_lex.specs.declared.token.TokenKind.{TokenKind}
use Rattle.proto_lex.specs.declared.token.TokenKind.TheVariants.{Identifier, StringLiteral}
use Rattle.proto_lex.specs.Lexed.{Lexed, AreInOrder, AreApart}
use Rattle.proto_decl.specs.declared.form.FactForm.{FactForm}
use Rattle.proto_parse.specs.Lexeme.{Lexeme, lexemes_of}
use Rattle.proto_parse.specs.tree.File.{File}
use Rattle.proto_parse.specs.Filled.{FilledImport}
use Rattle.proto_parse.specs.Walk.{Mark, Among, MarksAreInOrder, PackageIsAmongItems, marks_of_items, marks_of_imports}
use Rattle.proto_parse.proofs.Walk.Then.{each_then, item_then, items_are, between_are}
use Rattle.proto_decl.specs.Imports.{start_of, imported_by}
use Rattle.proto_decl.specs.Declares.{file_surrounding, package_spans, outlines_in, outlines_of}
use Rattle.proto_decl.specs.Uses.{uses_in}
use Rattle.proto_decl.specs.Facts.{Facts, AreFactsOf, component_spans, use_spans}
use Rattle.proto_decl.specs.Laws.{named_spans}
use Rattle.proto_decl.specs.declared.imports.Imported.{Imported}
use Rattle.proto_decl.proofs.SpanLemmas.{imports_hold}
use Rattle.proto_decl.proofs.SpanMarkLemmas.{OfNames, past_mark, of_lexemes, of_names}
use Rattle.proto_decl.proofs.OutlinePickLemmas.{Picked, retyped, heading_names, spans_of_components, names-append}
use Rattle.proto_decl.proofs.OutlinePickLemmas.{components-append, items_picked, package_picked}
use Rattle.proto_decl.proofs.OutlinePickLemmas.Picked.{none, skip, a_name, a_component}
use Rattle.proto_decl.proofs.WalkedLemmas.{outlines-append, uses-append}
use Rattle.proto_decl.proofs.OutlineOrderLemmas.{beside}
use Rattle.proto_decl.proofs.FactLemmas.{same_names}

either : {A B C : Type 0} → (A → C) → (B → C) → A ⊎ B → C
either f g (inl a) = f a
either f g (inr b) = g b

-- what holds of the marks of names holds of those that are picked
module _ (N : Span → Type 0) where
  picked_hold : {marks behind : List Mark} {names components : List Span} → Picked marks names components behind
      → OfNames N marks → All N names × All N components
  picked_hold none h = (All-nil N, All-nil N)
  picked_hold (skip {mark = mark} {marks = marks} picked) h =
      picked_hold picked (past_mark N mark.role mark.span (OfNames N marks) h)
  picked_hold (a_name {span = span} {names = names} picked) h = let rest = picked_hold picked h.1 in
      (All-cons N span names h.0 rest.0, rest.1)
  picked_hold (a_component {span = span} {components = components} picked) h = let rest = picked_hold picked h.1 in
      (rest.0, All-cons N span components h.0 rest.1)

-- the kind of the first token that begins at an offset

kind_at : List Token → (offset : ℕ) → Option TokenKind
kind_at [] offset = None
kind_at (t ∷ tokens) offset = if t.span.start == offset then Some t.kind else kind_at tokens offset

abbrev BeginsAs : TokenKind → List Token → Span → Type 0
BeginsAs kind tokens span = kind_at tokens span.start ≡ Some kind

-- is that of each token that begins there: each begins behind the one before
abbrev IsFound : (place : ℕ) → List Token → Token → Type 0
IsFound place tokens t = (place ≤ t.span.start) × (kind_at tokens t.span.start ≡ Some t.kind)

found_first : (t : Token) (tokens : List Token) → kind_at (t ∷ tokens) t.span.start ≡ Some t.kind
unfolding kind_at
found_first t tokens = grind (arith, nat_tests)

found_later : (t u : Token) (tokens : List Token) → t.span.start < u.span.start
    → kind_at tokens u.span.start ≡ Some u.kind → kind_at (t ∷ tokens) u.span.start ≡ Some u.kind
unfolding kind_at
found_later t u tokens less found = grind (arith, nat_tests)

kinds_found : (place : ℕ) (tokens : List Token) → AreInOrder place (map (λ (t : Token). t.span) tokens)
    → All (IsFound place tokens) tokens
kinds_found place [] order = All-nil (IsFound place [])
kinds_found place (t ∷ tokens) order =
    All-cons (IsFound place (t ∷ tokens)) t tokens (order.0, found_first t tokens)
    (All-weaker (IsFound t.span.end tokens) (IsFound place (t ∷ tokens))
    (λ u found. (
      omega (arith, order.0, order.1, found.0),
      found_later t u tokens (omega (arith, order.1, found.0)) found.1,
    )) tokens
    (kinds_found t.span.end tokens order.2))

two_kinds : {kind : Option TokenKind} → kind ≡ Some StringLiteral → kind ≡ Some Identifier → ⊥
two_kinds e f = cc

first_begins : (tokens : List Token) (literals : List Span) → 0 < length literals
    → All (BeginsAs StringLiteral tokens) literals → kind_at tokens (start_of literals) ≡ Some StringLiteral
first_begins tokens [] some all = absurd (omega (arith, some))
first_begins tokens (span ∷ others) some all = All-head (BeginsAs StringLiteral tokens) span others all

-- Marks of a file, from which the components of its uses are picked, and with them all names.
pub record MarksOf (facts : Facts) (tokens : List Lexeme) : Type 0 where
  pub marks : List Mark
  pub among : Among marks tokens
  pub names : List Span
  pub picked : Picked marks names (use_spans facts.uses) []
  pub all_named : (span : Span) → Contains (named_spans facts) span → Contains names span

module _ (form : FactForm) (number : ℕ) (lexed : Lexed) (file : File) (facts : Facts)
    (is : AreFactsOf form number lexed file facts) where
  named : (package_name : Option (List Span)) → file.package_name ≡ package_name
      → named_spans facts ≡ heading_names (outlines_of lexed.text file) ++ package_spans package_name
  named package_name e =
      let names = same_names form.comments lexed (outlines_of lexed.text file) facts.declarations is.declarations in
      let components : component_spans facts.package_name ≡ package_spans package_name =
      ap component_spans is.package_name
      ∙ (spans_of_components lexed.text (package_spans file.package_name) ∙ ap package_spans e) in
      λ i. names i ++ components i

  names_among : (first last components : List Span) (span : Span) → Contains ((first ++ last) ++ components) span
      → Contains (first ++ (components ++ last)) span
  names_among first last components span h =
      either (λ name. either (Contains-append_left first (components ++ last) span)
      (λ later. Contains-append_right first (components ++ last) span
      (Contains-append_right components last span later))
      (Contains-append_cases first last span name))
      (λ component. Contains-append_right first (components ++ last) span
      (Contains-append_left components last span component))
      (Contains-append_cases (first ++ last) components span h)

  pub marks_of : (tokens : List Lexeme) → Among (marks_of_items file) tokens → (package_name : Option (List Span))
      → file.package_name ≡ package_name → PackageIsAmongItems package_name file.items tokens
      → MarksOf facts tokens
  marks_of tokens among None e place = record {
    marks = each_then item_then file.items [];
    among = subst (λ (marks : List Mark). Among marks tokens) (sym (items_are file.items)) among;
    names = heading_names (outlines_of lexed.text file);
    picked = retyped refl (sym (ap use_spans is.uses))
        (items_picked lexed.text (file_surrounding lexed.text file) file.items []);
    all_named = λ span h. subst (λ (spans : List Span). Contains spans span) (named None e ∙ append-nil _) h;
  }
  marks_of tokens among (Some components) e place =
      let text = lexed.text in
      let surrounding = file_surrounding text file in
      let before = place.0 in
      let behind = place.1.0 in
      let uses : use_spans facts.uses
      ≡ use_spans (uses_in text surrounding before) ++ use_spans (uses_in text surrounding behind) =
      ap use_spans
      (is.uses ∙ (ap (uses_in text surrounding) place.1.1.0 ∙ uses-append text surrounding before behind))
      ∙ sym (components-append (uses_in text surrounding before) (uses_in text surrounding behind)) in
      let names : heading_names (outlines_of text file)
      ≡ heading_names (outlines_in text surrounding before) ++ heading_names (outlines_in text surrounding behind) =
      ap heading_names
      (ap (outlines_in text surrounding) place.1.1.0 ∙ outlines-append text surrounding before behind)
      ∙ sym (names-append (outlines_in text surrounding before) (outlines_in text surrounding behind)) in
      record {
        marks = _;
        among = subst (λ (marks : List Mark). Among marks tokens) (sym (between_are before behind components))
            place.1.1.1;
        names = _;
        picked = retyped refl (sym uses) (package_picked text surrounding before behind components);
        all_named = λ span h.
            names_among (heading_names (outlines_in text surrounding before))
            (heading_names (outlines_in text surrounding behind)) components span
            (subst (λ (spans : List Span). Contains spans span)
            (named (Some components) e ∙ ap (λ (spans : List Span). spans ++ components) names) h);
      }

  module _ (m : MarksOf facts (lexemes_of lexed.text lexed.tokens)) where
    pub uses_apart : MarksAreInOrder 0 m.marks → (used name : Span) → Contains (use_spans facts.uses) used
        → Contains (named_spans facts) name → AreApart used name
    uses_apart order used name h k =
        All-contains (AreApart used) m.names name
        (All-contains (λ (component : Span). All (AreApart component) m.names) (use_spans facts.uses) used
        (beside m.picked 0 order).apart h) (m.all_named name k)

    module _ (order : AreInOrder 0 (map (λ (t : Token). t.span) lexed.tokens))
        (among : Among (marks_of_imports file) (lexemes_of lexed.text lexed.tokens))
        (filled : All FilledImport file.imports) where
      names_begin : All (BeginsAs Identifier lexed.tokens) m.names
          × All (BeginsAs Identifier lexed.tokens) (use_spans facts.uses)
      names_begin =
          picked_hold (BeginsAs Identifier lexed.tokens) m.picked
          (of_names (BeginsAs Identifier lexed.tokens) m.among
          (of_lexemes (BeginsAs Identifier lexed.tokens) lexed.text lexed.tokens
          (λ k d h kind. (kinds_found 0 lexed.tokens order k d h).1 ∙ ap Some kind)))

      imports_begin : All (λ (imported : Imported). BeginsAs StringLiteral lexed.tokens imported.span) facts.imports
      imports_begin =
          let literals = imports_hold (λ span. Unit {0})
          (BeginsAs StringLiteral lexed.tokens) lexed.text lexed.tokens file
          (λ k d h. (tt, λ kind. (kinds_found 0 lexed.tokens order k d h).1 ∙ ap Some kind)) among in
          subst (All (λ (imported : Imported). BeginsAs StringLiteral lexed.tokens imported.span)) (sym is.imports)
          (All-map (λ (imported : Imported). BeginsAs StringLiteral lexed.tokens imported.span)
          (imported_by lexed.text) file.imports
          (λ k d h. first_begins lexed.tokens (slice_index_or file.imports k d).literals (filled k d h)
          (literals k d h)))

      pub imports_apart : (imported : Imported) (name : Span) → Contains facts.imports imported
          → Contains (named_spans facts ++ use_spans facts.uses) name → imported.span.start ≡ name.start → ⊥
      imports_apart imported name h k same =
          let begins : BeginsAs Identifier lexed.tokens name =
          either (λ named_one. All-contains (BeginsAs Identifier lexed.tokens) m.names name names_begin.0
          (m.all_named name named_one))
          (λ used. All-contains (BeginsAs Identifier lexed.tokens) (use_spans facts.uses) name names_begin.1 used)
          (Contains-append_cases (named_spans facts) (use_spans facts.uses) name k) in
          let literal = All-contains
          (λ (i : Imported). BeginsAs StringLiteral lexed.tokens i.span) facts.imports imported imports_begin h in
          two_kinds (subst (λ (offset : ℕ). kind_at lexed.tokens offset ≡ Some StringLiteral) same literal) begins
