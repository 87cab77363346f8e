-- The second reading keeps the options of the derivation: members, oneofs, extends, messages and services.
use Rattle.std.proofs.Common.{◌≡◌, ℕ, zero, suc, true, false, Option, List, [], refl, ◌∙◌}
use Rattle.std.proofs.Common.{ap, codes, ◌||◌, ◌&&◌}
use Rattle.proto_lex.specs.declared.span.Span.{Span}
use Rattle.proto_lex.specs.declared.token.TokenKind.TheVariants.{Identifier, Semicolon, Equals, OpenBrace}
use Rattle.proto_grammar.specs.declared.dialect.CustomOptions.{CustomOptions}
use Rattle.proto_grammar.specs.declared.dialect.Syntax.{Syntax}
use Rattle.proto_grammar.specs.declared.tree.Label.{Label}
use Rattle.proto_grammar.specs.declared.tree.Item.{Item}
use Rattle.proto_grammar.specs.declared.tree.MapField.{MapField}
use Rattle.proto_grammar.specs.declared.tree.Method.{Method as MethodTree}
use Rattle.proto_grammar.specs.declared.tree.Service.{Service}
use Rattle.proto_grammar.specs.Lexeme.{Lexeme, place_of}
use Rattle.proto_grammar.specs.Tree.{BlockTree}
use Rattle.proto_grammar.specs.Terminal.{first_is, of_kind, is_word, closes, begins_group}
use Rattle.proto_grammar.specs.Syntax.{custom_of, extends, is_proto2}
use Rattle.proto_grammar.specs.Grammar.Repetition.{Until, Passes}
use Rattle.proto_grammar.specs.Grammar.Repetition.One.{one}
use Rattle.proto_grammar.specs.Grammar.Repetition.Until.{done, more}
use Rattle.proto_grammar.specs.Grammar.Repetition.Passes.{passes}
use Rattle.proto_grammar.specs.Grammar.Fields.{IsMapField}
use Rattle.proto_grammar.specs.Grammar.Fields.IsGroupHead.{group_head}
use Rattle.proto_grammar.specs.Grammar.Fields.IsMapField.{map_field}
use Rattle.proto_grammar.specs.Grammar.Reserved.IsInteger.{plain as plain_integer}
use Rattle.proto_grammar.specs.Reading.Repetition.{until_at}
use Rattle.proto_grammar.proofs.RepetitionUntilLemmas.{until_at-step}
use Rattle.proto_grammar.proofs.TerminalTokenLemmas.{token_exact, one_next, one_others, next_other_kind}
use Rattle.proto_grammar.proofs.Exact.Fields.{integer_exact}
use Rattle.proto_parse.specs.Grammar.Messages.{IsBraced, IsGroup, IsLabelled, IsMember, IsOneofItem, IsOneof}
use Rattle.proto_parse.specs.Grammar.Messages.{IsExtendItem, IsExtend, IsExtendStatement, IsMessage, IsMessageItem}
use Rattle.proto_parse.specs.Grammar.Messages.{IsInside}
use Rattle.proto_parse.specs.Grammar.Messages.IsBraced.{braced}
use Rattle.proto_parse.specs.Grammar.Messages.IsGroup.{group}
use Rattle.proto_parse.specs.Grammar.Messages.IsLabelled.{field as labelled-field, group as labelled-group}
use Rattle.proto_parse.specs.Grammar.Messages.IsMember.{member}
use Rattle.proto_parse.specs.Grammar.Messages.IsOneofMember.{oneof_member}
use Rattle.proto_parse.specs.Grammar.Messages.IsOneofItem.{empty as oneofs-empty, option as oneofs-option}
use Rattle.proto_parse.specs.Grammar.Messages.IsOneofItem.{member as oneofs-member}
use Rattle.proto_parse.specs.Grammar.Messages.IsOneof.{oneof}
use Rattle.proto_parse.specs.Grammar.Messages.IsExtendItem.{empty as extends-empty, member as extends-member}
use Rattle.proto_parse.specs.Grammar.Messages.IsExtend.{extend}
use Rattle.proto_parse.specs.Grammar.Messages.IsExtendStatement.{kept, passed}
use Rattle.proto_parse.specs.Grammar.Messages.IsMessage.{message}
use Rattle.proto_parse.specs.Grammar.Messages.IsMessageItem.{empty as items-empty, message as items-message}
use Rattle.proto_parse.specs.Grammar.Messages.IsMessageItem.{enum as items-enum, option as items-option}
use Rattle.proto_parse.specs.Grammar.Messages.IsMessageItem.{oneof as items-oneof, map_field as items-map_field}
use Rattle.proto_parse.specs.Grammar.Messages.IsMessageItem.{reserved as items-reserved, extend as items-extend}
use Rattle.proto_parse.specs.Grammar.Messages.IsMessageItem.{extensions as items-extensions, member as items-member}
use Rattle.proto_parse.specs.Grammar.Services.{IsMethodItem, IsMethodEnd, IsMethod, IsServiceItem, IsService}
use Rattle.proto_parse.specs.Grammar.Services.IsMethodItem.{empty as method_items-empty}
use Rattle.proto_parse.specs.Grammar.Services.IsMethodItem.{option as method_items-option}
use Rattle.proto_parse.specs.Grammar.Services.IsMethodEnd.{semicolon as method_end-semicolon, body as method_end-body}
use Rattle.proto_parse.specs.Grammar.Services.IsMethod.{method}
use Rattle.proto_parse.specs.Grammar.Services.IsServiceItem.{empty as services-empty, option as services-option}
use Rattle.proto_parse.specs.Grammar.Services.IsServiceItem.{method as services-method}
use Rattle.proto_parse.specs.Grammar.Services.IsService.{service}
use Rattle.proto_parse.proofs.Choices.{message_begins, enum_begins, oneof_begins, extend_begins, reserved_begins}
use Rattle.proto_parse.proofs.Choices.{extensions_begins, method_begins}
use Rattle.proto_decl.specs.Names.{qualified}
use Rattle.proto_options.specs.declared.elements.Element.TheVariants as of_a
use Rattle.proto_options.specs.declared.statements.Within.{Within}
use Rattle.proto_options.specs.declared.statements.Within.TheVariants as within
use Rattle.proto_options.specs.declared.statements.Statement.{Statement}
use Rattle.proto_options.specs.declared.statements.Statement.TheVariants.{Passed, Braces, Ranges, Member}
use Rattle.proto_options.specs.Elements.{Placed, OfInner, of_options, of_items, of_braced, of_labelled, of_member}
use Rattle.proto_options.specs.Elements.{of_oneof_item, of_oneof, of_extend_item, of_extend, name_of_heading}
use Rattle.proto_options.specs.Elements.{of_message}
use Rattle.proto_options.specs.Elements.{of_message_item, of_inside, of_map_field, of_ranges, of_enum, of_method_item}
use Rattle.proto_options.specs.Elements.{of_method_items}
use Rattle.proto_options.specs.Elements.{of_method_end, of_method, of_service_item, of_service}
use Rattle.proto_options.specs.Reading.Options.{Keeping}
use Rattle.proto_options.specs.Reading.Statements.{heading_at, statement_of, member_of}
use Rattle.proto_options.specs.Reading.Walk.{Inside, braced_at, item_by, message_body_at, ended_by, member_at}
use Rattle.proto_options.specs.Reading.Walk.{passed_at, method_item_at, method_at, body_at, braces_at, statement_by}
use Rattle.proto_options.specs.Reading.Walk.{statement_at}
use Rattle.proto_options.specs.Reading.Walk.{item_at, items_at, block_at, inside_at}
use Rattle.proto_options.proofs.WalkFallLemmas.{KeepingFalls, InsideLeaves, item_falls, items_fall_by, member_takes}
use Rattle.proto_options.proofs.WalkFallLemmas.{inside_leaves, method_items_fall, method_takes}
use Rattle.proto_options.proofs.FrontLemmas.{clear_then, begins_one, begins_then, kind_clear, name_before}
use Rattle.proto_options.proofs.FrontLemmas.{some_before, word_clear, group_name_passes, type_name_clear, label_begins}
use Rattle.proto_options.proofs.FrontLemmas.{method_type_clear}
use Rattle.proto_options.proofs.KeptLemmas.{Walks, walks_then, walks_end, brackets_walk, items_walk}
use Rattle.proto_options.proofs.WalkLemmas.{semicolon_walks, option_item_walks, other_item_walks, OfFields, Front}
use Rattle.proto_options.proofs.WalkLemmas.{extend_item_walks, reserved_walks, ranges_walk, equals_next, typed_walks}
use Rattle.proto_options.proofs.WalkLemmas.{map_field_walks, headed_walks, enum_walks, other_begins, message_word}
use Rattle.proto_options.proofs.WalkLemmas.{member_begins}

-- what is behind the `{` of a message or a group is read as it is placed
abbrev pub InsideWalks : (end : ℕ) → Inside → (Inner : List Lexeme → List Item → List Lexeme → Type 0) → OfInner Inner
    → Type 0
InsideWalks end inside Inner of_inner = (outer name : List ℕ) (a b : List Lexeme) (x : List Item) (i : Inner a x b)
    → Walks end (message_body_at inside outer name) (of_inner outer (qualified outer name) a b x i) a b

map_begins : {custom : CustomOptions} {a b : List Lexeme} {x : MapField} → IsMapField custom a x b
    → first_is (is_word (codes "map")) a ≡ true
map_begins (map_field first less key comma type greater rest) = one_next first

module _ (end : ℕ) where
  -- a statement, by what its first word makes it
  pub statement_walks : (kind : Within) (inside : Inside) (around inner : List ℕ) (is : Statement)
      (settings : List Placed) {a b : List Lexeme} → statement_of kind a ≡ is
      → Walks end (statement_by is kind inside around inner) settings a b
      → Walks end (statement_at kind inside around inner) settings a b
  unfolding statement_at
  statement_walks kind inside around inner is settings {a = a} e walks = record {
    kept = λ options.
        ap (λ (s : Statement). statement_by s kind inside around inner options (place_of end a)) e
        ∙ walks.kept options;
  }

  braced_walks : (Is : List Lexeme → Option Item → List Lexeme → Type 0)
      (each : (a b : List Lexeme) (x : Option Item) → Is a x b → List Placed) (step : Keeping) → KeepingFalls step
      → ((a b : List Lexeme) (x : Option Item) (i : Is a x b) → Walks end step (each a b x i) a b)
      → {a b : List Lexeme} {x : List Item} (i : IsBraced Is a x b) → Walks end (braced_at step) (of_braced each i) a b
  braced_walks Is each step falls walks (braced {b = b} {c = c} items close_brace) = record {
    kept = λ options.
        walks_end end (of_items each items) options (place_of end b) (place_of end c) _ _
        (items_walk end closes Is each step falls (λ x y z i so_far. (walks x y z i).kept so_far) items options)
        (λ all. rw (token_exact end close_brace) refl);
  }

  module _ (inside : Inside) (leaves : InsideLeaves inside) (syntax : Syntax)
      (Inner : List Lexeme → List Item → List Lexeme → Type 0) (of_inner : OfInner Inner)
      (walks_inside : InsideWalks end inside Inner of_inner) where
    -- a group, behind its label or where it has none
    group_walks : (kind : Within) → OfFields end kind → (scope : List ℕ) {first : Span} {label : Option Label}
        {a b c : List Lexeme} {x : BlockTree} (is_group : (is_proto2 syntax && begins_group b) ≡ true) → Front end a b
        → (g : IsGroup (custom_of syntax) Inner first label b x c)
        → Walks end (member_at kind inside scope)
        (of_labelled scope syntax of_inner (labelled-group is_group g)) a c
    unfolding member_at
    group_walks kind is scope is_group front (group {c = c} {items = items}
        (group_head {b = e} {f = f} {g = g} keyword (one {t} n) equals number options closing) i) = record {
          kept = λ so_far.
              let body = walks_inside scope t.spelling g c items i in
              rw (
                ← is t.span,
                name_before Equals Equals end
                    (front e (begins_one Equals Equals end keyword)
                    (word_clear Equals Equals end (refl, refl) (codes "group") keyword))
                    (group_name_passes Equals Equals end (refl, refl) t n) (equals_next end equals),
                token_exact end equals,
                integer_exact end (plain_integer {negative = true} number),
              )
              (walks_then end (of_options scope (member_of kind t.span) options)
              (of_inner scope (qualified scope t.spelling) g c items i) so_far (place_of end f) (place_of end c) _ _
              (brackets_walk end scope (member_of kind t.span) options so_far)
              (λ all. rw (next_other_kind OpenBrace Semicolon f refl (one_next closing), token_exact end closing)
              (body.kept all)));
        }

    -- a field or a group
    labelled_walks : (kind : Within) → OfFields end kind → (scope : List ℕ) {first : Span} {label : Option Label}
        {a b c : List Lexeme} {x : Item} → Front end a b → (l : IsLabelled syntax Inner first label b x c)
        → Walks end (member_at kind inside scope) (of_labelled scope syntax of_inner l) a c
    labelled_walks kind is scope front (labelled-field not_group f) = typed_walks end kind is inside scope front f
    labelled_walks kind is scope front (labelled-group is_group g) = group_walks kind is scope is_group front g

    member_walks : (kind : Within) → OfFields end kind → (scope : List ℕ) {a b : List Lexeme} {x : Item}
        (m : IsMember syntax Inner a x b)
        → Walks end (member_at kind inside scope) (of_member scope syntax of_inner m) a b
    member_walks kind is scope (member label rest) =
        labelled_walks kind is scope (label_begins Equals Equals end (refl, refl) label) rest

    -- ---- oneofs

    oneof_item_walks : (scope : List ℕ) (a b : List Lexeme) (x : Option Item) (i : IsOneofItem syntax Inner a x b)
        → Walks end (item_by within.Oneof scope (member_at within.Oneof inside scope))
        (of_oneof_item scope syntax of_inner a b x i) a b
    oneof_item_walks scope a b x (oneofs-empty s) =
        semicolon_walks end within.Oneof scope (member_at within.Oneof inside scope) s
    oneof_item_walks scope a b x (oneofs-option o) =
        option_item_walks end within.Oneof of_a.Oneof scope (member_at within.Oneof inside scope) refl o
    oneof_item_walks scope a b x (oneofs-member no_semicolon no_option (oneof_member rest)) =
        other_item_walks end within.Oneof scope (member_at within.Oneof inside scope)
        (of_labelled scope syntax of_inner rest) no_semicolon no_option
        (labelled_walks within.Oneof (λ span. refl) scope (λ e begins clear. begins) rest)

    oneof_walks : (scope : List ℕ) {a b : List Lexeme} {x : BlockTree} (o : IsOneof syntax Inner a x b)
        → Walks end (braces_at within.Oneof inside scope) (of_oneof scope syntax of_inner o) a b
    oneof_walks scope (oneof head items) =
        headed_walks end within.Oneof inside scope (of_braced (of_oneof_item scope syntax of_inner) items) head
        (braced_walks (IsOneofItem syntax Inner) (of_oneof_item scope syntax of_inner)
        (item_by within.Oneof scope (member_at within.Oneof inside scope))
        (item_falls within.Oneof scope (member_at within.Oneof inside scope)
        (member_takes inside leaves within.Oneof scope)) (oneof_item_walks scope) items)

    -- ---- extends

    extend_items_walk : (scope : List ℕ) (a b : List Lexeme) (x : Option Item) (i : IsExtendItem syntax Inner a x b)
        → Walks end (item_by within.Extend scope (member_at within.Extend inside scope))
        (of_extend_item scope syntax of_inner a b x i) a b
    extend_items_walk scope a b x (extends-empty s) =
        semicolon_walks end within.Extend scope (member_at within.Extend inside scope) s
    extend_items_walk scope a b x (extends-member no_semicolon m) =
        extend_item_walks end scope (member_at within.Extend inside scope) (of_member scope syntax of_inner m)
        no_semicolon (member_walks within.Extend (λ span. refl) scope m)

    kept_extend_walks : (scope : List ℕ) {a b : List Lexeme} {x : BlockTree} (is : extends syntax ≡ true)
        (e : IsExtend syntax Inner a x b)
        → Walks end (braces_at within.Extend inside scope) (of_extend scope syntax of_inner (kept is e)) a b
    unfolding braces_at heading_at
    kept_extend_walks scope is (extend {c = c} keyword not_scalar type open_brace items) =
        let its = braced_walks (IsExtendItem syntax Inner) (of_extend_item scope syntax of_inner)
        (item_by within.Extend scope (member_at within.Extend inside scope))
        (item_falls within.Extend scope (member_at within.Extend inside scope)
        (member_takes inside leaves within.Extend scope)) (extend_items_walk scope) items in
        record {
          kept = λ options.
              let next : (first_is (of_kind OpenBrace) c || first_is (of_kind OpenBrace) c) ≡ true =
              rw (one_next open_brace) refl in
              let found = some_before OpenBrace OpenBrace end
              (begins_then OpenBrace OpenBrace end (begins_one OpenBrace OpenBrace end keyword)
              (type_name_clear OpenBrace OpenBrace end (refl, refl) (refl, refl) type)) next in
              rw (found.1, token_exact end open_brace) (its.kept options);
        }

    -- ---- messages

    pub message_walks : (scope : List ℕ) {a b : List Lexeme} {x : BlockTree} (m : IsMessage Inner a x b)
        → Walks end (braces_at within.Message inside scope) (of_message scope of_inner m) a b
    message_walks scope (message {b = b} {c = c} {items = items} head i) =
        headed_walks end within.Message inside scope
        (of_inner scope (qualified scope (name_of_heading head)) b c items i) head
        (walks_inside scope (name_of_heading head) b c items i)

    -- a statement of a message that is no option
    by_word : (outer scope : List ℕ) (is : Statement) (settings : List Placed) {a b : List Lexeme}
        → first_is (of_kind Semicolon) a ≡ false → first_is (is_word (codes "option")) a ≡ false
        → statement_of within.Message a ≡ is
        → Walks end (statement_by is within.Message inside outer scope) settings a b
        → Walks end (item_at within.Message inside outer scope) settings a b
    by_word outer scope is settings p q e walks =
        other_item_walks end within.Message outer (statement_at within.Message inside outer scope) settings p q
        (statement_walks within.Message inside outer scope is settings e walks)

  -- an extend that isn't read past, by any syntax but that of proto3 alone
  pub extend_walks : (inside : Inside) (leaves : InsideLeaves inside) (syntax : Syntax)
      (Inner : List Lexeme → List Item → List Lexeme → Type 0) (of_inner : OfInner Inner)
      (walks_inside : InsideWalks end inside Inner of_inner) → extends syntax ≡ true → (scope : List ℕ)
      {a b : List Lexeme} {x : Option BlockTree} (e : IsExtendStatement Inner syntax a x b)
      → Walks end (braces_at within.Extend inside scope) (of_extend scope syntax of_inner e) a b
  extend_walks inside leaves syntax Inner of_inner walks_inside declares scope (kept is e) =
      kept_extend_walks inside leaves syntax Inner of_inner walks_inside scope is e
  extend_walks inside leaves syntax Inner of_inner walks_inside declares scope (passed e) =
      absurd (let no : false ≡ true = declares in cc)

  module _ (inside : Inside) (leaves : InsideLeaves inside) (syntax : Syntax)
      (Inner : List Lexeme → List Item → List Lexeme → Type 0) (of_inner : OfInner Inner)
      (walks_inside : InsideWalks end inside Inner of_inner) (declares : extends syntax ≡ true) where
    -- a statement of a message that is no option
    stated : (outer scope : List ℕ) (is : Statement) (settings : List Placed) {a b : List Lexeme}
        → (first_is (of_kind Semicolon) a ≡ false) × (first_is (is_word (codes "option")) a ≡ false)
        → statement_of within.Message a ≡ is
        → Walks end (statement_by is within.Message inside outer scope) settings a b
        → Walks end (item_at within.Message inside outer scope) settings a b
    stated outer scope is settings isnt e walks =
        by_word inside leaves syntax Inner of_inner walks_inside outer scope is settings isnt.0 isnt.1 e walks

    message_items_walk : (outer scope : List ℕ) (a b : List Lexeme) (x : Option Item)
        (i : IsMessageItem syntax Inner a x b)
        → Walks end (item_at within.Message inside outer scope) (of_message_item outer scope syntax of_inner a b x i) a
        b
    message_items_walk outer scope a b x (items-empty s) =
        semicolon_walks end within.Message outer (statement_at within.Message inside outer scope) s
    message_items_walk outer scope a b x (items-message {message = tree} m) =
        let is = message_begins tree m in
        stated outer scope (Braces within.Message) (of_message scope of_inner m)
        (other_begins (codes "message") a refl is) (message_word (codes "message") a is)
        (message_walks inside leaves syntax Inner of_inner walks_inside scope m)
    message_items_walk outer scope a b x (items-enum e) =
        let is = enum_begins e in
        stated outer scope (Braces within.Enum) (of_enum scope e) (other_begins (codes "enum") a refl is)
        (message_word (codes "enum") a is) (enum_walks end inside leaves scope e)
    message_items_walk outer scope a b x (items-option o) =
        option_item_walks end within.Message of_a.Message outer (statement_at within.Message inside outer scope) refl o
    message_items_walk outer scope a b x (items-oneof {oneof = tree} o) =
        let is = oneof_begins tree o in
        stated outer scope (Braces within.Oneof) (of_oneof scope syntax of_inner o)
        (other_begins (codes "oneof") a refl is) (message_word (codes "oneof") a is)
        (oneof_walks inside leaves syntax Inner of_inner walks_inside scope o)
    message_items_walk outer scope a b x (items-map_field f) =
        let is = map_begins f in
        stated outer scope Member (of_map_field scope f) (other_begins (codes "map") a refl is)
        (message_word (codes "map") a is) (map_field_walks end inside scope f)
    message_items_walk outer scope a b x (items-reserved r) =
        let is = reserved_begins r in
        stated outer scope Passed [] (other_begins (codes "reserved") a refl is) (message_word (codes "reserved") a is)
        (reserved_walks end r)
    message_items_walk outer scope a b x (items-extend {extend = tree} e) =
        let is = extend_begins tree e in
        stated outer scope (Braces within.Extend) (of_extend scope syntax of_inner e)
        (other_begins (codes "extend") a refl is) (message_word (codes "extend") a is)
        (extend_walks inside leaves syntax Inner of_inner walks_inside declares scope e)
    message_items_walk outer scope a b x (items-extensions two e) =
        let is = extensions_begins e in
        stated outer scope Ranges (of_ranges outer e) (other_begins (codes "extensions") a refl is)
        (message_word (codes "extensions") a is) (ranges_walk end outer e)
    message_items_walk outer scope a b x (items-member not_other m) =
        let begins = member_begins syntax a not_other in
        stated outer scope Member (of_member scope syntax of_inner m) (begins.no_semicolon, begins.no_option)
        begins.is_member
        (member_walks inside leaves syntax Inner of_inner walks_inside within.Message (λ span. refl) scope m)

  -- what is behind the `{` of a message, where this many levels are left
  inside_step : (syntax : Syntax) → extends syntax ≡ true → (levels : ℕ)
      → InsideWalks end (inside_at levels) (IsInside syntax levels) (of_inside syntax levels)
      → (outer inner : List ℕ) (a b : List Lexeme) (x : List Item)
      (i : IsBraced (IsMessageItem syntax (IsInside syntax levels)) a x b)
      → Walks end (block_at within.Message (inside_at levels) outer inner)
      (of_braced (of_message_item outer inner syntax (of_inside syntax levels)) i) a b
  unfolding block_at items_at
  inside_step syntax declares levels walks outer inner a b x i =
      let its = braced_walks (IsMessageItem syntax (IsInside syntax levels))
      (of_message_item outer inner syntax (of_inside syntax levels))
      (item_at within.Message (inside_at levels) outer inner)
      (items_fall_by (inside_at levels) (inside_leaves levels) within.Message outer inner)
      (message_items_walk (inside_at levels) (inside_leaves levels) syntax (IsInside syntax levels)
      (of_inside syntax levels) walks declares outer inner) i in
      record { kept = λ options. its.kept options }

  pub inside_walks : (syntax : Syntax) → extends syntax ≡ true → (levels : ℕ)
      → InsideWalks end (inside_at levels) (IsInside syntax levels) (of_inside syntax levels)
  unfolding inside_at of_inside IsInside
  inside_walks syntax declares zero outer name a b x i = absurd i
  inside_walks syntax declares (suc levels) outer name a b x i =
      let its =
      inside_step syntax declares levels (inside_walks syntax declares levels) outer (qualified outer name) a b x i in
      record { kept = λ options. its.kept options }

  -- ---- services

  method_item_walks : (scope : List ℕ) {custom : CustomOptions} {a b : List Lexeme} (i : IsMethodItem custom a b)
      → Walks end (method_item_at scope) (of_method_item scope i) a b
  method_item_walks scope (method_items-empty s) = semicolon_walks end within.Method scope passed_at s
  method_item_walks scope (method_items-option o) =
      option_item_walks end within.Method of_a.Method scope passed_at refl o

  method_items_walk : (scope : List ℕ) {custom : CustomOptions} {s t : Unit {0}} {a b : List Lexeme}
      (u : Until closes (Passes (IsMethodItem custom)) s a t b)
      → Walks end (until_at closes (method_item_at scope)) (of_method_items scope u) a b
  method_items_walk scope (done {a = a} ended) = record {
    kept = λ options.
        rw (until_at-step closes (method_item_at scope) (method_items_fall scope) options (place_of end a), ended) refl;
  }
  method_items_walk scope (more {a = a} {b = b} {c = c} further (passes item) others) =
      let first = method_item_walks scope item in
      let rest = method_items_walk scope others in
      record {
        kept = λ options.
            rw (until_at-step closes (method_item_at scope) (method_items_fall scope) options (place_of end a), further)
            (walks_then end (of_method_item scope item) (of_method_items scope others) options (place_of end b)
            (place_of end c) _ _ (first.kept options) (λ all. rest.kept all));
      }

  method_end_walks : (scope : List ℕ) {custom : CustomOptions} {a b : List Lexeme} {x : Span}
      (e : IsMethodEnd custom a x b)
      → Walks end (ended_by (braced_at (method_item_at scope))) (of_method_end scope e) a b
  method_end_walks scope (method_end-semicolon s) =
      record { kept = λ options. rw (one_next s, one_others s) refl }
  method_end_walks scope (method_end-body {a = a} {c = c} {d = d} open_brace items close_brace) =
      let its = method_items_walk scope items in
      record {
        kept = λ options.
            rw (next_other_kind OpenBrace Semicolon a refl (one_next open_brace), token_exact end open_brace)
            (walks_end end (of_method_items scope items) options (place_of end c) (place_of end d) _ _
            (its.kept options) (λ all. rw (token_exact end close_brace) refl));
      }

  method_end_next : {custom : CustomOptions} {a b : List Lexeme} {x : Span} → IsMethodEnd custom a x b
      → (first_is (of_kind Semicolon) a || first_is (of_kind OpenBrace) a) ≡ true
  method_end_next (method_end-semicolon s) = rw (one_next s) refl
  method_end_next (method_end-body {a = a} o items c) =
      rw (next_other_kind OpenBrace Semicolon a refl (one_next o), one_next o) refl

  method_walks : (scope : List ℕ) {custom : CustomOptions} {a b : List Lexeme} {x : MethodTree}
      (m : IsMethod custom a x b) → Walks end (method_at scope) (of_method scope m) a b
  unfolding method_at
  method_walks scope (method first name input returns output ending) =
      let front = begins_then Semicolon OpenBrace end (begins_one Semicolon OpenBrace end first)
      (clear_then Semicolon OpenBrace end (kind_clear Semicolon OpenBrace end Identifier (refl, refl) name)
      (clear_then Semicolon OpenBrace end
      (method_type_clear Semicolon OpenBrace end (refl, refl) (refl, refl) (refl, refl) (refl, refl) input)
      (clear_then Semicolon OpenBrace end
      (word_clear Semicolon OpenBrace end (refl, refl) (codes "returns") returns)
      (method_type_clear Semicolon OpenBrace end (refl, refl) (refl, refl) (refl, refl) (refl, refl) output)))) in
      let found = some_before Semicolon OpenBrace end front (method_end_next ending) in
      let its = method_end_walks scope ending in
      record { kept = λ options. rw found.1 (its.kept options) }

  service_items_walk : (outer scope : List ℕ) (custom : CustomOptions) (a b : List Lexeme) (x : Option MethodTree)
      (i : IsServiceItem custom a x b)
      → Walks end (item_by within.Service outer (method_at scope)) (of_service_item outer scope custom a b x i) a b
  service_items_walk outer scope custom a b x (services-empty s) =
      semicolon_walks end within.Service outer (method_at scope) s
  service_items_walk outer scope custom a b x (services-option o) =
      option_item_walks end within.Service of_a.Service outer (method_at scope) refl o
  service_items_walk outer scope custom a b x (services-method m) =
      let isnt = other_begins (codes "rpc") a refl (method_begins m) in
      other_item_walks end within.Service outer (method_at scope) (of_method scope m) isnt.0 isnt.1
      (method_walks scope m)

  pub service_walks : (inside : Inside) (scope : List ℕ) {custom : CustomOptions} {a b : List Lexeme} {x : Service}
      (s : IsService custom a x b) → Walks end (braces_at within.Service inside scope) (of_service scope s) a b
  service_walks inside scope {custom = custom} (service {b = b} {c = c} {d = d} head items close_brace) =
      let inner = qualified scope (name_of_heading head) in
      let body : Walks end (body_at within.Service inside scope (name_of_heading head))
      (of_items (of_service_item scope inner custom) items) b d = record {
        kept = λ options.
            walks_end end (of_items (of_service_item scope inner custom) items) options (place_of end c)
            (place_of end d) _ _
            (items_walk end closes (IsServiceItem custom) (of_service_item scope inner custom)
            (item_by within.Service scope (method_at inner))
            (item_falls within.Service scope (method_at inner) (method_takes inner))
            (λ x y z i so_far. (service_items_walk scope inner custom x y z i).kept so_far) items options)
            (λ all. rw (token_exact end close_brace) refl);
      } in
      headed_walks end within.Service inside scope (of_items (of_service_item scope inner custom) items) head body
