-- What derives if only proto3 is accepted, derives if all sources are: where custom options are refused, and where they
-- are read past and no token is the word `extend`.
use Rattle.std.proofs.Common.{◌≡◌, ℕ, zero, suc, Bool, true, false, ◌&&◌, Option, List, [], ◌∷◌, inl, inr, refl}
use Rattle.std.proofs.Common.{◌∙◌, subst, bytes_eq, codes}
use Rattle.std.specs.List.{list_any}
use Rattle.proto_lex.specs.declared.span.Span.{Span}
use Rattle.proto_grammar.specs.declared.dialect.CustomOptions.{CustomOptions}
use Rattle.proto_grammar.specs.declared.dialect.CustomOptions.TheVariants.{Refuse, Skip}
use Rattle.proto_grammar.specs.declared.dialect.Dialect.{Dialect}
use Rattle.proto_grammar.specs.declared.dialect.Dialect.TheVariants as dialects
use Rattle.proto_grammar.specs.declared.dialect.Syntax.{Syntax}
use Rattle.proto_grammar.specs.declared.dialect.Syntax.TheVariants.{Proto3, Extended, Proto2}
use Rattle.proto_grammar.specs.declared.fault.SyntaxFault.{SyntaxFault}
use Rattle.proto_grammar.specs.declared.tree.Label.{Label}
use Rattle.proto_grammar.specs.declared.tree.Item.{Item}
use Rattle.proto_grammar.specs.declared.tree.File.{File}
use Rattle.proto_grammar.specs.Lexeme.{Lexeme}
use Rattle.proto_grammar.specs.Terminal.{is_word}
use Rattle.proto_grammar.specs.Syntax.{proto3_in}
use Rattle.proto_grammar.specs.Tree.{BlockTree}
use Rattle.proto_steps.specs.Step.{Step, Done, Never, If, when, Derives, ◌>>=◌}
use Rattle.proto_steps.specs.Grammar.Parts.{extension, part, dot_part, dot_parts, option_name, aggregate, constant}
use Rattle.proto_steps.specs.Grammar.Parts.{setting, comma_setting, comma_settings, option_statement, bracketed}
use Rattle.proto_steps.specs.Grammar.Parts.{options, numbered, typed, label, group_head, map_field}
use Rattle.proto_steps.specs.Grammar.Definitions.{value, enum_item, enum_items, enumeration, Inside, braced, group}
use Rattle.proto_steps.specs.Grammar.Definitions.{labelled, member, oneof_member, oneof_item, oneof, passed_extend}
use Rattle.proto_steps.specs.Grammar.Definitions.{extend_statement, message, ranges, field_of_map, declared_map}
use Rattle.proto_steps.specs.Grammar.Definitions.{map_item, message_item, inside, method_item, method_items}
use Rattle.proto_steps.specs.Grammar.Definitions.{method_body, method_end, method, service_item, service_items}
use Rattle.proto_steps.specs.Grammar.Definitions.{service, accepted, spelled, version, syntax_statement, syntax}
use Rattle.proto_steps.specs.Grammar.Definitions.{file_statement, file_statements, file}
use Rattle.proto_steps.specs.Grammar.Definitions.Inside.{Level}
use Rattle.proto_steps.proofs.AmongLemmas.{Among, Free, among, free_behind}
use Rattle.proto_steps.proofs.AmongLemmas.Lifts.{same, lifted, lifted_first, peeked, one_then, either_of, unmet}
use Rattle.proto_steps.proofs.AmongLemmas.Lifts.{as_long}
use Rattle.proto_steps.proofs.TurnLemmas.{either}
use Rattle.proto_steps.proofs.StepLaws.{taken}
use Rattle.proto_steps.proofs.FileLemmas.{when_derives}

-- ---- custom options

module _ (barred : Lexeme → Bool) where
  extension_among : (custom : CustomOptions) → Among barred (extension custom) (extension Skip)
  unfolding extension
  extension_among Refuse = lifted
  extension_among Skip = same

  part_among : (custom : CustomOptions) → Among barred (part custom) (part Skip)
  unfolding part
  part_among custom = search (extension_among, same, either_of) depth 40

  option_name_among : (custom : CustomOptions) → Among barred (option_name custom) (option_name Skip)
  unfolding option_name dot_parts dot_part
  option_name_among custom = search (part_among, same, one_then, as_long) depth 40

  aggregate_among : (custom : CustomOptions) → Among barred (aggregate custom) (aggregate Skip)
  unfolding aggregate
  aggregate_among Refuse = lifted
  aggregate_among Skip = same

  constant_among : (custom : CustomOptions) → Among barred (constant custom) (constant Skip)
  unfolding constant
  constant_among custom = search (aggregate_among, same, either_of) depth 40

  setting_among : (custom : CustomOptions) → Among barred (setting custom) (setting Skip)
  unfolding setting
  setting_among custom = search (option_name_among, constant_among, same, one_then) depth 40

  option_among : (custom : CustomOptions) → Among barred (option_statement custom) (option_statement Skip)
  unfolding option_statement
  option_among custom = search (setting_among, same, one_then) depth 40

  options_among : (custom : CustomOptions) → Among barred (options custom) (options Skip)
  unfolding options bracketed comma_settings comma_setting
  options_among custom = search (setting_among, same, one_then, either_of, as_long) depth 40

  -- ---- fields

  numbered_among : (custom : CustomOptions) (first : Span) → Among barred (numbered custom first) (numbered Skip first)
  unfolding numbered
  numbered_among custom first = search (options_among, same, one_then) depth 40

  typed_among : (custom : CustomOptions) (first : Span) (kind : Option Label)
      → Among barred (typed custom first kind) (typed Skip first kind)
  unfolding typed
  typed_among custom first kind = search (numbered_among, same, one_then) depth 40

  group_head_among : (custom : CustomOptions) (first : Span) (kind : Option Label)
      → Among barred (group_head custom first kind) (group_head Skip first kind)
  unfolding group_head
  group_head_among custom first kind = search (options_among, same, one_then) depth 40

  map_field_among : (custom : CustomOptions) (first : Span)
      → Among barred (map_field custom first) (map_field Skip first)
  unfolding map_field
  map_field_among custom first = search (numbered_among, same, one_then) depth 40

  field_of_map_among : (custom : CustomOptions) (first : Span)
      → Among barred (field_of_map custom first) (field_of_map Skip first)
  unfolding field_of_map
  field_of_map_among custom first = search (numbered_among, same, one_then) depth 40

  -- ---- enums and services

  value_among : (custom : CustomOptions) → Among barred (value custom) (value Skip)
  unfolding value
  value_among custom = search (options_among, same, one_then) depth 40

  enum_among : (custom : CustomOptions) → Among barred (enumeration custom) (enumeration Skip)
  unfolding enumeration enum_items enum_item
  enum_among custom = search (option_among, value_among, same, one_then, either_of, as_long) depth 40

  method_item_among : (custom : CustomOptions) → Among barred (method_item custom) (method_item Skip)
  unfolding method_item
  method_item_among custom = search (option_among, same, either_of) depth 40

  method_end_among : (custom : CustomOptions) → Among barred (method_end custom) (method_end Skip)
  unfolding method_end method_body method_items
  method_end_among custom = search (method_item_among, same, one_then, either_of, as_long) depth 40

  method_among : (custom : CustomOptions) → Among barred (method custom) (method Skip)
  unfolding method
  method_among custom = search (method_end_among, same, one_then) depth 40

  service_item_among : (custom : CustomOptions) → Among barred (service_item custom) (service_item Skip)
  unfolding service_item
  service_item_among custom = search (option_among, method_among, same, one_then, either_of) depth 40

  service_among : (custom : CustomOptions) → Among barred (service custom) (service Skip)
  unfolding service service_items
  service_among custom = search (service_item_among, same, one_then, as_long) depth 40

  -- ---- messages

  -- what is inside of one more message or group
  pub record Nested (custom : CustomOptions) (inside other : Inside) : Type 1 where
    pub group_among : (first : Span) (kind : Option Label)
        → Among barred (group custom inside first kind) (group Skip other first kind)
    pub message_among : Among barred (message inside) (message other)

  -- where custom options are read past, extends are barred
  abbrev pub Shut : CustomOptions → Type 0
  Shut custom = custom ≡ Skip → (t : Lexeme) → barred t ≡ false → is_word (codes "extend") t ≡ false

  labelled_among : (custom : CustomOptions) (inside other : Inside) (first : Span) (kind : Option Label)
      → Nested custom inside other
      → Among barred (labelled (Proto3 custom) inside first kind) (labelled Extended other first kind)
  unfolding labelled
  labelled_among custom inside other first kind nested =
      search (typed_among, nested.group_among, same, one_then, either_of) depth 40

  member_among : (custom : CustomOptions) (inside other : Inside) → Nested custom inside other
      → Among barred (member (Proto3 custom) inside) (member Extended other)
  unfolding member label
  member_among custom inside other nested = search (labelled_among, same, peeked, one_then) depth 40

  oneof_member_among : (custom : CustomOptions) (inside other : Inside) → Nested custom inside other
      → Among barred (oneof_member (Proto3 custom) inside) (oneof_member Extended other)
  unfolding oneof_member
  oneof_member_among custom inside other nested = search (labelled_among, peeked) depth 40

  oneof_item_among : (custom : CustomOptions) (inside other : Inside) → Nested custom inside other
      → Among barred (oneof_item (Proto3 custom) inside) (oneof_item Extended other)
  unfolding oneof_item
  oneof_item_among custom inside other nested =
      search (option_among, oneof_member_among, same, one_then, either_of) depth 40

  oneof_among : (custom : CustomOptions) (inside other : Inside) → Nested custom inside other
      → Among barred (oneof (Proto3 custom) inside) (oneof Extended other)
  unfolding oneof braced
  oneof_among custom inside other nested = search (oneof_item_among, same, one_then, as_long) depth 40

  map_item_among : (custom : CustomOptions) → Among barred (map_item (Proto3 custom)) (map_item Extended)
  unfolding map_item declared_map
  map_item_among custom = search (map_field_among, field_of_map_among, same, one_then, either_of) depth 40

  extend_among : {B : Type 0} (custom : CustomOptions) (inside other : Inside) (k : Option BlockTree → Step B)
      (p q : Step B) → Shut custom → Among barred p q
      → Among barred (If (is_word (codes "extend")) (extend_statement (Proto3 custom) inside >>= k) p)
      (If (is_word (codes "extend")) (extend_statement Extended other >>= k) q)
  unfolding extend_statement passed_extend
  extend_among Refuse inside other k p q shut h = either_of (one_then lifted_first (λ x. same)) h
  extend_among Skip inside other k p q shut h = unmet (shut refl) h

  message_item_among : (custom : CustomOptions) (inside other : Inside) → Shut custom → Nested custom inside other
      → Among barred (message_item (Proto3 custom) inside) (message_item Extended other)
  unfolding message_item ranges
  message_item_among custom inside other shut nested =
      search (
        enum_among,
        option_among,
        oneof_among,
        map_item_among,
        extend_among,
        member_among,
        nested.message_among,
        same,
        one_then,
        either_of,
      ) depth 40

  nested_level : (custom : CustomOptions) (item change : Step (Option Item)) → Among barred item change
      → Nested custom (Level (braced item)) (Level (braced change))
  unfolding group message braced
  nested_level custom item change h =
      let inner : Among barred (braced item) (braced change) = one_then (as_long (λ items. one_then h (λ x. same)))
      (λ items. same)
      in
      record {
        group_among =
            λ first kind. one_then (group_head_among custom first kind) (λ x. one_then inner (λ items. same));
        message_among = one_then same (λ x. one_then inner (λ items. same));
      }

  inside_among : (custom : CustomOptions) (levels : ℕ) → Shut custom
      → Nested custom (inside (Proto3 custom) levels) (inside Extended levels)
  unfolding inside group message
  inside_among custom zero shut = record { group_among = λ first kind. lifted; message_among = lifted }
  inside_among custom (suc levels) shut =
      nested_level custom (message_item (Proto3 custom) (inside (Proto3 custom) levels))
      (message_item Extended (inside Extended levels))
      (message_item_among custom (inside (Proto3 custom) levels) (inside Extended levels) shut
      (inside_among custom levels shut))

  -- ---- files

  file_statement_among : (custom : CustomOptions) (levels : ℕ) (file : File) → Shut custom
      → Among barred (file_statement levels (Proto3 custom) file) (file_statement levels Extended file)
  unfolding file_statement
  file_statement_among custom levels file shut =
      let nested = inside_among custom levels shut in
      search
      (extend_among, option_among, enum_among, service_among, nested.message_among, same, one_then, either_of) depth 40

  pub file_statements_among : (custom : CustomOptions) (levels : ℕ) → Shut custom
      → Among barred (file_statements levels (Proto3 custom)) (file_statements levels Extended)
  unfolding file_statements
  file_statements_among custom levels shut = as_long (λ file. file_statement_among custom levels file shut)

-- none is barred where custom options are refused
pub none_free : (a : List Lexeme) → list_any (λ t. false) a ≡ false
none_free [] = refl
none_free (t ∷ rest) = none_free rest

-- ---- with the syntax statement

derives_when : {A : Type 0} (b : Bool) (p q : Step A) (a : List Lexeme) (x : A) (c : List Lexeme) → b ≡ true
    → Derives p a x c → Derives (when b p q) a x c
derives_when true p q a x c is d = d
derives_when false p q a x c is d = absurd (let never : false ≡ true = is in cc)

no_proto2 : {P : Type 0} (b : Bool) (fault : ℕ → SyntaxFault) (a : List Lexeme) (x : Syntax) (c : List Lexeme)
    → Derives (when (b && false) (Done Proto2) (Never fault)) a x c → P
no_proto2 true fault a x c d = absurd d
no_proto2 false fault a x c d = absurd d

accepted_among : (custom : CustomOptions) (other : Dialect) (first : Span) (text : List ℕ) (a b : List Lexeme)
    (x : Syntax) → Derives (accepted (dialects.Proto3 custom) first text) a x b
    → (x ≡ Proto3 custom) × Derives (accepted other first text) a (proto3_in other) b
unfolding accepted
accepted_among custom other first text a b x d =
    either (when_derives (bytes_eq text (codes "proto3")) _ _ a x b d)
    (λ e. (e.1.0, derives_when (bytes_eq text (codes "proto3")) _ _ a (proto3_in other) b e.0 (refl, e.1.1)))
    (λ e. no_proto2 (bytes_eq text (codes "proto2")) _ a x b e.1)

-- What proto3 reads, each dialect reads as its proto3.
pub syntax_among : (custom : CustomOptions) (other : Dialect) (a b : List Lexeme) (x : Syntax)
    → Derives (syntax (dialects.Proto3 custom)) a x b
    → (x ≡ Proto3 custom) × Derives (syntax other) a (proto3_in other) b
unfolding syntax syntax_statement version spelled
syntax_among custom other a b x (inl d) =
    let word = d.1 in
    let equals = word.3 in
    let named = equals.3 in
    let peeked = named.2 in
    let content = peeked.3 in
    let text = content.3 in
    let end = named.3 in
    let wide = accepted_among custom other peeked.0.span text.0 text.1 named.1 named.0 text.3 in (
      end.3.0 ∙ wide.0,
      inl (
        d.0,
        (
          word.0,
          word.1,
          word.2,
          (
            equals.0,
            equals.1,
            equals.2,
            (
              proto3_in other,
              named.1,
              (
                peeked.0,
                peeked.1,
                peeked.2,
                (content.0, content.1, content.2, (text.0, text.1, text.2, wide.1)),
              ),
              (end.0, end.1, end.2, (refl, end.3.1)),
            ),
          ),
        ),
      ),
    )
syntax_among custom other a b x (inr d) = either d.1 (λ e. absurd e.1) (λ e. absurd e.1)

pub file_among : (barred : Lexeme → Bool) (custom : CustomOptions) (levels : ℕ) → Shut barred custom
    → (a b : List Lexeme) (x : File) → Free barred a → Derives (file levels (dialects.Proto3 custom)) a x b
    → Derives (file levels dialects.All) a x b
unfolding file
file_among barred custom levels shut a b x free d =
    let s = syntax_among custom dialects.All a d.1 d.0 d.2 in
    let statements = subst (λ g. Derives (file_statements levels g) d.1 x b) s.0 d.3 in
    let behind = free_behind barred (taken (syntax (dialects.Proto3 custom)) a d.1 d.0 d.2) free in
    (Extended, d.1, s.1, among (file_statements_among barred custom levels shut) d.1 b x behind statements)

-- where custom options are refused, nothing is barred
pub all_open : Shut (λ t. false) Refuse
all_open e = absurd (let never : Refuse ≡ Skip = e in cc)
