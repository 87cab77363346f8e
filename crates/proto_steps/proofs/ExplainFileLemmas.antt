-- The same of messages and files.
use Rattle.std.proofs.Common.{◌≡◌, ℕ, zero, suc, ◌<◌, Bool, true, false, ◌&&◌, Option, Some, None, List, [], ◌∷◌, ◌++◌}
use Rattle.std.proofs.Common.{◌⊎◌, inl, inr, refl, sym, ap, subst, ◌∙◌, length, codes, append_assoc, arith}
use Rattle.std.specs.Prelude.{is_some}
use Rattle.std.proofs.lemmas.Bool.{and_parts}
use Rattle.std.proofs.lemmas.List.{length-append, append_cancel_right}
use Rattle.proto_lex.specs.declared.span.Span.{Span}
use Rattle.proto_lex.specs.declared.token.TokenKind.TheVariants.{Identifier, Semicolon, StringLiteral}
use Rattle.proto_grammar.specs.declared.dialect.CustomOptions.{CustomOptions}
use Rattle.proto_grammar.specs.declared.dialect.CustomOptions.TheVariants.{Refuse, Skip}
use Rattle.proto_grammar.specs.declared.dialect.Syntax.{Syntax}
use Rattle.proto_grammar.specs.declared.dialect.Syntax.TheVariants.{Proto3, Extended, Proto2}
use Rattle.proto_grammar.specs.declared.fault.SyntaxFault.{SyntaxFault}
use Rattle.proto_grammar.specs.declared.fault.SyntaxFault.TheVariants.{ImportEscape, TwoPackages, Grammar}
use Rattle.proto_grammar.specs.declared.tree.Label.{Label}
use Rattle.proto_grammar.specs.declared.tree.Item.{Item}
use Rattle.proto_grammar.specs.declared.tree.File.{File}
use Rattle.proto_grammar.specs.Lexeme.{Lexeme, place_of}
use Rattle.proto_grammar.specs.Terminal.{first_is, of_kind, is_word, is_group_word, is_plain_literal, offset_at}
use Rattle.proto_grammar.specs.Syntax.{custom_of, is_proto2}
use Rattle.proto_grammar.proofs.TerminalTokenLemmas.{other_kind, other_word, word_kind}
use Rattle.proto_steps.specs.Step.{Step, Done, Never, If, While, when, Derives, Refused, Turns, wrong_at, ◌>>=◌}
use Rattle.proto_steps.specs.Step.Turns.{ended, turn}
use Rattle.proto_steps.specs.Step.Breaks.{here, later}
use Rattle.proto_steps.specs.Terminals.{an_ident, like, plain_literal, is_inside, is_token, is_escaped}
use Rattle.proto_steps.specs.Grammar.Parts.{field, label, required, type_name, leading_dot, name, option_statement}
use Rattle.proto_steps.specs.Grammar.Parts.{typed, group_head}
use Rattle.proto_steps.specs.Grammar.Definitions.{Inside, braced, group, labelled, member, oneof_member, oneof_item}
use Rattle.proto_steps.specs.Grammar.Definitions.{oneof, extend_item, extend, passed_item, passed_items, passed_extend}
use Rattle.proto_steps.specs.Grammar.Definitions.{extend_statement, message, ranges, field_of_map, declared_map}
use Rattle.proto_steps.specs.Grammar.Definitions.{map_item, message_item, inside, enumeration, service, import_kind}
use Rattle.proto_steps.specs.Grammar.Definitions.{path_literal, path_literals, import, package_statement, only_package}
use Rattle.proto_steps.specs.Grammar.Definitions.{file_statement, empty_file, file_statements}
use Rattle.proto_steps.specs.Grammar.Definitions.Inside.{Level}
use Rattle.proto_steps.proofs.EndLemmas.{cut}
use Rattle.proto_steps.proofs.EndFileLemmas.{file_statement_ends}
use Rattle.proto_steps.proofs.ExplainLemmas.{Explains, Outcome, Deeply, Leaves, Reaches, lit, done, never, any}
use Rattle.proto_steps.proofs.ExplainLemmas.{option_ban, deep_ban, take, either_of, no_front}
use Rattle.proto_steps.proofs.ExplainLoopLemmas.{AtLiteral, one_then, peeked, turns_tell, many, behind_token, more_than}
use Rattle.proto_steps.proofs.ExplainLemmas.OptionBan.{extend as extend_ban}
use Rattle.proto_steps.proofs.ExplainLemmas.Reaches.{whole}
use Rattle.proto_steps.proofs.ExplainLemmas.Outcome.{misplaced, escape, also}
use Rattle.proto_steps.proofs.ExplainPartLemmas.{Told, name_told, dot_names_told, type_name_told, named_type_told}
use Rattle.proto_steps.proofs.ExplainPartLemmas.{option_told, numbered_told, typed_told, label_told, group_head_told}
use Rattle.proto_steps.proofs.ExplainPartLemmas.{map_field_told, reserved_told, extensions_told, heading_told}
use Rattle.proto_steps.proofs.ExplainPartLemmas.{enum_told, service_told, typed_at_literal}

-- the grammar, where custom options are read past
abbrev pub skipping : Syntax → Syntax
skipping (Proto3 custom) = Proto3 Skip
skipping Extended = Extended
skipping Proto2 = Proto2

-- a message or a group may be too deep
abbrev pub Tells : Syntax → (List Lexeme → Bool) → {A : Type 0} → Step A → Step A → Type 0
Tells syntax on p q = Told true (custom_of syntax) on p q

-- ---- what is read by the grammar of a file

options_tell : (syntax : Syntax) {on : List Lexeme → Bool} → Tells syntax on (option_statement (custom_of syntax))
    (option_statement (custom_of (skipping syntax)))
options_tell (Proto3 custom) = option_told custom
options_tell Extended = option_told Skip
options_tell Proto2 = option_told Skip

enum_tells : (syntax : Syntax) {on : List Lexeme → Bool} → Tells syntax on (enumeration (custom_of syntax))
    (enumeration (custom_of (skipping syntax)))
enum_tells (Proto3 custom) = enum_told custom
enum_tells Extended = enum_told Skip
enum_tells Proto2 = enum_told Skip

service_tells : (syntax : Syntax) {on : List Lexeme → Bool} → Tells syntax on (service (custom_of syntax))
    (service (custom_of (skipping syntax)))
service_tells (Proto3 custom) = service_told custom
service_tells Extended = service_told Skip
service_tells Proto2 = service_told Skip

-- ---- messages

-- what is inside of one more message or group
pub record Nested (syntax : Syntax) (inside other : Inside) : Type 0 where
  pub group_tells : (first : Span) (kind : Option Label)
      → Tells syntax (first_is (λ t. is_proto2 syntax && is_group_word t)) (group (custom_of syntax) inside first kind)
      (group (custom_of (skipping syntax)) other first kind)
  pub message_tells : Tells syntax (first_is (is_word (codes "message"))) (message inside) (message other)

labelled_tells : (syntax : Syntax) (inside other : Inside) (first : Span) (kind : Option Label)
    {on : List Lexeme → Bool} → Nested syntax inside other
    → Tells syntax on (labelled syntax inside first kind) (labelled (skipping syntax) other first kind)
unfolding labelled
labelled_tells (Proto3 custom) inside other first kind nested =
    search (typed_told, nested.group_tells, done, one_then, either_of) depth 40
labelled_tells Extended inside other first kind nested =
    search (typed_told, nested.group_tells, done, one_then, either_of) depth 40
labelled_tells Proto2 inside other first kind nested =
    search (typed_told, nested.group_tells, done, one_then, either_of) depth 40

labelled_at_literal : (syntax : Syntax) (inside : Inside) (first : Span) (kind : Option Label) (u : Lexeme) (end : ℕ)
    (c : List Lexeme) → Refused (labelled syntax inside first kind) end (lit u ∷ c) (Grammar u.span.start) (lit u ∷ c)
unfolding labelled
labelled_at_literal (Proto3 custom) inside first kind u end c =
    inr (refl, inl (typed_at_literal custom first kind u end c))
labelled_at_literal Extended inside first kind u end c = inr (refl, inl (typed_at_literal Skip first kind u end c))
labelled_at_literal Proto2 inside first kind u end c = inr (refl, inl (typed_at_literal Skip first kind u end c))

member_at_literal : (syntax : Syntax) (inside : Inside)
    → AtLiteral (λ first. label syntax >>= λ kind. labelled syntax inside first.span kind)
unfolding label required
member_at_literal (Proto3 custom) inside u end c = inr (
  None,
  lit u ∷ c,
  inr (refl, inr (refl, (refl, refl))),
  labelled_at_literal (Proto3 custom) inside u.span None u end c,
)
member_at_literal Extended inside u end c = inr (
  None,
  lit u ∷ c,
  inr (refl, inr (refl, (refl, refl))),
  labelled_at_literal Extended inside u.span None u end c,
)
member_at_literal Proto2 inside u end c = inl (inr (refl, inr (refl, inl (refl, refl, refl))))

oneof_member_at_literal : (syntax : Syntax) (inside : Inside)
    → AtLiteral (λ first. labelled syntax inside first.span None)
oneof_member_at_literal syntax inside u end c = labelled_at_literal syntax inside u.span None u end c

field_at_literal : AtLiteral (λ first. label (Proto3 Skip) >>= λ kind. typed Skip first.span kind)
unfolding label
field_at_literal u end c =
    inr (None, lit u ∷ c, inr (refl, inr (refl, (refl, refl))), typed_at_literal Skip u.span None u end c)

label_tells : (syntax : Syntax) {on : List Lexeme → Bool} → Tells syntax on (label syntax) (label (skipping syntax))
unfolding label
label_tells (Proto3 custom) = label_told (Proto3 custom)
label_tells Extended = label_told Extended
label_tells Proto2 = label_told Proto2

member_tells : (syntax : Syntax) (inside other : Inside) {on : List Lexeme → Bool} → Nested syntax inside other
    → Tells syntax on (member syntax inside) (member (skipping syntax) other)
unfolding member
member_tells syntax inside other nested =
    peeked _ (λ v. one_then (label_tells syntax) (λ kind. labelled_tells syntax inside other v.span kind nested))
    (member_at_literal syntax inside)

oneof_member_tells : (syntax : Syntax) (inside other : Inside) {on : List Lexeme → Bool} → Nested syntax inside other
    → Tells syntax on (oneof_member syntax inside) (oneof_member (skipping syntax) other)
unfolding oneof_member
oneof_member_tells syntax inside other nested =
    peeked _ (λ v. labelled_tells syntax inside other v.span None nested) (oneof_member_at_literal syntax inside)

oneof_tells : (syntax : Syntax) (inside other : Inside) {on : List Lexeme → Bool} → Nested syntax inside other
    → Tells syntax on (oneof syntax inside) (oneof (skipping syntax) other)
unfolding oneof braced oneof_item
oneof_tells syntax inside other nested =
    search (heading_told, options_tell, oneof_member_tells, done, take, one_then, either_of, many) depth 40

extend_tells : (syntax : Syntax) (inside other : Inside) {on : List Lexeme → Bool} → Nested syntax inside other
    → Tells syntax on (extend syntax inside) (extend (skipping syntax) other)
unfolding extend braced extend_item
extend_tells syntax inside other nested =
    search (named_type_told, member_tells, done, take, one_then, either_of, many) depth 40

field_told : {deep : Bool} {on : List Lexeme → Bool} → Told deep Skip on (field Skip) (field Skip)
unfolding field
field_told =
    peeked _ (λ v. one_then (label_told (Proto3 Skip)) (λ kind. typed_told Skip v.span kind)) field_at_literal

pub passed_skipped_told : {deep : Bool} {on : List Lexeme → Bool}
    → Told deep Skip on (passed_extend Skip) (passed_extend Skip)
unfolding passed_extend passed_items passed_item
passed_skipped_told = search (type_name_told, field_told, done, take, one_then, either_of, many) depth 40

passed_extend_told : (custom : CustomOptions)
    → Told true custom (first_is (is_word (codes "extend"))) (passed_extend custom) (passed_extend Skip)
unfolding passed_extend type_name leading_dot name
passed_extend_told Refuse =
    option_ban (λ t is. extend_ban is)
    (behind_token (record { is = is_word (codes "extend"); example = like Identifier (codes "extend") }) _ an_ident
    (λ x. refl))
passed_extend_told Skip = passed_skipped_told

extend_statement_tells : (syntax : Syntax) (inside other : Inside) → Nested syntax inside other
    → Tells syntax (first_is (is_word (codes "extend"))) (extend_statement syntax inside)
    (extend_statement (skipping syntax) other)
unfolding extend_statement
extend_statement_tells (Proto3 custom) inside other nested = one_then (passed_extend_told custom) (λ x. done)
extend_statement_tells Extended inside other nested = one_then (extend_tells Extended inside other nested) (λ x. done)
extend_statement_tells Proto2 inside other nested = one_then (extend_tells Proto2 inside other nested) (λ x. done)

pub ranges_tell : {deep : Bool} (syntax : Syntax) {on : List Lexeme → Bool}
    → Told deep (custom_of syntax) on (ranges syntax) (ranges (skipping syntax))
unfolding ranges
ranges_tell (Proto3 custom) = never
ranges_tell Extended = never
ranges_tell Proto2 = one_then (extensions_told Skip) (λ x. done)

pub map_item_tells : {deep : Bool} (syntax : Syntax) {on : List Lexeme → Bool}
    → Told deep (custom_of syntax) on (map_item syntax) (map_item (skipping syntax))
unfolding map_item declared_map field_of_map
map_item_tells (Proto3 custom) =
    search (map_field_told, dot_names_told, numbered_told, done, take, one_then, either_of) depth 40
map_item_tells Extended =
    search (map_field_told, dot_names_told, numbered_told, done, take, one_then, either_of) depth 40
map_item_tells Proto2 = search (map_field_told, done, take, one_then) depth 40

message_item_tells : (syntax : Syntax) (inside other : Inside) {on : List Lexeme → Bool} → Nested syntax inside other
    → Tells syntax on (message_item syntax inside) (message_item (skipping syntax) other)
unfolding message_item
message_item_tells syntax inside other nested =
    either_of (λ t u. refl) (one_then (take (λ t u. refl)) (λ x. done))
    (either_of (λ t u. refl) (one_then nested.message_tells (λ x. done))
    (either_of (λ t u. refl) (one_then (enum_tells syntax) (λ x. done))
    (either_of (λ t u. refl) (one_then (options_tell syntax) (λ x. done))
    (either_of (λ t u. refl) (one_then (oneof_tells syntax inside other nested) (λ x. done))
    (either_of (λ t u. refl) (one_then (map_item_tells syntax) (λ x. done))
    (either_of (λ t u. refl) (one_then (reserved_told false) (λ x. done))
    (either_of (λ t u. refl) (one_then (extend_statement_tells syntax inside other nested) (λ x. done))
    (either_of (λ t u. refl) (ranges_tell syntax)
    (one_then (member_tells syntax inside other nested) (λ x. done))))))))))

group_heads_tell : (syntax : Syntax) (first : Span) (kind : Option Label) {on : List Lexeme → Bool}
    → Tells syntax on (group_head (custom_of syntax) first kind) (group_head (custom_of (skipping syntax)) first kind)
group_heads_tell (Proto3 custom) first kind = group_head_told custom first kind
group_heads_tell Extended first kind = group_head_told Skip first kind
group_heads_tell Proto2 first kind = group_head_told Skip first kind

nested_level : (syntax : Syntax) (item other : Step (Option Item))
    → Tells syntax (first_is is_inside) item other → Nested syntax (Level (braced item)) (Level (braced other))
unfolding group message braced
nested_level syntax item other h =
    let inner : Tells syntax any (braced item) (braced other) =
    one_then (many (λ t u. refl) (λ items. one_then h (λ x. done))) (λ items. one_then (take (λ t u. refl)) (λ x. done))
    in
    record {
      group_tells =
          λ first kind. one_then (group_heads_tell syntax first kind) (λ x. one_then inner (λ items. done));
      message_tells = one_then (heading_told (codes "message")) (λ x. one_then inner (λ items. done));
    }

pub inside_tells : (syntax : Syntax) (levels : ℕ)
    → Nested syntax (inside syntax levels) (inside (skipping syntax) levels)
unfolding inside group message
inside_tells syntax zero = record {
  group_tells = λ first kind. deep_ban (λ n. (first.start, refl));
  message_tells = deep_ban (λ n. (n, refl));
}
inside_tells syntax (suc levels) =
    nested_level syntax (message_item syntax (inside syntax levels))
    (message_item (skipping syntax) (inside (skipping syntax) levels))
    (message_item_tells syntax (inside syntax levels) (inside (skipping syntax) levels) (inside_tells syntax levels))

-- ---- imports and packages

path_literal_told : {deep : Bool} {on : List Lexeme → Bool} {custom : CustomOptions}
    → Told deep custom on path_literal path_literal
unfolding path_literal
path_literal_told {deep} {on} {custom} = record {
  past = λ a b x d. d;
  leaves = literal_leaves;
  missing = λ end a e at r. literal_missing end a e r;
  at_token = λ end f t b e at r. literal_token end f t b e r;
}
  where
    literal_leaves : Leaves (If is_escaped (Never ImportEscape) plain_literal)
    literal_leaves f t u b c x is lit_u (inl d) = absurd d.1
    literal_leaves f t u b c x is lit_u (inr d) =
        let one : f ≡ d.1.0 ∷ [] = append_cancel_right f (d.1.0 ∷ []) (t ∷ b) d.1.1 in
        subst (λ z. Derives (If is_escaped (Never ImportEscape) plain_literal) (z ++ u ∷ c) x (u ∷ c)) (sym one)
        (inr (
          ap (λ z. first_is is_escaped (z ++ t ∷ b)) (sym one) ∙ d.0,
          (d.1.0, refl, d.1.2, d.1.3),
        ))

    literal_missing : (end : ℕ) (a : List Lexeme) (e : SyntaxFault)
        → Refused (If is_escaped (Never ImportEscape) plain_literal) end a e [] → e ≡ Grammar end
    literal_missing end a e (inl r) =
        absurd (let never : false ≡ true = subst (λ z. first_is is_escaped z ≡ true) (sym r.1.0) r.0 in cc)
    literal_missing end a e (inr r) = r.1.2 ∙ ap (λ z. wrong_at end z) (sym r.1.1)

    plain_reaches : (end : ℕ) (u : Lexeme) → is_plain_literal u ≡ true
        → Reaches (If is_escaped (Never ImportEscape) plain_literal) end (u ∷ [])
    plain_reaches end u plain =
        let both = and_parts (of_kind StringLiteral u) _ plain in
        whole u.span (inr (rw (both.0, both.1) refl, (u, refl, plain, refl)))

    literal_token : (end : ℕ) (f : List Lexeme) (t : Lexeme) (b : List Lexeme) (e : SyntaxFault)
        → Refused (If is_escaped (Never ImportEscape) plain_literal) end (f ++ t ∷ b) e (t ∷ b)
        → Outcome custom (Deeply deep) (If is_escaped (Never ImportEscape) plain_literal)
        (If is_escaped (Never ImportEscape) plain_literal) end f t b e
    literal_token end f t b e (inl r) =
        escape (subst (λ z. first_is is_escaped z ≡ true) (sym r.1.0) r.0)
        (r.1.1 ∙ ap (λ z. ImportEscape (offset_at (place_of end z))) (sym r.1.0))
        (λ u plain.
        subst (λ z. Reaches (If is_escaped (Never ImportEscape) plain_literal) end (z ++ u ∷ []))
        (sym (no_front f (t ∷ b) r.1.0)) (plain_reaches end u plain))
    literal_token end f t b e (inr r) =
        misplaced (r.1.2 ∙ ap (λ z. wrong_at end z) (sym r.1.1)) (inr r)
        (λ esc.
        absurd
        (let never : true ≡ false = sym esc ∙ subst (λ z. first_is is_escaped z ≡ false) (sym r.1.1) r.0 in cc))

pub import_told : {deep : Bool} {on : List Lexeme → Bool} {custom : CustomOptions}
    → Told deep custom on import import
unfolding import import_kind path_literals
import_told = search (path_literal_told, done, take, one_then, either_of, many) depth 40

pub package_told : {deep : Bool} {on : List Lexeme → Bool} {custom : CustomOptions}
    → Told deep custom on package_statement package_statement
unfolding package_statement
package_told = search (name_told, done, take, one_then) depth 40

-- A second package, at its word.
abbrev pub Second : File → List Lexeme → Lexeme → SyntaxFault → Type 0
Second file f t e =
    Deeply true f t e
    ⊎ ((f ≡ []) × (is_word (codes "package") t ≡ true) × (is_some file.package_name ≡ true)
    × (e ≡ TwoPackages t.span.start))

second_ban : {A : Type 0} (custom : CustomOptions) (file : File) → is_some file.package_name ≡ true
    → Explains custom (Second file) (first_is (is_word (codes "package"))) (Never {A = A} TwoPackages)
    (Never {A = A} TwoPackages)
second_ban custom file some = record {
  past = λ a b x d. d;
  leaves = λ f t u b c x is lit_u d. absurd d;
  missing =
      λ end a e at r.
      absurd
      (let never : false ≡ true = subst (λ z. first_is (is_word (codes "package")) z ≡ true) (sym r.0) at in cc);
  at_token =
      λ end f t b e at r.
      also
      (inr (
        no_front f (t ∷ b) r.0,
        subst (λ z. first_is (is_word (codes "package")) z ≡ true) (sym r.0) at,
        some,
        r.1 ∙ ap (λ z. TwoPackages (offset_at (place_of end z))) (sym r.0),
      ));
}

when_tells : {A : Type 0} (custom : CustomOptions) (file : File) (b : Bool) (p : Step A) → is_some file.package_name ≡ b
    → Told true custom (first_is (is_word (codes "package"))) p p
    → Explains custom (Second file) (first_is (is_word (codes "package"))) (when b (Never TwoPackages) p)
    (when b (Never TwoPackages) p)
when_tells custom file true p is h = second_ban custom file is
when_tells custom file false p is h = more_than (λ f t e a. inl a) h

only_package_tells : (custom : CustomOptions) (file : File)
    → Explains custom (Second file) (first_is (is_word (codes "package"))) (only_package file) (only_package file)
unfolding only_package
only_package_tells custom file =
    when_tells custom file (is_some file.package_name) _ refl (one_then package_told (λ x. done))

-- what tells of no second package
fewer : {custom : CustomOptions} (file : File) {on : List Lexeme → Bool} {A : Type 0} {p q : Step A}
    → Told true custom on p q → Explains custom (Second file) on p q
fewer file h = more_than (λ f t e a. inl a) h

-- ---- files

statement_tells : (levels : ℕ) (syntax : Syntax) (file : File) {on : List Lexeme → Bool}
    → Explains (custom_of syntax) (Second file) on (file_statement levels syntax file)
    (file_statement levels (skipping syntax) file)
unfolding file_statement
statement_tells levels syntax file =
    let nested = inside_tells syntax levels in
    either_of (λ t u. refl) (fewer file (one_then (take (λ t u. refl)) (λ x. done)))
    (either_of (λ t u. refl) (fewer file (one_then import_told (λ x. done)))
    (either_of (λ t u. refl) (only_package_tells (custom_of syntax) file)
    (either_of (λ t u. refl) (fewer file (one_then (options_tell syntax) (λ x. done)))
    (either_of (λ t u. refl) (fewer file (one_then nested.message_tells (λ x. done)))
    (either_of (λ t u. refl) (fewer file (one_then (enum_tells syntax) (λ x. done)))
    (either_of (λ t u. refl) (fewer file (one_then (service_tells syntax) (λ x. done)))
    (either_of (λ t u. refl)
    (fewer file
    (one_then (extend_statement_tells syntax (inside syntax levels) (inside (skipping syntax) levels) nested)
    (λ x. done))) never)))))))

-- Too deep, or a second package: the statements in front of it are whole, and there is a package among them.
abbrev pub SecondPackage : (levels : ℕ) → Syntax → File → List Lexeme → Lexeme → SyntaxFault → Type 0
SecondPackage levels syntax file f t e =
    Deeply true f t e
    ⊎ ((is_word (codes "package") t ≡ true) × (e ≡ TwoPackages t.span.start)
    × (tree : File) × Derives (While is_token (file_statement levels syntax) file) f tree []
    × (is_some tree.package_name ≡ true))

second_now : (levels : ℕ) (syntax : Syntax) (file : File) (f : List Lexeme) (t : Lexeme) (e : SyntaxFault)
    → Second file f t e → SecondPackage levels syntax file f t e
second_now levels syntax file f t e (inl deep) = inl deep
second_now levels syntax file f t e (inr s) =
    inr (
      s.1,
      s.3,
      file,
      subst (λ z. Derives (While is_token (file_statement levels syntax) file) z file []) (sym s.0) (ended refl),
      s.2,
    )

some_token : (f : List Lexeme) (v : Lexeme) (n : List Lexeme) → first_is is_token (f ++ v ∷ n) ≡ true
some_token [] v n = refl
some_token (w ∷ f) v n = refl

less_last : (f : List Lexeme) (v : Lexeme) (n : List Lexeme) → length n < length (f ++ v ∷ n)
less_last f v n = omega (arith, length-append f (v ∷ n))

second_next : (levels : ℕ) (syntax : Syntax) (file x : File) (m n : List Lexeme) (t : Lexeme) (b : List Lexeme)
    (e : SyntaxFault) → first_is is_token (m ++ (n ++ t ∷ b)) ≡ true
    → Derives (file_statement levels syntax file) (m ++ (n ++ t ∷ b)) x (n ++ t ∷ b)
    → length (n ++ t ∷ b) < length (m ++ (n ++ t ∷ b)) → SecondPackage levels syntax x n t e
    → SecondPackage levels syntax file (m ++ n) t e
second_next levels syntax file x m n t b e go d less (inl deep) = inl deep
second_next levels syntax file x m n t b e go d less (inr s) =
    let k = cut (file_statement levels syntax file) (file_statement_ends levels syntax file) (m ++ (n ++ t ∷ b))
    (n ++ t ∷ b) x d in
    let front : m ≡ k.front ++ k.last ∷ [] =
    append_cancel_right m (k.front ++ k.last ∷ []) (n ++ t ∷ b)
    (k.whole ∙ sym (append_assoc k.front (k.last ∷ []) (n ++ t ∷ b))) in
    let text : m ++ n ≡ k.front ++ k.last ∷ n = ap (λ z. z ++ n) front ∙ append_assoc k.front (k.last ∷ []) n in
    inr (
      s.0,
      s.1,
      s.2,
      subst (λ z. Derives (While is_token (file_statement levels syntax) file) z s.2 []) (sym text)
          (turn (some_token k.front k.last n) (k.before_any n) (less_last k.front k.last n) s.3),
      s.4,
    )

pub statements_tell : (levels : ℕ) (syntax : Syntax)
    → Explains (custom_of syntax) (SecondPackage levels syntax empty_file) any (file_statements levels syntax)
    (file_statements levels (skipping syntax))
unfolding file_statements
statements_tell levels syntax =
    turns_tell (λ file. Second file) (λ file. SecondPackage levels syntax file) (λ t u. refl)
    (λ file. statement_tells levels syntax file) (second_now levels syntax) (second_next levels syntax) empty_file

statement_refused : (levels : ℕ) (syntax : Syntax) (file : File) (end : ℕ) (t : Lexeme) (b : List Lexeme)
    → is_word (codes "package") t ≡ true → is_some file.package_name ≡ true
    → Refused (file_statement levels syntax file) end (t ∷ b) (TwoPackages t.span.start) (t ∷ b)
unfolding file_statement only_package
statement_refused levels syntax file end t b is some =
    inr (
      other_kind Identifier Semicolon t refl (word_kind (codes "package") t is),
      inr (
        other_word (codes "package") (codes "import") t refl is,
        inl (is, when_refused (is_some file.package_name) some),
      ),
    )
  where
    when_refused : (c : Bool) → c ≡ true
        → Refused (when c (Never TwoPackages) (package_statement >>= λ x. Done (record file { package_name = Some x })))
        end (t ∷ b) (TwoPackages t.span.start) (t ∷ b)
    when_refused true e = (refl, refl)
    when_refused false e = absurd (let never : false ≡ true = e in cc)

-- behind statements with a package, none can be next
pub second_refused : (levels : ℕ) (syntax : Syntax) (file tree : File) (end : ℕ) (f : List Lexeme) (t : Lexeme)
    (b : List Lexeme) → is_word (codes "package") t ≡ true → is_some tree.package_name ≡ true
    → {a l : List Lexeme} → Turns is_token (λ v. Derives (file_statement levels syntax v)) file a tree l
    → a ≡ f → l ≡ []
    → Refused (While is_token (file_statement levels syntax) file) end (f ++ t ∷ b) (TwoPackages t.span.start) (t ∷ b)
second_refused levels syntax file tree end f t b is some (ended {a = a} over) at none =
    let empty : f ≡ [] = sym at ∙ none in
    subst (λ z. Refused (While is_token (file_statement levels syntax) file) end (z ++ t ∷ b)
    (TwoPackages t.span.start) (t ∷ b)) (sym empty)
    (here refl (statement_refused levels syntax file end t b is some))
second_refused levels syntax file tree end f t b is some (turn {t = x} {a = a} {b = d} go one less rest) at none =
    let k = cut (file_statement levels syntax file) (file_statement_ends levels syntax file) a d x one in
    let text : f ++ t ∷ b ≡ k.front ++ k.last ∷ (d ++ t ∷ b) =
    ap (λ z. z ++ t ∷ b) (sym at ∙ k.whole) ∙ append_assoc k.front (k.last ∷ d) (t ∷ b) in
    subst (λ z. Refused (While is_token (file_statement levels syntax) file) end z (TwoPackages t.span.start) (t ∷ b))
    (sym text)
    (later (some_token k.front k.last (d ++ t ∷ b)) (k.before_any (d ++ t ∷ b))
    (less_last k.front k.last (d ++ t ∷ b))
    (second_refused levels syntax x tree end d t b is some rest refl none))
