-- Each step of the loops over options and statements takes a token.
use Rattle.std.proofs.Common.{◌≡◌, ◌<◌, ◌≤◌, ℕ, zero, suc, Bool, true, Ok, Option, Some, None, List, []}
use Rattle.std.proofs.Common.{◌∷◌, length, refl, ap, arith, codes}
use Rattle.std.specs.Option.{option_map_or}
use Rattle.proto_lex.specs.declared.token.TokenKind.{TokenKind}
use Rattle.proto_lex.specs.declared.token.TokenKind.TheVariants.{Identifier, StringLiteral, Semicolon, Equals, Dot}
use Rattle.proto_lex.specs.declared.token.TokenKind.TheVariants.{Comma}
use Rattle.proto_lex.specs.declared.token.TokenKind.TheVariants.{OpenBrace, CloseBrace, OpenBracket, CloseBracket}
use Rattle.proto_lex.proofs.ReadingTestLemmas.{chosen}
use Rattle.proto_grammar.specs.Lexeme.{Lexeme, Place, place_of}
use Rattle.proto_grammar.specs.Terminal.{first_is, of_kind, is_word, is_sign, is_number, is_numeral, not_next, behind}
use Rattle.proto_grammar.specs.Terminal.{closes}
use Rattle.proto_grammar.specs.Reading.Repetition.{token_that, until_at}
use Rattle.proto_grammar.specs.Reading.Names.{name_at}
use Rattle.proto_grammar.specs.Reading.Reserved.{integer_at}
use Rattle.proto_grammar.proofs.RepetitionStepLemmas.{same_ok, bind_ok}
use Rattle.proto_grammar.proofs.RepetitionUntilLemmas.{Falls}
use Rattle.proto_grammar.proofs.Found.Fields.{integer_found}
use Rattle.proto_grammar.proofs.GrammarShorterLemmas.{integer_shorter}
use Rattle.proto_decl.specs.Names.{qualified}
use Rattle.proto_options.specs.declared.elements.Element.{Element}
use Rattle.proto_options.specs.declared.elements.Element.TheVariants.{ExtensionRange}
use Rattle.proto_options.specs.declared.options.FileOption.{FileOption}
use Rattle.proto_options.specs.declared.statements.Within.{Within}
use Rattle.proto_options.specs.declared.statements.Within.TheVariants as within
use Rattle.proto_options.specs.declared.statements.Statement.{Statement}
use Rattle.proto_options.specs.declared.statements.Statement.TheVariants.{Passed, Braces, Ranges, Member, Method}
use Rattle.proto_options.specs.Names.{Names, last_number}
use Rattle.proto_options.specs.Grammar.Aggregates.{max_aggregate_depth}
use Rattle.proto_options.specs.Reading.Aggregates.{strings_at}
use Rattle.proto_options.specs.Reading.Settings.{part_at, dot_part_at, dot_parts_at, option_name_at, name_value_at}
use Rattle.proto_options.specs.Reading.Settings.{signed_value_at, aggregate_at, value_at, setting_at}
use Rattle.proto_options.specs.Reading.Options.{Keeping, kept_at, option_at, comma_option_at, comma_options_at}
use Rattle.proto_options.specs.Reading.Options.{bracketed_at, brackets_at}
use Rattle.proto_options.specs.Reading.Statements.{one_token_at, last_before, is_either, names_from, name_before_at}
use Rattle.proto_options.specs.Reading.Statements.{pass_statement_at, heading_at, statement_of, element_of, member_of}
use Rattle.proto_options.specs.Reading.Walk.{Inside, ranges_at, braced_at, item_by, message_body_at, ended_by}
use Rattle.proto_options.specs.Reading.Walk.{member_at}
use Rattle.proto_options.specs.Reading.Walk.{passed_at, method_item_at, enum_statement_at, method_at, body_at}
use Rattle.proto_options.specs.Reading.Walk.{braces_at}
use Rattle.proto_options.specs.Reading.Walk.{statement_by, statement_at, item_at, items_at, block_at, inside_at}
use Rattle.proto_options.proofs.FallLemmas.{Takes, Leaves, token_takes, name_takes, until_leaves, part_takes}
use Rattle.proto_options.proofs.FallLemmas.{dot_parts_fall, others_leave, behind_takes, strings_takes}
use Rattle.proto_options.proofs.MessageFallLemmas.{message_takes}

pub option_name_takes : Takes option_name_at
unfolding option_name_at dot_parts_at
option_name_takes tokens x e =
    let p = bind_ok (part_at None [] tokens) _ x e in
    omega (
      arith,
      part_takes None [] tokens p.0 p.1,
      until_leaves (not_next Dot) dot_part_at dot_parts_fall p.0.0 p.0.1 x p.2,
    )

name_value_takes : (names : Names) → Takes (name_value_at names)
unfolding name_value_at
name_value_takes names tokens x e =
    let n = bind_ok (name_at tokens) _ x e in
    let left : n.0.1.left ≡ x.1.left = ap (λ y. y.1.left) (same_ok _ x n.2) in
    rw (← left) (name_takes tokens n.0 n.1)

signed_value_takes : Takes signed_value_at
unfolding signed_value_at
signed_value_takes tokens x e =
    let s = bind_ok (token_that is_sign tokens) _ x e in
    let n = bind_ok (token_that is_number s.0.1) _ x s.2 in
    let left : n.0.1.left ≡ x.1.left = ap (λ y. y.1.left) (same_ok _ x n.2) in
    rw (← left) (omega (arith, token_takes _ tokens s.0 s.1, token_takes _ s.0.1 n.0 n.1))

aggregate_takes : (names : Names) (tokens : Place) (x : Names × Place)
    → first_is (of_kind OpenBrace) tokens.left ≡ true → aggregate_at names tokens ≡ Ok x
    → length x.1.left < length tokens.left
unfolding aggregate_at
aggregate_takes names tokens x is e =
    message_takes max_aggregate_depth (last_number names) names tokens x (rw is refl) e

pub value_takes : (names : Names) → Takes (value_at names)
unfolding value_at
value_takes names tokens x e =
    chosen (first_is (of_kind Identifier) tokens.left) {z = Ok x} e (λ _. name_value_takes names tokens x)
    (λ _ e. chosen (first_is is_sign tokens.left) {z = Ok x} e
    (λ _ read.
    let t = bind_ok (signed_value_at tokens) _ x read in
    let left : t.0.1.left ≡ x.1.left = ap (λ y. y.1.left) (same_ok _ x t.2) in
    rw (← left) (signed_value_takes tokens t.0 t.1))
    (λ _ e. chosen (first_is (of_kind StringLiteral) tokens.left) {z = Ok x} e
    (λ _ read.
    let t = bind_ok (strings_at tokens) _ x read in
    let left : t.0.1.left ≡ x.1.left = ap (λ y. y.1.left) (same_ok _ x t.2) in
    rw (← left) (strings_takes tokens t.0 t.1))
    (λ _ e. chosen (first_is (of_kind OpenBrace) tokens.left) {z = Ok x} e (λ is. aggregate_takes names tokens x is)
    (λ _ read.
    let t = bind_ok (token_that is_numeral tokens) _ x read in
    let left : t.0.1.left ≡ x.1.left = ap (λ y. y.1.left) (same_ok _ x t.2) in
    rw (← left) (token_takes _ tokens t.0 t.1)))))

pub setting_takes : Takes setting_at
unfolding setting_at
setting_takes tokens x e =
    let n = bind_ok (option_name_at tokens) _ x e in
    let q = bind_ok (token_that (of_kind Equals) n.0.1) _ x n.2 in
    let v = bind_ok (value_at n.0.0 q.0.1) _ x q.2 in
    let left : v.0.1.left ≡ x.1.left = ap (λ y. y.1.left) (same_ok _ x v.2) in
    rw (← left)
    (omega (
      arith,
      option_name_takes tokens n.0 n.1,
      token_takes _ n.0.1 q.0 q.1,
      value_takes n.0.0 q.0.1 v.0 v.1,
    ))

-- ---- options in statements and in brackets

pub kept_takes : (scope : List ℕ) (element : Element) (options : List FileOption)
    → Takes (kept_at scope element options)
unfolding kept_at
kept_takes scope element options tokens x e =
    let s = bind_ok (setting_at tokens) _ x e in
    let left : s.0.1.left ≡ x.1.left = ap (λ y. y.1.left) (same_ok _ x s.2) in
    rw (← left) (setting_takes tokens s.0 s.1)

pub option_takes : (scope : List ℕ) (element : Element) (options : List FileOption)
    → Takes (option_at scope element options)
unfolding option_at
option_takes scope element options tokens x e =
    let k = bind_ok (token_that (is_word (codes "option")) tokens) _ x e in
    let v = bind_ok (kept_at scope element options k.0.1) _ x k.2 in
    let s = bind_ok (token_that (of_kind Semicolon) v.0.1) _ x v.2 in
    let left : s.0.1.left ≡ x.1.left = ap (λ y. y.1.left) (same_ok _ x s.2) in
    rw (← left)
    (omega (
      arith,
      token_takes _ tokens k.0 k.1,
      kept_takes scope element options k.0.1 v.0 v.1,
      token_takes _ v.0.1 s.0 s.1,
    ))

pub comma_options_fall : (scope : List ℕ) (element : Element) → Falls (comma_option_at scope element)
unfolding comma_option_at
comma_options_fall scope element options tokens x e =
    let c = bind_ok (token_that (of_kind Comma) tokens) _ x e in
    omega (arith, token_takes _ tokens c.0 c.1, kept_takes scope element options c.0.1 x c.2)

pub brackets_leave : (scope : List ℕ) (element : Element) (options : List FileOption)
    → Leaves (brackets_at scope element options)
unfolding brackets_at bracketed_at comma_options_at
brackets_leave scope element options tokens x e =
    chosen (first_is (of_kind OpenBracket) tokens.left) {z = Ok x} e
    (λ _ read.
    let o = bind_ok (token_that (of_kind OpenBracket) tokens) _ x read in
    let f = bind_ok (kept_at scope element options o.0.1) _ x o.2 in
    let m = bind_ok (until_at (not_next Comma) (comma_option_at scope element) f.0.0 f.0.1) _ x f.2 in
    let c = bind_ok (token_that (of_kind CloseBracket) m.0.1) _ x m.2 in
    let left : c.0.1.left ≡ x.1.left = ap (λ y. y.1.left) (same_ok _ x c.2) in
    rw (← left)
    (omega (
      arith,
      token_takes _ tokens o.0 o.1,
      kept_takes scope element options o.0.1 f.0 f.1,
      until_leaves (not_next Comma) (comma_option_at scope element) (comma_options_fall scope element) f.0.0 f.0.1 m.0
          m.1,
      token_takes _ m.0.1 c.0 c.1,
    )))
    (λ _ read.
    let left : tokens.left ≡ x.1.left = ap (λ y. y.1.left) (same_ok _ x read) in
    rw (← left) (omega arith))

-- ---- up to a token of a kind

last_leaves : (stops : Lexeme → Bool) (taken : Lexeme) (a : List Lexeme) (end : ℕ) (x : Lexeme × Place)
    → last_before stops taken a end ≡ Ok x → length x.1.left ≤ length a
last_leaves stops taken [] end x e = cc
last_leaves stops taken (t ∷ rest) end x e =
    chosen (stops t) {z = Ok x} e
    (λ _ read.
    let left : (t ∷ rest) ≡ x.1.left = ap (λ y. y.1.left) (same_ok _ x read) in rw (← left) (omega arith))
    (λ _ read. omega (arith, last_leaves stops t rest end x read))

one_token_by : (left : List Lexeme) (end : ℕ) (x : Lexeme × Place) → one_token_at (place_of end left) ≡ Ok x
    → length x.1.left < length left
unfolding one_token_at
one_token_by [] end x e = cc
one_token_by (t ∷ rest) end x e =
    let left : rest ≡ x.1.left = ap (λ y. y.1.left) (same_ok _ x e) in rw (← left) (omega arith)

pub one_token_takes : Takes one_token_at
one_token_takes tokens x e = one_token_by tokens.left tokens.end x e

pub name_before_takes : (kind other : TokenKind) → Takes (name_before_at kind other)
unfolding name_before_at names_from
name_before_takes kind other tokens x e =
    let o = bind_ok (one_token_at tokens) _ x e in
    omega (
      arith,
      one_token_takes tokens o.0 o.1,
      last_leaves (is_either kind other) o.0.0 o.0.1.left o.0.1.end x o.2,
    )

pub pass_takes : Takes pass_statement_at
unfolding pass_statement_at
pass_takes tokens x e =
    let n = bind_ok (name_before_at Semicolon Semicolon tokens) _ x e in
    let s = bind_ok (token_that (of_kind Semicolon) n.0.1) _ x n.2 in
    let left : s.0.1.left ≡ x.1.left = ap (λ y. y.1.left) (same_ok _ x s.2) in
    rw (← left) (omega (arith, name_before_takes _ _ tokens n.0 n.1, token_takes _ n.0.1 s.0 s.1))

pub heading_takes : Takes heading_at
unfolding heading_at
heading_takes tokens x e =
    let n = bind_ok (name_before_at OpenBrace OpenBrace tokens) _ x e in
    let o = bind_ok (token_that (of_kind OpenBrace) n.0.1) _ x n.2 in
    let left : o.0.1.left ≡ x.1.left = ap (λ y. y.1.left) (same_ok _ x o.2) in
    rw (← left) (omega (arith, name_before_takes _ _ tokens n.0 n.1, token_takes _ n.0.1 o.0 o.1))

pub passed_takes : (options : List FileOption) → Takes (passed_at options)
passed_takes options tokens x e =
    let p = bind_ok (pass_statement_at tokens) _ x e in
    let left : p.0.1.left ≡ x.1.left = ap (λ y. y.1.left) (same_ok _ x p.2) in
    rw (← left) (pass_takes tokens p.0 p.1)

ranges_takes : (scope : List ℕ) (options : List FileOption) → Takes (ranges_at scope options)
unfolding ranges_at
ranges_takes scope options tokens x e =
    let n = bind_ok (name_before_at OpenBracket Semicolon tokens) _ x e in
    let b = bind_ok (brackets_at scope ExtensionRange options n.0.1) _ x n.2 in
    let s = bind_ok (token_that (of_kind Semicolon) b.0.1) _ x b.2 in
    let left : s.0.1.left ≡ x.1.left = ap (λ y. y.1.left) (same_ok _ x s.2) in
    rw (← left)
    (omega (
      arith,
      name_before_takes _ _ tokens n.0 n.1,
      brackets_leave scope ExtensionRange options n.0.1 b.0 b.1,
      token_takes _ b.0.1 s.0 s.1,
    ))

-- ---- statements

abbrev pub KeepingFalls : Keeping → Type 0
KeepingFalls keeping = (options : List FileOption) → Takes (keeping options)

abbrev pub KeepingLeaves : Keeping → Type 0
KeepingLeaves keeping = (options : List FileOption) → Leaves (keeping options)

braced_leaves : (statement : Keeping) → KeepingFalls statement → KeepingLeaves (braced_at statement)
braced_leaves statement falls options tokens x e =
    let i = bind_ok (until_at closes statement options tokens) _ x e in
    let c = bind_ok (token_that (of_kind CloseBrace) i.0.1) _ x i.2 in
    let left : c.0.1.left ≡ x.1.left = ap (λ y. y.1.left) (same_ok _ x c.2) in
    rw (← left)
    (omega (arith, until_leaves closes statement falls options tokens i.0 i.1, token_takes _ i.0.1 c.0 c.1))

kind_takes : (element : Option Element) (around : List ℕ) (statement : Keeping) → KeepingFalls statement
    → (options : List FileOption) (tokens : Place) (x : List FileOption × Place)
    → option_map_or (λ one. option_at around one options tokens) element (statement options tokens) ≡ Ok x
    → length x.1.left < length tokens.left
kind_takes None around statement falls options tokens x e = falls options tokens x e
kind_takes (Some element) around statement falls options tokens x e = option_takes around element options tokens x e

pub item_falls : (kind : Within) (around : List ℕ) (statement : Keeping) → KeepingFalls statement
    → KeepingFalls (item_by kind around statement)
item_falls kind around statement falls options tokens x e =
    chosen (first_is (of_kind Semicolon) tokens.left) {z = Ok x} e
    (λ is read.
    let left : (behind tokens).left ≡ x.1.left = ap (λ y. y.1.left) (same_ok _ x read) in
    rw (← left) (behind_takes _ tokens is))
    (λ _ e. chosen (first_is (is_word (codes "option")) tokens.left) {z = Ok x} e
    (λ _ read. kind_takes (element_of kind) around statement falls options tokens x read)
    (λ _ read. falls options tokens x read))

ended_leaves : (body : Keeping) → KeepingLeaves body → KeepingLeaves (ended_by body)
ended_leaves body leaves options tokens x e =
    chosen (first_is (of_kind Semicolon) tokens.left) {z = Ok x} e
    (λ _ read.
    let left : (behind tokens).left ≡ x.1.left = ap (λ y. y.1.left) (same_ok _ x read) in
    rw (← left) (others_leave tokens.left))
    (λ _ read.
    let o = bind_ok (token_that (of_kind OpenBrace) tokens) _ x read in
    omega (arith, token_takes _ tokens o.0 o.1, leaves options o.0.1 x o.2))

integer_takes : Takes (integer_at true)
integer_takes tokens x e = integer_shorter (integer_found true tokens x e)

pub method_items_fall : (scope : List ℕ) → KeepingFalls (method_item_at scope)
method_items_fall scope = item_falls within.Method scope passed_at passed_takes

pub method_takes : (scope : List ℕ) → KeepingFalls (method_at scope)
unfolding method_at
method_takes scope options tokens x e =
    let n = bind_ok (name_before_at Semicolon OpenBrace tokens) _ x e in
    omega (
      arith,
      name_before_takes _ _ tokens n.0 n.1,
      ended_leaves (braced_at (method_item_at scope)) (braced_leaves (method_item_at scope) (method_items_fall scope))
          options n.0.1 x n.2,
    )

-- what is behind the `{` of a message, where a level is left for it
abbrev pub InsideLeaves : Inside → Type 0
InsideLeaves None = Unit {0}
InsideLeaves (Some inner) = (around name : List ℕ) → KeepingLeaves (inner around name)

message_body_leaves : (inside : Inside) → InsideLeaves inside → (around name : List ℕ)
    → KeepingLeaves (message_body_at inside around name)
message_body_leaves None leaves around name options tokens x e = cc
message_body_leaves (Some inner) leaves around name options tokens x e =
    leaves around (qualified around name) options tokens x e

module _ (inside : Inside) (leaves : InsideLeaves inside) where
  pub member_takes : (kind : Within) (scope : List ℕ) → KeepingFalls (member_at kind inside scope)
  unfolding member_at
  member_takes kind scope options tokens x e =
      let n = bind_ok (name_before_at Equals Equals tokens) _ x e in
      let q = bind_ok (token_that (of_kind Equals) n.0.1) _ x n.2 in
      let i = bind_ok (integer_at true q.0.1) _ x q.2 in
      let b = bind_ok (brackets_at scope (member_of kind n.0.0.span) options i.0.1) _ x i.2 in
      omega (
        arith,
        name_before_takes _ _ tokens n.0 n.1,
        token_takes _ n.0.1 q.0 q.1,
        integer_takes q.0.1 i.0 i.1,
        brackets_leave scope (member_of kind n.0.0.span) options i.0.1 b.0 b.1,
        ended_leaves (message_body_at inside scope n.0.0.spelling)
            (message_body_leaves inside leaves scope n.0.0.spelling) b.0.0 b.0.1 x b.2,
      )

  pub enum_statement_takes : (scope : List ℕ) → KeepingFalls (enum_statement_at inside scope)
  enum_statement_takes scope options tokens x e =
      chosen (first_is (is_word (codes "reserved")) tokens.left) {z = Ok x} e (λ _. passed_takes options tokens x)
      (λ _. member_takes within.Enum scope options tokens x)

  body_leaves : (kind : Within) (scope name : List ℕ) → KeepingLeaves (body_at kind inside scope name)
  body_leaves within.Message scope name = message_body_leaves inside leaves scope name
  body_leaves within.Service scope name =
      braced_leaves (item_by within.Service scope (method_at (qualified scope name)))
      (item_falls within.Service scope (method_at (qualified scope name)) (method_takes (qualified scope name)))
  body_leaves within.Oneof scope name =
      braced_leaves (item_by within.Oneof scope (member_at within.Oneof inside scope))
      (item_falls within.Oneof scope (member_at within.Oneof inside scope) (member_takes within.Oneof scope))
  body_leaves within.Extend scope name =
      braced_leaves (item_by within.Extend scope (member_at within.Extend inside scope))
      (item_falls within.Extend scope (member_at within.Extend inside scope) (member_takes within.Extend scope))
  body_leaves within.Enum scope name =
      braced_leaves (item_by within.Enum scope (enum_statement_at inside scope))
      (item_falls within.Enum scope (enum_statement_at inside scope) (enum_statement_takes scope))
  body_leaves within.Method scope name = braced_leaves (method_item_at scope) (method_items_fall scope)
  body_leaves within.File scope name = λ options tokens x e. cc

  braces_takes : (kind : Within) (scope : List ℕ) → KeepingFalls (braces_at kind inside scope)
  unfolding braces_at
  braces_takes kind scope options tokens x e =
      let h = bind_ok (heading_at tokens) _ x e in
      omega (arith, heading_takes tokens h.0 h.1, body_leaves kind scope h.0.0.spelling options h.0.1 x h.2)

  statement_by_takes : (is : Statement) (kind : Within) (around inner : List ℕ)
      → KeepingFalls (statement_by is kind inside around inner)
  statement_by_takes Passed kind around inner options tokens x e = passed_takes options tokens x e
  statement_by_takes (Braces other) kind around inner options tokens x e =
      braces_takes other inner options tokens x e
  statement_by_takes Ranges kind around inner options tokens x e = ranges_takes around options tokens x e
  statement_by_takes Member kind around inner options tokens x e = member_takes kind inner options tokens x e
  statement_by_takes Method kind around inner options tokens x e = method_takes inner options tokens x e

  statement_takes : (kind : Within) (around inner : List ℕ) → KeepingFalls (statement_at kind inside around inner)
  unfolding statement_at
  statement_takes kind around inner options tokens x e =
      statement_by_takes (statement_of kind tokens.left) kind around inner options tokens x e

  pub items_fall_by : (kind : Within) (around inner : List ℕ) → Falls (item_at kind inside around inner)
  items_fall_by kind around inner =
      item_falls kind around (statement_at kind inside around inner) (statement_takes kind around inner)

pub inside_leaves : (levels : ℕ) → InsideLeaves (inside_at levels)
unfolding inside_at block_at items_at
inside_leaves zero = tt
inside_leaves (suc levels) = λ around inner.
    braced_leaves (item_at within.Message (inside_at levels) around inner)
    (items_fall_by (inside_at levels) (inside_leaves levels) within.Message around inner)

-- statements between any braces
pub items_fall : (kind : Within) (levels : ℕ) (around inner : List ℕ)
    → Falls (item_at kind (inside_at levels) around inner)
items_fall kind levels around inner = items_fall_by (inside_at levels) (inside_leaves levels) kind around inner
