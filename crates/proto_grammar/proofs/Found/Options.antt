-- What is read is in the grammar: options.
use Rattle.std.proofs.Common.{◌≡◌, ℕ, zero, suc, ◌==◌, false, List, [], ◌∷◌, refl, sym, ◌∙◌, subst, codes}
use Rattle.std.proofs.Common.{arith}
use Rattle.std.proofs.lemmas.Bool.Decides.{nat_tests}
use Rattle.proto_lex.specs.declared.token.TokenKind.TheVariants.{Identifier, StringLiteral, Semicolon, Equals}
use Rattle.proto_lex.specs.declared.token.TokenKind.TheVariants.{OpenBrace, CloseBrace, OpenBracket, CloseBracket}
use Rattle.proto_lex.specs.declared.token.TokenKind.TheVariants.{OpenParenthesis, CloseParenthesis, Comma, Dot}
use Rattle.proto_grammar.specs.declared.dialect.CustomOptions.{CustomOptions}
use Rattle.proto_grammar.specs.declared.dialect.CustomOptions.TheVariants.{Refuse, Skip}
use Rattle.proto_grammar.specs.Lexeme.{Lexeme}
use Rattle.proto_grammar.specs.Terminal.{first_is, of_kind, is_word, is_sign, is_numeral, is_number, not_next}
use Rattle.proto_grammar.specs.Grammar.Repetition.{Passes}
use Rattle.proto_grammar.specs.Grammar.Repetition.One.{one}
use Rattle.proto_grammar.specs.Grammar.Options.{IsOptionPart, IsDotPart, IsOptionName, IsLiteral, IsStrings, IsClosed}
use Rattle.proto_grammar.specs.Grammar.Options.{IsConstant, IsSetting, IsCommaSetting, IsOption, IsOptions}
use Rattle.proto_grammar.specs.Grammar.Options.IsOptionPart.{plain, extension}
use Rattle.proto_grammar.specs.Grammar.Options.IsDotPart.{dot_part}
use Rattle.proto_grammar.specs.Grammar.Options.IsOptionName.{option_name}
use Rattle.proto_grammar.specs.Grammar.Options.IsLiteral.{literal}
use Rattle.proto_grammar.specs.Grammar.Options.IsStrings.{strings}
use Rattle.proto_grammar.specs.Grammar.Options.IsClosed.{closed, open_brace, close_brace, other}
use Rattle.proto_grammar.specs.Grammar.Options.IsConstant.{name as a_name, signed, unsigned, strings as some_strings}
use Rattle.proto_grammar.specs.Grammar.Options.IsConstant.{aggregate}
use Rattle.proto_grammar.specs.Grammar.Options.IsSetting.{setting}
use Rattle.proto_grammar.specs.Grammar.Options.IsCommaSetting.{comma_setting}
use Rattle.proto_grammar.specs.Grammar.Options.IsOption.{option}
use Rattle.proto_grammar.specs.Grammar.Options.IsOptions.{none, some}
use Rattle.proto_grammar.specs.Reading.Repetition.{token_that, passing, until_at}
use Rattle.proto_grammar.specs.Reading.Names.{pass_type_name_at}
use Rattle.proto_grammar.specs.Reading.Options.{extension_at, part_at, dot_part_at, dot_parts_at, option_name_at}
use Rattle.proto_grammar.specs.Reading.Options.{literal_at, literals_at, strings_at, depth_behind, closed_at}
use Rattle.proto_grammar.specs.Reading.Options.{aggregate_at, signed_at, constant_at, setting_at, comma_setting_at}
use Rattle.proto_grammar.specs.Reading.Options.{comma_settings_at, option_at, bracketed_at, options_at}
use Rattle.std.proofs.Common.{ap}
use Rattle.proto_grammar.proofs.RepetitionStepLemmas.{read_as, same_ok, bind_ok}
use Rattle.proto_lex.proofs.ReadingTestLemmas.{chosen}
use Rattle.proto_grammar.proofs.TerminalTokenLemmas.{token_found}
use Rattle.proto_grammar.proofs.RepetitionUntilLemmas.{until_at-found, passing-found}
use Rattle.proto_grammar.proofs.Found.Names.{pass_name_found, pass_type_name_found}
use Rattle.std.proofs.Common.{Ok, Err}
use Rattle.basics.proofs.TestLemmas.{not_zero}
use Rattle.proto_grammar.specs.declared.fault.SyntaxFault.TheVariants.{CustomOption, Grammar}
use Rattle.proto_grammar.specs.Reading.Options.{closed_by}
use Rattle.proto_grammar.specs.Terminal.{offset_at}
use Rattle.proto_grammar.specs.Lexeme.{Place}

-- what is left behind a value that is read
pub left_of : {A B : Type 0} {a : A} {rest : B} (x : A × B) → read_as (a, rest) ≡ read_as x → rest ≡ x.1
left_of x e = ap (λ y. y.1) (same_ok _ x e)

pub part_found : (custom : CustomOptions) (tokens : Place) (x : Unit {0} × Place)
    → part_at custom tokens ≡ Ok x → IsOptionPart custom tokens.left x.1.left
unfolding part_at extension_at
part_found Refuse tokens x e =
    chosen (first_is (of_kind OpenParenthesis) tokens.left) {z = Ok x} e
    (λ _ read. absurd (let no : Err (CustomOption (offset_at tokens)) ≡ Ok x = read in cc))
    (λ _ read.
    let n = bind_ok (token_that (of_kind Identifier) tokens) _ x read in
    subst (λ (y : Place). IsOptionPart Refuse tokens.left y.left) (left_of x n.2) (plain (token_found _ _ n.1)))
part_found Skip tokens x e =
    chosen (first_is (of_kind OpenParenthesis) tokens.left) {z = Ok x} e
    (λ _ read.
    let o = bind_ok (token_that (of_kind OpenParenthesis) tokens) _ x read in
    let n = bind_ok (pass_type_name_at o.0.1) _ x o.2 in
    let c = bind_ok (token_that (of_kind CloseParenthesis) n.0.1) _ x n.2 in
    subst (λ (y : Place). IsOptionPart Skip tokens.left y.left) (left_of x c.2)
    (extension (token_found _ _ o.1) (pass_type_name_found _ _ n.1).1 (token_found _ _ c.1)))
    (λ _ read.
    let n = bind_ok (token_that (of_kind Identifier) tokens) _ x read in
    subst (λ (y : Place). IsOptionPart Skip tokens.left y.left) (left_of x n.2) (plain (token_found _ _ n.1)))

pub dot_part_found : (custom : CustomOptions) (tokens : Place) (x : Unit {0} × Place)
    → dot_part_at custom tokens ≡ Ok x → IsDotPart custom tokens.left x.1.left
unfolding dot_part_at
dot_part_found custom tokens x e =
    let d = bind_ok (token_that (of_kind Dot) tokens) _ x e in
    dot_part (token_found _ _ d.1) (part_found custom _ _ d.2)

pub option_name_found : (custom : CustomOptions) (tokens : Place) (x : Unit {0} × Place)
    → option_name_at custom tokens ≡ Ok x → IsOptionName custom tokens.left x.1.left
unfolding option_name_at dot_parts_at
option_name_found custom tokens x e =
    let p = bind_ok (part_at custom tokens) _ x e in
    option_name (part_found custom _ _ p.1)
    (until_at-found (not_next Dot) (passing (dot_part_at custom)) (Passes (IsDotPart custom))
    (passing-found (dot_part_at custom) (IsDotPart custom) (dot_part_found custom)) tt p.0.1 x p.2)

pub literal_found : (tokens : Place) (x : Unit {0} × Place) → literal_at tokens ≡ Ok x
    → IsLiteral tokens.left x.1.left
unfolding literal_at
literal_found tokens x e =
    let t = bind_ok (token_that (of_kind StringLiteral) tokens) _ x e in
    subst (λ (y : Place). IsLiteral tokens.left y.left) (left_of x t.2) (literal (token_found _ _ t.1))

pub strings_found : (tokens : Place) (x : Unit {0} × Place) → strings_at tokens ≡ Ok x
    → IsStrings tokens.left x.1.left
unfolding strings_at literals_at
strings_found tokens x e =
    let t = bind_ok (literal_at tokens) _ x e in
    strings (literal_found _ _ t.1)
    (until_at-found (not_next StringLiteral) (passing literal_at) (Passes IsLiteral)
    (passing-found literal_at IsLiteral literal_found) tt t.0.1 x t.2)

closed_by_found : (depth : ℕ) (tokens : List Lexeme) (end : ℕ) (x : Unit {0} × Place)
    → closed_by depth tokens end ≡ Ok x → IsClosed depth tokens x.1.left
closed_by_found zero [] end x e = subst (λ (y : Place). IsClosed zero [] y.left) (left_of x e) closed
closed_by_found zero (t ∷ rest) end x e = subst (λ (y : Place). IsClosed zero (t ∷ rest) y.left) (left_of x e) closed
closed_by_found (suc depth) [] end x e = absurd (let none : Err (Grammar end) ≡ Ok x = rw (not_zero depth) at e in cc)
closed_by_found (suc depth) (t ∷ rest) end x e' =
    let e : closed_by (depth_behind t (suc depth)) rest end ≡ Ok x = rw (not_zero depth) at e' in
    chosen (of_kind OpenBrace t) {z = depth_behind t (suc depth)} refl
    (λ opens deeper.
    let d : depth_behind t (suc depth) ≡ suc (suc depth) = sym deeper ∙ omega arith in
    open_brace (one opens) (closed_by_found (suc (suc depth)) rest end x (rw d at e)))
    (λ no_open behind. chosen (of_kind CloseBrace t) {z = depth_behind t (suc depth)} behind
    (λ closes less.
    let d : depth_behind t (suc depth) ≡ depth = sym less ∙ omega arith in
    close_brace (one closes) (closed_by_found depth rest end x (rw d at e)))
    (λ no_close same.
    other no_open no_close (one refl) (closed_by_found (suc depth) rest end x (rw (← same) at e))))

closed_found : (depth : ℕ) (tokens : Place) (x : Unit {0} × Place) → closed_at depth tokens ≡ Ok x
    → IsClosed depth tokens.left x.1.left
unfolding closed_at
closed_found depth tokens x e = closed_by_found depth tokens.left tokens.end x e

aggregate_found : (custom : CustomOptions) (tokens : Place) (x : Unit {0} × Place)
    → aggregate_at custom tokens ≡ Ok x → IsConstant custom tokens.left x.1.left
unfolding aggregate_at
aggregate_found Refuse tokens x e = cc
aggregate_found Skip tokens x e =
    let o = bind_ok (token_that (of_kind OpenBrace) tokens) _ x e in
    aggregate (token_found _ _ o.1) (closed_found 1 _ _ o.2)

pub constant_found : (custom : CustomOptions) (tokens : Place) (x : Unit {0} × Place)
    → constant_at custom tokens ≡ Ok x → IsConstant custom tokens.left x.1.left
unfolding constant_at signed_at
constant_found custom tokens x e =
    chosen (first_is (of_kind Identifier) tokens.left) {z = Ok x} e
    (λ _ read. a_name (pass_name_found _ _ read).1)
    (λ _ read. chosen (first_is is_sign tokens.left) {z = Ok x} read
    (λ _ read.
    let s = bind_ok (token_that is_sign tokens) _ x read in
    let n = bind_ok (token_that is_number s.0.1) _ x s.2 in
    subst (λ (y : Place). IsConstant custom tokens.left y.left) (left_of x n.2)
    (signed (token_found _ _ s.1) (token_found _ _ n.1)))
    (λ _ read. chosen (first_is (of_kind StringLiteral) tokens.left) {z = Ok x} read
    (λ _ read. some_strings (strings_found _ _ read))
    (λ _ read. chosen (first_is (of_kind OpenBrace) tokens.left) {z = Ok x} read
    (λ _ read. aggregate_found custom tokens x read)
    (λ _ read.
    let n = bind_ok (token_that is_numeral tokens) _ x read in
    subst (λ (y : Place). IsConstant custom tokens.left y.left) (left_of x n.2) (unsigned (token_found _ _ n.1))))))

pub setting_found : (custom : CustomOptions) (tokens : Place) (x : Unit {0} × Place)
    → setting_at custom tokens ≡ Ok x → IsSetting custom tokens.left x.1.left
unfolding setting_at
setting_found custom tokens x e =
    let n = bind_ok (option_name_at custom tokens) _ x e in
    let q = bind_ok (token_that (of_kind Equals) n.0.1) _ x n.2 in
    setting (option_name_found custom _ _ n.1) (token_found _ _ q.1) (constant_found custom _ _ q.2)

pub comma_setting_found : (custom : CustomOptions) (tokens : Place) (x : Unit {0} × Place)
    → comma_setting_at custom tokens ≡ Ok x → IsCommaSetting custom tokens.left x.1.left
unfolding comma_setting_at
comma_setting_found custom tokens x e =
    let c = bind_ok (token_that (of_kind Comma) tokens) _ x e in
    comma_setting (token_found _ _ c.1) (setting_found custom _ _ c.2)

pub option_found : (custom : CustomOptions) (tokens : Place) (x : Unit {0} × Place)
    → option_at custom tokens ≡ Ok x → IsOption custom tokens.left x.1.left
unfolding option_at
option_found custom tokens x e =
    let k = bind_ok (token_that (is_word (codes "option")) tokens) _ x e in
    let v = bind_ok (setting_at custom k.0.1) _ x k.2 in
    let s = bind_ok (token_that (of_kind Semicolon) v.0.1) _ x v.2 in
    subst (λ (y : Place). IsOption custom tokens.left y.left) (left_of x s.2)
    (option (token_found _ _ k.1) (setting_found custom _ _ v.1) (token_found _ _ s.1))

pub options_found : (custom : CustomOptions) (tokens : Place) (x : Unit {0} × Place)
    → options_at custom tokens ≡ Ok x → IsOptions custom tokens.left x.1.left
unfolding options_at bracketed_at comma_settings_at
options_found custom tokens x e =
    chosen (first_is (of_kind OpenBracket) tokens.left) {z = Ok x} e
    (λ _ read.
    let o = bind_ok (token_that (of_kind OpenBracket) tokens) _ x read in
    let v = bind_ok (setting_at custom o.0.1) _ x o.2 in
    let m = bind_ok (until_at (not_next Comma) (passing (comma_setting_at custom)) tt v.0.1) _ x v.2 in
    let c = bind_ok (token_that (of_kind CloseBracket) m.0.1) _ x m.2 in
    subst (λ (y : Place). IsOptions custom tokens.left y.left) (left_of x c.2)
    (some (token_found _ _ o.1) (setting_found custom _ _ v.1)
    (until_at-found (not_next Comma) (passing (comma_setting_at custom)) (Passes (IsCommaSetting custom))
    (passing-found (comma_setting_at custom) (IsCommaSetting custom) (comma_setting_found custom)) tt v.0.1 m.0 m.1)
    (token_found _ _ c.1)))
    (λ no read. subst (λ (y : Place). IsOptions custom tokens.left y.left) (left_of x read) (none no))
