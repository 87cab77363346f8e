-- What is read is in the grammar: names and types.
use Rattle.std.proofs.Common.{◌≡◌, false, Ok, Option, List, [], ◌∷◌, sym, subst}
use Rattle.proto_lex.specs.declared.span.Span.{Span}
use Rattle.proto_lex.specs.declared.token.TokenKind.TheVariants.{Identifier, Dot}
use Rattle.proto_grammar.specs.declared.tree.TypeName.{TypeName}
use Rattle.proto_grammar.specs.declared.tree.FieldType.{FieldType}
use Rattle.proto_grammar.specs.declared.tree.FieldType.TheVariants.{Scalar, Named}
use Rattle.proto_grammar.specs.Lexeme.{Lexeme, Place}
use Rattle.proto_grammar.specs.Terminal.{first_is, of_kind, is_scalar, not_next, begins_scalar}
use Rattle.proto_grammar.specs.Grammar.Repetition.{Adds}
use Rattle.proto_grammar.specs.Grammar.Names.{IsDotName, IsName, IsTypeName, IsType}
use Rattle.proto_grammar.specs.Grammar.Names.IsDotName.{dot_name}
use Rattle.proto_grammar.specs.Grammar.Names.IsName.{name}
use Rattle.proto_grammar.specs.Grammar.Names.IsTypeName.{rooted, plain}
use Rattle.proto_grammar.specs.Grammar.Names.IsType.{scalar, named}
use Rattle.proto_grammar.specs.Reading.Repetition.{token_that, adding}
use Rattle.proto_grammar.specs.Reading.Names.{dot_name_at, dot_names_at, name_at, pass_dot_name_at, pass_dot_names_at}
use Rattle.proto_grammar.specs.Reading.Names.{pass_name_at, leading_dot_at, type_name_at, pass_type_name_at}
use Rattle.proto_grammar.specs.Reading.Names.{named_type_at, type_at, pass_type_at}
use Rattle.proto_grammar.proofs.RepetitionStepLemmas.{same_ok, bind_ok, kept_ok}
use Rattle.proto_lex.proofs.ReadingTestLemmas.{chosen}
use Rattle.proto_grammar.proofs.TerminalTokenLemmas.{token_found}
use Rattle.proto_grammar.proofs.RepetitionUntilLemmas.{until_at-found, adding-found, passed-found}

pub dot_name_found : (tokens : Place) (x : Option Span × Place) → dot_name_at tokens ≡ Ok x
    → IsDotName tokens.left x.0 x.1.left
unfolding dot_name_at
dot_name_found tokens x e =
    let d = bind_ok (token_that (of_kind Dot) tokens) _ x e in
    let n = bind_ok (token_that (of_kind Identifier) d.0.1) _ x d.2 in
    subst (λ (y : Option Span × Place). IsDotName tokens.left y.0 y.1.left) (same_ok _ x n.2)
    (dot_name (token_found _ _ d.1) (token_found _ _ n.1))

pub name_found : (tokens : Place) (x : List Span × Place) → name_at tokens ≡ Ok x → IsName tokens.left x.0 x.1.left
unfolding name_at dot_names_at
name_found tokens x e =
    let t = bind_ok (token_that (of_kind Identifier) tokens) _ x e in
    name (token_found _ _ t.1)
    (until_at-found (not_next Dot) (adding dot_name_at) (Adds IsDotName)
    (adding-found dot_name_at IsDotName dot_name_found) (t.0.0 ∷ []) t.0.1 x t.2)

pub pass_name_found : (tokens : Place) (x : Unit {0} × Place) → pass_name_at tokens ≡ Ok x
    → (components : List Span) × IsName tokens.left components x.1.left
unfolding pass_name_at pass_dot_names_at pass_dot_name_at
pass_name_found tokens x e =
    let t = bind_ok (token_that (of_kind Identifier) tokens) _ x e in
    let behind = passed-found (not_next Dot) dot_name_at IsDotName dot_name_found (t.0.0 ∷ []) t.0.1 x t.2 in
    (behind.0, name (token_found _ _ t.1) behind.1)

leading_dot_found : (tokens : Place) (x : Option Span × Place) → leading_dot_at tokens ≡ Ok x
    → (components : List Span) (after : List Lexeme) → IsName x.1.left components after
    → IsTypeName tokens.left (record { leading_dot = x.0; components = components }) after
unfolding leading_dot_at
leading_dot_found tokens x e components after behind =
    chosen (first_is (of_kind Dot) tokens.left) {z = Ok x} e
    (λ _ read.
    let d = bind_ok (token_that (of_kind Dot) tokens) _ x read in
    let here = same_ok _ x d.2 in
    let behind' = subst (λ (y : Option Span × Place). IsName y.1.left components after) (sym here) behind in
    subst (λ (y : Option Span × Place). IsTypeName tokens.left
    (record { leading_dot = y.0; components = components }) after) here
    (rooted (token_found _ _ d.1) behind'))
    (λ _ read.
    let here = same_ok _ x read in
    let behind' = subst (λ (y : Option Span × Place). IsName y.1.left components after) (sym here) behind in
    subst (λ (y : Option Span × Place). IsTypeName tokens.left
    (record { leading_dot = y.0; components = components }) after) here
    (plain behind'))

pub type_name_found : (tokens : Place) (x : TypeName × Place) → type_name_at tokens ≡ Ok x
    → IsTypeName tokens.left x.0 x.1.left
unfolding type_name_at
type_name_found tokens x e =
    let d = bind_ok (leading_dot_at tokens) _ x e in
    let n = bind_ok (name_at d.0.1) _ x d.2 in
    subst (λ (y : TypeName × Place). IsTypeName tokens.left y.0 y.1.left) (same_ok _ x n.2)
    (leading_dot_found tokens d.0 d.1 n.0.0 n.0.1.left (name_found _ _ n.1))

pub pass_type_name_found : (tokens : Place) (x : Unit {0} × Place) → pass_type_name_at tokens ≡ Ok x
    → (type : TypeName) × IsTypeName tokens.left type x.1.left
unfolding pass_type_name_at
pass_type_name_found tokens x e =
    let d = bind_ok (leading_dot_at tokens) _ x e in
    let n = pass_name_found d.0.1 x d.2 in
    (record { leading_dot = d.0.0; components = n.0 }, leading_dot_found tokens d.0 d.1 n.0 x.1.left n.1)

pub named_type_found : (tokens : Place) (x : TypeName × Place) → named_type_at tokens ≡ Ok x
    → (begins_scalar tokens.left ≡ false) × IsTypeName tokens.left x.0 x.1.left
unfolding named_type_at
named_type_found tokens x e =
    let k = kept_ok (begins_scalar tokens.left) _ _ x e in
    (k.0, type_name_found tokens x k.1)

pub type_found : (tokens : Place) (x : FieldType × Place) → type_at tokens ≡ Ok x → IsType tokens.left x.0 x.1.left
unfolding type_at
type_found tokens x e =
    chosen (begins_scalar tokens.left) {z = Ok x} e
    (λ is read.
    let w = bind_ok (token_that is_scalar tokens) _ x read in
    subst (λ (y : FieldType × Place). IsType tokens.left y.0 y.1.left) (same_ok _ x w.2)
    (scalar is (token_found _ _ w.1)))
    (λ not read.
    let n = bind_ok (type_name_at tokens) _ x read in
    subst (λ (y : FieldType × Place). IsType tokens.left y.0 y.1.left) (same_ok _ x n.2)
    (named not (type_name_found _ _ n.1)))

pub pass_type_found : (tokens : Place) (x : Unit {0} × Place) → pass_type_at tokens ≡ Ok x
    → (type : FieldType) × IsType tokens.left type x.1.left
unfolding pass_type_at
pass_type_found tokens x e =
    chosen (begins_scalar tokens.left) {z = Ok x} e
    (λ is read.
    let w = bind_ok (token_that is_scalar tokens) _ x read in (
      Scalar w.0.0,
      subst (λ (y : Unit {0} × Place). IsType tokens.left (Scalar w.0.0) y.1.left) (same_ok _ x w.2)
          (scalar is (token_found _ _ w.1)),
    ))
    (λ not read. let n = pass_type_name_found tokens x read in (Named n.0, named not n.1))
