-- What holds of the spans of identifiers holds of the marks of names.
use Rattle.std.proofs.Common.{◌≡◌, ◌∙◌, sym, subst, append-nil, ℕ, Option, Some, None, List, [], ◌∷◌, ◌++◌}
use Rattle.std.specs.List.{All, AllByRecursion}
use Rattle.std.proofs.lemmas.List.Elements.{All-nil, All-cons, All-head, All-tail}
use Rattle.proto_lex.specs.declared.span.Span.{Span}
use Rattle.proto_lex.specs.declared.token.Token.{Token}
use Rattle.proto_lex.specs.declared.token.TokenKind.TheVariants.{Identifier}
use Rattle.proto_parse.specs.Lexeme.{Lexeme, lexemes_of}
use Rattle.proto_parse.specs.tree.TypeName.{TypeName}
use Rattle.proto_parse.specs.tree.FieldType.{FieldType}
use Rattle.proto_parse.specs.tree.FieldType.TheVariants.{Scalar, Named}
use Rattle.proto_parse.specs.Parts.{Part}
use Rattle.proto_parse.specs.Walk.{Role, Mark, Among, part_marks}
use Rattle.proto_parse.specs.Walk.{Role as role}
use Rattle.proto_parse.specs.Walk.Among.{none as no_marks, skip, token}
use Rattle.proto_parse.proofs.Walk.Then.{each_then, names_then, dot_then, type_name_then, type_then, part_then}
use Rattle.proto_parse.proofs.Walk.Then.{part-is}

module _ (N : Span → Type 0) where
  abbrev pub WithName : Role → Span → Type 0 → Type 0
  WithName role.Name span others = N span × others
  WithName _ span others = others

  abbrev pub OfNames : List Mark → Type 0
  OfNames [] = Unit {0}
  OfNames (mark ∷ marks) = WithName mark.role mark.span (OfNames marks)

  pub past_mark : (role : Role) (span : Span) (others : Type 0) → WithName role span others → others
  past_mark role.First span others h = h
  past_mark role.Name span others h = h.1
  past_mark role.Literal span others h = h
  past_mark role.Other span others h = h

  abbrev pub OfIdentifiers : List Lexeme → Type 0
  OfIdentifiers lexemes = AllByRecursion (λ (t : Lexeme). t.kind ≡ Identifier → N t.span) lexemes

  pub of_lexemes : (text : List ℕ) (tokens : List Token) → All (λ t. t.kind ≡ Identifier → N t.span) tokens
      → OfIdentifiers (lexemes_of text tokens)
  of_lexemes text [] all = tt
  of_lexemes text (t ∷ tokens) all = (
    All-head (λ (x : Token). x.kind ≡ Identifier → N x.span) t tokens all,
    of_lexemes text tokens (All-tail (λ (x : Token). x.kind ≡ Identifier → N x.span) t tokens all),
  )

  pub of_names : {marks : List Mark} {tokens : List Lexeme} → Among marks tokens → OfIdentifiers tokens → OfNames marks
  of_names no_marks all = tt
  of_names (skip among) all = of_names among all.1
  of_names (token {role = role.First} fits among) all = of_names among all
  of_names (token {role = role.Name} fits among) all = (all.0 fits, of_names among all.1)
  of_names (token {role = role.Literal} fits among) all = of_names among all.1
  of_names (token {role = role.Other} fits among) all = of_names among all.1

  -- the names of types are passed over
  pub past_names : (names : List Span) (marks : List Mark) → OfNames (names_then names marks) → OfNames marks
  past_names [] marks h = h
  past_names (name ∷ names) marks h = past_names names marks h.1

  pub past_dot : (dot : Option Span) (marks : List Mark) → OfNames (dot_then dot marks) → OfNames marks
  past_dot None marks h = h
  past_dot (Some dot) marks h = h

  pub past_type_name : (name : TypeName) (marks : List Mark) → OfNames (type_name_then name marks) → OfNames marks
  past_type_name name marks h =
      past_names name.components marks (past_dot name.leading_dot (names_then name.components marks) h)

  pub past_type : (type : FieldType) (marks : List Mark) → OfNames (type_then type marks) → OfNames marks
  past_type (Scalar word) marks h = h.1
  past_type (Named name) marks h = past_type_name name marks h

  -- the names of each part

  with_mark : (role : Role) (span : Span) (A B : Type 0) → (A → B) → WithName role span A → WithName role span B
  with_mark role.First span A B f h = f h
  with_mark role.Name span A B f h = (h.0, f h.1)
  with_mark role.Literal span A B f h = f h
  with_mark role.Other span A B f h = f h

  names-split : (marks others : List Mark) → OfNames (marks ++ others) → OfNames marks × OfNames others
  names-split [] others h = (tt, h)
  names-split (mark ∷ marks) others h =
      let rest = names-split marks others (past_mark mark.role mark.span (OfNames (marks ++ others)) h) in (
        with_mark mark.role mark.span (OfNames (marks ++ others)) (OfNames marks) (λ all. rest.0) h,
        rest.1,
      )

  abbrev pub OfPartNames : Part → Type 0
  OfPartNames part = OfNames (part_then part [])

  pub of_part_names : (parts : List Part) → OfNames (each_then part_then parts []) → All OfPartNames parts
  of_part_names [] h = All-nil OfPartNames
  of_part_names (part ∷ parts) h =
      let behind : List Mark = each_then part_then parts [] in
      let both = names-split (part_marks part) behind (subst OfNames (part-is part behind) h) in
      All-cons OfPartNames part parts
      (subst OfNames (sym (part-is part [] ∙ append-nil (part_marks part))) both.0) (of_part_names parts both.1)
