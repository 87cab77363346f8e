-- A file's facts and comment texts are the only ones.
use Rattle.std.proofs.Common.{◌≡◌, ◌∙◌, sym, ap, refl, ℕ, Bool, true, false, Option, Some, List, [], ◌∷◌}
use Rattle.std.specs.List.{AllZip}
use Rattle.proto_lex.specs.declared.span.Span.{Span}
use Rattle.proto_lex.specs.Lexed.{Lexed, IsLexed}
use Rattle.comment_texts.specs.declared.form.CommentForm.{CommentForm}
use Rattle.proto_decl.specs.declared.form.FactForm.{FactForm}
use Rattle.proto_parse.specs.tree.File.{File}
use Rattle.proto_decl.specs.Comments.{first_line, texts_in, IsLeadingText, IsTrailingText}
use Rattle.proto_decl.specs.Comments.IsLeadingText.{leading, not_first}
use Rattle.proto_decl.specs.Comments.IsTrailingText.{trailing, none}
use Rattle.proto_decl.specs.Declares.{outlines_of, IsDeclaration}
use Rattle.proto_decl.specs.Facts.{Facts, AreFactsOf, AreDetailsIf}
use Rattle.proto_decl.specs.declared.detail.Detail.{Detail}
use Rattle.proto_decl.proofs.LawDetailLemmas.{one_list_of_details}
use Rattle.proto_decl.specs.declared.declaration.Declaration.{Declaration}
use Rattle.proto_decl.specs.declared.declaration.Outline.{Outline}
use Rattle.proto_decl.proofs.CommentLeadingLemmas.{CommentsInOrder, one_longest}
use Rattle.proto_decl.proofs.CommentTrailingLemmas.{one_trailing}

module _ (form : CommentForm) (lexed : Lexed) (ordered : CommentsInOrder lexed.comments) where
  pub one_leading_text : (first : Span) {text other : List ℕ} → IsLeadingText form lexed first text
      → IsLeadingText form lexed first other → text ≡ other
  one_leading_text first (leading {comments = a} f longest) (leading {comments = b} g also) =
      ap (texts_in form lexed)
      (one_longest lexed (first_line lexed first) ordered a b longest also)
  one_leading_text first (leading f longest) (not_first g) = absurd (g f)
  one_leading_text first (not_first f) (leading g longest) = absurd (f g)
  one_leading_text first (not_first f) (not_first g) = refl

  pub one_trailing_text : (closing : Span) {text other : List ℕ} → IsTrailingText form lexed closing text
      → IsTrailingText form lexed closing other → text ≡ other
  one_trailing_text closing (trailing {comment = a} t) (trailing {comment = b} u) =
      ap (λ comment. texts_in form lexed (comment ∷ [])) (one_trailing lexed closing a b ordered t u)
  one_trailing_text closing (trailing {comment = a} t) (none f) = absurd (f a t)
  one_trailing_text closing (none f) (trailing {comment = b} u) = absurd (f b u)
  one_trailing_text closing (none f) (none g) = refl

  one_declaration : (o : Outline) (d e : Declaration) → IsDeclaration form lexed o d → IsDeclaration form lexed o e
      → d ≡ e
  one_declaration o d e a b =
      let kind = a.kind ∙ sym b.kind in
      let full_name = a.full_name ∙ sym b.full_name in
      let path = a.path ∙ sym b.path in
      let name = a.name ∙ sym b.name in
      let before = one_leading_text o.heading.first a.leading b.leading in
      let behind = one_trailing_text o.heading.closing a.trailing b.trailing in
      λ i. record {
        kind = kind i;
        full_name = full_name i;
        path = path i;
        name = name i;
        leading = before i;
        trailing = behind i;
      }

  one_list : (os : List Outline) (ds es : List Declaration) → AllZip (IsDeclaration form lexed) os ds
      → AllZip (IsDeclaration form lexed) os es → ds ≡ es
  one_list [] [] [] a b = refl
  one_list [] [] (e ∷ es) a b = absurd b
  one_list [] (d ∷ ds) es a b = absurd a
  one_list (o ∷ os) [] es a b = absurd a
  one_list (o ∷ os) (d ∷ ds) [] a b = absurd b
  one_list (o ∷ os) (d ∷ ds) (e ∷ es) a b = λ i. one_declaration o d e a.0 b.0 i ∷ one_list os ds es a.1 b.1 i

-- the details that are asked for are the only ones
one_if_asked : (asked : Bool) (lexed : Lexed) (file : File) (details others : Option (List Detail))
    → IsLexed lexed.text lexed.tokens lexed.comments → AreDetailsIf asked lexed file details
    → AreDetailsIf asked lexed file others → details ≡ others
one_if_asked false lexed file details others is a b = a ∙ sym b
one_if_asked true lexed file details others is a b =
    a.1
    ∙ (ap Some (one_list_of_details lexed is.tokens_in_order is.comments_in_order (outlines_of lexed.text file) a.0 b.0
    a.2 b.2)
    ∙ sym b.1)

pub one_facts : (form : FactForm) (lexed : Lexed) → IsLexed lexed.text lexed.tokens lexed.comments → (number : ℕ)
    (file : File) (facts other : Facts) → AreFactsOf form number lexed file facts
    → AreFactsOf form number lexed file other → facts ≡ other
one_facts form lexed is number file facts other a b =
    let numbered = a.numbered ∙ sym b.numbered in
    let package_name = a.package_name ∙ sym b.package_name in
    let imports = a.imports ∙ sym b.imports in
    let declarations = one_list form.comments lexed is.comments_in_order
    (outlines_of lexed.text file) facts.declarations other.declarations a.declarations b.declarations in
    let uses = a.uses ∙ sym b.uses in
    let details = one_if_asked form.details lexed file facts.details other.details is a.details b.details in
    λ i. record {
      number = numbered i;
      package_name = package_name i;
      imports = imports i;
      declarations = declarations i;
      uses = uses i;
      details = details i;
    }
