-- A file's declarations, one for each outline.
use Rattle.std.proofs.Common.{◌≡◌, ◌∙◌, ap, refl, subst, ℕ, List, [], ◌∷◌, ◌++◌, map, Option, Some, None}
use Rattle.std.specs.List.{AllZip}
use Rattle.proto_lex.specs.declared.span.Span.{Span}
use Rattle.proto_lex.specs.Lexed.{Lexed, AreInOrder}
use Rattle.comment_texts.specs.declared.form.CommentForm.{CommentForm}
use Rattle.proto_decl.specs.declared.form.FactForm.{FactForm}
use Rattle.proto_parse.specs.Lexeme.{Lexeme}
use Rattle.proto_parse.specs.Walk.{Mark, MarksAreInOrder, Among, names_marks, marks_in, PackageIsAmongItems}
use Rattle.proto_parse.specs.tree.FileItem.{FileItem}
use Rattle.proto_parse.specs.tree.File.{File}
use Rattle.proto_decl.specs.Declares.{file_surrounding, outlines_in, outlines_of, package_spans, IsDeclaration}
use Rattle.proto_decl.specs.Facts.{Facts, AreFactsOf, name_spans, component_spans, PackageInOrder}
use Rattle.proto_decl.specs.declared.declaration.Declaration.{Declaration}
use Rattle.proto_decl.specs.declared.declaration.Outline.{Outline}
use Rattle.proto_decl.proofs.OutlinePickLemmas.{heading_names, spans_of_components}
use Rattle.proto_decl.proofs.WalkedLemmas.{outlines-append}
use Rattle.proto_decl.proofs.OutlineOrderLemmas.{package_in_order}

-- declarations stand at the names of their outlines
pub same_names : (form : CommentForm) (lexed : Lexed) (outlines : List Outline) (declarations : List Declaration)
    → AllZip (IsDeclaration form lexed) outlines declarations
    → map (λ (d : Declaration). d.name) declarations ≡ heading_names outlines
same_names form lexed [] [] all = refl
same_names form lexed [] (d ∷ ds) all = absurd all
same_names form lexed (o ∷ os) [] all = absurd all
same_names form lexed (o ∷ os) (d ∷ ds) all = λ i. all.0.name i ∷ same_names form lexed os ds all.1 i

-- what is there for each of two lists in a row

record Parts {A B : Type 0} (R : A → B → Type 0) (xs ys : List A) (zs : List B) : Type 0 where
  first : List B
  second : List B
  whole : zs ≡ first ++ second
  left : AllZip R xs first
  right : AllZip R ys second

parts : {A B : Type 0} (R : A → B → Type 0) (xs ys : List A) (zs : List B) → AllZip R (xs ++ ys) zs → Parts R xs ys zs
parts R [] ys zs all = record { first = []; second = zs; whole = refl; left = tt; right = all }
parts R (x ∷ xs) ys [] all = absurd all
parts R (x ∷ xs) ys (z ∷ zs) all =
    let rest = parts R xs ys zs all.1 in
    record {
      first = z ∷ rest.first;
      second = rest.second;
      whole = ap (λ l. z ∷ l) rest.whole;
      left = (all.0, rest.left);
      right = rest.right;
    }

-- the package's name stands between two declared names

module _ (form : FactForm) (number : ℕ) (lexed : Lexed) (file : File) (facts : Facts)
    (is : AreFactsOf form number lexed file facts) where
  abbrev outlines : List FileItem → List Outline
  outlines items = outlines_in lexed.text (file_surrounding lexed.text file) items

  among_items : (before behind : List FileItem) (components : List Span) → file.items ≡ before ++ behind
      → package_spans file.package_name ≡ components
      → MarksAreInOrder 0 (marks_in before ++ (names_marks components ++ marks_in behind))
      → PackageInOrder facts
  among_items before behind components items name m =
      let both : outlines_of lexed.text file ≡ outlines before ++ outlines behind =
      ap outlines items ∙ outlines-append lexed.text (file_surrounding lexed.text file) before behind in
      let two = parts (IsDeclaration form.comments lexed) (outlines before) (outlines behind) facts.declarations
      (subst (λ (os : List Outline). AllZip (IsDeclaration form.comments lexed) os facts.declarations) both
      is.declarations) in
      let spans : component_spans facts.package_name ≡ components =
      ap component_spans is.package_name ∙ (spans_of_components lexed.text (package_spans file.package_name) ∙ name)
      in
      record {
        before = two.first;
        behind = two.second;
        split = two.whole;
        in_order = rw (
          same_names form.comments lexed (outlines before) two.first two.left,
          spans,
          same_names form.comments lexed (outlines behind) two.second two.right,
        )
            (package_in_order lexed.text file before behind components m);
      }

  pub package_placed : (tokens : List Lexeme) (package_name : Option (List Span)) → file.package_name ≡ package_name
      → PackageIsAmongItems package_name file.items tokens
      → ((marks : List Mark) → Among marks tokens → MarksAreInOrder 0 marks)
      → AreInOrder 0 (name_spans facts.declarations) → PackageInOrder facts
  package_placed tokens None e among ordered names =
      record { before = []; behind = facts.declarations; split = refl; in_order = rw (is.package_name, e) names }
  package_placed tokens (Some components) e among ordered names =
      among_items among.0 among.1.0 components among.1.1.0 (ap package_spans e) (ordered _ among.1.1.1)
