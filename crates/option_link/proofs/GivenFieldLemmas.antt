-- What the field gives that is declared at a place.
use Rattle.std.proofs.Common.{◌≡◌, ℕ, List, sym, ◌∙◌, ap, subst}
use Rattle.proto_lex.specs.declared.span.Span.{Span}
use Rattle.proto_decl.specs.declared.declaration.Declaration.{Declaration}
use Rattle.proto_visibility.specs.Files.{File}
use Rattle.option_link.specs.declared.contexts.Context.{Context}
use Rattle.option_link.specs.declared.facts.OptionFacts.{OptionFacts}
use Rattle.option_link.specs.declared.place.DeclaredPlace.{DeclaredPlace}
use Rattle.option_link.specs.Fields.{FieldGives}
use Rattle.option_link.specs.Found.{IsDeclaredAt, IsDefaultGiven}
use Rattle.option_link.proofs.PlaceLemmas.{same_declaration}

module _ (files : List File) (known : List OptionFacts) (file : ℕ) (name : Span) where
  pub given_there : (inner : Context) → (x : IsDefaultGiven files known file name inner)
      → IsDeclaredAt files file name x.field
  given_there inner x = record {
    in_file = x.in_file;
    declaration = x.is.declaration;
    stands = x.is.stands;
    named = sym x.is.same ∙ x.at;
  }

  module _ (field : DeclaredPlace) where
    pub given_to : ((other : DeclaredPlace) → IsDeclaredAt files file name other → other ≡ field) → (inner : Context)
        → IsDefaultGiven files known file name inner → FieldGives files known field inner
    given_to one inner x =
        subst (λ (p : DeclaredPlace). FieldGives files known p inner) (one x.field (given_there inner x)) x.gives

    pub given_by : IsDeclaredAt files file name field → (inner : Context) → FieldGives files known field inner
        → IsDefaultGiven files known file name inner
    given_by at inner gives = record {
      field = field;
      in_file = at.in_file;
      fact = gives.fact;
      is = gives.is;
      at = gives.is.same ∙ (ap (λ (d : Declaration). d.name)
          (same_declaration files field gives.is.declaration at.declaration gives.is.stands at.stands) ∙ at.named);
      gives = gives;
    }
