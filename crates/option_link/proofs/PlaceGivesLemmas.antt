-- What that gives which a name names, by the name's role.
use Rattle.std.proofs.Common.{List}
use Rattle.proto_options.specs.declared.names.OptionRole.TheVariants as role
use Rattle.proto_visibility.specs.Files.{File}
use Rattle.option_link.specs.declared.contexts.Context.{Context}
use Rattle.option_link.specs.declared.facts.OptionFacts.{OptionFacts}
use Rattle.option_link.specs.declared.place.DeclaredPlace.{DeclaredPlace}
use Rattle.option_link.specs.Contexts.{PlaceGives}
use Rattle.option_link.specs.Contexts.PlaceGives.{field, extension}
use Rattle.option_link.specs.Fields.{FieldGives}

module _ (files : List File) (known : List OptionFacts) (place : DeclaredPlace) (inner : Context) where
  pub field_given_to : PlaceGives files known role.Field place inner → FieldGives files known place inner
  field_given_to (field x) = x

  pub extension_given_to : PlaceGives files known role.Extension place inner → FieldGives files known place inner
  extension_given_to (extension x) = x

  pub value_gives_none : PlaceGives files known role.Value place inner → ⊥
  value_gives_none x = elim x [ ]

  pub elsewhere_gives_none : PlaceGives files known role.Elsewhere place inner → ⊥
  elsewhere_gives_none x = elim x [ ]
