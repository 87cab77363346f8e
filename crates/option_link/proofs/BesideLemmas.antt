-- What is known of files beside their facts, where it may lack.
use Rattle.std.proofs.Common.{◌≡◌, ℕ, ◌<◌, List, [], length, Option, Some, None, MatchOption, refl, sym, subst, arith}
use Rattle.std.specs.List.{Contains, slice_get}
use Rattle.std.proofs.lemmas.Option.{slice_get_within}
use Rattle.basics.proofs.FirstLemmas.{contained}
use Rattle.basics.proofs.ListLemmas.{in_nothing}
use Rattle.proto_lex.specs.declared.span.Span.{Span}
use Rattle.proto_options.specs.declared.fields.FieldFact.{FieldFact}
use Rattle.option_link.specs.declared.facts.OptionFacts.{OptionFacts}
use Rattle.option_link.specs.Fields.{AreInOrder}
use Rattle.option_link.specs.Tables.{KeysRise, field_start}
use Rattle.option_link.specs.Typed.{IsFactNamed}
use Rattle.option_link.proofs.LoopLemmas.{beyond}
use Rattle.option_link.proofs.KeyLemmas.{keys_rise}
use Rattle.option_link.proofs.FieldLemmas.{named_to, none_beside}

-- the fields that are there for a number, or none
abbrev pub AreFieldsThere : Option OptionFacts → List FieldFact → Type 0
AreFieldsThere at fields = MatchOption at (fields ≡ []) (λ beside. fields ≡ beside.fields)

module _ (known : List OptionFacts) (file : ℕ) (fields : List FieldFact) where
  rise_by : (at : Option OptionFacts) → slice_get known file ≡ at → AreInOrder known
      → AreFieldsThere at fields → KeysRise field_start fields
  rise_by None is order none = subst (KeysRise field_start) (sym none)
      (λ i j a b less from to. absurd (omega (arith, slice_get_within [] i a from)))
  rise_by (Some beside) is order are = subst (KeysRise field_start) (sym are)
      (keys_rise field_start beside.fields (order beside (contained known file beside is)))

  pub fields_rise : AreInOrder known → AreFieldsThere (slice_get known file) fields
      → KeysRise field_start fields
  fields_rise = rise_by (slice_get known file) refl

  named_by : (name : Span) (fact : FieldFact) (at : Option OptionFacts) → slice_get known file ≡ at
      → AreFieldsThere at fields → Contains fields fact → fact.name ≡ name
      → IsFactNamed known file name fact
  named_by name fact None is none there named =
      absurd (in_nothing fact (subst (λ (fs : List FieldFact). Contains fs fact) none there))
  named_by name fact (Some beside) is are there named = record {
    beside = beside;
    of_file = is;
    listed = subst (λ (fs : List FieldFact). Contains fs fact) are there;
    same = named;
  }

  pub fact_from : (name : Span) (fact : FieldFact)
      → AreFieldsThere (slice_get known file) fields → Contains fields fact
      → fact.name ≡ name → IsFactNamed known file name fact
  fact_from name fact = named_by name fact (slice_get known file) refl

  listed_by : (name : Span) (fact : FieldFact) (at : Option OptionFacts) → slice_get known file ≡ at
      → AreFieldsThere at fields → IsFactNamed known file name fact → Contains fields fact
  listed_by name fact None is none named = absurd (none_beside known file name is fact named)
  listed_by name fact (Some beside) is are named = named_to known file name beside fields is are fact named

  pub fact_to : (name : Span) (fact : FieldFact)
      → AreFieldsThere (slice_get known file) fields → IsFactNamed known file name fact
      → Contains fields fact
  fact_to name fact = listed_by name fact (slice_get known file) refl

  beside_by : (at : Option OptionFacts) → slice_get known file ≡ at → file < length known
      → AreFieldsThere at fields
      → (beside : OptionFacts) × (slice_get known file ≡ Some beside) × (fields ≡ beside.fields)
  beside_by None is within none = absurd (beyond known file within is)
  beside_by (Some beside) is within are = (beside, is, are)

  pub fields_beside : file < length known → AreFieldsThere (slice_get known file) fields
      → (beside : OptionFacts) × (slice_get known file ≡ Some beside) × (fields ≡ beside.fields)
  fields_beside = beside_by (slice_get known file) refl
