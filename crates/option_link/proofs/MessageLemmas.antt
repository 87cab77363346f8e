-- The message of a field, from what is found step by step.
use Rattle.std.proofs.Common.{◌≡◌, ℕ, ◌<◌, List, [], length, Option, Some, None, MatchOption, refl, ap, sym, ◌∙◌, subst}
use Rattle.basics.proofs.ListLemmas.{in_nothing}
use Rattle.proto_decl.specs.Names.{IsAround, qualified}
use Rattle.proto_decl.specs.Facts.{Facts, AreOfSomeFile, NamesAreFilled, UsesAreFilled, UsesInOrder}
use Rattle.proto_decl.specs.declared.declaration.Declaration.{Declaration}
use Rattle.proto_decl.specs.declared.declaration.DeclarationKind.{DeclarationKind}
use Rattle.proto_decl.specs.declared.declaration.DeclarationKind.TheVariants.{Message, Field}
use Rattle.proto_decl.proofs.ScopeLemmas.{one_around, none_around_root}
use Rattle.proto_options.specs.declared.fields.FieldFact.{FieldFact}
use Rattle.proto_visibility.specs.Files.{File, HaveOrigins}
use Rattle.option_link.specs.declared.facts.OptionFacts.{OptionFacts}
use Rattle.option_link.specs.declared.place.DeclaredPlace.{DeclaredPlace}
use Rattle.option_link.specs.Places.{StandsAs}
use Rattle.option_link.specs.Fields.{AreInOrder, IsField, IsFieldOf, TypeAt}
use Rattle.option_link.specs.Fields.IsFieldOf.{own as of-own, extending as of-extending}
use Rattle.option_link.specs.Tables.{IsOnly}
use Rattle.option_link.specs.Typed.{HasMessage, IsAroundIn, IsMessageAt}
use Rattle.option_link.specs.Typed.HasMessage.{around as has-around, extending as has-extending}
use Rattle.option_link.proofs.MemberLemmas.{around_named, filled_name, named_around}
use Rattle.option_link.proofs.OnlyLemmas.{one_only, stands_in, stands_only}
use Rattle.option_link.proofs.PlaceLemmas.{one_fact, same_declaration}
use Rattle.option_link.proofs.TypeLemmas.{one_type}

-- ---- the message around a full name

module _ (files : List File) (file : ℕ) (name scope : List ℕ) (is : IsAround name scope) where
  pub around_by : (message : DeclaredPlace) → IsOnly files file scope message → IsMessageAt files message
      → IsAroundIn files file name message
  around_by message only at = record {
    in_file = only.in_file;
    scope = scope;
    around = is;
    declaration = only.has.declaration;
    stands = stands_in files Message file scope message only
        (ap (λ (d : Declaration). d.kind)
        (same_declaration files message only.has.declaration at.declaration only.has.stands at.stands) ∙ at.is);
    named = only.has.named;
  }

  only_of : (message : DeclaredPlace) → IsAroundIn files file name message → IsOnly files file scope message
  only_of message x =
      subst (λ (n : ℕ). IsOnly files n scope message) x.in_file
      (stands_only files Message scope message x.declaration x.stands (x.named ∙ one_around x.around is))

  pub around_not : (found : Option DeclaredPlace)
      → MatchOption found ((place : DeclaredPlace) → IsOnly files file scope place → ⊥) (IsOnly files file scope)
      → ((place : DeclaredPlace) → found ≡ Some place → IsMessageAt files place → ⊥) → (message : DeclaredPlace)
      → IsAroundIn files file name message → ⊥
  around_not None none not message x = none message (only_of message x)
  around_not (Some place) only not message x =
      not message (ap Some (one_only files file scope place message only (only_of message x)))
      (record { declaration = x.declaration; stands = x.stands.stands; is = x.stands.is })

pub none_around : (files : List File) (file : ℕ) (name : List ℕ) → name ≡ [] → (message : DeclaredPlace)
    → IsAroundIn files file name message → ⊥
none_around files file name root message x =
    none_around_root (subst (λ (n : List ℕ). IsAround n x.scope) root x.around)

-- ---- the message that an extend names

pub extending_by : (files : List File) (field : DeclaredPlace) (name : List ℕ) (start : ℕ) (kind : DeclarationKind)
    (message : DeclaredPlace) → TypeAt files field.file start kind message → IsMessageAt files message
    → HasMessage files field name (Some start) message
extending_by files field name start kind message x at =
    has-extending (subst (λ (k : DeclarationKind). TypeAt files field.file start k message) (sym x.stands.is
    ∙ (ap (λ (d : Declaration). d.kind) (same_declaration files message x.declaration at.declaration x.stands.stands
    at.stands) ∙ at.is)) x)

extended : (files : List File) (field : DeclaredPlace) (name : List ℕ) (start : ℕ) (message : DeclaredPlace)
    → HasMessage files field name (Some start) message → TypeAt files field.file start Message message
extended files field name start message (has-extending x) = x

pub around_to : (files : List File) (field : DeclaredPlace) (name : List ℕ) (message : DeclaredPlace)
    → HasMessage files field name None message → IsAroundIn files field.file name message
around_to files field name message (has-around x) = x

pub extending_not : (files : List File) → HaveOrigins files
    → ((facts : Facts) → AreOfSomeFile facts → UsesInOrder facts.uses)
    → ((facts : Facts) → AreOfSomeFile facts → UsesAreFilled facts.uses) → (field : DeclaredPlace) (name : List ℕ)
    (start : ℕ) (found : Option DeclaredPlace)
    → MatchOption found ((kind : DeclarationKind) (type : DeclaredPlace) → TypeAt files field.file start kind type → ⊥)
    (λ type. (kind : DeclarationKind) × TypeAt files field.file start kind type)
    → ((place : DeclaredPlace) → found ≡ Some place → IsMessageAt files place → ⊥) → (message : DeclaredPlace)
    → HasMessage files field name (Some start) message → ⊥
extending_not files origins uses filled field name start None none not message has =
    none Message message (extended files field name start message has)
extending_not files origins uses filled field name start (Some place) is not message has =
    let x = extended files field name start message has in
    not message (ap Some (one_type files origins [] none_known uses filled field.file start is.0 Message place message
    is.1 x)) (record { declaration = x.declaration; stands = x.stands.stands; is = x.stands.is })
  where
    none_known : AreInOrder []
    none_known beside there = absurd (in_nothing beside there)

-- ---- fields of messages

pub field_of_fact : (files : List File) (known : List OptionFacts) (field message : DeclaredPlace)
    → IsFieldOf files known message field → (fact : FieldFact) × IsField files known field fact
field_of_fact files known field message (of-own {fact = fact} plain x) = (fact, x.is)
field_of_fact files known field message (of-extending x) = (x.fact, x.is)

module _ (files : List File) (origins : HaveOrigins files)
    (filled : (facts : Facts) → AreOfSomeFile facts → NamesAreFilled facts.declarations) (known : List OptionFacts)
  where
    pub field_of_by : (field : DeclaredPlace) (d : Declaration) → StandsAs files Field field d → (name : List ℕ)
        → d.full_name ≡ name → (fact : FieldFact) → IsField files known field fact → (message : DeclaredPlace)
        → HasMessage files field name fact.extended message → IsFieldOf files known message field
    field_of_by field d stands name named fact is message has = by fact.extended refl has
      where
        by : (extended : Option ℕ) → fact.extended ≡ extended → HasMessage files field name extended message
            → IsFieldOf files known message field
        by _ none (has-around x) =
            let full = filled_name files origins filled message x.declaration x.stands.stands in
            let its = named_around name x.scope (subst (λ (n : List ℕ). 0 < length n) x.named full) x.around in
            of-own its.1 (record {
              member = record {
                outer = x.declaration;
                of_message = x.stands;
                inner = d;
                stands = stands;
                same_file = sym x.in_file;
                named = named ∙ (its.2 ∙ ap (λ (n : List ℕ). qualified n its.0) (sym x.named));
              };
              is = is;
              own = none;
            })
        by _ some (has-extending {start = start} x) =
            of-extending (record { fact = fact; is = is; start = start; extended = some; named = x })

    pub field_of_to : AreInOrder known → (field : DeclaredPlace) (d : Declaration) → StandsAs files Field field d
        → (name : List ℕ) → d.full_name ≡ name → (fact : FieldFact) → IsField files known field fact
        → (message : DeclaredPlace) → IsFieldOf files known message field
        → HasMessage files field name fact.extended message
    field_of_to order field d stands name named fact is message (of-own {name = word} {fact = its} plain x) =
        let same = one_fact files known order field its fact x.is is in
        let m = x.member in
        let inner = same_declaration files field m.inner d m.stands.stands stands.stands in
        let full : name ≡ qualified m.outer.full_name word =
        sym named ∙ (sym (ap (λ (e : Declaration). e.full_name) inner) ∙ m.named) in
        subst (λ (e : Option ℕ). HasMessage files field name e message)
        (sym x.own ∙ ap (λ (f : FieldFact). f.extended) same)
        (has-around (record {
          in_file = sym m.same_file;
          scope = m.outer.full_name;
          around = subst (λ (n : List ℕ). IsAround n m.outer.full_name) (sym full)
              (around_named m.outer.full_name word (filled_name files origins filled message m.outer
              m.of_message.stands)
              plain);
          declaration = m.outer;
          stands = m.of_message;
          named = refl;
        }))
    field_of_to order field d stands name named fact is message (of-extending x) =
        let same = one_fact files known order field x.fact fact x.is is in
        subst (λ (e : Option ℕ). HasMessage files field name e message)
        (sym x.extended ∙ ap (λ (f : FieldFact). f.extended) same) (has-extending x.named)
