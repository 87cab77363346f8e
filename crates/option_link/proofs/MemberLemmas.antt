-- A field is of one message at most.
use Rattle.std.proofs.Common.{◌≡◌, ℕ, ◌<◌, List, [], ◌∷◌, length, Option, Some, None, refl, ap, sym, ◌∙◌, subst, arith}
use Rattle.std.proofs.lemmas.List.Elements.{All-contains}
use Rattle.std.proofs.lemmas.Option.{same_Some}
use Rattle.basics.proofs.FirstLemmas.{contained}
use Rattle.proto_decl.specs.Names.{qualified, HasNoDot, IsAround}
use Rattle.proto_decl.specs.Names.IsAround.{before_dot}
use Rattle.proto_decl.specs.Facts.{Facts, AreOfSomeFile, NamesAreFilled, UsesAreFilled, UsesInOrder}
use Rattle.proto_decl.specs.declared.declaration.Declaration.{Declaration}
use Rattle.proto_decl.specs.declared.declaration.DeclarationKind.TheVariants.{Message}
use Rattle.proto_decl.proofs.ScopeLemmas.{one_around}
use Rattle.proto_options.specs.declared.fields.FieldFact.{FieldFact}
use Rattle.proto_visibility.specs.Files.{File, HaveOrigins}
use Rattle.option_link.specs.declared.facts.OptionFacts.{OptionFacts}
use Rattle.option_link.specs.declared.place.DeclaredPlace.{DeclaredPlace}
use Rattle.option_link.specs.Places.{Stands}
use Rattle.option_link.specs.Fields.{AreInOrder, IsFieldOf, TypeAt}
use Rattle.option_link.specs.Fields.IsFieldOf.{own as of-own, extending as of-extending}
use Rattle.option_link.proofs.PlaceLemmas.{one_fact, one_place, same_declaration}
use Rattle.option_link.proofs.TypeLemmas.{one_type}

-- ---- around a full name that is made of a scope's and a simple name is that scope

pub around_named : (outer name : List ℕ) → 0 < length outer → HasNoDot name → IsAround (qualified outer name) outer
around_named [] name some plain = absurd (omega (arith, some))
around_named (byte ∷ outer) name some plain = before_dot {outer = byte ∷ outer} name plain

pub named_around : (scope outer : List ℕ) → 0 < length outer → IsAround scope outer
    → (name : List ℕ) × HasNoDot name × (scope ≡ qualified outer name)
named_around scope [] some is = absurd (omega (arith, some))
named_around _ (byte ∷ outer) some (before_dot name plain) = (name, plain, refl)

not_both : (a b : Option ℕ) (start : ℕ) → a ≡ b → a ≡ None → b ≡ Some start → ⊥
not_both a b start same none some = cc

module _ (files : List File) (origins : HaveOrigins files)
    (named : (facts : Facts) → AreOfSomeFile facts → NamesAreFilled facts.declarations) where
  pub filled_name : (at : DeclaredPlace) (d : Declaration) → Stands files at d → 0 < length d.full_name
  filled_name at d stands = All-contains (λ (e : Declaration). 0 < length e.full_name) stands.facts.declarations d
      (named stands.facts (origins at.file stands.facts stands.known))
      (contained stands.facts.declarations at.index d stands.listed)

  module _ (known : List OptionFacts) (order : AreInOrder known)
      (uses : (facts : Facts) → AreOfSomeFile facts → UsesInOrder facts.uses)
      (filled : (facts : Facts) → AreOfSomeFile facts → UsesAreFilled facts.uses) where
    pub one_message : (m n field : DeclaredPlace) → IsFieldOf files known m field → IsFieldOf files known n field
        → m ≡ n
    one_message m n field (of-own {name = v} {fact = u} plain x) (of-own {name = w} {fact = t} also y) =
        let p = x.member in
        let q = y.member in
        let inner = same_declaration files field p.inner q.inner p.stands.stands q.stands.stands in
        let full : qualified p.outer.full_name v ≡ qualified q.outer.full_name w =
        sym p.named ∙ (ap (λ (d : Declaration). d.full_name) inner ∙ q.named) in
        let from = around_named p.outer.full_name v (filled_name m p.outer p.of_message.stands) plain in
        let its = around_named q.outer.full_name w (filled_name n q.outer q.of_message.stands) also in
        let outer = one_around (subst (λ (f : List ℕ). IsAround f p.outer.full_name) full from) its in
        one_place files Message Message m n p.outer q.outer p.of_message q.of_message
        (sym p.same_file ∙ q.same_file) outer
    one_message m n field (of-own {fact = u} plain x) (of-extending y) =
        absurd (not_both u.extended y.fact.extended y.start
        (ap (λ (f : FieldFact). f.extended) (one_fact files known order field u y.fact x.is y.is)) x.own y.extended)
    one_message m n field (of-extending x) (of-own {fact = t} also y) =
        absurd (not_both t.extended x.fact.extended x.start
        (ap (λ (f : FieldFact). f.extended) (one_fact files known order field t x.fact y.is x.is)) y.own x.extended)
    one_message m n field (of-extending x) (of-extending y) =
        let facts = one_fact files known order field x.fact y.fact x.is y.is in
        let start : x.start ≡ y.start = same_Some x.start y.start
        (sym x.extended ∙ (ap (λ (f : FieldFact). f.extended) facts ∙ y.extended)) in
        one_type files origins known order uses filled field.file y.start Message Message m n
        (subst (λ (s : ℕ). TypeAt files field.file s Message m) start x.named) y.named
