-- At a place there is one declaration and one field; of a full name that is alone there is one place.
use Rattle.std.proofs.Common.{◌≡◌, ◌↔◌, ℕ, true, List, Some, IsTrue, eqb, ap, sym, ◌∙◌, subst, arith}
use Rattle.std.proofs.lemmas.Bool.{eqb-true}
use Rattle.std.proofs.lemmas.Bool.Decides.{nat_tests}
use Rattle.std.specs.List.{Contains, slice_get}
use Rattle.std.proofs.lemmas.Option.{same_Some}
use Rattle.basics.proofs.FirstLemmas.{contained}
use Rattle.proto_lex.specs.declared.span.Span.{Span}
use Rattle.proto_decl.specs.Facts.{Facts}
use Rattle.proto_decl.specs.declared.declaration.Declaration.{Declaration}
use Rattle.proto_decl.specs.declared.declaration.DeclarationKind.{DeclarationKind}
use Rattle.proto_options.specs.declared.fields.FieldFact.{FieldFact}
use Rattle.proto_visibility.specs.Files.{File}
use Rattle.proto_visibility.proofs.FileFactLemmas.{one_list_of_facts}
use Rattle.option_link.specs.declared.facts.OptionFacts.{OptionFacts}
use Rattle.option_link.specs.declared.place.DeclaredPlace.{DeclaredPlace}
use Rattle.option_link.specs.Places.{Stands, StandsAs, place_at}
use Rattle.option_link.specs.Fields.{AreInOrder, IsField}
use Rattle.option_link.proofs.KeyLemmas.{one_by_key, keys_rise}

pub one_DeclaredPlace : (a b : DeclaredPlace) → a.file ≡ b.file → a.index ≡ b.index → a ≡ b
one_DeclaredPlace a b file index = ap (λ n. place_at n a.index) file ∙ ap (place_at b.file) index

-- what is read behind the end of a list of places
abbrev pub nowhere : DeclaredPlace
nowhere = place_at 0 0

eqb_same : (a b : ℕ) → a ≡ b → eqb a b ≡ true
eqb_same a b same = grind (arith, nat_tests)

pub same_by : (a b : DeclaredPlace) → a.file ≡ b.file → IsTrue (eqb a.index b.index) ↔ (a ≡ b)
same_by a b file = (
  λ t. one_DeclaredPlace a b file (eqb-true a.index b.index t),
  λ same. eqb_same a.index b.index (ap (λ (p : DeclaredPlace). p.index) same),
)

pub same_declaration : (files : List File) (at : DeclaredPlace) (a b : Declaration) → Stands files at a
    → Stands files at b → a ≡ b
same_declaration files at a b x y =
    let facts = one_list_of_facts files at.file x.facts y.facts x.known y.known in
    let there = subst (λ (f : Facts). slice_get f.declarations at.index ≡ Some a) facts x.listed in
    same_Some a b (sym there ∙ y.listed)

pub same_kind : (files : List File) (kind other : DeclarationKind) (a b : DeclaredPlace) (x y : Declaration)
    → StandsAs files kind a x → StandsAs files other b y → a ≡ b → kind ≡ other
same_kind files kind other a b x y p q same =
    let there = subst (λ (at : DeclaredPlace). Stands files at x) same p.stands in
    sym p.is ∙ (ap (λ (d : Declaration). d.kind) (same_declaration files b x y there q.stands) ∙ q.is)

pub one_place : (files : List File) (kind other : DeclarationKind) (a b : DeclaredPlace) (x y : Declaration)
    → StandsAs files kind a x → StandsAs files other b y → a.file ≡ b.file → x.full_name ≡ y.full_name → a ≡ b
one_place files kind other a b x y p q file named =
    let there = subst (λ (n : ℕ). Stands files (place_at n a.index) x) file p.stands in
    one_DeclaredPlace a b file (q.alone a.index x there named)

pub one_fact : (files : List File) (known : List OptionFacts) → AreInOrder known → (at : DeclaredPlace)
    (a b : FieldFact) → IsField files known at a → IsField files known at b → a ≡ b
one_fact files known order at a b x y =
    let declaration = same_declaration files at x.declaration y.declaration x.stands y.stands in
    let beside = same_Some x.beside y.beside (sym x.of_file ∙ y.of_file) in
    let listed = subst (λ (o : OptionFacts). Contains o.fields a) beside x.listed in
    let named : a.name ≡ b.name = x.same ∙ (ap (λ (d : Declaration). d.name) declaration ∙ sym y.same) in
    let start : FieldFact → ℕ = λ f. f.name.start in
    let rises = keys_rise start y.beside.fields
    (order y.beside (contained known at.file y.beside y.of_file)) in
    one_by_key start y.beside.fields rises a b listed y.listed (ap (λ (s : Span). s.start) named)
