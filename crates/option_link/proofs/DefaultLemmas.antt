-- Of the field that a `default` is given to there is one.
use Rattle.std.proofs.Common.{◌≡◌, ℕ, List, Some, ap, sym, ◌∙◌, subst}
use Rattle.std.specs.List.{slice_get}
use Rattle.std.specs.Option.{option_map}
use Rattle.std.proofs.lemmas.Option.{slice_get-map}
use Rattle.proto_lex.specs.declared.span.Span.{Span}
use Rattle.proto_decl.specs.Facts.{Facts, AreOfSomeFile, NamesInOrder, name_spans}
use Rattle.proto_decl.specs.declared.declaration.Declaration.{Declaration}
use Rattle.proto_options.specs.declared.elements.Element.TheVariants as of_a
use Rattle.proto_options.specs.declared.fields.FieldFact.{FieldFact}
use Rattle.proto_options.specs.declared.options.FileOption.{FileOption}
use Rattle.proto_visibility.specs.Files.{File, HasFacts, HaveOrigins}
use Rattle.proto_visibility.proofs.FileFactLemmas.{one_list_of_facts}
use Rattle.option_link.specs.declared.facts.OptionFacts.{OptionFacts}
use Rattle.option_link.specs.declared.place.DeclaredPlace.{DeclaredPlace}
use Rattle.option_link.specs.Fields.{IsField}
use Rattle.option_link.specs.Contexts.{IsTaken}
use Rattle.option_link.specs.Found.{IsDeclaredAt}
use Rattle.option_link.specs.Tables.{KeysRise, name_start}
use Rattle.option_link.proofs.KeyLemmas.{one_index_by_key}
use Rattle.option_link.proofs.PlaceLemmas.{one_DeclaredPlace}
use Rattle.option_link.proofs.SpanLemmas.{span_start, spans_rise}

same_span : (p q : Span) → of_a.Field p ≡ of_a.Field q → p ≡ q
same_span p q e = cc

name_at : (declarations : List Declaration) (index : ℕ) (d : Declaration) → slice_get declarations index ≡ Some d
    → slice_get (name_spans declarations) index ≡ Some d.name
name_at declarations index d at = slice_get-map (λ (x : Declaration). x.name) declarations index
    ∙ ap (option_map (λ (x : Declaration). x.name)) at

pub one_defaulted : (files : List File) → HaveOrigins files → (known : List OptionFacts)
    → ((facts : Facts) → AreOfSomeFile facts → NamesInOrder facts.declarations) → (file : ℕ) (text : List ℕ)
    (option : FileOption) (f g : DeclaredPlace) (p q : Span) (u v : FieldFact) {word other : List ℕ}
    → IsTaken text word option p → IsTaken text other option q → f.file ≡ file → g.file ≡ file
    → IsField files known f u → IsField files known g v → u.name ≡ p → v.name ≡ q → f ≡ g
one_defaulted files origins known names file text option f g p q u v t s in_file by_file x y at there =
    let span : p ≡ q = same_span p q (sym t.of_field ∙ s.of_field) in
    let same : f.file ≡ g.file = in_file ∙ sym by_file in
    let facts = one_list_of_facts files g.file x.stands.facts y.stands.facts
    (subst (λ (n : ℕ). HasFacts files n x.stands.facts) same x.stands.known) y.stands.known in
    let ds = y.stands.facts.declarations in
    let listed = subst (λ (o : Facts). slice_get o.declarations f.index ≡ Some x.declaration) facts x.stands.listed in
    let named : x.declaration.name ≡ y.declaration.name = sym x.same ∙ (at ∙ (span ∙ (sym there ∙ y.same))) in
    let order = names y.stands.facts (origins g.file y.stands.facts y.stands.known) in
    one_DeclaredPlace f g same
    (one_index_by_key span_start (name_spans ds) (spans_rise 0 (name_spans ds) order) f.index g.index
    x.declaration.name y.declaration.name (name_at ds f.index x.declaration listed)
    (name_at ds g.index y.declaration y.stands.listed)
    (ap span_start named))

-- declared names rise
pub names_rise : (declarations : List Declaration) → NamesInOrder declarations → KeysRise name_start declarations
names_rise declarations order i j a b less at there =
    spans_rise 0 (name_spans declarations) order i j a.name b.name less (name_at declarations i a at)
    (name_at declarations j b there)

-- and of what is declared at a place there is one
pub one_declared : (files : List File) → HaveOrigins files
    → ((facts : Facts) → AreOfSomeFile facts → NamesInOrder facts.declarations) → (file : ℕ) (name : Span)
    (a b : DeclaredPlace) → IsDeclaredAt files file name a → IsDeclaredAt files file name b → a ≡ b
one_declared files origins names file name a b x y =
    let same : a.file ≡ b.file = x.in_file ∙ sym y.in_file in
    let facts = one_list_of_facts files b.file x.stands.facts y.stands.facts
    (subst (λ (n : ℕ). HasFacts files n x.stands.facts) same x.stands.known) y.stands.known in
    let ds = y.stands.facts.declarations in
    let listed = subst (λ (o : Facts). slice_get o.declarations a.index ≡ Some x.declaration) facts x.stands.listed in
    let named : x.declaration.name ≡ y.declaration.name = x.named ∙ sym y.named in
    one_DeclaredPlace a b same
    (one_index_by_key name_start ds (names_rise ds (names y.stands.facts
    (origins b.file y.stands.facts y.stands.known)))
    a.index b.index x.declaration y.declaration listed y.stands.listed (ap span_start named))
