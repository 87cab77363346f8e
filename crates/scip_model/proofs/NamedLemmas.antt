-- What parts of a full name name.
use Rattle.std.proofs.Common.{◌≡◌, ◌∙◌, sym, ap, refl, subst, ℕ, ◌<◌, Option, Some, None, List, length, map, take}
use Rattle.std.proofs.Common.{MatchOption, Result, Ok, Err, IfOk}
use Rattle.std.specs.List.{slice_get}
use Rattle.std.specs.Option.{IsSome, option_map}
use Rattle.std.proofs.lemmas.List.{take-map, length-map}
use Rattle.std.proofs.lemmas.Option.{slice_get_within}
use Rattle.proto_visibility.proofs.FileFactLemmas.{one_list_of_facts as same_facts}
use denote.Ref.{Bor}
use Rattle.proto_decl.specs.Facts.{Facts}
use Rattle.proto_decl.specs.declared.declaration.Declaration.{Declaration}
use Rattle.proto_visibility.specs.Files.{File, HasFacts}
use Rattle.scip_model.specs.Named.{HasDeclaration, declaration_in, home_of_file}
use Rattle.scip_model.specs.Packages.{Packages}
use Rattle.scip_model.specs.Tables.Listing.{declared_by}

-- the names of a list's front
pub front_names : (parts front : List (Bor (List ℕ))) (texts : List (List ℕ)) (few count : ℕ)
    → front ≡ take few parts → map (λ (part : Bor (List ℕ)). part.now) parts ≡ texts
    → ((found : List (List ℕ)) → length found ≡ length parts → take few found ≡ take count found)
    → map (λ (part : Bor (List ℕ)). part.now) front ≡ take count texts
front_names parts front texts few count front_is whole same =
    let now : Bor (List ℕ) → List ℕ = λ part. part.now in
    ap (map now) front_is ∙ (sym (take-map now few parts)
    ∙ (ap (take few) whole ∙ same texts (ap length (sym whole) ∙ length-map parts now)))

-- the facts of a file

pub some_facts : (files : List File) (number : ℕ) (facts : Facts) (r : Option (Bor Facts)) → HasFacts files number facts
    → MatchOption r ((f : Facts) → HasFacts files number f → ⊥) (λ f. HasFacts files number f.now) → IsSome r
some_facts files number facts None has says = absurd (says facts has)
some_facts files number facts (Some f) has says = refl

pub given_facts : (files : List File) (number : ℕ) (r : Option (Bor Facts)) (f : Bor Facts) → r ≡ Some f
    → MatchOption r ((f : Facts) → HasFacts files number f → ⊥) (λ f. HasFacts files number f.now)
    → HasFacts files number f.now
given_facts files number r f e says =
    subst (λ (o : Option (Bor Facts)). MatchOption o ((f : Facts) → HasFacts files number f → ⊥)
    (λ f. HasFacts files number f.now)) e says

pub facts_there : (files linked : List File) (number : ℕ) (r : Option (Bor Facts)) → linked ≡ files
    → MatchOption r ((f : Facts) → HasFacts linked number f → ⊥) (λ f. HasFacts linked number f.now)
    → MatchOption r ((f : Facts) → HasFacts files number f → ⊥) (λ f. HasFacts files number f.now)
facts_there files linked number r same says =
    subst (λ (list : List File). MatchOption r ((f : Facts) → HasFacts list number f → ⊥)
    (λ f. HasFacts list number f.now)) same says

-- a declaration that is there
pub is_within : (files : List File) (number index : ℕ) (facts known : Facts) (declared : Declaration)
    → HasFacts files number facts → HasDeclaration files number index known declared
    → index < length facts.declarations
is_within files number index facts known declared has there =
    let same = same_facts files number facts known has there.has_facts in
    slice_get_within facts.declarations index declared
    (ap (λ (f : Facts). slice_get f.declarations index) same ∙ there.numbered)

pub declared_is : (files : List File) (ids : Packages) (number index : ℕ) (facts : Facts) (declared : Declaration)
    → HasFacts files number facts → slice_get facts.declarations index ≡ Some declared
    → declared_by files ids number index ≡ Some (declaration_in (home_of_file files ids number) facts declared)
declared_is files ids number index facts declared has e = rw (has.numbered, has.known, e) refl

-- the text of what is named
pub if_named : {X T E : Type 0} (f : X → T) (o : Option X) (x : X) (r : Result T E) → o ≡ Some x → IfOk r (λ t. t ≡ f x)
    → IfOk r (λ t. option_map f o ≡ Some t)
if_named f o x (Ok t) e h = ap (option_map f) e ∙ ap Some (sym h)
if_named f o x (Err e2) e h = tt
