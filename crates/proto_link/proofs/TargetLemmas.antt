-- What the last components of a name that a use resolves to name.
use Rattle.std.proofs.Common.{◌≡◌, inl, inr, ℕ, ◌+◌, ◌-◌, ◌<◌, ◌≤◌, ◌==◌, Bool, true, false, zero, suc, List, [], ◌∷◌, ◌++◌}
use Rattle.std.proofs.Common.{length, get_or, take, map, Some, None, Option, MatchOption, IsSome, refl, ap, sym, ◌∙◌}
use Rattle.std.proofs.Common.{subst, cond, arith}
use Rattle.std.specs.List.{slice_get, count_by}
use Rattle.std.proofs.lemmas.Bool.{cases_lt, false≢true}
use Rattle.std.proofs.lemmas.Option.{slice_get-get_or, slice_get_within, same_Some}
use Rattle.std.proofs.lemmas.List.{take_more, length-map, length_push, get_or_push, get_or-map}
use Rattle.std.proofs.lemmas.List.Sums.{sum_by-append, sum_by-cons}
use Rattle.std.proofs.lemmas.List.Elements.{All-contains}
use Rattle.std.proofs.lemmas.List.Splits.{length-slice_split}
use denote.Ref.{Bor}
use Rattle.proto_decl.specs.Names.{qualified, dotted, components_of, prefix_of}
use Rattle.proto_decl.specs.Facts.{Facts}
use Rattle.proto_decl.specs.Laws.{IsEntity, PrefixesAreEntities}
use Rattle.proto_decl.specs.declared.uses.Component.{Component}
use Rattle.proto_decl.specs.declared.uses.Use.{Use}
use Rattle.proto_decl.specs.declared.declaration.Declaration.{Declaration}
use Rattle.proto_visibility.specs.declared.lookup.Entity.{Entity}
use Rattle.proto_visibility.specs.Files.{File, HasFacts}
use Rattle.proto_decl.specs.declared.declaration.DeclarationKind.TheVariants.{Message, Enum, Service, Field, Oneof}
use Rattle.proto_decl.specs.declared.declaration.DeclarationKind.TheVariants.{Value, Method}
use Rattle.proto_visibility.specs.Knows.{NameKind, KnowsAs, is_type, is_message, DeclaresName, DeclaresNameAs}
use Rattle.proto_visibility.specs.Knows.{IsGiving, IsGivenTwice, IsOwner}
use Rattle.proto_visibility.specs.Knows.NameKind.{OfPackage, OfDeclaration}
use Rattle.proto_link.specs.Resolves.{Innermost, ResolvesIn, Resolves, wanted}
use Rattle.proto_link.specs.Resolves.Innermost.{here, farther}
use Rattle.proto_link.specs.Resolves.ResolvesIn.{absolute, single, extended, compound}
use Rattle.proto_link.specs.Targets.{Names, IsAmbiguous, IsTarget, IsUnresolved}
use Rattle.proto_link.specs.Tables.Found.{HasNoName}
use Rattle.proto_link.proofs.LawLemmas.{one_name_a_use}
use Rattle.proto_visibility.specs.Knows.DeclaresName.{declared as gives_declared, packaged as gives_packaged}
use Rattle.proto_visibility.specs.Knows.{IsEntityOf}
use Rattle.proto_link.specs.Tables.Parts.{AreEntitiesAt, longer}
use Rattle.proto_decl.proofs.CommentTextLemmas.{join_with_byte-push}
use Rattle.proto_visibility.proofs.SeeingLemmas.{slice_get_prefix}
use Rattle.proto_visibility.proofs.FileFactLemmas.{one_list_of_facts}

-- ---- prefixes

longer_of : (ts : List (List ℕ)) (i : ℕ) (x : List ℕ) → i < length ts → x ≡ get_or ts i x
    → longer (dotted (take i ts)) i x ≡ dotted (take (i + 1) ts)
longer_of [] i x within is = absurd (omega (arith, within))
longer_of (t ∷ ts) zero x within is = is
longer_of (t ∷ ts) (suc i) x within is =
    let next : suc i + 1 ≡ suc (i + 1) = omega arith in
    let more : take (i + 1) ts ≡ take i ts ++ x ∷ [] =
    take_more ts i x (omega (arith, within)) ∙ ap (λ y. take i ts ++ y ∷ []) (sym is) in
    sym (join_with_byte-push 46 t x (take i ts))
    ∙ (ap (λ ys. dotted (t ∷ ys)) (sym more) ∙ ap (λ n. dotted (take n (t ∷ ts))) (sym next))

pub prefix_longer : (name : List ℕ) (components : List (Bor (List ℕ))) (i : ℕ) (d : Bor (List ℕ)) (old new : List ℕ)
    → map (λ c. c.now) components ≡ components_of name → i < length components
    → old ≡ prefix_of name i → new ≡ longer old i (get_or components i d).now → new ≡ prefix_of name (i + 1)
prefix_longer name components i d old new are within so_far pushed =
    let x = (get_or components i d).now in
    let size = length-map components (λ (c : Bor (List ℕ)). c.now) in
    let is : x ≡ get_or (map (λ (c : Bor (List ℕ)). c.now) components) i x =
    sym (get_or-map (λ (c : Bor (List ℕ)). c.now) components i d x within) in
    pushed ∙ (ap (λ t. longer t i x) so_far
    ∙ longer_of (components_of name) i x (omega (arith, within, size, ap length are))
    (subst (λ cs. x ≡ get_or cs i x) are is))

-- ---- a name that a use resolves to has its components

abbrev is_dot : ℕ → Bool
is_dot byte = byte == 46

abbrev ones : ℕ → ℕ
ones byte = cond (is_dot byte) 1 0

pub words_fit : (words : List (List ℕ)) → length words ≤ length (components_of (dotted words))
words_fit [] = omega arith
words_fit (word ∷ []) = omega (arith, length-slice_split is_dot word)
words_fit (word ∷ (next ∷ others)) =
    let behind = dotted (next ∷ others) in
    let rest = words_fit (next ∷ others) in
    let reachable : count_by is_dot (word ++ 46 ∷ behind) ≡ count_by is_dot word + (1 + count_by is_dot behind) =
    sum_by-append ones word (46 ∷ behind) ∙ ap (λ n. count_by is_dot word + n) (sum_by-cons ones 46 behind) in
    omega (arith, rest, reachable, length-slice_split is_dot behind, length-slice_split is_dot (word ++ 46 ∷ behind))

pub qualified_fit : (scope name : List ℕ) → length (components_of name) ≤ length (components_of (qualified scope name))
qualified_fit [] name = omega arith
qualified_fit (byte ∷ scope) name =
    let reachable : count_by is_dot ((byte ∷ scope) ++ 46 ∷ name)
    ≡ count_by is_dot (byte ∷ scope) + (1 + count_by is_dot name) =
    sum_by-append ones (byte ∷ scope) (46 ∷ name)
    ∙ ap (λ n. count_by is_dot (byte ∷ scope) + n) (sum_by-cons ones 46 name) in
    omega (arith, reachable, length-slice_split is_dot name, length-slice_split is_dot ((byte ∷ scope) ++ 46 ∷ name))

fits : {files : List File} {file : ℕ} {is_extended has_dot : Bool} {words : List (List ℕ)} {from name : List ℕ}
    → ResolvesIn files file is_extended has_dot words from name → length words ≤ length (components_of name)
fits (absolute {words = words} known) = words_fit words
fits (single {word = word} {scope = scope} innermost) = omega (arith, words_fit (word ∷ []), qualified_fit scope word)
fits (extended {word = word} {scope = scope} innermost known) =
    omega (arith, words_fit (word ∷ []), qualified_fit scope word)
fits (compound {first = first} {second = second} {scope = scope} {others = others} innermost known) =
    omega (arith, words_fit (first ∷ (second ∷ others)), qualified_fit scope (dotted (first ∷ (second ∷ others))))

pub used_fit : (files : List File) (file : ℕ) (type_use : Use) (name : List ℕ) → Resolves files file type_use name
    → length type_use.components ≤ length (components_of name)
used_fit files file type_use name r =
    omega (arith, fits r, length-map type_use.components (λ component. component.name))

-- ---- and is that of a type

pub known_there : {files : List File} {file : ℕ} {admits : NameKind → Bool} {word from scope : List ℕ}
    → Innermost files file admits word from scope → KnowsAs files file admits (qualified scope word)
known_there (here known) = known
known_there (farther absent is innermost) = known_there innermost

message_type : (kind : NameKind) → is_message kind ≡ true → is_type kind ≡ true
message_type OfPackage e = absurd (false≢true e)
message_type (OfDeclaration Message) e = refl
message_type (OfDeclaration Enum) e = absurd (false≢true e)
message_type (OfDeclaration Service) e = absurd (false≢true e)
message_type (OfDeclaration Field) e = absurd (false≢true e)
message_type (OfDeclaration Oneof) e = absurd (false≢true e)
message_type (OfDeclaration Value) e = absurd (false≢true e)
message_type (OfDeclaration Method) e = absurd (false≢true e)

of_wanted : {files : List File} {file : ℕ} {name : List ℕ} (is_extended : Bool)
    → KnowsAs files file (wanted is_extended) name → KnowsAs files file is_type name
of_wanted true known =
    record { kind = known.kind; known = known.known; admitted = message_type known.kind known.admitted }
of_wanted false known = known

pub is_of_type : {files : List File} {file : ℕ} {is_extended has_dot : Bool} {words : List (List ℕ)}
    {from name : List ℕ} → ResolvesIn files file is_extended has_dot words from name → KnowsAs files file is_type name
is_of_type (absolute {is_extended = is_extended} known) = of_wanted is_extended known
is_of_type (single innermost) = known_there innermost
is_of_type (extended innermost known) = of_wanted true known
is_of_type (compound {is_extended = is_extended} innermost known) = of_wanted is_extended known

-- ---- its prefixes are entities of the file that declares it

prefix_entity : {facts : Facts} {name : List ℕ} {kind : NameKind} → PrefixesAreEntities facts
    → DeclaresName facts name kind
    → is_type kind ≡ true → (count : ℕ) → 0 < count → count ≤ length (components_of name)
    → IsEntity facts (prefix_of name count)
prefix_entity {facts = facts} prefixes (gives_declared {declaration = d} listed) admitted count some few =
    All-contains (λ (declaration : Declaration). (n : ℕ) → 0 < n → n ≤ length (components_of declaration.full_name)
    → IsEntity facts (prefix_of declaration.full_name n)) facts.declarations d prefixes listed count some few
prefix_entity prefixes (gives_packaged prefix) admitted count some few = absurd (false≢true admitted)

pub prefix_is_entity : (facts : Facts) (name prefix : List ℕ) (components : List (Bor (List ℕ))) (i : ℕ)
    → PrefixesAreEntities facts → DeclaresNameAs is_type name facts → map (λ c. c.now) components ≡ components_of name
    → i < length components
    → prefix ≡ prefix_of name (i + 1) → IsEntity facts prefix
prefix_is_entity facts name prefix components i prefixes gives are within is =
    let size = length-map components (λ (c : Bor (List ℕ)). c.now) in
    subst (IsEntity facts) (sym is)
    (prefix_entity prefixes gives.gives gives.admitted (i + 1) (omega arith)
    (omega (arith, within, size, ap length are)))

-- ---- the parts so far

module _ (number : ℕ) (facts : Facts) (name : List ℕ) (skipped : ℕ) where
  -- what the components from there on name, of the first so many
  pub record AreParts (count : ℕ) (parts : List Entity) : Type 0 where
    pub size : length parts ≡ count - skipped
    pub each : (j : ℕ) (part : Entity) → slice_get parts j ≡ Some part
        → IsEntityOf number facts (prefix_of name (skipped + j + 1)) (skipped + j + 1) part

  pub parts_none : AreParts 0 []
  parts_none = record {
    size = omega arith;
    each = λ j part at. absurd (omega (arith, slice_get_within {A = Entity} [] j part at));
  }

  pub parts_skip : (count : ℕ) (parts : List Entity) → count < skipped → AreParts count parts
      → AreParts (count + 1) parts
  parts_skip count parts before so_far = record { size = omega (arith, so_far.size); each = so_far.each }

  pub parts_more : (count : ℕ) (parts : List Entity) (prefix : List ℕ) (part : Entity) → skipped ≤ count
      → prefix ≡ prefix_of name (count + 1) → IsEntityOf number facts prefix (count + 1) part → AreParts count parts
      → AreParts (count + 1) (parts ++ part ∷ [])
  parts_more count parts prefix part behind is entity so_far = record {
    size = omega (arith, length_push parts part, so_far.size);
    each = λ j one at. elim (cases_lt j (length parts)) [
      | inl before ↦ so_far.each j one (sym (slice_get_prefix parts (part ∷ []) j before) ∙ at)
      | inr last ↦ (
          let within = slice_get_within (parts ++ part ∷ []) j one at in
          let here_it : j ≡ length parts = omega (arith, length_push parts part) in
          let stands : slice_get (parts ++ part ∷ []) j ≡ Some part =
          slice_get-get_or (parts ++ part ∷ []) j part within
          ∙ ap Some (get_or_push parts part part j (sym here_it)) in
          let same : one ≡ part = same_Some one part (sym at ∙ stands) in
          let index : count + 1 ≡ skipped + j + 1 = omega (arith, so_far.size) in
          subst (λ n. IsEntityOf number facts (prefix_of name n) n one) index
          (subst (λ f. IsEntityOf number facts f (count + 1) one) is
          (subst (IsEntityOf number facts prefix (count + 1)) (sym same) entity)))
    ];
  }

-- ---- so they are a target

module _ (files : List File) (file : ℕ) (type_use : Use) where
  target_made : (owner : ℕ) (name : List ℕ) (parts : List Entity) → Names files file type_use name owner
      → AreEntitiesAt files owner name (length type_use.components) parts
      → IsTarget files file type_use (record { name = name; parts = parts })
  target_made owner name parts names at =
      let few = used_fit files file type_use name names.resolves in
      record {
        owner = owner;
        facts = at.facts;
        names = names;
        known = at.known;
        skipped = length (components_of name) - length type_use.components;
        split = omega (arith, few);
        one_each = at.are.one_each;
        named = at.are.each;
      }

  pub target_is : (owner : ℕ) (name spelled whole : List ℕ) (used : List Component) (parts all : List Entity)
      → Names files file type_use name owner → spelled ≡ name → used ≡ type_use.components
      → AreEntitiesAt files owner spelled (length used) parts → whole ≡ name → all ≡ parts
      → IsTarget files file type_use (record { name = whole; parts = all })
  target_is owner name spelled whole used parts all names spelled_is used_is at whole_is all_is =
      let its_use : AreEntitiesAt files owner spelled (length type_use.components) parts =
      subst (λ (cs : List Component). AreEntitiesAt files owner spelled (length cs) parts) used_is at in
      let its_name : AreEntitiesAt files owner name (length type_use.components) parts =
      subst (λ (n : List ℕ). AreEntitiesAt files owner n (length type_use.components) parts) spelled_is its_use in
      let made = target_made owner name parts names its_name in
      subst (λ (n : List ℕ). IsTarget files file type_use (record { name = n; parts = all })) (sym whole_is)
      (subst (λ (ps : List Entity). IsTarget files file type_use (record { name = name; parts = ps }))
      (sym all_is) made)

-- ---- who declares a type of the name declares it as a type

pub gives_type : (files : List File) (is_extended : Bool) (name : List ℕ) (owner : ℕ)
    → IsGiving files (wanted is_extended) name owner → IsGiving files is_type name owner
gives_type files true name owner is =
    let its = is.gives.gives in
    record {
      file = is.file;
      numbered = is.numbered;
      gives = record {
        facts = is.gives.facts;
        known = is.gives.known;
        gives = record { kind = its.kind; gives = its.gives; admitted = message_type its.kind its.admitted };
      };
    }
gives_type files false name owner is = is

-- ---- the file that declares it

pub facts_known : (files : List File) (admits : NameKind → Bool) (name : List ℕ) (owner : ℕ)
    → (is : IsGiving files admits name owner) → HasFacts files owner is.gives.facts
facts_known files admits name owner is =
    record { file = is.file; numbered = is.numbered; known = is.gives.known }

pub some_facts : {S : Type 0} (Q : S → Type 0) (files : List File) (seen : ℕ) (facts : Facts) (found : Option S)
    → HasFacts files seen facts → MatchOption found ((other : Facts) → HasFacts files seen other → ⊥) Q → IsSome found
some_facts Q files seen facts None has none = absurd (none facts has)
some_facts Q files seen facts (Some other) has some = refl

pub within_files : (files : List File) (admits : NameKind → Bool) (name : List ℕ) (owner : ℕ)
    → IsGiving files admits name owner → owner < length files
within_files files admits name owner is = slice_get_within files owner is.file is.numbered

pub gives_there : (files : List File) (admits : NameKind → Bool) (name : List ℕ) (owner : ℕ) (facts : Facts)
    → IsGiving files admits name owner → HasFacts files owner facts → DeclaresNameAs admits name facts
gives_there files admits name owner facts is has =
    subst (DeclaresNameAs admits name)
    (one_list_of_facts files owner is.gives.facts facts (facts_known files admits name owner is) has)
    is.gives.gives

-- ---- a use without a target

pub without_name : (files : List File) (file : ℕ) (type_use : Use) → HasNoName files file type_use
    → IsUnresolved files file type_use
without_name files file type_use none name owner names = none name names.resolves

pub none_told : {X : Type 0} (N : Type 0) (P : X → Type 0) (found : Option X) → found ≡ None → MatchOption found N P → N
none_told N P None none told = told
none_told N P (Some x) none told = absurd cc

pub without_two : (files : List File) (file : ℕ) (type_use : Use) → HasNoName files file type_use
    → IsAmbiguous files file type_use → ⊥
without_two files file type_use none is = none is.name is.resolves

module _ (files : List File) (file : ℕ) (type_use : Use) (name : List ℕ) (admits : NameKind → Bool)
    (resolves : Resolves files file type_use name) (role : admits ≡ wanted type_use.is_extended) where
  pub without_owner : ((owner : ℕ) → IsOwner files file admits name owner → ⊥) → IsUnresolved files file type_use
  without_owner none other owner names =
      let same = one_name_a_use files file type_use other name names.resolves resolves in
      none owner (subst (λ (a : NameKind → Bool). IsOwner files file a name owner) (sym role)
      (subst (λ (n : List ℕ). IsOwner files file (wanted type_use.is_extended) n owner) same names.owned))

  pub not_twice : (IsGivenTwice files file admits name → ⊥) → IsAmbiguous files file type_use → ⊥
  not_twice none is =
      let same = one_name_a_use files file type_use is.name name is.resolves resolves in
      none (subst (λ (a : NameKind → Bool). IsGivenTwice files file a name) (sym role)
      (subst (λ (n : List ℕ). IsGivenTwice files file (wanted type_use.is_extended) n) same is.twice))

  pub is_twice : IsGivenTwice files file admits name → IsAmbiguous files file type_use
  is_twice twice = record {
    name = name;
    resolves = resolves;
    twice = subst (λ (a : NameKind → Bool). IsGivenTwice files file a name) role twice;
  }

  pub with_owner : (owner : ℕ) → IsOwner files file admits name owner → Names files file type_use name owner
  with_owner owner owned = record {
    resolves = resolves;
    owned = subst (λ (a : NameKind → Bool). IsOwner files file a name owner) role owned;
  }

  pub owner_gives : (owner : ℕ) → IsOwner files file admits name owner → IsGiving files is_type name owner
  owner_gives owner owned = gives_type files type_use.is_extended name owner (with_owner owner owned).owned.gives.giving
