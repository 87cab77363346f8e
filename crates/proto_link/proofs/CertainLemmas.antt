-- A use that isn't uncertain names what it named, however files are mended.
use Rattle.std.proofs.Common.{◌≡◌, ◌∙◌, sym, ap, refl, subst, ℕ, zero, suc, ◌<◌, Bool, true, false}
use Rattle.std.proofs.Common.{List, [], ◌∷◌, length, Some, arith}
use Rattle.std.specs.List.{All, Contains, slice_get}
use Rattle.std.proofs.lemmas.List.Elements.{All-contains}
use Rattle.std.proofs.lemmas.Option.{same_Some, slice_get_within}
use Rattle.basics.proofs.ListLemmas.{item_at}
use Rattle.proto_decl.specs.Names.{qualified, IsSimple, package_of}
use Rattle.proto_decl.specs.Facts.{Facts, AreOfSomeFile, NamesAreFilled}
use Rattle.proto_decl.specs.Laws.{IsScope, PrefixesAreEntities, StandsInScope}
use Rattle.proto_decl.specs.declared.declaration.Declaration.{Declaration}
use Rattle.proto_decl.specs.declared.uses.Component.{Component}
use Rattle.proto_decl.specs.declared.uses.Use.{Use}
use Rattle.proto_decl.proofs.ScopeLemmas.{one_around}
use Rattle.proto_visibility.specs.Files.{File, HasFacts, HaveOrigins, Imports, IsSource}
use Rattle.proto_visibility.specs.Sees.{LeadsTo, Sees}
use Rattle.proto_visibility.specs.Sees.LeadsTo.{at_once, through}
use Rattle.proto_visibility.specs.Sees.SeesBy.{itself, import}
use Rattle.proto_visibility.specs.Knows.{NameKind, Knows, DeclaresName, SeesGiving, is_aggregate}
use Rattle.proto_visibility.specs.Knows.NameKind.{OfPackage, OfDeclaration}
use Rattle.proto_visibility.specs.Knows.Knows.{declared, packaged}
use Rattle.proto_visibility.specs.Knows.DeclaresName.{declared as declares, packaged as has_package}
use Rattle.proto_visibility.proofs.FileFactLemmas.{one_list_of_facts}
use Rattle.proto_link.specs.declared.target.Target.{Target}
use Rattle.proto_link.specs.Resolves.{Innermost, ResolvesIn, words_of, wanted}
use Rattle.proto_link.specs.Resolves.Innermost.{here, farther}
use Rattle.proto_link.specs.Resolves.ResolvesIn.{absolute, single, extended, compound}
use Rattle.proto_link.specs.Targets.{IsTarget}
use Rattle.proto_link.specs.Uncertain.{HasNoFacts, IsFartherOut, IsFirstUnread, first_wanted}
use Rattle.proto_link.specs.Certain.{IsCertain, NothingClashes, is_any}
use Rattle.proto_link.specs.Mended.{IsAroundOrSame, IsMended, AreMended}
use Rattle.proto_link.specs.Mended.IsAroundOrSame.{same as same_scope, farther as farther_scope}
use Rattle.proto_link.specs.Mended.IsMended.{unchanged, read}
use Rattle.proto_link.proofs.MendedLemmas.{same_file, facts_stay, known_stays, gives_stays, present_stays}
use Rattle.proto_link.proofs.ScopePrefixLemmas.{gives_scope}
use Rattle.proto_link.proofs.UseScopeLemmas.{IsInPackage, in_package}
use Rattle.proto_link.proofs.UseScopeLemmas.IsInPackage.{outermost, inner}

-- ---- what is seen, with one step more

leads_more : {I : ℕ → Bool → ℕ → Type 0} {file next last : ℕ} → LeadsTo I file next → I next true last
    → LeadsTo I file last
leads_more at_once step = through step at_once
leads_more (through first rest) step = through first (leads_more rest step)

module _ (files : List File) where
  sees_more : {file next last : ℕ} → Sees files file next → Imports files next true last → Sees files file last
  sees_more itself step = import step at_once
  sees_more (import first rest) step = import first (leads_more rest step)

-- the scope in which a word is found is around the first one, or the same
pub found_around : {files : List File} {file : ℕ} {admits : NameKind → Bool} {word from scope : List ℕ}
    → Innermost files file admits word from scope → IsAroundOrSame from scope
found_around (here known) = same_scope
found_around (farther absent is rest) = farther_scope is (found_around rest)

-- ---- if a file sees no file without facts, it knows what it knew

module _ (files mended : List File) (are : AreMended files mended) where
  module _ (file : ℕ) (none : (behind : ℕ) → IsFirstUnread files file behind → ⊥) where
    no_unread : (most number : ℕ) → number < most → HasNoFacts files number → Sees files file number → ⊥
    no_unread zero number less unread sees = absurd (omega (arith, less))
    no_unread (suc most) number less unread sees =
        none number (record {
          unread = unread;
          sees = sees;
          least = λ lesser smaller its seen. no_unread most lesser (omega (arith, less, smaller)) its seen;
        })

    facts_were : (number : ℕ) → Sees files file number → (facts : Facts) → HasFacts mended number facts
        → HasFacts files number facts
    facts_were number sees facts has =
        let inside : number < length files =
        (let within = slice_get_within mended number has.file has.numbered in omega (arith, are.one_each, within)) in
        let there = item_at files number inside in
        by there.0 has.file there.1 (are.each number there.0 has.file there.1 has.numbered) has.known
      where
        by : (old new : File) → slice_get files number ≡ Some old → IsMended old new → new.facts ≡ Some facts
            → HasFacts files number facts
        by old _ at (unchanged) known = record { file = old; numbered = at; known = known }
        by old _ at (read its unread) known =
            absurd (no_unread (suc number) number (omega arith)
            (record { file = old; numbered = at; unread = unread }) sees)

    import_was : (i j : ℕ) {publicly : Bool} → Sees files file i → Imports mended i publicly j
        → Imports files i publicly j
    import_was i j sees is =
        let inside : j < length files =
        (let within = slice_get_within mended j is.file is.numbered in omega (arith, are.one_each, within)) in
        let there = item_at files j inside in
        let same = same_file files mended are j there.0 there.1 in
        record {
          facts = is.facts;
          import = is.import;
          file = there.0;
          known = facts_were i sees is.facts is.known;
          listed = is.listed;
          kind = is.kind;
          numbered = there.1;
          path = sym same.path ∙ (ap (λ (f : File). f.path)
              (same_Some same.other is.file (sym same.numbered ∙ is.numbered)) ∙ is.path);
        }

    leads_was : {i j : ℕ} → Sees files file i → LeadsTo (Imports mended) i j → LeadsTo (Imports files) i j
    leads_was sees at_once = at_once
    leads_was sees (through {file = from} {next = next} step rest) =
        let was = import_was from next sees step in
        through was (leads_was (sees_more files sees was) rest)

    sees_was : {i j : ℕ} → i ≡ file → Sees mended i j → Sees files i j
    sees_was is itself = itself
    sees_was is (import {file = from} {next = next} step rest) =
        let was = import_was from next (subst (Sees files file) (sym is) itself) step in
        import was (leads_was (subst (λ i. Sees files i next) is (import was at_once)) rest)

    knows_was : (name : List ℕ) (kind : NameKind) → Knows mended file name kind → Knows files file name kind
    knows_was _ _ (declared {seen = seen} {facts = facts} sees has listed) =
        let was = sees_was refl sees in declared was (facts_were seen was facts has) listed
    knows_was _ _ (packaged {seen = seen} {facts = facts} sees has some few) =
        let was = sees_was refl sees in packaged was (facts_were seen was facts has) some few

    -- so a word is found where it was
    pub outside : {admits : NameKind → Bool} {word from scope : List ℕ} → Innermost files file admits word from scope
        → Innermost mended file admits word from scope
    outside (here known) = here (known_stays files mended are known)
    outside {word = word} (farther {scope = scope} absent is rest) =
        farther (λ k. absent (record {
          kind = k.kind;
          known = knows_was (qualified scope word) k.kind k.known;
          admitted = k.admitted;
        })) is (outside rest)

  -- ---- in a scope of its own that isn't its package a file knows what it knew

  module _ (origins : HaveOrigins mended)
      (filled : (facts : Facts) → AreOfSomeFile facts → NamesAreFilled facts.declarations)
      (prefixes : (facts : Facts) → AreOfSomeFile facts → PrefixesAreEntities facts)
      (simple : (facts : Facts) → AreOfSomeFile facts
      → All (λ (component : Component). IsSimple component.name) facts.package_name)
      (file : ℕ) (facts : Facts) (has : HasFacts files file facts)
      (own : (declaration : Declaration) → Contains facts.declarations declaration → (seen : ℕ)
      → SeesGiving mended file is_any declaration.full_name seen → seen ≡ file) where
    its_facts : HasFacts mended file facts
    its_facts = facts_stay files mended are file facts has

    -- a file that is seen and gives a name in this scope is the file itself
    module _ (declaration : Declaration) (listed : Contains facts.declarations declaration) (word : List ℕ) where
      is_itself : (seen : ℕ) (given : Facts) (kind : NameKind) → Sees mended file seen → HasFacts mended seen given
          → DeclaresName given (qualified declaration.full_name word) kind → (seen ≡ file) × (given ≡ facts)
      is_itself seen given kind sees knows gives =
          let origin = origins seen given knows in
          let some = All-contains (λ (d : Declaration). 0 < length d.full_name) facts.declarations declaration
          (filled facts (origins file facts its_facts)) listed in
          let scope = gives_scope given (simple given origin) (prefixes given origin) declaration.full_name word kind
          some gives in
          let same : seen ≡ file = own declaration listed seen (record {
            sees = sees;
            giving = record {
              file = knows.file;
              numbered = knows.numbered;
              gives = record {
                facts = given;
                known = knows.known;
                gives = record { kind = scope.0; gives = scope.1; admitted = refl };
              };
            };
          }) in (
            same,
            one_list_of_facts mended file given facts (subst (λ n. HasFacts mended n given) same knows) its_facts,
          )

      inner_was : (name : List ℕ) (kind : NameKind) → name ≡ qualified declaration.full_name word
          → Knows mended file name kind → Knows files file name kind
      inner_was _ _ is (declared {seen = seen} {facts = given} {declaration = other} sees knows among) =
          let same = is_itself seen given (OfDeclaration other.kind) sees knows
          (subst (λ name. DeclaresName given name (OfDeclaration other.kind)) is (declares among)) in
          declared itself (subst (HasFacts files file) (sym same.1) has) among
      inner_was _ _ is (packaged {seen = seen} {count = count} {facts = given} sees knows some few) =
          let same = is_itself seen given OfPackage sees knows
          (subst (λ name. DeclaresName given name OfPackage) is (has_package (count, some, few, refl))) in
          packaged itself (subst (HasFacts files file) (sym same.1) has) some few

    abbrev Package : List ℕ
    Package = package_of facts.package_name (length facts.package_name)

    -- so a word is found where it was
    pub innermost : {admits : NameKind → Bool} {word from scope : List ℕ} → IsInPackage facts from
        → Innermost files file admits word from scope
        → (IsFartherOut Package scope → (behind : ℕ) → IsFirstUnread files file behind → ⊥)
        → Innermost mended file admits word from scope
    innermost inside (here known) certain = here (known_stays files mended are known)
    innermost outermost (farther {outer = next} absent is rest) certain =
        outside file (certain (next, is, found_around rest)) (farther absent is rest)
    innermost {word = word} (inner {declaration = declaration} listed around longer inside)
        (farther {outer = next} absent is rest) certain =
        farther (λ k. absent (record {
          kind = k.kind;
          known = inner_was declaration listed word (qualified declaration.full_name word) k.kind refl k.known;
          admitted = k.admitted;
        })) is (innermost (subst (IsInPackage facts) (one_around around is) inside) rest certain)

-- ---- what a use names

pub first_compound : (is_extended : Bool) (second : List ℕ) (others : List (List ℕ))
    → first_wanted is_extended (second ∷ others) ≡ is_aggregate
first_compound true second others = refl
first_compound false second others = refl

module _ (files mended : List File) (are : AreMended files mended) (origins : HaveOrigins mended)
    (filled : (facts : Facts) → AreOfSomeFile facts → NamesAreFilled facts.declarations)
    (prefixes : (facts : Facts) → AreOfSomeFile facts → PrefixesAreEntities facts)
    (simple : (facts : Facts) → AreOfSomeFile facts
    → All (λ (component : Component). IsSimple component.name) facts.package_name)
    (stand : (facts : Facts) → AreOfSomeFile facts → All (StandsInScope facts) facts.declarations)
    (scoped : (facts : Facts) → AreOfSomeFile facts → All (λ (used : Use). IsScope facts used.scope) facts.uses)
    (file : ℕ) (source : IsSource files file) (facts : Facts) (has : HasFacts files file facts)
    (type_use : Use) (listed : Contains facts.uses type_use) (target : Target)
    (is : IsTarget files file type_use target) (certain : IsCertain files file type_use)
    (nothing : NothingClashes files mended file type_use target.name) where
  its_origin : AreOfSomeFile facts
  its_origin = origins file facts (facts_stay files mended are file facts has)

  -- if its first word is found farther out than the package, no file without facts is seen
  none_behind : (word : List ℕ) (others : List (List ℕ)) (start : List ℕ) → words_of type_use ≡ word ∷ others
      → type_use.has_leading_dot ≡ false
      → Innermost files file (first_wanted type_use.is_extended others) word type_use.scope start
      → IsFartherOut (package_of facts.package_name (length facts.package_name)) start
      → (behind : ℕ) → IsFirstUnread files file behind → ⊥
  none_behind word others start words plain found passed behind first =
      certain behind (record {
        source = source;
        facts = facts;
        known = has;
        type_use = type_use;
        listed = listed;
        stands = refl;
        named = (target.name, is.owner, is.names);
        farther = record {
          facts = facts;
          known = has;
          word = word;
          others = others;
          words_are = words;
          plain = plain;
          farther = record { start = start; innermost = found; passed = passed };
        };
        behind = first;
      })

  found_alike : {admits : NameKind → Bool} (word : List ℕ) (others : List (List ℕ)) (start : List ℕ)
      → words_of type_use ≡ word ∷ others → type_use.has_leading_dot ≡ false
      → first_wanted type_use.is_extended others ≡ admits → Innermost files file admits word type_use.scope start
      → Innermost mended file admits word type_use.scope start
  found_alike word others start words plain role found =
      innermost files mended are origins filled prefixes simple file facts has
      (λ declaration among. nothing.own facts declaration (facts_stay files mended are file facts has) among)
      (in_package facts (stand facts its_origin) type_use.scope
      (All-contains (λ (used : Use). IsScope facts used.scope) facts.uses type_use (scoped facts its_origin) listed)) found
      (none_behind word others start words plain
      (subst (λ admits. Innermost files file admits word type_use.scope start) (sym role) found))

  resolves_alike : {is_extended has_dot : Bool} {words : List (List ℕ)} {name : List ℕ}
      → type_use.is_extended ≡ is_extended → type_use.has_leading_dot ≡ has_dot → words_of type_use ≡ words
      → ResolvesIn files file is_extended has_dot words type_use.scope name
      → ResolvesIn mended file is_extended has_dot words type_use.scope name
  resolves_alike extends dot words (absolute known) = absolute (known_stays files mended are known)
  resolves_alike extends dot words (single {word = word} {scope = start} found) =
      single (found_alike word [] start words dot (ap (λ b. first_wanted b []) extends) found)
  resolves_alike extends dot words (extended {word = word} {scope = start} found known) =
      extended (found_alike word [] start words dot (ap (λ b. first_wanted b []) extends) found)
      (known_stays files mended are known)
  resolves_alike extends dot words
      (compound {first = word} {second = second} {scope = start} {others = others} found known) =
      compound
      (found_alike word (second ∷ others) start words dot (first_compound type_use.is_extended second others) found)
      (known_stays files mended are known)

  pub certain_alike : IsTarget mended file type_use target
  certain_alike =
      let names = is.names in
      let admits = wanted type_use.is_extended in
      record {
        owner = is.owner;
        facts = is.facts;
        names = record {
          resolves = resolves_alike refl refl refl names.resolves;
          owned = record {
            gives = gives_stays files mended are file admits target.name is.owner names.owned.gives;
            present = present_stays files mended are is.owner names.owned.present;
            alone = λ other gives. names.owned.alone other (nothing.given other gives);
          };
        };
        known = facts_stay files mended are is.owner is.facts is.known;
        skipped = is.skipped;
        split = is.split;
        one_each = is.one_each;
        named = is.named;
      }
