-- Files that are each one of others, by their numbers there: what a file of them sees, knows, and is given names by.
use Rattle.std.proofs.Common.{◌≡◌, ◌↔◌, ℕ, ◌<◌, Bool, true, Option, Some, None, List, length, refl, ap, sym, ◌∙◌}
use Rattle.std.proofs.Common.{subst}
use Rattle.std.specs.List.{slice_get}
use Rattle.std.proofs.lemmas.Option.{none-some, same_Some, slice_get_within}
use Rattle.basics.proofs.ListLemmas.{item_at}
use Rattle.proto_decl.specs.Facts.{Facts}
use Rattle.proto_visibility.specs.declared.lookup.Entity.{Entity}
use Rattle.proto_visibility.specs.declared.lookup.Entity.TheVariants as link
use Rattle.proto_visibility.specs.Files.{File, HasFacts, Imports, IsPresent}
use Rattle.proto_visibility.specs.Sees.{LeadsTo, Sees}
use Rattle.proto_visibility.specs.Sees.LeadsTo.{at_once, through}
use Rattle.proto_visibility.specs.Sees.SeesBy.{itself, import}
use Rattle.proto_visibility.specs.Knows.{NameKind, Knows, KnowsAs, DeclaresName, DeclaresNameAs, SeesGiving, IsOwner}
use Rattle.proto_visibility.specs.Knows.{IsEntityOf}
use Rattle.proto_visibility.specs.Knows.DeclaresName.{declared as gives_declared, packaged as gives_packaged}
use Rattle.proto_visibility.specs.Knows.Knows.{declared, packaged}
use Rattle.proto_visibility.specs.Knows.IsEntityOf.{packaged as packaged_entity, declared as declared_entity}
use Rattle.proto_visibility.specs.Parts.{AreAlike, HasAllSeen, IsOfPart, IsPart, entity_at, renumbered}

-- ---- facts that say the same

alike_to : (a b : Option Facts) (facts : Facts) → AreAlike a b → a ≡ Some facts
    → (n : ℕ) × (b ≡ Some (renumbered n facts))
alike_to None b facts alike is = absurd (none-some facts is)
alike_to (Some f) None facts alike is = absurd alike
alike_to (Some f) (Some g) facts alike is =
    (g.number, ap Some (alike ∙ ap (renumbered g.number) (same_Some f facts is)))

alike_back : (a b : Option Facts) (facts : Facts) → AreAlike a b → b ≡ Some facts
    → (n : ℕ) × (a ≡ Some (renumbered n facts))
alike_back a None facts alike is = absurd (none-some facts is)
alike_back None (Some g) facts alike is = absurd alike
alike_back (Some f) (Some g) facts alike is =
    (f.number, ap Some (sym (ap (renumbered f.number) alike) ∙ ap (renumbered f.number) (same_Some g facts is)))

leads_more : {I : ℕ → Bool → ℕ → Type 0} {a b c : ℕ} → LeadsTo I a b → I b true c → LeadsTo I a c
leads_more at_once step = through step at_once
leads_more (through first rest) step = through first (leads_more rest step)

pub sees_more : {files : List File} {a b c : ℕ} → Sees files a b → Imports files b true c → Sees files a c
sees_more itself step = import step at_once
sees_more (import first rest) step = import first (leads_more rest step)

given : {admits : NameKind → Bool} {name : List ℕ} {facts : Facts} (n : ℕ) → DeclaresNameAs admits name facts
    → DeclaresNameAs admits name (renumbered n facts)
given {admits} {name} {facts} n is = record { kind = is.kind; gives = by is.gives; admitted = is.admitted }
  where
    by : {text : List ℕ} {kind : NameKind} → DeclaresName facts text kind → DeclaresName (renumbered n facts) text kind
    by (gives_declared listed) = gives_declared listed
    by (gives_packaged prefix) = gives_packaged prefix

-- what is the same of a file, and of the one that it is among others
pub record Shares (others : List File) (number : ℕ) (file : File) : Type 0 where
  pub other : File
  pub numbered : slice_get others number ≡ Some other
  pub path : file.path ≡ other.path
  pub facts : AreAlike file.facts other.facts

pub shares : (part whole : List File) (at : ℕ → ℕ) → IsPart part whole at → (k : ℕ) (file : File)
    → slice_get part k ≡ Some file → Shares whole (at k) file
shares part whole at are k file stands =
    let its = are k file stands in
    record { other = its.other; numbered = its.numbered; path = its.same.path; facts = its.same.facts }

module _ (files others : List File) (at : ℕ → ℕ)
    (there : (k : ℕ) (file : File) → slice_get files k ≡ Some file → Shares others (at k) file) where
  pub facts_to : (k : ℕ) (facts : Facts) → HasFacts files k facts
      → (n : ℕ) × HasFacts others (at k) (renumbered n facts)
  facts_to k facts has =
      let its = there k has.file has.numbered in
      let known = alike_to has.file.facts its.other.facts facts its.facts has.known in
      (known.0, record { file = its.other; numbered = its.numbered; known = known.1 })

  pub facts_back : (k : ℕ) (facts : Facts) → k < length files → HasFacts others (at k) facts
      → (n : ℕ) × HasFacts files k (renumbered n facts)
  facts_back k facts within has =
      let own = item_at files k within in
      let its = there k own.0 own.1 in
      let same : has.file ≡ its.other = same_Some has.file its.other (sym has.numbered ∙ its.numbered) in
      let known = alike_back own.0.facts its.other.facts facts its.facts
      (ap (λ (f : File). f.facts) (sym same) ∙ has.known) in
      (known.0, record { file = own.0; numbered = own.1; known = known.1 })

  pub facts_of : {n : ℕ} {facts : Facts} (from : IsOfPart files at n) → HasFacts others n facts
      → (m : ℕ) × HasFacts files from.number (renumbered m facts)
  facts_of {n} {facts} from has =
      facts_back from.number facts (slice_get_within files from.number from.file from.numbered)
      (subst (λ k. HasFacts others k facts) (sym from.same) has)

  -- ---- what is seen

  pub imports_to : (i j : ℕ) {publicly : Bool} → Imports files i publicly j → Imports others (at i) publicly (at j)
  imports_to i j is =
      let its = there j is.file is.numbered in
      let known = facts_to i is.facts is.known in
      record {
        facts = renumbered known.0 is.facts;
        import = is.import;
        file = its.other;
        known = known.1;
        listed = is.listed;
        kind = is.kind;
        numbered = its.numbered;
        path = sym its.path ∙ is.path;
      }

  pub imports_back : (i j : ℕ) {publicly : Bool} → i < length files → j < length files
      → Imports others (at i) publicly (at j) → Imports files i publicly j
  imports_back i j i_in j_in is =
      let own = item_at files j j_in in
      let its = there j own.0 own.1 in
      let same : its.other ≡ is.file = same_Some its.other is.file (sym its.numbered ∙ is.numbered) in
      let known = facts_back i is.facts i_in is.known in
      record {
        facts = renumbered known.0 is.facts;
        import = is.import;
        file = own.0;
        known = known.1;
        listed = is.listed;
        kind = is.kind;
        numbered = own.1;
        path = its.path ∙ (ap (λ (f : File). f.path) same ∙ is.path);
      }

  leads_to : {i j : ℕ} → LeadsTo (Imports files) i j → LeadsTo (Imports others) (at i) (at j)
  leads_to at_once = at_once
  leads_to (through {file = file} {next = next} step rest) = through (imports_to file next step) (leads_to rest)

  pub sees_to : {i j : ℕ} → Sees files i j → Sees others (at i) (at j)
  sees_to itself = itself
  sees_to (import {file = file} {next = next} step rest) = import (imports_to file next step) (leads_to rest)

  -- ---- of a file of which all that it sees is there

  module _ (number : ℕ) (within : number < length files) (all : HasAllSeen files others at number) where
    imports_on : {m n : ℕ} {publicly : Bool} (from : IsOfPart files at m) (to : IsOfPart files at n)
        → Imports others m publicly n → Imports files from.number publicly to.number
    imports_on {m} {n} {publicly} from to step =
        imports_back from.number to.number (slice_get_within files from.number from.file from.numbered)
        (slice_get_within files to.number to.file to.numbered)
        (subst (λ k. Imports others k publicly (at to.number)) (sym from.same)
        (subst (λ k. Imports others m publicly k) (sym to.same) step))

    record LeadsBack (i n : ℕ) : Type 0 where
      own : IsOfPart files at n
      leads : LeadsTo (Imports files) i own.number

    leads_back : {m n : ℕ} → LeadsTo (Imports others) m n → Sees others (at number) m → (from : IsOfPart files at m)
        → LeadsBack from.number n
    leads_back at_once sees from = record { own = from; leads = at_once }
    leads_back (through {next = next} step rest) sees from =
        let more = sees_more sees step in
        let next_is = all next more in
        let further = leads_back rest more next_is in
        record { own = further.own; leads = through (imports_on from next_is step) further.leads }

    abbrev itself_is : IsOfPart files at (at number)
    itself_is =
        let own = item_at files number within in
        record { number = number; file = own.0; numbered = own.1; same = refl }

    pub record SeesBack (n : ℕ) : Type 0 where
      pub own : IsOfPart files at n
      pub sees : Sees files number own.number

    pub sees_back : (n : ℕ) → Sees others (at number) n → SeesBack n
    sees_back n sees = by sees refl
      where
        by : {m : ℕ} → Sees others m n → at number ≡ m → SeesBack n
        by itself same =
            let own = item_at files number within in
            record { own = record { number = number; file = own.0; numbered = own.1; same = same }; sees = itself }
        by (import {next = next} {publicly = publicly} step rest) same =
            let first = subst (λ k. Imports others k publicly next) (sym same) step in
            let next_is = all next (import first at_once) in
            let further = leads_back rest (import first at_once) next_is in
            record { own = further.own; sees = import (imports_on itself_is next_is first) further.leads }

    -- ---- names

    knows_to : (name : List ℕ) (kind : NameKind) → Knows files number name kind → Knows others (at number) name kind
    knows_to _ _ (declared {seen = seen} {facts = facts} sees has listed) =
        declared (sees_to sees) (facts_to seen facts has).1 listed
    knows_to _ _ (packaged {seen = seen} {facts = facts} sees has some few) =
        packaged (sees_to sees) (facts_to seen facts has).1 some few

    knows_back : (name : List ℕ) (kind : NameKind) → Knows others (at number) name kind → Knows files number name kind
    knows_back _ _ (declared {seen = seen} {facts = facts} sees has listed) =
        let way = sees_back seen sees in declared way.sees (facts_of way.own has).1 listed
    knows_back _ _ (packaged {seen = seen} {facts = facts} sees has some few) =
        let way = sees_back seen sees in packaged way.sees (facts_of way.own has).1 some few

    pub known_alike : (admits : NameKind → Bool) (name : List ℕ) → KnowsAs files number admits name
        ↔ KnowsAs others (at number) admits name
    known_alike admits name = (
      λ k. record { kind = k.kind; known = knows_to name k.kind k.known; admitted = k.admitted },
      λ k. record { kind = k.kind; known = knows_back name k.kind k.known; admitted = k.admitted },
    )

    pub gives_to : (admits : NameKind → Bool) (name : List ℕ) (seen : ℕ) → SeesGiving files number admits name seen
        → SeesGiving others (at number) admits name (at seen)
    gives_to admits name seen is =
        let g = is.giving in
        let has = facts_to seen g.gives.facts
        (record { file = g.file; numbered = g.numbered; known = g.gives.known }) in
        record {
          sees = sees_to is.sees;
          giving = record {
            file = has.1.file;
            numbered = has.1.numbered;
            gives = record {
              facts = renumbered has.0 g.gives.facts;
              known = has.1.known;
              gives = given has.0 g.gives.gives;
            };
          };
        }

    pub record GivesBack (admits : NameKind → Bool) (name : List ℕ) (n : ℕ) : Type 0 where
      pub own : IsOfPart files at n
      pub gives : SeesGiving files number admits name own.number

    pub gives_back : (admits : NameKind → Bool) (name : List ℕ) (n : ℕ) → SeesGiving others (at number) admits name n
        → GivesBack admits name n
    gives_back admits name n is =
        let way = sees_back n is.sees in
        let g = is.giving in
        let has = facts_of way.own
        (record { file = g.file; numbered = g.numbered; known = g.gives.known }) in
        record {
          own = way.own;
          gives = record {
            sees = way.sees;
            giving = record {
              file = has.1.file;
              numbered = has.1.numbered;
              gives = record {
                facts = renumbered has.0 g.gives.facts;
                known = has.1.known;
                gives = given has.0 g.gives.gives;
              };
            };
          };
        }

    -- ---- who owns a name, if files stay that others have: what is there isn't left out where it was and stays

    module _ (Stays : ℕ → Type 0)
        (present_to : (k : ℕ) → IsPresent files k → IsPresent others (at k) × Stays (at k))
        (present_back : (k : ℕ) → k < length files → IsPresent others (at k) → Stays (at k) → IsPresent files k)
        (one : (i j : ℕ) → i < length files → j < length files → at i ≡ at j → i ≡ j) where
      pub owner_to : (admits : NameKind → Bool) (name : List ℕ) (owner : ℕ) → IsOwner files number admits name owner
          → IsOwner others (at number) admits name (at owner) × Stays (at owner)
      owner_to admits name owner is =
          let present = present_to owner is.present in (
            record {
              gives = gives_to admits name owner is.gives;
              present = present.0;
              alone = λ other gives.
                  let its = gives_back admits name other gives in
                  sym its.own.same ∙ ap at (is.alone its.own.number its.gives);
            },
            present.1,
          )

      pub record OwnsBack (admits : NameKind → Bool) (name : List ℕ) (n : ℕ) : Type 0 where
        pub own : IsOfPart files at n
        pub owns : IsOwner files number admits name own.number

      pub owner_back : (admits : NameKind → Bool) (name : List ℕ) (n : ℕ) → IsOwner others (at number) admits name n
          → Stays n → OwnsBack admits name n
      owner_back admits name n is stays =
          let its = gives_back admits name n is.gives in
          let inside = slice_get_within files its.own.number its.own.file its.own.numbered in
          record {
            own = its.own;
            owns = record {
              gives = its.gives;
              present = present_back its.own.number inside (subst (IsPresent others) (sym its.own.same) is.present)
                  (subst Stays (sym its.own.same) stays);
              alone = λ other gives.
                  one other its.own.number
                  (slice_get_within files other gives.giving.file gives.giving.numbered) inside
                  (is.alone (at other) (gives_to admits name other gives) ∙ sym its.own.same);
            };
          }

-- ---- entities

pub entity_to : (at : ℕ → ℕ) (owner n : ℕ) {facts : Facts} {name : List ℕ} {count : ℕ} (part : Entity)
    → IsEntityOf owner facts name count part
    → IsEntityOf (at owner) (renumbered n facts) name count (entity_at at part)
entity_to at owner n _ (packaged_entity prefix) = packaged_entity prefix
entity_to at owner n _ (declared_entity stands full) = declared_entity stands full

pub entity_back : (at : ℕ → ℕ) (owner n : ℕ) {facts : Facts} {name : List ℕ} {count : ℕ} (part : Entity)
    → IsEntityOf (at owner) facts name count part
    → (own : Entity) × (entity_at at own ≡ part) × IsEntityOf owner (renumbered n facts) name count own
entity_back at owner n {count = count} _ (packaged_entity prefix) = (link.Package count, refl, packaged_entity prefix)
entity_back at owner n _ (declared_entity {index = index} stands full) =
    (link.Declared owner index, refl, declared_entity stands full)
