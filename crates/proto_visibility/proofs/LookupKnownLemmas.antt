-- The names that a file knows.
use Rattle.std.proofs.Common.{◌≡◌, ◌↔◌, inl, inr, ℕ, ◌<◌, IsTrue, Bool, true, false, List, length, Option, Some, None}
use Rattle.std.proofs.Common.{MatchOption, refl, ap, sym, ◌∙◌, subst}
use Rattle.std.specs.List.{Contains, slice_get}
use Rattle.std.specs.Option.{is_some}
use Rattle.std.proofs.lemmas.Bool.{false≢true}
use Rattle.std.proofs.lemmas.Option.{same_Some}
use Rattle.basics.proofs.ListLemmas.{item_at}
use Rattle.proto_decl.specs.Facts.{Facts}
use Rattle.proto_visibility.specs.declared.lookup.Role.{Role}
use Rattle.proto_visibility.specs.declared.names.Names.{Names}
use Rattle.proto_visibility.specs.Files.{File, HasFacts, IsPresent}
use Rattle.proto_visibility.specs.Sees.{Sees}
use Rattle.proto_visibility.specs.Knows.{NameKind, Knows, KnowsAs, DeclaresName, IsGiving, SeesGiving, IsOwner, admits}
use Rattle.proto_visibility.specs.Knows.NameKind.{OfPackage}
use Rattle.proto_visibility.specs.Tables.GivenNames.{owned_at, AreNames, IsAloneIn, IsDeclaring}
use Rattle.proto_visibility.proofs.LookupListedLemmas.{listed_iff}
use Rattle.proto_visibility.specs.Knows.Knows.{declared as known_declared, packaged as known_packaged}
use Rattle.proto_visibility.specs.Knows.DeclaresName.{declared as gives_declared, packaged as gives_packaged}

known : (files : List File) (file seen : ℕ) (facts : Facts) (name : List ℕ) (kind : NameKind) → Sees files file seen
    → HasFacts files seen facts → DeclaresName facts name kind → Knows files file name kind
known files file seen facts name kind sees has (gives_declared listed) = known_declared sees has listed
known files file seen facts name kind sees has (gives_packaged of) =
    subst (λ n. Knows files file n kind) (sym of.3) (known_packaged sees has of.1 of.2)

pub knows_from : (files : List File) (file : ℕ) (admits : NameKind → Bool) (name : List ℕ) (seen : ℕ)
    → SeesGiving files file admits name seen → KnowsAs files file admits name
knows_from files file admits name seen s =
    let g = s.giving.gives in
    record {
      kind = g.gives.kind;
      known = known files file seen g.facts name g.gives.kind s.sees
          (record { file = s.giving.file; numbered = s.giving.numbered; known = g.known }) g.gives.gives;
      admitted = g.gives.admitted;
    }

giving : (files : List File) (file : ℕ) (admits : NameKind → Bool) (name : List ℕ) (kind : NameKind)
    → Knows files file name kind → admits kind ≡ true
    → (seen : ℕ) × Sees files file seen × IsGiving files admits name seen
giving files file admits name kind (known_declared {seen = seen} {facts = facts} sees has listed) admitted = (
  seen,
  sees,
  record {
    file = has.file;
    numbered = has.numbered;
    gives = record {
      facts = facts;
      known = has.known;
      gives = record { kind = kind; gives = gives_declared listed; admitted = admitted };
    };
  },
)
giving files file admits name kind
    (known_packaged {seen = seen} {count = count} {facts = facts} sees has some few) admitted = (
      seen,
      sees,
      record {
        file = has.file;
        numbered = has.numbered;
        gives = record {
          facts = facts;
          known = has.known;
          gives = record { kind = kind; gives = gives_packaged (count, some, few, refl); admitted = admitted };
        };
      },
    )

module _ (files : List File) (file : ℕ) (admits : NameKind → Bool) (name : List ℕ) (row : List ℕ)
    (sees : (other : ℕ) → Contains row other ↔ Sees files file other) where
  pub knows_by : (found : Option ℕ)
      → MatchOption found ((number : ℕ) → Contains row number → IsGiving files admits name number → ⊥)
      (λ number. Contains row number × IsGiving files admits name number)
      → MatchOption found (KnowsAs files file admits name → ⊥) (SeesGiving files file admits name)
  knows_by None none = λ k. let at = giving files file admits name k.kind k.known k.admitted in
      none at.0 ((sees at.0).1 at.1) at.2
  knows_by (Some number) some = record { sees = (sees number).0 some.0; giving = some.1 }

pub knows_iff : (files : List File) (file : ℕ) (admits : NameKind → Bool) (name : List ℕ) (found : Option ℕ)
    → MatchOption found (KnowsAs files file admits name → ⊥) (SeesGiving files file admits name)
    → IsTrue (is_some found) ↔ KnowsAs files file admits name
knows_iff files file admits name None none = (λ t. absurd (false≢true t), λ k. absurd (none k))
knows_iff files file admits name (Some seen) some = (λ t. knows_from files file admits name seen some, λ k. refl)

-- ---- the owner of a name

module _ (files : List File) (file : ℕ) (names : Names) (are : AreNames files names) (role : Role) (name row : List ℕ)
    (sees : (other : ℕ) → Contains row other ↔ Sees files file other) (declared : admits role OfPackage ≡ false) where
  declaring : (number : ℕ) → IsGiving files (admits role) name number
      → IsDeclaring (owned_at names.declared name) (admits role) number
  declaring number is = elim ((listed_iff files names are role name number).1 is)
      [ inl d ↦ d | inr p ↦ absurd (false≢true (sym declared ∙ p.0)) ]

  pub owner_from : (owner : ℕ) → IsAloneIn row (owned_at names.declared name) (admits role) owner
      → IsPresent files owner → IsOwner files file (admits role) name owner
  owner_from owner is present = record {
    gives = record {
      sees = (sees owner).0 is.there;
      giving = (listed_iff files names are role name owner).0 (inl is.declares);
    };
    present = present;
    alone = λ other gives. is.alone other ((sees other).1 gives.sees) (declaring other gives.giving);
  }

  pub alone_from : (owner : ℕ) → IsOwner files file (admits role) name owner
      → IsAloneIn row (owned_at names.declared name) (admits role) owner
  alone_from owner is = record {
    there = (sees owner).1 is.gives.sees;
    declares = declaring owner is.gives.giving;
    alone = λ other among its. is.alone other (record {
      sees = (sees other).0 among;
      giving = (listed_iff files names are role name other).0 (inl its);
    });
  }

  pub no_owner : ((number : ℕ) → IsAloneIn row (owned_at names.declared name) (admits role) number → ⊥)
      → (owner : ℕ) → IsOwner files file (admits role) name owner → ⊥
  no_owner none owner is = none owner (alone_from owner is)

  -- the one that is alone is left out
  pub owner_left_out : (number : ℕ) (its : File) → IsAloneIn row (owned_at names.declared name) (admits role) number
      → slice_get files number ≡ Some its → its.is_left_out ≡ true
      → (owner : ℕ) → IsOwner files file (admits role) name owner → ⊥
  owner_left_out number its is stands out owner owns =
      let same : number ≡ owner = (alone_from owner owns).alone number is.there is.declares in
      let one : owns.present.file ≡ its =
      same_Some owns.present.file its (sym owns.present.numbered ∙ (ap (slice_get files) (sym same) ∙ stands)) in
      false≢true (sym owns.present.present ∙ (ap (λ (f : File). f.is_left_out) one ∙ out))

  -- of the one that is alone it is told whether it is left out
  pub owner_unless : (number : ℕ) → IsAloneIn row (owned_at names.declared name) (admits role) number
      → number < length files → (found : Option ℕ)
      → MatchOption found ((its : File) → slice_get files number ≡ Some its → its.is_left_out ≡ true)
      (λ owner. (owner ≡ number) × IsPresent files owner)
      → MatchOption found ((owner : ℕ) → IsOwner files file (admits role) name owner → ⊥)
      (IsOwner files file (admits role) name)
  owner_unless number is within None out =
      let its = item_at files number within in owner_left_out number its.0 is its.1 (out its.0 its.1)
  owner_unless number is within (Some owner) here =
      owner_from owner (subst (IsAloneIn row (owned_at names.declared name) (admits role)) (sym here.0) is) here.1
