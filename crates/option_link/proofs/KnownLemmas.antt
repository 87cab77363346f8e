-- What a file knows by a name, and who gives it: from the places where declarations have it.
use Rattle.std.proofs.Common.{◌≡◌, ◌⊎◌, inl, inr, ℕ, Bool, true, false, List, refl, sym, ◌∙◌, subst}
use Rattle.std.proofs.lemmas.Bool.{false≢true}
use Rattle.basics.proofs.FirstLemmas.{contained, at_contained}
use Rattle.proto_decl.specs.Facts.{Facts}
use Rattle.proto_visibility.specs.Files.{File, HasFacts}
use Rattle.proto_visibility.specs.Knows.{NameKind, Knows, KnowsAs, DeclaresName, SeesGiving, is_aggregate}
use Rattle.proto_visibility.specs.Knows.NameKind.{OfPackage, OfDeclaration}
use Rattle.proto_visibility.specs.Knows.Knows.{declared as known_declared, packaged as known_packaged}
use Rattle.proto_visibility.specs.Knows.DeclaresName.{declared as gives_declared, packaged as gives_packaged}
use Rattle.option_link.specs.declared.place.DeclaredPlace.{DeclaredPlace}
use Rattle.option_link.specs.Places.{place_at}
use Rattle.option_link.specs.Lookups.{is_any}
use Rattle.option_link.specs.Tables.{IsSought}

module _ (files : List File) (file : ℕ) (admits : NameKind → Bool) where
  abbrev pub Found : List ℕ → Type 0
  Found name = ((place : DeclaredPlace) × IsSought files file admits name place)
      ⊎ ((admits OfPackage ≡ true) × Knows files file name OfPackage)

  found_by : {name : List ℕ} {kind : NameKind} → Knows files file name kind → admits kind ≡ true → Found name
  found_by (known_declared {seen = n} {facts = fs} {declaration = d} sees has listed) admitted = inl (
    place_at n listed.0,
    record {
      at = record {
        declaration = d;
        stands = record { facts = fs; known = has; listed = at_contained fs.declarations d listed };
        admitted = admitted;
        sees = sees;
      };
      named = refl;
    },
  )
  found_by (known_packaged sees has some few) admitted = inr (admitted, known_packaged sees has some few)

  -- what is known is found at a place, or is a package

  pub found_as : (name : List ℕ) → KnowsAs files file admits name → Found name
  found_as name known = found_by known.known known.admitted

  pub known_sought : (name : List ℕ) (place : DeclaredPlace) → IsSought files file admits name place
      → KnowsAs files file admits name
  known_sought name place sought =
      let stands = sought.at.stands in
      record {
        kind = OfDeclaration sought.at.declaration.kind;
        known = subst (λ (n : List ℕ). Knows files file n (OfDeclaration sought.at.declaration.kind)) sought.named
            (known_declared sought.at.sees stands.known
            (contained stands.facts.declarations place.index sought.at.declaration stands.listed));
        admitted = sought.at.admitted;
      }

  -- where nothing is found at a place, and no package is known, nothing is

  pub known_nowhere : (name : List ℕ) → ((place : DeclaredPlace) → IsSought files file admits name place → ⊥)
      → (admits OfPackage ≡ true → KnowsAs files file is_aggregate name → ⊥) → KnowsAs files file admits name → ⊥
  known_nowhere name none packaged known = elim (found_as name known) [
    | inl at ↦ none at.0 at.1
    | inr of ↦ packaged of.0 (record { kind = OfPackage; known = of.1; admitted = refl })
  ]

  -- who gives a name

  pub giving_sought : (name : List ℕ) (place : DeclaredPlace) → IsSought files file admits name place
      → SeesGiving files file admits name place.file
  giving_sought name place sought =
      let stands = sought.at.stands in
      record {
        sees = sought.at.sees;
        giving = record {
          file = stands.known.file;
          numbered = stands.known.numbered;
          gives = record {
            facts = stands.facts;
            known = stands.known.known;
            gives = record {
              kind = OfDeclaration sought.at.declaration.kind;
              gives = subst (λ (n : List ℕ). DeclaresName stands.facts n (OfDeclaration sought.at.declaration.kind))
                  sought.named
                  (gives_declared
                  (contained stands.facts.declarations place.index sought.at.declaration stands.listed));
              admitted = sought.at.admitted;
            };
          };
        };
      }

  pub sought_giving : admits OfPackage ≡ false → (name : List ℕ) (number : ℕ)
      → SeesGiving files file admits name number
      → (place : DeclaredPlace) × IsSought files file admits name place × (place.file ≡ number)
  sought_giving typed name number given = by given.giving.gives.gives.gives given.giving.gives.gives.admitted
    where
      facts : Facts
      facts = given.giving.gives.facts

      has : HasFacts files number facts
      has = record {
        file = given.giving.file;
        numbered = given.giving.numbered;
        known = given.giving.gives.known;
      }

      by : {text : List ℕ} {kind : NameKind} → DeclaresName facts text kind → admits kind ≡ true
          → (place : DeclaredPlace) × IsSought files file admits text place × (place.file ≡ number)
      by (gives_declared {declaration = d} listed) admitted = (
        place_at number listed.0,
        record {
          at = record {
            declaration = d;
            stands = record { facts = facts; known = has; listed = at_contained facts.declarations d listed };
            admitted = admitted;
            sees = given.sees;
          };
          named = refl;
        },
        refl,
      )
      by (gives_packaged prefix) admitted = absurd (false≢true (sym typed ∙ admitted))

-- what is an aggregate is known as anything
pub known_any : (files : List File) (file : ℕ) (name : List ℕ) → KnowsAs files file is_aggregate name
    → KnowsAs files file is_any name
known_any files file name known = record { kind = known.kind; known = known.known; admitted = refl }
