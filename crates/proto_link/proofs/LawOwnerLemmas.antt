-- Where no names of all files clash, a name that a use resolves to is that of one file, its owner if none is left out.
use Rattle.std.proofs.Common.{◌≡◌, ℕ, Bool, true, false, List, refl, sym, ◌∙◌}
use Rattle.std.proofs.lemmas.Bool.{false≢true}
use Rattle.std.proofs.lemmas.Option.{slice_get_within}
use Rattle.proto_lex.specs.declared.span.Span.{Span}
use Rattle.proto_visibility.specs.declared.clash.Duplicates.TheVariants.{Refuse}
use Rattle.proto_visibility.specs.Files.{File, HasFacts, IsPresent, IsSource}
use Rattle.proto_visibility.specs.Reaches.{IsReachable}
use Rattle.proto_visibility.specs.Reaches.Reaches.{sees as reaches_seen}
use Rattle.proto_visibility.specs.Reaches.IsReachable.{reached}
use Rattle.proto_visibility.specs.Clashes.{Item, IsItem, NoClash}
use Rattle.proto_visibility.specs.Clashes.IsItemBy.{declared}
use Rattle.proto_visibility.specs.Knows.{NameKind, Knows, KnowsAs, DeclaresName, SeesGiving}
use Rattle.proto_visibility.specs.Knows.NameKind.{OfPackage}
use Rattle.proto_visibility.specs.Knows.Knows.{declared as known_declared, packaged as known_packaged}
use Rattle.proto_visibility.specs.Knows.DeclaresName.{declared as gives_declared, packaged as gives_packaged}
use Rattle.proto_link.specs.Laws.{EachNameHasAnOwner, NoUseIsAmbiguous}
use Rattle.proto_link.specs.Resolves.{ResolvesIn, wanted}
use Rattle.proto_link.specs.Resolves.ResolvesIn.{absolute, single, extended, compound}
use Rattle.proto_link.proofs.LawOneItemLemmas.{neither}
use Rattle.proto_link.proofs.TargetLemmas.{known_there}

-- a use resolves to what it wants
known_as_wanted : {files : List File} {file : ℕ} {is_extended has_dot : Bool} {words : List (List ℕ)}
    {from name : List ℕ} → ResolvesIn files file is_extended has_dot words from name
    → KnowsAs files file (wanted is_extended) name
known_as_wanted (absolute known) = known
known_as_wanted (single innermost) = known_there innermost
known_as_wanted (extended innermost known) = known
known_as_wanted (compound innermost known) = known

-- and that is no package
no_package : (is_extended : Bool) → wanted is_extended OfPackage ≡ false
no_package true = refl
no_package false = refl

abbrev declared_at : (name : List ℕ) (number : ℕ) → Span → Item
declared_at name number span =
    record { place = record { file = number; span = span }; full_name = name; is_declaration = true }

module _ (files : List File) (clear : NoClash Refuse files) (source : ℕ) (is : IsSource files source)
    (admits : NameKind → Bool) (typed : admits OfPackage ≡ false) where
  -- a declaration that the source sees
  record IsSeenAt (name : List ℕ) (number : ℕ) : Type 0 where
    span : Span
    item : IsItem files (declared_at name number span)

  seen_at : (name : List ℕ) (number : ℕ) → SeesGiving files source admits name number → IsPresent files number
      → IsSeenAt name number
  seen_at name number gives present = by gives.giving.gives.gives.gives gives.giving.gives.gives.admitted
    where
      counts : IsReachable files number
      counts = reached is (reaches_seen gives.sees) present

      has : HasFacts files number gives.giving.gives.facts
      has = record {
        file = gives.giving.file;
        numbered = gives.giving.numbered;
        known = gives.giving.gives.known;
      }

      by : {text : List ℕ} {kind : NameKind} → DeclaresName gives.giving.gives.facts text kind → admits kind ≡ true
          → IsSeenAt text number
      by (gives_declared {declaration = d} listed) admitted =
          record { span = d.name; item = declared counts has listed }
      by (gives_packaged prefix) admitted = absurd (false≢true (sym typed ∙ admitted))

  -- two of one name are of one file
  one_file : (name : List ℕ) (number other : ℕ) → IsSeenAt name number → IsSeenAt name other → number ≡ other
  one_file name number other a b =
      (neither (record { file = number; span = a.span }) (record { file = other; span = b.span })
      (λ before. clear (declared_at name number a.span) (declared_at name other b.span) (record {
        first_is = a.item;
        second_is = b.item;
        ordered = before;
        one_name = refl;
        declares = refl;
      }))
      (λ before. clear (declared_at name other b.span) (declared_at name number a.span) (record {
        first_is = b.item;
        second_is = a.item;
        ordered = before;
        one_name = refl;
        declares = refl;
      }))).0

  giving : (name : List ℕ) (kind : NameKind) → Knows files source name kind → admits kind ≡ true
      → (number : ℕ) × SeesGiving files source admits name number
  giving name kind (known_declared {seen = number} {facts = facts} sees has listed) admitted = (
    number,
    record {
      sees = sees;
      giving = record {
        file = has.file;
        numbered = has.numbered;
        gives = record {
          facts = facts;
          known = has.known;
          gives = record { kind = kind; gives = gives_declared listed; admitted = admitted };
        };
      };
    },
  )
  giving name kind (known_packaged sees has some few) admitted = absurd (false≢true (sym typed ∙ admitted))

pub each_name_has_an_owner : EachNameHasAnOwner
each_name_has_an_owner files all clear source is type_use name resolves =
    let admits = wanted type_use.is_extended in
    let typed = no_package type_use.is_extended in
    let known = known_as_wanted resolves in
    let there = giving files clear source is admits typed name known.kind known.known known.admitted in
    let present : (number : ℕ) → SeesGiving files source admits name number → IsPresent files number =
    λ number gives. all number (slice_get_within files number gives.giving.file gives.giving.numbered) in
    let at = seen_at files clear source is admits typed name there.0 there.1 (present there.0 there.1) in (
      there.0,
      record {
        resolves = resolves;
        owned = record {
          gives = there.1;
          present = present there.0 there.1;
          alone = λ other gives. one_file files clear source is admits typed name other there.0
              (seen_at files clear source is admits typed name other gives (present other gives)) at;
        };
      },
    )

pub no_use_is_ambiguous : NoUseIsAmbiguous
no_use_is_ambiguous files clear source is type_use ambiguous =
    let admits = wanted type_use.is_extended in
    let typed = no_package type_use.is_extended in
    let two = ambiguous.twice in
    two.apart (one_file files clear source is admits typed ambiguous.name two.first two.second
    (seen_at files clear source is admits typed ambiguous.name two.first two.first_gives two.first_present)
    (seen_at files clear source is admits typed ambiguous.name two.second two.second_gives two.second_present))
