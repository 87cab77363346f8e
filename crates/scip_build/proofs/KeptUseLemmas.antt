-- A use of a kept file names, as files are linked, what it names in the whole tree: those are a part of all files.
use Rattle.std.proofs.Common.{◌≡◌, ◌∙◌, ◌⊎◌, inl, inr, ℕ, ◌+◌, ◌<◌, ◌≤◌, zero, suc, Bool, List, [], ◌∷◌, length, map}
use Rattle.std.proofs.Common.{Option, Some, None, ap, sym, refl, subst, arith}
use Rattle.std.specs.List.{slice_get}
use Rattle.std.proofs.lemmas.Bool.{cases_lt}
use Rattle.std.proofs.lemmas.Option.{same_Some, none-some, slice_get_within}
use Rattle.std.proofs.lemmas.List.{length-append, length-map}
use Rattle.basics.proofs.ListLemmas.{item_at}
use Rattle.proto_decl.specs.Facts.{Facts}
use Rattle.proto_decl.specs.declared.uses.Use.{Use}
use Rattle.proto_visibility.specs.declared.lookup.Entity.{Entity}
use Rattle.proto_visibility.specs.declared.lookup.Entity.TheVariants as link
use Rattle.proto_visibility.specs.declared.omissions.FileOmission.{FileOmission}
use Rattle.proto_visibility.specs.Files.{File, Imports, IsPresent}
use Rattle.proto_visibility.specs.Sees.{LeadsTo, Sees}
use Rattle.proto_visibility.specs.Sees.LeadsTo.{at_once, through}
use Rattle.proto_visibility.specs.Sees.SeesBy.{itself, import}
use Rattle.proto_visibility.specs.Knows.{IsEntityOf, NameKind, SeesGiving}
use Rattle.proto_visibility.specs.Knows.IsEntityOf.{packaged as packaged_entity, declared as declared_entity}
use Rattle.proto_visibility.specs.Kept.{Omissions, IsKeptFile, kept_of, left_of, as_left_out, linked_of}
use Rattle.proto_visibility.specs.Kept.{number_among_all}
use Rattle.proto_visibility.specs.Parts.{AreAlike, HasAllSeen, entity_at, renumbered}
use Rattle.proto_visibility.proofs.KeptAmongLemmas.{at_all, is_kept}
use Rattle.proto_visibility.proofs.KeptAmongLemmas.{left_among_all}
use Rattle.proto_visibility.proofs.KeptAmongLemmas.{one_origin, origin, origin_kept, original, place}
use Rattle.proto_visibility.proofs.KeptAmongLemmas.{present_kept}
use Rattle.proto_visibility.proofs.PartLemmas as part
use Rattle.proto_visibility.proofs.SeeingLemmas.{slice_get_prefix}
use Rattle.proto_link.specs.declared.target.Target.{Target}
use Rattle.proto_link.specs.Targets.{IsTarget}
use Rattle.proto_link.specs.Parts.{target_at}
use Rattle.proto_link.proofs.PartLemmas.{target_back, target_to}
use Rattle.scip_build.specs.Keeping.{kept_numbers}
use Rattle.scip_build.specs.Linking.{linked_files}
use Rattle.scip_build.specs.KeptUses.{target_among_all, IsTargetOfKept, NamesTheSame, ResolveAlike}
use Rattle.scip_build.specs.KeptUses.{KeptResolvesAlike}
use Rattle.scip_build.proofs.KeptTreeLemmas.{kept_count, linked_is}

-- ---- where each file is linked

kept_place : {X : Type 0} (omissions : Omissions) (xs : List X) (n : ℕ) (x : X) → slice_get omissions n ≡ Some None
    → slice_get xs n ≡ Some x
    → (k : ℕ) × (slice_get (kept_of omissions xs) k ≡ Some x) × (number_among_all omissions k ≡ n)
kept_place [] xs n x out at = absurd (cc)
kept_place (omission ∷ omissions) [] n x out at = absurd (none-some x at)
kept_place (None ∷ omissions) (y ∷ ys) zero x out at = (zero, at, refl)
kept_place (Some fault ∷ omissions) (y ∷ ys) zero x out at = absurd (cc)
kept_place (None ∷ omissions) (y ∷ ys) (suc n) x out at =
    let there = kept_place omissions ys n x out at in (suc there.0, there.1, ap suc there.2)
kept_place (Some fault ∷ omissions) (y ∷ ys) (suc n) x out at =
    let there = kept_place omissions ys n x out at in (there.0, there.1, ap suc there.2)

left_place : {X : Type 0} (omissions : Omissions) (xs : List X) (n : ℕ) (x : X) (fault : FileOmission)
    → slice_get omissions n ≡ Some (Some fault) → slice_get xs n ≡ Some x
    → (k : ℕ) × (slice_get (left_of omissions xs) k ≡ Some x) × (left_among_all omissions k ≡ n)
left_place [] xs n x fault out at = absurd (cc)
left_place (omission ∷ omissions) [] n x fault out at = absurd (none-some x at)
left_place (None ∷ omissions) (y ∷ ys) zero x fault out at = absurd (cc)
left_place (Some other ∷ omissions) (y ∷ ys) zero x fault out at = (zero, at, refl)
left_place (None ∷ omissions) (y ∷ ys) (suc n) x fault out at =
    let there = left_place omissions ys n x fault out at in (there.0, there.1, ap suc there.2)
left_place (Some other ∷ omissions) (y ∷ ys) (suc n) x fault out at =
    let there = left_place omissions ys n x fault out at in (suc there.0, there.1, ap suc there.2)

-- ---- the files as they are linked, and all files

module _ (files : List File) (omissions : Omissions) (size : length omissions ≡ length files) where
  abbrev linked : List File
  linked = linked_of omissions files

  abbrev to : ℕ → ℕ
  to = origin files omissions

  abbrev kept : List File
  kept = kept_of omissions files

  abbrev left : List File
  left = map as_left_out (left_of omissions files)

  -- a file of all, linked
  pub record IsLinkedAs (n : ℕ) : Type 0 where
    pub place_there : ℕ
    pub within : place_there < length linked
    pub same : to place_there ≡ n

  back : (n : ℕ) (file : File) → slice_get files n ≡ Some file → IsLinkedAs n
  back n file at =
      let inside : n < length omissions =
      (let within = slice_get_within files n file at in omega (arith, size, within)) in
      let out = item_at omissions n inside in
      by out.0 out.1
    where
      sizes : length linked ≡ length kept + length (left_of omissions files)
      sizes = length-append kept left ∙ ap (λ m. length kept + m) (length-map (left_of omissions files) as_left_out)

      by : (o : Option FileOmission) → slice_get omissions n ≡ Some o → IsLinkedAs n
      by None out =
          let its = kept_place omissions files n file out at in
          let inside = slice_get_within kept its.0 file its.1 in
          record {
            place_there = its.0;
            within = omega (arith, sizes, inside);
            same = origin_kept files omissions its.0 file its.1 ∙ its.2;
          }
      by (Some fault) out =
          let its = left_place omissions files n file fault out at in
          let inside = slice_get_within (left_of omissions files) its.0 file its.1 in
          record {
            place_there = length kept + its.0;
            within = omega (arith, sizes, inside);
            same = later its.0 (cases_lt (length kept + its.0) (length kept)) ∙ its.2;
          }
        where
          later : (j : ℕ) (c : (length kept + j < length kept) ⊎ (length kept ≤ length kept + j))
              → place files omissions (length kept + j) c ≡ left_among_all omissions j
          later j (inl front) = absurd (omega (arith, front))
          later j (inr behind) = ap (left_among_all omissions) (omega arith)

  pub one_place : (i j : ℕ) → i < length linked → j < length linked → to i ≡ to j → i ≡ j
  one_place i j i_in j_in same =
      one_origin files omissions i j (cases_lt i (length kept)) (cases_lt j (length kept)) i_in j_in same

  -- ---- they are a part of all, which has what each file sees

  same_alike : (a b : Option Facts) → b ≡ a → AreAlike a b
  same_alike None None same = tt
  same_alike None (Some g) same = absurd (none-some g (sym same))
  same_alike (Some f) None same = absurd (none-some f same)
  same_alike (Some f) (Some g) same =
      let one : g ≡ f = same_Some g f same in one ∙ ap (λ (h : Facts). renumbered h.number f) (sym one)

  pub there_is : (k : ℕ) (file : File) → slice_get linked k ≡ Some file → part.Shares files (to k) file
  there_is k file at =
      let its = original files omissions k file at in
      record {
        other = its.original;
        numbered = its.numbered;
        path = sym its.path;
        facts = same_alike file.facts its.original.facts its.facts;
      }

  led_file : {m n : ℕ} → LeadsTo (Imports files) m n → (file : File) × (slice_get files m ≡ Some file)
      → (file : File) × (slice_get files n ≡ Some file)
  led_file at_once first = first
  led_file (through step rest) first = led_file rest (step.file, step.numbered)

  seen_file : {m n : ℕ} → Sees files m n → (file : File) × (slice_get files m ≡ Some file)
      → (file : File) × (slice_get files n ≡ Some file)
  seen_file itself first = first
  seen_file (import step rest) first = led_file rest (step.file, step.numbered)

  pub all_there : (k : ℕ) → k < length linked → HasAllSeen linked files to k
  all_there k within seen sees =
      let own = item_at linked k within in
      let its = original files omissions k own.0 own.1 in
      let other = seen_file sees (its.original, its.numbered) in
      let there = back seen other.0 other.1 in
      let file = item_at linked there.place_there there.within in
      record { number = there.place_there; file = file.0; numbered = file.1; same = there.same }

  present_to : (k : ℕ) → IsPresent linked k → IsPresent files (to k) × IsKeptFile omissions (to k)
  present_to k is =
      let at = present_kept files omissions k is.file is.numbered is.present in
      let same = sym (origin_kept files omissions k is.file at) in (
        subst (IsPresent files) same
            (record { file = is.file; numbered = at_all omissions files k is.file at; present = is.present }),
        subst (IsKeptFile omissions) same (is_kept omissions files k is.file at),
      )

  present_back : (k : ℕ) → k < length linked → IsPresent files (to k) → IsKeptFile omissions (to k) → IsPresent linked k
  present_back k within is out =
      let at = kept_place omissions files (to k) is.file out is.numbered in
      let inside = slice_get_within kept at.0 is.file at.1 in
      let numbered : slice_get linked at.0 ≡ Some is.file = slice_get_prefix kept left at.0 inside ∙ at.1 in
      let one : at.0 ≡ k =
      one_place at.0 k (slice_get_within linked at.0 is.file numbered) within
      (origin_kept files omissions at.0 is.file at.1 ∙ at.2) in
      record {
        file = is.file;
        numbered = subst (λ n. slice_get linked n ≡ Some is.file) one numbered;
        present = is.present;
      }

  -- ---- names that files give

  module _ (number : ℕ) (within : number < length linked) where
    pub gives_to : (admits : NameKind → Bool) (name : List ℕ) (seen : ℕ) → SeesGiving linked number admits name seen
        → SeesGiving files (to number) admits name (to seen)
    gives_to = part.gives_to linked files to there_is number within (all_there number within)

    pub record GivesBack (admits : NameKind → Bool) (name : List ℕ) (n : ℕ) : Type 0 where
      pub own : ℕ
      pub inside : own < length linked
      pub same : to own ≡ n
      pub gives : SeesGiving linked number admits name own

    pub gives_back : (admits : NameKind → Bool) (name : List ℕ) (n : ℕ) → SeesGiving files (to number) admits name n
        → GivesBack admits name n
    gives_back admits name n is =
        let its = part.gives_back linked files to there_is number within (all_there number within) admits name n is in
        record {
          own = its.own.number;
          inside = slice_get_within linked its.own.number its.own.file its.own.numbered;
          same = its.own.same;
          gives = its.gives;
        }

-- ---- files that are kept have one number in both orders

same_entity : {owner : ℕ} {facts : Facts} {name : List ℕ} {count : ℕ} (f g : ℕ → ℕ) → f owner ≡ g owner
    → (one : Entity) → IsEntityOf owner facts name count one → entity_at f one ≡ entity_at g one
same_entity f g same _ (packaged_entity prefix) = refl
same_entity f g same _ (declared_entity {index = index} stands full) = ap (λ n. link.Declared n index) same

same_entities : (f g : ℕ → ℕ) (parts : List Entity)
    → ((j : ℕ) (one : Entity) → slice_get parts j ≡ Some one → entity_at f one ≡ entity_at g one)
    → map (entity_at f) parts ≡ map (entity_at g) parts
same_entities f g [] each = refl
same_entities f g (one ∷ parts) each =
    let first = each zero one refl in
    let others = same_entities f g parts (λ j next at. each (suc j) next at) in
    λ i. first i ∷ others i

-- ---- both ways

module _ (files : List File) (omissions : Omissions) (size : length omissions ≡ length files) (number : ℕ)
    (is_kept_one : number < length (kept_numbers 0 omissions)) (type_use : Use) where
  abbrev own_files : List File
  own_files = linked_of omissions files

  abbrev among : ℕ
  among = number_among_all omissions number

  abbrev to_all : ℕ → ℕ
  to_all = origin files omissions

  front : number < length (kept_of omissions files)
  front = omega (arith, is_kept_one, kept_count 0 omissions files size)

  own_place : (file : File) × (slice_get (kept_of omissions files) number ≡ Some file)
  own_place = item_at (kept_of omissions files) number front

  pub inside : number < length own_files
  inside =
      let more = length-append (kept_of omissions files) (map as_left_out (left_of omissions files)) in
      omega (arith, front, more)

  pub there : to_all number ≡ among
  there = origin_kept files omissions number own_place.0 own_place.1

  -- what it names is of a file that is kept
  same_target : (target : Target) → IsTarget own_files number type_use target
      → target_at to_all target ≡ target_among_all omissions target
  same_target target is =
      let p = is.names.owned.present in
      let owner = origin_kept files omissions is.owner p.file
      (present_kept files omissions is.owner p.file p.numbered p.present) in
      let parts = same_entities to_all (number_among_all omissions) target.parts
      (λ j one at. same_entity to_all (number_among_all omissions) owner one (is.named j one at)) in
      λ i. record { name = target.name; parts = parts i }

  pub never_invented : (target : Target) → IsTarget own_files number type_use target
      → IsTargetOfKept files omissions among type_use (target_among_all omissions target)
  never_invented target is =
      let its = target_to own_files files to_all (there_is files omissions size) number inside
      (all_there files omissions size number inside) (IsKeptFile omissions) (present_to files omissions size)
      (present_back files omissions size) (one_place files omissions size) type_use target is in
      subst (λ n. IsTargetOfKept files omissions n type_use (target_among_all omissions target)) there
      (subst (IsTargetOfKept files omissions (to_all number) type_use) (same_target target is) its)

  never_lost : (target : Target) → IsTargetOfKept files omissions among type_use target
      → NamesTheSame own_files omissions number type_use target
  never_lost target is =
      let moved = subst (λ n. IsTargetOfKept files omissions n type_use target) (sym there) is in
      let its = target_back own_files files to_all (there_is files omissions size) number inside
      (all_there files omissions size number inside) (IsKeptFile omissions) (present_to files omissions size)
      (present_back files omissions size) (one_place files omissions size) type_use target moved.0 moved.1 in
      record {
        own = its.own;
        is_target = its.is_target;
        same = sym (same_target its.own its.is_target) ∙ its.same;
      }

pub kept_resolves_alike : KeptResolvesAlike
kept_resolves_alike duplicates asks all parsed told kept number type_use is_kept_one =
    let files : List File = linked_files all in
    let same : linked_files parsed ≡ linked_of kept.omissions files =
    ap linked_files kept.kept ∙ linked_is kept.omissions all in
    let size = kept.left_out.one_each in
    subst (λ (fs : List File). ResolveAlike files fs kept.omissions number type_use) (sym same) (record {
      never_invented = never_invented files kept.omissions size number is_kept_one type_use;
      never_lost = never_lost files kept.omissions size number is_kept_one type_use;
    })
