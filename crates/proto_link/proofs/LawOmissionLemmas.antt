-- What is left out of files is one list.
use Rattle.std.proofs.Common.{◌≡◌, ◌↔◌, ◌⊎◌, inl, inr, ℕ, zero, suc, List, [], ◌∷◌, length, Option, Some, None}
use Rattle.std.proofs.Common.{refl, ap, sym, ◌∙◌, arith}
use Rattle.std.specs.List.{slice_get}
use Rattle.std.proofs.lemmas.Option.{same_Some}
use Rattle.proto_decl.specs.Facts.{Facts, AreOfSomeFile, NamesInOrder, PackageInOrder}
use Rattle.proto_visibility.specs.declared.clash.Duplicates.{Duplicates}
use Rattle.proto_visibility.specs.declared.clash.Duplicates.TheVariants.{Refuse, Keep}
use Rattle.proto_visibility.specs.declared.files.FilePlace.{FilePlace}
use Rattle.proto_visibility.specs.declared.omissions.FileOmission.{FileOmission}
use Rattle.proto_visibility.specs.declared.omissions.FileOmission.TheVariants.{Broken, Duplicate}
use Rattle.proto_visibility.specs.Files.{File, HasFacts, HaveOrigins}
use Rattle.proto_visibility.specs.Clashes.{Item, IsItemBy, ClashBy}
use Rattle.proto_visibility.specs.Clashes.IsItemBy.{declared, packaged}
use Rattle.proto_visibility.specs.Absences.{IsUnreadBy}
use Rattle.proto_visibility.specs.Kept.{Omissions, IsKeptFile, IsCounted, IsTakenBefore, Precedes, IsMet, IsOmission}
use Rattle.proto_visibility.specs.Kept.{AreOmissions}
use Rattle.proto_visibility.proofs.ClashLemmas.{clash_by}
use Rattle.proto_visibility.proofs.KeptLemmas.{counted_alike, one_kept, met}
use Rattle.proto_visibility.proofs.KeptOrderLemmas.{taken_ordered}
use Rattle.proto_link.proofs.TargetOneLemmas.{one_clash_of}

one_list : {X : Type 0} (xs ys : List X) → length xs ≡ length ys
    → ((k : ℕ) (x y : X) → slice_get xs k ≡ Some x → slice_get ys k ≡ Some y → x ≡ y) → xs ≡ ys
one_list [] [] size each = refl
one_list [] (y ∷ ys) size each = absurd (omega (arith, size))
one_list (x ∷ xs) [] size each = absurd (omega (arith, size))
one_list (x ∷ xs) (y ∷ ys) size each =
    ap (λ z. z ∷ xs) (each zero x y refl refl)
    ∙ ap (λ zs. y ∷ zs) (one_list xs ys (omega (arith, size)) (λ k a b e f. each (suc k) a b e f))

-- a file without facts has no items
no_item : (files : List File) (C D : ℕ → Type 0) (number : ℕ) (item : Item) → IsUnreadBy files C number
    → IsItemBy files D item → item.place.file ≡ number → ⊥
no_item files C D number item unread is same = by (facts_of item is)
  where
    facts_of : (x : Item) → IsItemBy files D x → (facts : Facts) × HasFacts files x.place.file facts
    facts_of _ (declared {facts = facts} counts has listed) = (facts, has)
    facts_of _ (packaged {facts = facts} index counts has stands) = (facts, has)

    by : (its : (facts : Facts) × HasFacts files item.place.file facts) → ⊥
    by its =
        let file : its.1.file ≡ unread.file =
        same_Some its.1.file unread.file (sym its.1.numbered ∙ (ap (slice_get files) same ∙ unread.numbered)) in
        let wrong : Some its.0 ≡ None = sym its.1.known ∙ (ap (λ (f : File). f.facts) file ∙ unread.unread) in
        absurd (cc)

module _ (files : List File) (origins : HaveOrigins files)
    (names : (facts : Facts) → AreOfSomeFile facts → NamesInOrder facts.declarations)
    (packages : (facts : Facts) → AreOfSomeFile facts → PackageInOrder facts) where
  -- a clash is of the file itself: those before it that are kept have none
  unread_or_clash : (duplicates : Duplicates) (C : ℕ → Type 0) (omissions : Omissions)
      → AreOmissions duplicates files omissions → (number : ℕ) (first second : FilePlace) → IsUnreadBy files C number
      → ClashBy (Precedes files) (IsMet duplicates files omissions number) first second → ⊥
  unread_or_clash Keep C omissions are number first second unread clash = elim clash.exclude.second_is.meets [
    | inl own ↦ no_item files C (IsCounted files omissions) number clash.later unread
        clash.exclude.second_is.is_item own
    | inr before ↦ absurd before.0
  ]
  unread_or_clash Refuse C omissions are number first second unread clash = elim clash.exclude.second_is.meets [
    | inl own ↦ no_item files C (IsCounted files omissions) number clash.later unread
        clash.exclude.second_is.is_item own
    | inr before ↦ (
        let fine = are.each clash.later.place.file None before.1 in
        fine.1 clash.earlier clash.later (record {
          first_is = record { is_item = clash.exclude.first_is.is_item; meets = meets clash.exclude.first_is.meets };
          second_is = record { is_item = clash.exclude.second_is.is_item; meets = inl refl };
          ordered = clash.exclude.ordered;
          one_name = clash.exclude.one_name;
          declares = clash.exclude.declares;
        }))
  ]
    where
      Meets : (file : ℕ) → Type 0
      Meets file =
          (clash.earlier.place.file ≡ file)
          ⊎ (IsTakenBefore files clash.earlier.place.file file × IsKeptFile omissions clash.earlier.place.file)

      meets : Meets number → Meets clash.later.place.file
      meets (inl own) = absurd (no_item files C (IsCounted files omissions) number clash.earlier unread
          clash.exclude.first_is.is_item own)
      meets (inr its) = by clash.exclude.ordered
        where
          by : Precedes files clash.earlier.place clash.later.place → Meets clash.later.place.file
          by (inl taken) = inr (taken, its.1)
          by (inr same) = inl same.0

  one_omission : (duplicates : Duplicates) (a b : Omissions) → AreOmissions duplicates files a
      → AreOmissions duplicates files b → (number : ℕ) (o p : Option FileOmission)
      → slice_get a number ≡ Some o → slice_get b number ≡ Some p
      → IsOmission duplicates files a number o → IsOmission duplicates files b number p → o ≡ p
  one_omission duplicates a b are too number None p at there x y =
      sym (same_Some p None (sym there ∙ (one_kept duplicates files a b are too number).0 at))
  one_omission duplicates a b are too number (Some Broken) None at there x y =
      same_Some (Some Broken) None (sym at ∙ (one_kept duplicates files a b are too number).1 there)
  one_omission duplicates a b are too number (Some Broken) (Some Broken) at there x y = refl
  one_omission duplicates a b are too number (Some Broken) (Some (Duplicate first second)) at there x y =
      absurd (unread_or_clash duplicates (IsCounted files a) b too number first second x y)
  one_omission duplicates a b are too number (Some (Duplicate first second)) None at there x y =
      same_Some (Some (Duplicate first second)) None (sym at ∙ (one_kept duplicates files a b are too number).1 there)
  one_omission duplicates a b are too number (Some (Duplicate first second)) (Some Broken) at there x y =
      absurd (unread_or_clash duplicates (IsCounted files b) a are number first second y x)
  one_omission duplicates a b are too number (Some (Duplicate first second)) (Some (Duplicate other its)) at there x y =
      let same : (item : Item) → IsMet duplicates files a number item ↔ IsMet duplicates files b number item =
      λ item. (
        met duplicates files a b number (λ m taken. (one_kept duplicates files a b are too m).0)
            (λ m near. counted_alike duplicates files a b are too m) item,
        met duplicates files b a number (λ m taken. (one_kept duplicates files b a too are m).0)
            (λ m near. counted_alike duplicates files b a too are m) item,
      ) in
      let one = one_clash_of files origins names packages (IsTakenBefore files) (IsCounted files b)
      (IsMet duplicates files b number) (taken_ordered files)
      (λ item is. is.is_item) first second other its (clash_by same first second x) y in
      ap (λ place. Some (Duplicate place second)) one.0 ∙ ap (λ place. Some (Duplicate other place)) one.1

  pub one_omission_list : (duplicates : Duplicates) (a b : Omissions) → AreOmissions duplicates files a
      → AreOmissions duplicates files b → a ≡ b
  one_omission_list duplicates a b are too =
      one_list a b (are.one_each ∙ sym too.one_each)
      (λ k x y at there. one_omission duplicates a b are too k x y at there (are.each k x at) (too.each k y there))
