-- The laws of what is kept.
use Rattle.std.proofs.Common.{◌≡◌, ◌↔◌, ◌⊎◌, inl, inr, ℕ, ◌<◌, Bool, true, false, ◌||◌, zero, suc, length, get_or, List}
use Rattle.std.proofs.Common.{Option, Some, None, refl, ap, sym, ◌∙◌, subst, arith}
use Rattle.std.specs.List.{slice_get}
use Rattle.std.proofs.lemmas.Bool.{cases_lt}
use Rattle.std.proofs.lemmas.Option.{slice_get_within, slice_get-get_or}
use Rattle.proto_visibility.specs.declared.files.FilePlace.{FilePlace}
use Rattle.proto_visibility.specs.declared.clash.Duplicates.{Duplicates}
use Rattle.proto_visibility.specs.declared.clash.Duplicates.TheVariants.{Refuse, Keep}
use Rattle.proto_visibility.specs.declared.omissions.FileOmission.{FileOmission}
use Rattle.proto_visibility.specs.declared.omissions.FileOmission.TheVariants.{Broken, Duplicate}
use Rattle.proto_visibility.specs.Files.{File, IsSource}
use Rattle.proto_visibility.specs.Reaches.{IsReachable}
use Rattle.proto_visibility.specs.Sees.SeesBy.{itself}
use Rattle.proto_visibility.specs.Reaches.IsReachable.{reached}
use Rattle.proto_visibility.specs.Reaches.Reaches.{sees}
use Rattle.proto_visibility.specs.Clashes.{Before, Item, IsItem, IsItemBy, Excludes, NoClashBy, ShareNames}
use Rattle.proto_visibility.specs.Absences.{IsUnreadBy}
use Rattle.proto_visibility.specs.Linked.{HaveClearNames}
use Rattle.proto_visibility.specs.Kept.{Omissions, IsKeptFile, IsCounted, IsTakenBefore, Precedes, Meets, IsMet}
use Rattle.proto_visibility.specs.Kept.{IsOmission}
use Rattle.proto_visibility.specs.Kept.{AreOmissions, kept_of, linked_of, number_among_all}
use Rattle.proto_visibility.specs.Kept.{AreAllKept, OneKept, NothingIsLeftOutOfGoodFiles, KeptFilesAreClear}
use Rattle.proto_visibility.specs.Kept.IsCounted.{is_source, is_reached}
use Rattle.proto_visibility.specs.Kept.IsTakenBefore.{of_sources, source_first, of_others}
use Rattle.proto_visibility.proofs.DuplicateLemmas.{none_from, none_to, shared_turned}
use Rattle.proto_visibility.proofs.ItemAllLemmas.{file_within, item_counts}
use Rattle.proto_visibility.proofs.KeptAmongLemmas.{counted_among, item_among, item_kept, moved, one_origin, order_among}
use Rattle.proto_visibility.proofs.KeptAmongLemmas.{origin, original, present_unread}
use Rattle.proto_visibility.proofs.KeptOrderLemmas.{source_or_not, taken_either, taken_apart, before_source}

pub excludes_as : {B : FilePlace → FilePlace → Type 0} {I J : Item → Type 0} (a b : Item) → (I a → J a)
    → (I b → J b) → Excludes B I a b → Excludes B J a b
excludes_as a b f g e = record {
  first_is = f e.first_is;
  second_is = g e.second_is;
  ordered = e.ordered;
  one_name = e.one_name;
  declares = e.declares;
}

or_turn : (x y : Bool) → (x || y) ≡ true → (y || x) ≡ true
or_turn true true e = refl
or_turn true false e = refl
or_turn false true e = refl
or_turn false false e = e

-- ---- one list is kept

-- what is met is taken before
taken_of : (duplicates : Duplicates) (files : List File) (m n : ℕ) → Meets duplicates files m n
    → IsTakenBefore files m n
taken_of Refuse files m n taken = taken
taken_of Keep files m n nothing = absurd nothing

module _ (duplicates : Duplicates) (files : List File) where
  counted_as : (a b : Omissions) (n : ℕ) → ((m : ℕ) → IsSource files m → IsKeptFile a m → IsKeptFile b m)
      → IsCounted files a n → IsCounted files b n
  counted_as a b n same (is_source is) = is_source is
  counted_as a b n same (is_reached {source = source} is kept reaches present) =
      is_reached is (same source is kept) reaches present

  pub met : (a b : Omissions) (n : ℕ) → ((m : ℕ) → IsTakenBefore files m n → IsKeptFile a m → IsKeptFile b m)
      → ((m : ℕ) → (m ≡ n) ⊎ IsTakenBefore files m n → IsCounted files a m → IsCounted files b m)
      → (item : Item) → IsMet duplicates files a n item → IsMet duplicates files b n item
  met a b n earlier counted item is = record {
    is_item = item_counts item (counted item.place.file (elim is.meets [
      | inl own ↦ inl own
      | inr before ↦ inr (taken_of duplicates files item.place.file n before.0)
    ])) is.is_item;
    meets = elim is.meets [
      | inl own ↦ inl own
      | inr before ↦ inr (
        before.0,
        earlier item.place.file (taken_of duplicates files item.place.file n before.0) before.1,
      )
    ];
  }

  module _ (a b : Omissions) (are : AreOmissions duplicates files a) (others : AreOmissions duplicates files b) where
    kept_too : (n : ℕ) → ((m : ℕ) → IsTakenBefore files m n → IsKeptFile b m → IsKeptFile a m)
        → ((m : ℕ) → (m ≡ n) ⊎ IsTakenBefore files m n → IsCounted files b m → IsCounted files a m)
        → IsKeptFile a n → IsKeptFile b n
    kept_too n earlier counted kept =
        let within = slice_get_within a n None kept in
        let at = slice_get-get_or b n None (omega (arith, are.one_each, others.one_each, within)) in
        by (get_or b n None) at (others.each n (get_or b n None) at)
      where
        by : (o : Option FileOmission) → slice_get b n ≡ Some o → IsOmission duplicates files b n o → IsKeptFile b n
        by None at is = at
        by (Some Broken) at is = absurd ((are.each n None kept).0 (record {
          file = is.file;
          counts = counted n (inl refl) is.counts;
          numbered = is.numbered;
          unread = is.unread;
        }))
        by (Some (Duplicate first second)) at is =
            absurd ((are.each n None kept).1 is.earlier is.later
            (excludes_as is.earlier is.later (met b a n earlier counted is.earlier)
            (met b a n earlier counted is.later) is.exclude))

  abbrev AreKeptAlike : Omissions → Omissions → ℕ → Type 0
  AreKeptAlike a b n = IsKeptFile a n ↔ IsKeptFile b n

  turned : (a b : Omissions) (n : ℕ) → AreKeptAlike a b n → AreKeptAlike b a n
  turned a b n alike = (alike.1, alike.0)

  -- a source is kept by what sources before it are
  source_kept_too : (a b : Omissions) → AreOmissions duplicates files a → AreOmissions duplicates files b → (n : ℕ) → IsSource files n
      → ((m : ℕ) → m < n → IsSource files m → AreKeptAlike a b m) → IsKeptFile a n → IsKeptFile b n
  source_kept_too a b are others n is below kept = kept_too a b are others n
      (λ m taken. (let its = before_source files m n taken is in (below m its.1 its.0).1))
      (λ m near counts. is_source (elim near [
        | inl same ↦ subst (IsSource files) (sym same) is
        | inr taken ↦ (before_source files m n taken is).0
      ])) kept

  sources_below : (a b : Omissions) → AreOmissions duplicates files a → AreOmissions duplicates files b → (n m : ℕ) → m < n
      → IsSource files m → AreKeptAlike a b m
  sources_below a b are others zero m h is = absurd (omega arith)
  sources_below a b are others (suc n) m h is = elim (cases_lt m n) [
    | inl before ↦ sources_below a b are others n m before is
    | inr last ↦ (
        let here : m ≡ n = omega (arith, h, last) in
        let below : (k : ℕ) → k < m → IsSource files k → AreKeptAlike a b k =
        λ k less source. sources_below a b are others n k (omega (arith, less, here)) source in (
          source_kept_too a b are others m is below,
          source_kept_too b a others are m is (λ k less source. turned a b k (below k less source)),
        ))
  ]

  sources_alike : (a b : Omissions) → AreOmissions duplicates files a → AreOmissions duplicates files b → (m : ℕ) → IsSource files m
      → AreKeptAlike a b m
  sources_alike a b are others m is = sources_below a b are others (suc m) m (omega arith) is

  -- so the same files count
  pub counted_alike : (a b : Omissions) → AreOmissions duplicates files a → AreOmissions duplicates files b → (n : ℕ)
      → IsCounted files a n → IsCounted files b n
  counted_alike a b are others n counts =
      counted_as a b n (λ m is kept. (sources_alike a b are others m is).0 kept) counts

  -- any other file is kept by what all sources and the others before it are
  other_kept_too : (a b : Omissions) → AreOmissions duplicates files a → AreOmissions duplicates files b → (n : ℕ)
      → (IsSource files n → ⊥) → ((m : ℕ) → m < n → AreKeptAlike a b m) → IsKeptFile a n → IsKeptFile b n
  other_kept_too a b are others n isnt below kept = kept_too a b are others n
      (λ m taken. earlier m taken)
      (λ m near counts. counted_alike b a others are m counts) kept
    where
      earlier : (m : ℕ) → IsTakenBefore files m n → IsKeptFile b m → IsKeptFile a m
      earlier m (of_sources x y less) its = absurd (isnt y)
      earlier m (source_first x y) its = (sources_alike a b are others m x).1 its
      earlier m (of_others x y less) its = (below m less).1 its

  below : (a b : Omissions) → AreOmissions duplicates files a → AreOmissions duplicates files b → (n m : ℕ) → m < n → AreKeptAlike a b m
  below a b are others zero m h = absurd (omega arith)
  below a b are others (suc n) m h = elim (cases_lt m n) [
    | inl before ↦ below a b are others n m before
    | inr last ↦ elim (source_or_not files m) [
      | inl is ↦ sources_alike a b are others m is
      | inr isnt ↦ (
          let here : m ≡ n = omega (arith, h, last) in
          let under : (k : ℕ) → k < m → AreKeptAlike a b k =
          λ k less. below a b are others n k (omega (arith, less, here)) in (
            other_kept_too a b are others m isnt under,
            other_kept_too b a others are m isnt (λ k less. turned a b k (under k less)),
          ))
    ]
  ]

pub one_kept : OneKept
one_kept duplicates files omissions others are too number =
    below duplicates files omissions others are too (suc number) number (omega arith)

-- ---- files that are kept don't clash, whichever of the two is taken first

-- a kept file that is taken before, or the file itself, is met by one whose names it shares
meets_pair : (duplicates : Duplicates) (files : List File) (omissions : Omissions) (x y : Item)
    → IsKeptFile omissions x.place.file → ShareNames duplicates x.place.file y.place.file
    → Precedes files x.place y.place → (x.place.file ≡ y.place.file)
    ⊎ (Meets duplicates files x.place.file y.place.file × IsKeptFile omissions x.place.file)
meets_pair Refuse files omissions x y x_kept can (inl taken) = inr (taken, x_kept)
meets_pair Refuse files omissions x y x_kept can (inr same) = inl same.0
meets_pair Keep files omissions x y x_kept can before = inl can

module _ (duplicates : Duplicates) (files : List File) (omissions : Omissions)
    (are : AreOmissions duplicates files omissions) where
  kept_pair : (x y : Item) → IsItemBy files (IsCounted files omissions) x
      → IsItemBy files (IsCounted files omissions) y → IsKeptFile omissions x.place.file
      → IsKeptFile omissions y.place.file → ShareNames duplicates x.place.file y.place.file → Precedes files x.place y.place → x.full_name ≡ y.full_name
      → (x.is_declaration || y.is_declaration) ≡ true → ⊥
  kept_pair x y x_is y_is x_kept y_kept can before name declares =
      (are.each y.place.file None y_kept).1 x y (record {
        first_is = record { is_item = x_is; meets = meets_pair duplicates files omissions x y x_kept can before };
        second_is = record { is_item = y_is; meets = inl refl };
        ordered = before;
        one_name = name;
        declares = declares;
      })

  pub kept_apart : (x y : Item) → IsItemBy files (IsCounted files omissions) x
      → IsItemBy files (IsCounted files omissions) y → IsKeptFile omissions x.place.file
      → IsKeptFile omissions y.place.file → ShareNames duplicates x.place.file y.place.file
      → Before x.place y.place → x.full_name ≡ y.full_name
      → (x.is_declaration || y.is_declaration) ≡ true → ⊥
  kept_apart x y x_is y_is x_kept y_kept can (inl less) name declares =
      elim (taken_either files x.place.file y.place.file less) [
        | inl taken ↦ kept_pair x y x_is y_is x_kept y_kept can (inl taken) name declares
        | inr back ↦ kept_pair y x y_is x_is y_kept x_kept
            (shared_turned duplicates x.place.file y.place.file can) (inl back) (sym name)
            (or_turn x.is_declaration y.is_declaration declares)
      ]
  kept_apart x y x_is y_is x_kept y_kept can (inr same) name declares =
      kept_pair x y x_is y_is x_kept y_kept can (inr same) name declares

-- ---- nothing is left out of good files

pub file_of : (files : List File) (item : Item) → IsItem files item → item.place.file < length files
file_of files item is = file_within item is

reachable_of : (files : List File) (omissions : Omissions) (number : ℕ) → IsCounted files omissions number
    → IsReachable files number
reachable_of files omissions number (is_source is) =
    reached is (sees itself) (record { file = is.file; numbered = is.numbered; present = is.present })
reachable_of files omissions number (is_reached is kept reaches present) = reached is reaches present

-- of good files none that counts is without facts
pub clear_read : (duplicates : Duplicates) (files : List File) (omissions : Omissions)
    → HaveClearNames duplicates files → (number : ℕ)
    → IsUnreadBy files (IsCounted files omissions) number → ⊥
clear_read duplicates files omissions good number is = good.read number (record {
  file = is.file;
  counts = reachable_of files omissions number is.counts;
  numbered = is.numbered;
  unread = is.unread;
})

-- what one file meets are items of files that share names
met_share : (duplicates : Duplicates) (files : List File) (omissions : Omissions) (number : ℕ) (a b : Item)
    → IsMet duplicates files omissions number a → IsMet duplicates files omissions number b
    → ShareNames duplicates a.place.file b.place.file
met_share Refuse files omissions number a b a_is b_is = tt
met_share Keep files omissions number a b a_is b_is = own a a_is ∙ sym (own b b_is)
  where
    own : (item : Item) → IsMet Keep files omissions number item → item.place.file ≡ number
    own item is = elim is.meets [ inl same ↦ same | inr before ↦ absurd before.0 ]

-- and no names clash, whichever file is taken first
pub clear_pairs : (duplicates : Duplicates) (files : List File) (omissions : Omissions)
    → HaveClearNames duplicates files → (number : ℕ)
    → NoClashBy (Precedes files) (IsMet duplicates files omissions number)
clear_pairs duplicates files omissions good number a b e = by e.ordered
  where
    reached : (item : Item) → IsMet duplicates files omissions number item → IsItem files item
    reached item is = item_counts item (reachable_of files omissions item.place.file) is.is_item

    can : ShareNames duplicates a.place.file b.place.file
    can = met_share duplicates files omissions number a b e.first_is e.second_is

    in_order : Before a.place b.place → ⊥
    in_order before = none_to duplicates files good.clear a b can (record {
      first_is = reached a e.first_is;
      second_is = reached b e.second_is;
      ordered = before;
      one_name = e.one_name;
      declares = e.declares;
    })

    turned_round : Before b.place a.place → ⊥
    turned_round before =
        none_to duplicates files good.clear b a (shared_turned duplicates a.place.file b.place.file can) (record {
          first_is = reached b e.second_is;
          second_is = reached a e.first_is;
          ordered = before;
          one_name = sym e.one_name;
          declares = or_turn a.is_declaration b.is_declaration e.declares;
        })

    by : Precedes files a.place b.place → ⊥
    by (inl taken) = elim (taken_apart files a.place.file b.place.file taken)
        [ inl less ↦ in_order (inl less) | inr more ↦ turned_round (inl more) ]
    by (inr same) = in_order (inr same)

pub nothing_is_left_out : NothingIsLeftOutOfGoodFiles
nothing_is_left_out duplicates files omissions are = (
  λ all. record {
    read = λ number unread. (are.each number None
        (kept all number (slice_get_within files number unread.file unread.numbered))).0 (record {
          file = unread.file;
          counts = counted all number unread.counts;
          numbered = unread.numbered;
          unread = unread.unread;
        });
    clear = none_from duplicates files (λ a b can e. kept_apart duplicates files omissions are a b
        (item_counts a (counted all a.place.file) e.first_is) (item_counts b (counted all b.place.file) e.second_is)
        (kept all a.place.file (file_of files a e.first_is)) (kept all b.place.file (file_of files b e.second_is))
        can e.ordered e.one_name e.declares);
  },
  λ good k d h.
      let at = slice_get-get_or omissions k d h in
      by good k (get_or omissions k d) (are.each k (get_or omissions k d) at),
)
  where
    kept : AreAllKept omissions → (number : ℕ) → number < length files → IsKeptFile omissions number
    kept all number h =
        let within : number < length omissions = omega (arith, are.one_each) in
        slice_get-get_or omissions number None within ∙ ap Some (all number None within)

    counted : AreAllKept omissions → (number : ℕ) → IsReachable files number → IsCounted files omissions number
    counted all number (reached {source = source} is reaches present) =
        is_reached is (kept all source (slice_get_within files source is.file is.numbered)) reaches present

    by : HaveClearNames duplicates files → (k : ℕ) (o : Option FileOmission)
        → IsOmission duplicates files omissions k o → o ≡ None
    by good k None is = refl
    by good k (Some Broken) is = absurd (clear_read duplicates files omissions good k is)
    by good k (Some (Duplicate first second)) is =
        absurd (clear_pairs duplicates files omissions good k is.earlier is.later is.exclude)

-- ---- what is linked is clear

shared_among : (duplicates : Duplicates) (omissions : Omissions) (m n : ℕ) → ShareNames duplicates m n
    → ShareNames duplicates (number_among_all omissions m) (number_among_all omissions n)
shared_among Refuse omissions m n can = tt
shared_among Keep omissions m n can = ap (number_among_all omissions) can

pub kept_are_clear : KeptFilesAreClear
kept_are_clear duplicates files omissions are own = (
  λ i j a b at there same.
      let first = original files omissions i a at in
      let second = original files omissions j b there in
      let one = own (origin files omissions i) (origin files omissions j) first.original second.original first.numbered
      second.numbered (first.path ∙ (same ∙ sym second.path)) in
      one_origin files omissions i j (cases_lt i (length (kept_of omissions files)))
      (cases_lt j (length (kept_of omissions files))) (slice_get_within (linked_of omissions files) i a at)
      (slice_get_within (linked_of omissions files) j b there) one,
  record {
    read = λ number unread.
        let n = number_among_all omissions number in
        let counts = counted_among files omissions are.one_each number unread.counts in
        let known = present_unread files omissions number unread.counts unread.file unread.numbered in
        (are.each n None counts.1).0 (record {
          file = unread.file;
          counts = counts.0;
          numbered = known;
          unread = unread.unread;
        });
    clear = none_from duplicates (linked_of omissions files) (λ a b can e.
        kept_apart duplicates files omissions are (moved files omissions a) (moved files omissions b)
        (item_among files omissions are.one_each a e.first_is) (item_among files omissions are.one_each b e.second_is)
        (item_kept files omissions are.one_each a e.first_is) (item_kept files omissions are.one_each b e.second_is)
        (shared_among duplicates omissions a.place.file b.place.file can)
        (order_among files omissions a b e.ordered) e.one_name e.declares);
  },
)
