-- What sources reach, by one search from those whose options are linked, and then from all.
use Rattle.std.proofs.Common.{◌≡◌, ◌↔◌, ◌⊎◌, inl, inr, ℕ, ◌<◌, Bool, true, false, not, ◌&&◌, List, [], ◌∷◌, ◌++◌, length, get_or, take, All, ◌+◌}
use Rattle.std.proofs.Common.{Some}
use Rattle.std.proofs.Common.{refl, ap, sym, ◌∙◌, subst, arith}
use Rattle.std.specs.List.{Contains, filter, slice_get}
use Rattle.std.proofs.lemmas.Bool.{and_parts}
use Rattle.std.proofs.lemmas.List.Elements.{Contains-append_left, Contains-append_right, Contains-append_cases}
use Rattle.std.proofs.lemmas.List.Elements.{Contains-get_or, Contains-push, Contains-push_cases, All-append, All-contains}
use Rattle.basics.proofs.FirstLemmas.{take_next}
use Rattle.proto_visibility.specs.Tables.Visits.{visit}
use Rattle.std.proofs.lemmas.Option.{slice_get_within, slice_get-get_or, same_Some}
use Rattle.proto_visibility.specs.declared.import_table.Steps.{Steps}
use Rattle.proto_visibility.specs.declared.options.OptionsIn.{OptionsIn}
use Rattle.proto_visibility.specs.declared.options.OptionsIn.TheVariants.{Nowhere, At, Several}
use Rattle.proto_visibility.specs.Files.{File, HasPathAt, HaveOwnPaths, Imports, IsSource}
use Rattle.proto_visibility.specs.Sees.{LeadsTo, Sees}
use Rattle.proto_visibility.specs.Sees.LeadsTo.{at_once, through}
use Rattle.proto_visibility.specs.Sees.SeesBy.{itself, import}
use Rattle.proto_visibility.specs.Reaches.{ImportsLeadTo, IsDescriptor, HasOptionsIn, IsReachable}
use Rattle.proto_visibility.specs.Reaches.{LinksOptions, Reaches, descriptor_path}
use Rattle.proto_visibility.specs.Reaches.ImportsLeadTo.{at_once as stays, through as goes_on}
use Rattle.proto_visibility.specs.Reaches.HasOptionsIn.{imported, built_in}
use Rattle.proto_visibility.specs.Reaches.Reaches.{sees, imports, built_in as by_options}
use Rattle.proto_visibility.specs.Reaches.IsReachable.{reached}
use Rattle.proto_visibility.specs.Tables.ImportTables.{HasStep, IsTableOf, AreWithin, IsLedTo}
use Rattle.proto_visibility.specs.Tables.ImportTables.{is_present_at}
use Rattle.proto_visibility.specs.Tables.OptionTables.{AreOptionsIn, ByEach, IsBegunIn, IsLinkingSource}
use Rattle.proto_visibility.proofs.SeeingLemmas.{sees_by, sees_begun, begun_of, visit_finds, visit_all_of, visits_keep}
use Rattle.proto_visibility.proofs.SeeingLemmas.{steps_listed, numbers_within}
use Rattle.proto_visibility.proofs.SeeingReachableLemmas.{HasBegun, filtered, present_at, at_present}
use Rattle.proto_visibility.proofs.SeeingReachableLemmas.{source_from, no_source_from}

-- ---- what imports of every kind lead to

pub imports_on : {files : List File} {a b c : ℕ} → ImportsLeadTo files a b → ImportsLeadTo files b c
    → ImportsLeadTo files a c
imports_on stays rest = rest
imports_on (goes_on step more) rest = goes_on step (imports_on more rest)

leads_imported : {files : List File} {a b : ℕ} → LeadsTo (Imports files) a b → ImportsLeadTo files a b
leads_imported at_once = stays
leads_imported (through step rest) = goes_on step (leads_imported rest)

-- so what is seen is among it
pub sees_imported : {files : List File} {a b : ℕ} → Sees files a b → ImportsLeadTo files a b
sees_imported itself = stays
sees_imported (import step rest) = goes_on step (leads_imported rest)

pub options_inside : {files : List File} {source number : ℕ} → HasOptionsIn files source number
    → number < length files
options_inside {files} {source} {number} (imported lead is) =
    slice_get_within files number is.known.file is.known.numbered
options_inside {files} {source} {number} (built_in none path) = slice_get_within files number path.0 path.1

module _ (files : List File) (table : List Steps) (are : IsTableOf files table) where
  -- by the steps of a table
  pub each_imported : {a b : ℕ} → LeadsTo (ByEach (HasStep table)) a b → ImportsLeadTo files a b
  each_imported at_once = stays
  each_imported (through {file = a} {next = b} step rest) =
      goes_on ((are.steps a b step.0).0 step.1) (each_imported rest)

  pub imported_each : {a b : ℕ} → ImportsLeadTo files a b → LeadsTo (ByEach (HasStep table)) a b
  imported_each stays = at_once
  imported_each (goes_on {file = a} {next = b} {publicly = publicly} step rest) =
      through (publicly, (are.steps a b publicly).1 step) (imported_each rest)

  pub public_imported : {a b : ℕ} → LeadsTo (HasStep table) a b → ImportsLeadTo files a b
  public_imported at_once = stays
  public_imported (through {file = a} {next = b} step rest) =
      goes_on ((are.steps a b true).0 step) (public_imported rest)

-- ---- all that is reached

-- what is found from sources whose options are linked
abbrev pub ReachesFrom : List OptionsIn → (linking : List ℕ) → List Steps → (found : List ℕ) → Type 0
ReachesFrom options linking table found = (number : ℕ) → Contains found number
    ↔ ((start : ℕ) × IsBegunIn options linking start × LeadsTo (ByEach (HasStep table)) start number)

pub begun_inside : (Begins : ℕ → Type 0) (files : List File) (table : List Steps) (options : List OptionsIn)
    → ((number : ℕ) → Begins number → number < length files) → IsTableOf files table → AreOptionsIn files options
    → (linking : List ℕ) → ((number : ℕ) → Contains linking number ↔ (Begins number × LinksOptions files number))
    → (number : ℕ) → IsBegunIn options linking number → number < length table
begun_inside Begins files table options within are known linking links number begun =
    subst (λ n. number < n) (sym are.one_each) (by begun)
  where
    by : IsBegunIn options linking number → number < length files
    by (source, there, inl same) =
        subst (λ n. n < length files) (sym same) (within source ((links source).0 there).0)
    by (source, there, inr at) = options_inside (known.each source (At number) at).0

module _ (Begins : ℕ → Type 0) (files : List File) (table : List Steps) (options : List OptionsIn)
    (within : (number : ℕ) → Begins number → number < length files) (own : HaveOwnPaths files)
    (are : IsTableOf files table) (known : AreOptionsIn files options) (linking found starts numbers : List ℕ)
    (links : (number : ℕ) → Contains linking number ↔ (Begins number × LinksOptions files number))
    (reach : ReachesFrom options linking table found)
    (begun : HasBegun Begins table (length files) found starts)
    (led : (other : ℕ) → Contains numbers other ↔ IsLedTo (HasStep table) starts other) where
  abbrev IsReachedFrom : ℕ → Type 0
  IsReachedFrom number = (source : ℕ) × Begins source × Reaches files source number

  from_linking : (start number : ℕ) → IsBegunIn options linking start → ImportsLeadTo files start number
      → IsReachedFrom number
  from_linking start number (source, there, inl same) lead =
      let its = (links source).0 there in
      (source, its.0, imports its.1 (subst (λ n. ImportsLeadTo files n number) same lead))
  from_linking start number (source, there, inr at) lead =
      let its = (links source).0 there in
      (source, its.0, by_options its.1 (known.each source (At start) at).0 lead)

  pub found_reached : (number : ℕ) → Contains numbers number → IsReachedFrom number
  found_reached number there =
      let way = (led number).0 there in
      elim ((begun way.0).0 way.1) [
        | inl before ↦ (
            let from = (reach way.0).0 before in
            from_linking from.0 number from.1
            (imports_on (each_imported files table are from.2) (public_imported files table are way.2)))
        | inr here ↦ (
          here.0,
          here.2,
          sees (sees_by (λ a b publicly. (are.steps a b publicly).0)
              (sees_begun table here.0 way.0 number here.3 way.2)),
        )
      ]

  into : (start number : ℕ) → IsBegunIn options linking start → ImportsLeadTo files start number
      → Contains numbers number
  into start number is lead =
      (led number).1 (
        number,
        (begun number).1 (inl ((reach number).1 (start, is, imported_each files table are lead))),
        at_once,
      )

  by_path : (source first : ℕ)
      → ((other : ℕ) → ImportsLeadTo files source other → IsDescriptor files other → ⊥)
      → HasOptionsIn files source first → HasPathAt files descriptor_path first
  by_path source first none (imported lead is) = absurd (none first lead is)
  by_path source first none (built_in _ path) = path

  one_path : (path : List ℕ) (a b : ℕ) → HasPathAt files path a → HasPathAt files path b → a ≡ b
  one_path path a b one other = own a b one.0 other.0 one.1 other.1 (one.2 ∙ sym other.2)

  -- the file that protoc comes with is the answer where it is the one
  begun_by : (source first : ℕ) → Contains linking source
      → ((other : ℕ) → ImportsLeadTo files source other → IsDescriptor files other → ⊥)
      → HasPathAt files descriptor_path first → (answer : OptionsIn) → slice_get options source ≡ Some answer
      → IsBegunIn options linking first
  begun_by source first there none path Nowhere at =
      absurd (known.each source Nowhere at first (built_in none path))
  begun_by source first there none path (At number) at =
      let same : first ≡ number = (known.each source (At number) at).1 first (built_in none path) in
      (source, there, inr (at ∙ ap (λ n. Some (At n)) (sym same)))
  begun_by source first there none path Several at =
      let two = known.each source Several at in
      absurd (two.4 (one_path descriptor_path two.0 two.1 (by_path source two.0 none two.2)
      (by_path source two.1 none two.3)))

  by_answer : (source first number : ℕ) → Contains linking source → LinksOptions files source
      → HasOptionsIn files source first → ImportsLeadTo files first number → Contains numbers number
  by_answer source first number there linked (imported lead is) onward =
      into source number (source, there, inl refl) (imports_on lead onward)
  by_answer source first number there linked (built_in none path) onward =
      into first number (begun_by source first there none path (get_or options source Nowhere)
      (slice_get-get_or options source Nowhere (known.all source linked))) onward

  pub reached_found : (source number : ℕ) → Begins source → Reaches files source number → Contains numbers number
  reached_found source number begins (sees way) =
      let its = begun_of table source number (sees_by (λ a b publicly. (are.steps a b publicly).1) way) in
      (led number).1 (its.0, (begun its.0).1 (inr (source, within source begins, begins, its.1)), its.2)
  reached_found source number begins (imports linked lead) =
      into source number (source, (links source).1 (begins, linked), inl refl) lead
  reached_found source number begins (by_options {first = first} linked has lead) =
      by_answer source first number ((links source).1 (begins, linked)) linked has lead

  pub all_reached : (number : ℕ) → Contains numbers number ↔ IsReachedFrom number
  all_reached number = (found_reached number, λ is. reached_found is.0 number is.1 is.2)

-- ---- sources whose options are linked

pub linking_from : (files : List File) (number : ℕ) (file : File) → slice_get files number ≡ Some file
    → (file.links_options && (not file.is_included && not file.is_left_out)) ≡ true → IsLinkingSource files number
linking_from files number file stands flags =
    let parts = and_parts file.links_options (not file.is_included && not file.is_left_out) flags in (
      source_from files number file stands parts.1,
      record { file = file; numbered = stands; links = parts.0 },
    )

pub no_linking_from : (files : List File) (number : ℕ) (file : File) → slice_get files number ≡ Some file
    → (file.links_options && (not file.is_included && not file.is_left_out)) ≡ false → IsLinkingSource files number → ⊥
no_linking_from files number file stands flags is =
    let same : is.1.file ≡ file = same_Some is.1.file file (sym is.1.numbered ∙ stands) in
    let links : file.links_options ≡ true = ap (λ (f : File). f.links_options) (sym same) ∙ is.1.links in
    no_source_from files number file stands
    (sym (ap (λ b. b && (not file.is_included && not file.is_left_out)) links) ∙ flags) is.0

-- one more of these sources
pub linking_more : (options : List OptionsIn) (sources : List ℕ) (source : ℕ) (number : ℕ)
    → IsBegunIn options (sources ++ source ∷ []) number
    ↔ ((IsBegunIn options sources number ⊎ (number ≡ source)) ⊎ (slice_get options source ≡ Some (At number)))
linking_more options sources source number = (there, back)
  where
    there : IsBegunIn options (sources ++ source ∷ []) number
        → (IsBegunIn options sources number ⊎ (number ≡ source)) ⊎ (slice_get options source ≡ Some (At number))
    there (from, listed, is) = elim (Contains-push_cases sources source from listed) [
      | inl before ↦ inl (inl (from, before, is))
      | inr last ↦ elim is [
        | inl same ↦ inl (inr (same ∙ sym last))
        | inr at ↦ inr (ap (slice_get options) last ∙ at)
      ]
    ]

    back : ((IsBegunIn options sources number ⊎ (number ≡ source)) ⊎ (slice_get options source ≡ Some (At number)))
        → IsBegunIn options (sources ++ source ∷ []) number
    back (inl (inl (from, listed, is))) = (from, Contains-append_left sources (source ∷ []) from listed, is)
    back (inl (inr same)) = (source, Contains-push sources source, inl same)
    back (inr at) = (source, Contains-push sources source, inr at)

-- a file is found
pub visited_iff : (old : List ℕ) (one : ℕ) (number : ℕ) → Contains (visit old one) number
    ↔ (Contains old number ⊎ (number ≡ one))
visited_iff old one number = (
  λ there. All-contains Is (visit old one) number
      (visit_all_of Is old one (λ k d h. inl (Contains-get_or old k d h)) (inr refl)) there,
  λ is. elim is [
    | inl before ↦ visits_keep old (one ∷ []) number before
    | inr same ↦ subst (Contains (visit old one)) (sym same) (visit_finds old one)
  ],
)
  where
    Is : ℕ → Type 0
    Is n = Contains old n ⊎ (n ≡ one)

-- the one in which a source has the messages of its options
pub visited_at : (options : List OptionsIn) (source one : ℕ) (old new : List ℕ) → slice_get options source ≡ Some (At one)
    → new ≡ visit old one → (number : ℕ) → Contains new number
    ↔ (Contains old number ⊎ (slice_get options source ≡ Some (At number)))
visited_at options source one old new at is number = (
  λ there. elim ((visited_iff old one number).0 (subst (λ xs. Contains xs number) is there)) [
    | inl before ↦ inl before
    | inr same ↦ inr (at ∙ ap (λ n. Some (At n)) (sym same))
  ],
  λ either. subst (λ xs. Contains xs number) (sym is) ((visited_iff old one number).1 (elim either [
    | inl before ↦ inl before
    | inr there ↦ inr (one_At number one (same_Some (At number) (At one) (sym there ∙ at)))
  ])),
)
  where
    one_At : (a b : ℕ) → At a ≡ At b → a ≡ b
    one_At a b e = cc

pub linking_none : (options : List OptionsIn) (found : List ℕ) → found ≡ [] → (number : ℕ)
    → Contains found number ↔ IsBegunIn options [] number
linking_none options found none number = (
  λ there. (let size = ap length none in absurd (omega (arith, there.1, size))),
  λ begun. absurd (omega (arith, begun.1.1)),
)

pub linking_next : (options : List OptionsIn) (sources : List ℕ) (k : ℕ) (old one new : List ℕ) → k < length sources
    → one ≡ visit old (get_or sources k 0)
    → ((number : ℕ) → Contains new number
    ↔ (Contains one number ⊎ (slice_get options (get_or sources k 0) ≡ Some (At number))))
    → ((number : ℕ) → Contains old number ↔ IsBegunIn options (take k sources) number)
    → (number : ℕ) → Contains new number ↔ IsBegunIn options (take (k + 1) sources) number
linking_next options sources k old one new within is more so_far number = (
  λ there. subst (λ xs. IsBegunIn options xs number) (sym next) ((linking_more options (take k sources) source number).1
      (elim ((more number).0 there) [
        | inl found ↦ elim ((visited_iff old source number).0 (subst (λ xs. Contains xs number) is found)) [
          | inl before ↦ inl (inl ((so_far number).0 before))
          | inr same ↦ inl (inr same)
        ]
        | inr at ↦ inr at
      ])),
  λ begun. (more number).1 (elim ((linking_more options (take k sources) source number).0
      (subst (λ xs. IsBegunIn options xs number) next begun)) [
        | inl first ↦ inl (subst (λ xs. Contains xs number) (sym is) ((visited_iff old source number).1 (elim first [
          | inl before ↦ inl ((so_far number).1 before)
          | inr same ↦ inr same
        ])))
        | inr at ↦ inr at
      ]),
)
  where
    source : ℕ
    source = get_or sources k 0

    next : take (k + 1) sources ≡ take k sources ++ source ∷ []
    next = take_next sources k source (slice_get-get_or sources k 0 within)

-- what is found from where sources begin
pub reached_from : (options : List OptionsIn) (sources : List ℕ) (table : List Steps) (starts numbers : List ℕ)
    → ((number : ℕ) → Contains starts number ↔ IsBegunIn options sources number)
    → ((other : ℕ) → Contains numbers other ↔ IsLedTo (ByEach (HasStep table)) starts other)
    → ReachesFrom options sources table numbers
reached_from options sources table starts numbers begun led number = (
  λ there. (let its = (led number).0 there in (its.0, (begun its.0).0 its.1, its.2)),
  λ is. (led number).1 (is.0, (begun is.0).1 is.1, is.2),
)

-- ---- the steps of a file, of every kind

pub each_listed : (table : List Steps) (file : ℕ) (steps : Steps) → slice_get table file ≡ Some steps → (other : ℕ)
    → ByEach (HasStep table) file true other ↔ Contains (steps.plain.items ++ steps.public.items) other
each_listed table file steps stands other = (
  λ step. listed step.0 step.1,
  λ there. elim (Contains-append_cases steps.plain.items steps.public.items other there) [
    | inl plain ↦ (false, (steps_listed table file steps stands false other).1 plain)
    | inr public ↦ (true, (steps_listed table file steps stands true other).1 public)
  ],
)
  where
    listed : (publicly : Bool) → HasStep table file publicly other
        → Contains (steps.plain.items ++ steps.public.items) other
    listed false step = Contains-append_left steps.plain.items steps.public.items other
        ((steps_listed table file steps stands false other).0 step)
    listed true step = Contains-append_right steps.plain.items steps.public.items other
        ((steps_listed table file steps stands true other).0 step)

pub each_within : (table : List Steps) (file : ℕ) (steps : Steps) → AreWithin table → slice_get table file ≡ Some steps
    → All (λ number. number < length table) (steps.plain.items ++ steps.public.items)
each_within table file steps within stands =
    All-append (λ number. number < length table) steps.plain.items steps.public.items
    (numbers_within table file steps false (length table) steps.plain.items within stands refl refl)
    (numbers_within table file steps true (length table) steps.public.items within stands refl refl)

-- those that sources reach and that aren't left out are the reachable ones
pub reachable_all : (files : List File) (numbers present : List ℕ)
    → ((number : ℕ) → Contains numbers number ↔ ((source : ℕ) × IsSource files source × Reaches files source number))
    → present ≡ filter (is_present_at files) numbers
    → (number : ℕ) → Contains present number ↔ IsReachable files number
reachable_all files numbers present all are_present number = (
  λ there. (
      let its = (filtered (is_present_at files) numbers present are_present number).0 there in
      let from = (all number).0 its.0 in
      reached from.1 from.2 (present_at files number its.1)),
  λ is. back is,
)
  where
    back : IsReachable files number → Contains present number
    back (reached {source = source} is reaches present_there) =
        (filtered (is_present_at files) numbers present are_present number).1
        ((all number).1 (source, is, reaches), at_present files number present_there)
