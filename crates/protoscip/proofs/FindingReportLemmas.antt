-- The findings of a report: the files that they name, and that each comes once.
use Rattle.std.proofs.Common.{◌≡◌, ◌≢◌, ◌∙◌, ℕ, ◌<◌, ◌+◌, true, false, List, [], ◌∷◌, ◌++◌, length}
use Rattle.std.proofs.Common.{get_or, take, Option, Some, None, ap, sym, refl, subst, arith}
use Rattle.std.specs.Prelude.{⊤, not, cond, nat_eq, Contains, codes, unwrap_or}
use Rattle.std.specs.List.{All, filter, slice_get}
use Rattle.std.specs.Option.{option_map}
use Rattle.std.specs.Str.{bytes_eq}
use Rattle.std.specs.declared.cmp.Ordering.TheVariants.{Less}
use Rattle.std.specs.Cmp.{IsTotalOrder}
use Rattle.std.specs.List.Sorted.{IsStrictlySortedBy}
use Rattle.std.proofs.lemmas.Cmp.{on_total, then_total, nat_cmp_total}
use Rattle.std.proofs.lemmas.List.{get_or-map, length-map}
use Rattle.std.proofs.lemmas.List.Elements.{All-cons, All-contains, All-contains_itself, All-filter, All-map}
use Rattle.std.proofs.lemmas.List.Elements.{All-weaker, filter_more}
use Rattle.std.proofs.lemmas.Bool.Decides.{Decides-eqb}
use Rattle.std.proofs.lemmas.List.Kept.{AllPairs-cons, AllPairs-filter}
use Rattle.std.proofs.lemmas.Map.Keys.{Less-from_sorted}
use Rattle.std.proofs.lemmas.Option.{slice_get-get_or}
use Rattle.proto_decl.specs.Values.{Seen}
use Rattle.index_hooks.specs.declared.choice.Choice.{Choice}
use Rattle.source_tree.specs.Files.{TreeFile}
use Rattle.source_tree.specs.Trees.{HaveOwnPaths}
use Rattle.scip_model.proofs.IndexSortLemmas.{not-below}
use Rattle.scip_build.specs.Kept.{Key, key_cmp, told_cmp, told_key}
use Rattle.scip_build.specs.declared.omission.Omission.{Omission}
use Rattle.scip_build.specs.declared.omission.Omission.TheVariants as omitted
use Rattle.scip_build.specs.declared.fault.FileFault.TheVariants as file
use Rattle.proto_visibility.specs.declared.files.FilePlace.{FilePlace}
use Rattle.fault_reports.specs.Findings.{Found, FoundPlace}
use Rattle.fault_reports.specs.declared.finding.FindingKind.{FindingKind}
use Rattle.fault_reports.specs.declared.finding.FindingKind.TheVariants as kind
use Rattle.protoscip.specs.Faults.{fault_of_omission}
use Rattle.protoscip.specs.FaultLines.{HasFile, HasFilesOf, HaveFilesOf, path_of}
use Rattle.protoscip.specs.FindingLaws.{AreApart, FindingsComeOnce}
use Rattle.protoscip.specs.Findings.{faults_of, faults_with, is_one_place, is_other, tells_same, told_finding}
use Rattle.protoscip.specs.Findings.{told_findings}
use Rattle.protoscip.specs.declared.fault.Fault.{Fault}
use Rattle.protoscip.specs.declared.fault.Fault.TheVariants as fault
use Rattle.protoscip.proofs.HeadlineFileLemmas.{files_of_built}
use Rattle.protoscip.proofs.FindingListLemmas.{filtered}
use Rattle.protoscip.specs.ToldLines.{told_beside}
use Rattle.protoscip.proofs.ToldBesideLemmas.{beside_have, beside_rises}
use Rattle.protoscip.proofs.UnreadLemmas.{with_unread}

-- ---- files

pub have_files : (tree : List TreeFile) (told : List Omission) → HaveFilesOf tree told
    → All (HasFilesOf tree) (faults_of told)
have_files tree told have = All-map (HasFilesOf tree) fault_of_omission told have

pub have_all : (tree : List TreeFile) (own : Fault) (told : List Fault) → HasFilesOf tree own
    → All (HasFilesOf tree) told → All (HasFilesOf tree) (faults_with own told)
have_all tree own told has have =
    All-cons (HasFilesOf tree) own (filter (is_other own) told) has
    (All-filter (is_other own) (HasFilesOf tree) told have)

-- ---- the faults of a run that is refused

pub one_fault_more : (own : Fault) (all now next : List Fault) (at : ℕ) (d : Fault) → at < length all
    → now ≡ faults_with own (take at all)
    → next ≡ now ++ cond (is_other own (get_or all at d)) (get_or all at d ∷ []) []
    → next ≡ faults_with own (take (at + 1) all)
one_fault_more own all now next at d within so is =
    let more : List Fault = cond (is_other own (get_or all at d)) (get_or all at d ∷ []) [] in
    is ∙ (ap (λ l. l ++ more) so ∙ ap (λ l. own ∷ l) (sym (filter_more (is_other own) all at d within)))

-- ---- where a fault is told

key_total : IsTotalOrder key_cmp
key_total = then_total
    (then_total (on_total (λ (x : Key). x.0.0) nat_cmp_total) (on_total (λ (x : Key). x.0.1) nat_cmp_total))
    (then_total (on_total (λ (x : Key). x.1.0) nat_cmp_total) (on_total (λ (x : Key). x.1.1) nat_cmp_total))

-- an element of no list
abbrev nothing : Omission
nothing = omitted.MissingImport (record { file = 0; span = record { start = 0; end = 0 } })

-- what comes later in order isn't at the same place
keys_differ : (told : List Omission) → IsStrictlySortedBy told_cmp told → (i j : ℕ) (d : Omission) → i < j
    → j < length told → told_key (get_or told i d) ≢ told_key (get_or told j d)
keys_differ told rising i j d before within same =
    let key = told_key (get_or told i d) in
    not-below key_total key
    (subst (λ (other : Key). key_cmp key other ≡ Less) (sym same)
    (Less-from_sorted told_cmp told i j d rising before within))

-- it is seen from the fault of a run
abbrev fault_key : Fault → Key
fault_key (fault.Lex number e) = ((number, 0), (0, 0))
fault_key (fault.Syntax number e) = ((number, 0), (0, 0))
fault_key (fault.Unread number) = ((number, 0), (0, 0))
fault_key (fault.Duplicate first second) = ((second.file, 0), (0, 0))
fault_key (fault.MissingImport place) = ((place.file, place.span.start), (place.span.end, 0))
fault_key (fault.Unresolved place) = ((place.file, place.span.start), (place.span.end, 1))
fault_key (fault.Ambiguous place) = ((place.file, place.span.start), (place.span.end, 2))
fault_key (fault.Uncertain place behind) = ((place.file, place.span.start), (place.span.end, 3))
fault_key (fault.OptionGap place) = ((place.file, place.span.start), (place.span.end, 4))
fault_key other = ((0, 0), (0, 0))

key_of_fault : (told : Omission) → fault_key (fault_of_omission told) ≡ told_key told
key_of_fault (omitted.File number (file.Lex e)) = refl
key_of_fault (omitted.File number (file.Syntax e)) = refl
key_of_fault (omitted.File number file.Unread) = refl
key_of_fault (omitted.Duplicate first second) = refl
key_of_fault (omitted.MissingImport place) = refl
key_of_fault (omitted.Unresolved place) = refl
key_of_fault (omitted.Ambiguous place) = refl
key_of_fault (omitted.OptionGap place) = refl
key_of_fault (omitted.Uncertain place behind) = refl

faults_apart : (told : List Omission) → IsStrictlySortedBy told_cmp told → AreApart (faults_of told)
faults_apart told rising i j d before within same =
    let inside : j < length told = subst (λ (n : ℕ). j < n) (length-map told fault_of_omission) within in
    let there : i < length told = omega (arith, before, inside) in
    let first = get_or-map fault_of_omission told i nothing d there in
    let second = get_or-map fault_of_omission told j nothing d inside in
    keys_differ told rising i j nothing before inside
    (sym (key_of_fault (get_or told i nothing)) ∙ (ap fault_key (sym first ∙ (same ∙ second))
    ∙ key_of_fault (get_or told j nothing)))

-- ---- the findings of what is told

-- a fault is of a file
abbrev IsOfFile : Fault → Type 0
IsOfFile fault.Spawn = ⊥
IsOfFile fault.Memory = ⊥
IsOfFile (fault.Lex number e) = ⊤
IsOfFile (fault.Syntax number e) = ⊤
IsOfFile (fault.Unread number) = ⊤
IsOfFile (fault.Duplicate first second) = ⊤
IsOfFile (fault.MissingImport place) = ⊤
IsOfFile (fault.Unresolved place) = ⊤
IsOfFile (fault.Ambiguous place) = ⊤
IsOfFile (fault.OptionGap place) = ⊤
IsOfFile (fault.Uncertain place behind) = ⊤
IsOfFile fault.TooLarge = ⊥
IsOfFile (fault.Write count) = ⊥
IsOfFile fault.Read = ⊥
IsOfFile (fault.Answer count) = ⊥

-- so is what is told
told_of_file : (told : Omission) → IsOfFile (fault_of_omission told)
told_of_file (omitted.File number (file.Lex e)) = tt
told_of_file (omitted.File number (file.Syntax e)) = tt
told_of_file (omitted.File number file.Unread) = tt
told_of_file (omitted.Duplicate first second) = tt
told_of_file (omitted.MissingImport place) = tt
told_of_file (omitted.Unresolved place) = tt
told_of_file (omitted.Ambiguous place) = tt
told_of_file (omitted.OptionGap place) = tt
told_of_file (omitted.Uncertain place behind) = tt

file_of : (tree : List TreeFile) (told : Omission) → HasFilesOf tree (fault_of_omission told)
    → HasFile tree (told_key told).0.0
file_of tree (omitted.File number (file.Lex e)) have = have
file_of tree (omitted.File number (file.Syntax e)) have = have
file_of tree (omitted.File number file.Unread) have = have
file_of tree (omitted.Duplicate first second) have = have.1
file_of tree (omitted.MissingImport place) have = have
file_of tree (omitted.Unresolved place) have = have
file_of tree (omitted.Ambiguous place) have = have
file_of tree (omitted.OptionGap place) have = have
file_of tree (omitted.Uncertain place behind) have = have.0

-- where it is told, by the path of the file; it is seen from its finding
abbrev PathKey : Type 0
PathKey = (List ℕ × ℕ) × (ℕ × ℕ)

abbrev path_key : List TreeFile → Key → PathKey
path_key tree key = ((path_of tree key.0.0, key.0.1), key.1)

abbrev no_place : FoundPlace
no_place = record { path = []; bytes = []; text = []; offset = None; end = None }

abbrev key_at : FindingKind → (what : ℕ) → FoundPlace → PathKey
key_at kind.Unresolved what place = ((place.path, unwrap_or place.offset 0), (unwrap_or place.end 0, what))
key_at kind.Uncertain what place = ((place.path, unwrap_or place.offset 0), (unwrap_or place.end 0, 3))
key_at kind.Skipped what place = ((place.path, 0), (0, 0))
key_at kind.Fault what place = ((place.path, 0), (0, 0))

-- what is told, by the fault's name
abbrev what_by : List ℕ → ℕ
what_by name =
    cond (bytes_eq name (codes "Unresolved")) 1
    (cond (bytes_eq name (codes "Ambiguous")) 2 (cond (bytes_eq name (codes "Option")) 4 0))

abbrev found_key : Found → PathKey
found_key found = key_at found.kind (what_by found.name) (unwrap_or found.place no_place)

key_found : (tree : List TreeFile) (told : Omission)
    → found_key (told_finding tree told) ≡ path_key tree (told_key told)
key_found tree (omitted.File number (file.Lex e)) = refl
key_found tree (omitted.File number (file.Syntax e)) = refl
key_found tree (omitted.File number file.Unread) = refl
key_found tree (omitted.Duplicate first second) = refl
key_found tree (omitted.MissingImport place) = refl
key_found tree (omitted.Unresolved place) = refl
key_found tree (omitted.Ambiguous place) = refl
key_found tree (omitted.OptionGap place) = refl
key_found tree (omitted.Uncertain place behind) = refl

module _ (tree : List TreeFile) (own : HaveOwnPaths tree) where
  -- a path is that of one file
  one_number : (m n : ℕ) → HasFile tree m → HasFile tree n → path_of tree m ≡ path_of tree n → m ≡ n
  one_number m n first second same =
      let none : TreeFile = record { path = []; bytes = []; text = []; is_included = false; is_unread = false } in
      let a = slice_get-get_or tree m none first in
      let b = slice_get-get_or tree n none second in
      own m n (get_or tree m none) (get_or tree n none) a b
      (sym (path_at m (get_or tree m none) a) ∙ (same ∙ path_at n (get_or tree n none) b))
    where
      path_at : (k : ℕ) (at : TreeFile) → slice_get tree k ≡ Some at → path_of tree k ≡ at.path
      path_at k at is = ap (λ (o : Option TreeFile). unwrap_or (option_map (λ (f : TreeFile). f.path) o) []) is

  one_key : (k l : Key) → HasFile tree k.0.0 → HasFile tree l.0.0 → path_key tree k ≡ path_key tree l → k ≡ l
  one_key k l first second same =
      let number : k.0.0 ≡ l.0.0 = one_number k.0.0 l.0.0 first second (ap (λ (x : PathKey). x.0.0) same) in
      let start : k.0.1 ≡ l.0.1 = ap (λ (x : PathKey). x.0.1) same in
      let rest : k.1 ≡ l.1 = ap (λ (x : PathKey). x.1) same in
      λ i. ((number i, start i), rest i)

  alike : (a b : Omission) → HasFilesOf tree (fault_of_omission a) → HasFilesOf tree (fault_of_omission b)
      → told_finding tree a ≡ told_finding tree b → told_key a ≡ told_key b
  alike a b have_a have_b same =
      one_key (told_key a) (told_key b) (file_of tree a have_a) (file_of tree b have_b)
      (sym (key_found tree a) ∙ (ap found_key same ∙ key_found tree b))

  findings_apart : (told : List Omission) → IsStrictlySortedBy told_cmp told → HaveFilesOf tree told
      → AreApart (told_findings tree told)
  findings_apart told rising have i j d before within same =
      let inside : j < length told = subst (λ (n : ℕ). j < n) (length-map told (told_finding tree)) within in
      let there : i < length told = omega (arith, before, inside) in
      keys_differ told rising i j nothing before inside
      (alike (get_or told i nothing) (get_or told j nothing) (have i nothing there) (have j nothing inside)
      (sym (at i d there) ∙ (same ∙ at j d inside)))
    where
      at : (k : ℕ) (d : Found) → k < length told
          → get_or (told_findings tree told) k d ≡ told_finding tree (get_or told k nothing)
      at k d within = get_or-map (told_finding tree) told k nothing d within

-- ---- the faults of a run that is refused, each once

same_number : (n : ℕ) → nat_eq n n ≡ true
same_number n = (Decides-eqb n n).1 refl

same_place : (place : FilePlace) → is_one_place place place ≡ true
same_place place = rw (same_number place.file, same_number place.span.start, same_number place.span.end) refl

same_fault : (own : Fault) → IsOfFile own → tells_same own own ≡ true
same_fault fault.Spawn of = absurd of
same_fault fault.Memory of = absurd of
same_fault (fault.Lex number e) of = same_number number
same_fault (fault.Syntax number e) of = same_number number
same_fault (fault.Unread number) of = same_number number
same_fault (fault.Duplicate first second) of = same_number second.file
same_fault (fault.MissingImport place) of = same_place place
same_fault (fault.Unresolved place) of = same_place place
same_fault (fault.Ambiguous place) of = same_place place
same_fault (fault.OptionGap place) of = same_place place
same_fault (fault.Uncertain place behind) of = same_place place
same_fault fault.TooLarge of = absurd of
same_fault (fault.Write count) of = absurd of
same_fault fault.Read of = absurd of
same_fault (fault.Answer count) of = absurd of

other_so : (own other : Fault) → IsOfFile other → is_other own other ≡ true → own ≢ other
other_so own other of passes same =
    let tells : tells_same own other ≡ true =
    subst (λ (f : Fault). tells_same f other ≡ true) (sym same) (same_fault other of) in
    let fails : is_other own other ≡ false = ap not tells in
    absurd cc

refused_apart : (own : Fault) (told : List Omission) → IsStrictlySortedBy told_cmp told
    → AreApart (faults_with own (faults_of told))
refused_apart own told rising =
    let faults = faults_of told in
    let others = filter (is_other own) faults in
    let of = All-map IsOfFile fault_of_omission told (λ i d within. told_of_file (get_or told i d)) in
    AllPairs-cons (λ x y. x ≢ y) own others
    (All-weaker (Contains others) (λ y. own ≢ y)
    (λ y there. let passed = filtered (is_other own) faults y there in
    other_so own y (All-contains IsOfFile faults y of passed.0) passed.1)
    others (All-contains_itself others))
    (AllPairs-filter (λ x y. x ≢ y) (is_other own) faults (faults_apart told rising))

-- ---- the law

pub come_once : (allows : Seen → Choice → Type 0) → FindingsComeOnce allows
come_once allows = record {
  of_told = λ settings tree built own is.
      findings_apart tree own built.told is.of_files.kept.told_is.ascends
      (files_of_built allows settings tree built is);
  of_all = λ settings tree unread built own is apart.
      with_unread tree unread built.told apart
      (findings_apart tree own (told_beside unread built.told)
      (beside_rises unread built.told is.of_files.kept.told_is.ascends)
      (beside_have tree unread built.told (files_of_built allows settings tree built is)));
  of_refused = λ settings tree built own is. refused_apart own built.told is.of_files.kept.told_is.ascends;
}
