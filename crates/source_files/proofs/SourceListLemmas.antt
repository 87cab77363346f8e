-- Lines, one after the other.
use Rattle.std.proofs.Common.{◌≡◌, ◌∙◌, ◌+◌, ◌<◌, ◌≤◌, ℕ, List, [], ◌∷◌, ◌++◌, length, ap, sym, subst, arith}
use Rattle.std.proofs.Common.{refl, true, false, cond, Bool, Some, ◌==◌, ◌||◌}
use Rattle.std.proofs.Common.{drop, get_or, take}
use Rattle.std.specs.List.{slice_split}
use Rattle.std.specs.HashMap.{HashMap, IsEmpty}
use Rattle.std.specs.Map.{lookup}
use Rattle.std.specs.Option.{is_some}
use Rattle.std.specs.Borrow.{Bor}
use Rattle.std.specs.Str.{bytes_eq}
use Rattle.std.proofs.Math.Bool.{or-true, or-false}
use Rattle.std.proofs.lemmas.List.Folds.{list_any-append}
use Rattle.std.proofs.lemmas.List.{drop_more, length-append, take-append-drop}
use Rattle.std.proofs.lemmas.List.Splits.{length-slice_split}
use Rattle.std.proofs.lemmas.List.Sums.{count_by-le-length}
use Rattle.std.proofs.lemmas.Bool.{eqb-true}
use Rattle.std.specs.Str.Lines.{strip_carriage_return}
use Rattle.source_tree.specs.Path.{IsGoodPath}
use Rattle.source_tree.specs.Trees.{max_files}
use Rattle.source_files.specs.declared.source_list.ListFault.{ListFault}
use Rattle.source_files.specs.declared.source_list.ListFault.TheVariants.{TooLong, NotUtf8, BadPath, TooMany, Memory}
use Rattle.source_files.specs.SourceLists.{AddsLine, AreNamed, Listed, MayNotAdd, MayRefuseLines, Name}
use Rattle.source_files.specs.SourceLists.{AreSeen, is_listed, line_of, adds_none, adds_again, adds_path, no_line, one_more}

-- one more line
pub named_more : (before : List (List ℕ)) (line : List ℕ) (number : ℕ) (old new : List Listed)
    → number ≡ length before + 1 → AreNamed before old → AddsLine number line old new
    → AreNamed (before ++ line ∷ []) new
named_more before line number old new is named adds = record {
  few = few_more adds;
  named = one_more named.named (subst (λ (n : ℕ). AddsLine n line old new) is adds);
}
  where
    few_more : {new : List Listed} → AddsLine number line old new → length new ≤ max_files
    few_more (adds_none empty) = named.few
    few_more (adds_again again) = named.few
    few_more (adds_path few good other) =
        subst (λ (n : ℕ). n ≤ max_files) (sym (length-append old _)) (omega (arith, few))

-- why it names none
pub refused : (lines before : List (List ℕ)) (line : List ℕ) (behind : List (List ℕ)) (number : ℕ) (old : List Listed)
    (fault : ListFault) → lines ≡ before ++ line ∷ behind → number ≡ length before + 1 → AreNamed before old
    → MayNotAdd number line old fault → MayRefuseLines lines fault
refused lines before line behind number old TooLong are is named why = absurd why
refused lines before line behind number old (NotUtf8 at) are is named why = absurd why
refused lines before line behind number old (BadPath at) are is named why = (
  before,
  line,
  old,
  record { behind = behind; lines_are = are; named = named; some = why.1 },
  why.0 ∙ is,
  why.2,
  why.3,
)
refused lines before line behind number old TooMany are is named why = (
  before,
  line,
  old,
  record { behind = behind; lines_are = are; named = named; some = why.0 },
  omega (arith, why.1, named.few),
  why.2,
)
refused lines before line behind number old Memory are is named why = tt

-- the lines so far, how many they are, and what they name
abbrev pub SoFar : (before : List (List ℕ)) → (number : ℕ) → List Listed → Type 0
SoFar before number listed = (number ≡ length before) × AreNamed before listed

-- one more of them
pub next_line : (before : List (List ℕ)) (line : List ℕ) (number : ℕ) (old new : List Listed) → SoFar before number old
    → AddsLine (number + 1) line old new → SoFar (before ++ line ∷ []) (number + 1) new
next_line before line number old new so_far adds =
    let longer : length (before ++ line ∷ []) ≡ length before + 1 = length-append before (line ∷ []) in (
      omega (arith, so_far.0, longer),
      named_more before line (number + 1) old new (omega (arith, so_far.0)) so_far.1 adds,
    )

-- or why it names none, where it comes behind them in all lines
pub next_refused : (all before : List (List ℕ)) (at : ℕ) (line : List ℕ) (number : ℕ) (old : List Listed)
    (fault : ListFault) → before ≡ take at all → at < length all → line ≡ get_or all at line
    → SoFar before number old → MayNotAdd (number + 1) line old fault → MayRefuseLines all fault
next_refused all before at line number old fault front below there so_far why =
    let behind = drop (at + 1) all in
    refused all before line behind (number + 1) old fault
    (sym (take-append-drop at all)
    ∙ ap (λ (l : List (List ℕ)). take at all ++ l)
    (drop_more all at line below ∙ ap (λ (l : List ℕ). l ∷ behind) (sym there))
    ∙ ap (λ (l : List (List ℕ)). l ++ line ∷ behind) (sym front))
    (omega (arith, so_far.0)) so_far.1 why

-- nothing is named by no line
pub nothing_named : (number : ℕ) (listed : List Listed) → number ≡ 0 → listed ≡ [] → SoFar [] number listed
nothing_named number listed first none =
    (first, subst (AreNamed []) (sym none) (record { few = omega arith; named = no_line }))

-- there are at most so many lines
pub few_lines : (text : List ℕ) → length (slice_split (λ byte. byte == 10) text) ≤ length text + 1
few_lines text =
    omega (
      arith,
      length-slice_split (λ (byte : ℕ). byte == 10) text,
      count_by-le-length (λ (byte : ℕ). byte == 10) text,
    )

-- ---- a line that names nothing, and one that names a path

no_bytes : (bytes : List ℕ) → (length bytes == 0) ≡ true → bytes ≡ []
no_bytes [] e = refl
no_bytes (byte ∷ bytes) e = absurd (omega (arith, eqb-true (length (byte ∷ bytes)) 0 e))

pub names_nothing : (number : ℕ) (line bare : List ℕ) (old : List Listed) → bare ≡ strip_carriage_return line
    → (length bare == 0) ≡ true → AddsLine number line old old
names_nothing number line bare old is none = adds_none (sym is ∙ no_bytes bare none)

pub names_path : (number : ℕ) (line bare : List ℕ) (old new : List Listed) → bare ≡ strip_carriage_return line
    → length old < max_files → IsGoodPath bare → is_listed bare old ≡ false → new ≡ old ++ record { path = bare; line = number } ∷ []
    → AddsLine number line old new
names_path number line bare old new is few good other added =
    subst (AddsLine number line old)
    (sym (added ∙ ap (λ (path : List ℕ). old ++ record { path = path; line = number } ∷ []) is))
    (adds_path few (subst IsGoodPath is good) (subst (λ (path : List ℕ). is_listed path old ≡ false) is other))

pub names_again : (number : ℕ) (line bare : List ℕ) (old : List Listed) → bare ≡ strip_carriage_return line
    → is_listed bare old ≡ true → AddsLine number line old old
names_again number line bare old is again =
    adds_again (subst (λ (path : List ℕ). is_listed path old ≡ true) is again)

-- a path that is listed is seen from then on
pub seen_more : {S : Type 0} (old new : HashMap (Bor (List ℕ)) ℕ S) (listed : List Listed) (path : List ℕ) (line : ℕ)
    → ((other : List ℕ) → line_of new other ≡ cond (bytes_eq path other) (Some line) (line_of old other))
    → AreSeen old listed → AreSeen new (listed ++ record { path = path; line = line } ∷ [])
seen_more old new listed path line after seen = λ other.
    rw (
      list_any-append (λ (l : Listed). bytes_eq l.path other) listed (record { path = path; line = line } ∷ []),
      after other,
    ) (by other (bytes_eq path other))
  where
    by : (other : List ℕ) (b : Bool)
        → is_some (cond b (Some line) (line_of old other)) ≡ (is_listed other listed || (b || false))
    by other true = sym (or-true (is_listed other listed))
    by other false = seen other ∙ sym (or-false (is_listed other listed))

-- of nothing nothing is seen
pub nothing_seen : {S : Type 0} (seen : HashMap (Bor (List ℕ)) ℕ S) (listed : List Listed) → IsEmpty seen → listed ≡ []
    → AreSeen seen listed
nothing_seen seen listed empty none = λ path. rw none (ap (λ entries. is_some (lookup (λ (key : Bor (List ℕ)). bytes_eq path key.now) entries)) empty)
