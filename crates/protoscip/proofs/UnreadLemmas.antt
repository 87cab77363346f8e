-- What isn't read, in a report: each once, and unlike all else.
use Rattle.std.proofs.Common.{◌≡◌, ◌≢◌, ◌∙◌, ℕ, Bool, suc, false, true, List, [], ◌∷◌, ◌++◌, map, ap, refl, sym}
use Rattle.std.proofs.Common.{arith, None, get_or}
use Rattle.std.specs.Prelude.{unwrap_or}
use Rattle.std.specs.List.{All, filter}
use Rattle.std.specs.Str.{bytes_eq}
use Rattle.std.proofs.lemmas.Bool.{false≢true}
use Rattle.std.proofs.lemmas.List.Elements.{All-append, All-cons, All-head, All-map, All-nil, All-tail, filter_passes}
use Rattle.std.proofs.lemmas.List.Kept.{AllPairs-cons}
use Rattle.std.proofs.lemmas.Slice.Eq.{bytes_eq-Decides}
use Rattle.fault_reports.specs.Findings.{Found, FoundPlace}
use Rattle.proto_lex.specs.declared.fault.LexFault.{LexFault}
use Rattle.proto_lex.specs.declared.fault.LexFault.TheVariants as lexing
use Rattle.proto_parse.specs.fault.SyntaxFault.{SyntaxFault}
use Rattle.proto_parse.specs.fault.SyntaxFault.TheVariants as parsing
use Rattle.source_tree.specs.Files.{TreeFile}
use Rattle.scip_build.specs.declared.fault.FileFault.TheVariants as file
use Rattle.scip_build.specs.declared.omission.Omission.{Omission}
use Rattle.scip_build.specs.declared.omission.Omission.TheVariants as omitted
use Rattle.protoscip.specs.FaultTexts.{lex_text, name_of, syntax_text}
use Rattle.protoscip.specs.FindingLaws.{AreApart, bytes_of}
use Rattle.protoscip.specs.Findings.{all_findings, told_finding, told_findings}
use Rattle.protoscip.specs.Faults.{fault_of_omission}
use Rattle.protoscip.specs.ToldLines.{is_read, told_beside}
use Rattle.protoscip.specs.Unread.{PathUnread, unread_finding, unread_name}

-- ---- no fault has one of its names

-- this is neither of them
abbrev IsOther : List ℕ → Type 0
IsOther name = (bytes_eq name (unread_name false) ≡ false) × (bytes_eq name (unread_name true) ≡ false)

lex_unlike : (e : LexFault) → IsOther (lex_text e).name
lex_unlike lexing.TooLong = (refl, refl)
lex_unlike (lexing.NotUtf8 at) = (refl, refl)
lex_unlike (lexing.BadByte at) = (refl, refl)
lex_unlike (lexing.OpenString at) = (refl, refl)
lex_unlike (lexing.OpenComment at) = (refl, refl)
lex_unlike (lexing.BadEscape at) = (refl, refl)
lex_unlike (lexing.BadNumber at) = (refl, refl)
lex_unlike lexing.Memory = (refl, refl)

syntax_unlike : (e : SyntaxFault) → IsOther (syntax_text e).name
syntax_unlike (parsing.NotProto3 at) = (refl, refl)
syntax_unlike (parsing.CustomOption at) = (refl, refl)
syntax_unlike (parsing.Aggregate at) = (refl, refl)
syntax_unlike (parsing.Extend at) = (refl, refl)
syntax_unlike (parsing.TwoPackages at) = (refl, refl)
syntax_unlike (parsing.ImportEscape at) = (refl, refl)
syntax_unlike (parsing.TooDeep at) = (refl, refl)
syntax_unlike (parsing.Grammar at) = (refl, refl)
syntax_unlike parsing.Memory = (refl, refl)

unlike : (told : Omission) → is_read told ≡ true → IsOther (name_of (fault_of_omission told))
unlike (omitted.File number file.Unread) read = absurd (false≢true read)
unlike (omitted.File number (file.Lex e)) read = lex_unlike e
unlike (omitted.File number (file.Syntax e)) read = syntax_unlike e
unlike (omitted.Duplicate first second) read = (refl, refl)
unlike (omitted.MissingImport place) read = (refl, refl)
unlike (omitted.Unresolved place) read = (refl, refl)
unlike (omitted.Ambiguous place) read = (refl, refl)
unlike (omitted.OptionGap place) read = (refl, refl)
unlike (omitted.Uncertain place behind) read = (refl, refl)

-- a finding has another name
abbrev HasOther : Found → Type 0
HasOther found = IsOther found.name

have_other : (tree : List TreeFile) (told : List Omission) → All HasOther (told_findings tree (filter is_read told))
have_other tree told =
    let read = filter is_read told in
    All-map HasOther (told_finding tree) read
    (λ i d within. unlike (get_or read i d) (filter_passes is_read told i d within))

-- ---- none is alike

abbrev no_place : FoundPlace
no_place = record { path = []; bytes = []; text = []; offset = None; end = None }

-- one of both is left
neither : (name : List ℕ) → IsOther name → (is_bad : Bool) → bytes_eq name (unread_name is_bad) ≡ false
neither name other false = other.0
neither name other true = other.1

unlike_told : (path : PathUnread) (found : Found) → HasOther found → unread_finding path ≢ found
unlike_told path found other same =
    let name = unread_name path.is_bad in
    let named : found.name ≡ name = sym (ap (λ (f : Found). f.name) same) in
    let is : bytes_eq found.name name ≡ true = (bytes_eq-Decides found.name name).1 named in
    false≢true (sym (neither found.name other path.is_bad) ∙ is)

unlike_path : (p q : PathUnread) → p.bytes ≢ q.bytes → unread_finding p ≢ unread_finding q
unlike_path p q differ same = differ (ap (λ (f : Found). (unwrap_or f.place no_place).bytes) same)

-- the first is unlike the others,
first_apart : {X : Type 0} (x : X) (xs : List X) → AreApart (x ∷ xs) → All (λ y. x ≢ y) xs
first_apart x xs apart i d within = apart 0 (suc i) d (omega arith) (omega (arith, within))

-- and these are apart
others_apart : {X : Type 0} (x : X) (xs : List X) → AreApart (x ∷ xs) → AreApart xs
others_apart x xs apart i j d before within =
    apart (suc i) (suc j) d (omega (arith, before)) (omega (arith, within))

-- of items, by a view of them
All-under : {X Y : Type 0} (f : X → Y) (P : X → Type 0) (Q : Y → Type 0) → ((x : X) → Q (f x) → P x)
    → (xs : List X) → All Q (map f xs) → All P xs
All-under f P Q each [] all = All-nil P
All-under f P Q each (x ∷ xs) all =
    All-cons P x xs (each x (All-head Q (f x) (map f xs) all))
    (All-under f P Q each xs (All-tail Q (f x) (map f xs) all))

before_apart : (paths : List PathUnread) (others : List Found) → AreApart (map bytes_of paths) → AreApart others
    → All HasOther others → AreApart (map unread_finding paths ++ others)
before_apart [] others apart also named = also
before_apart (p ∷ paths) others apart also named =
    AllPairs-cons (λ x y. x ≢ y) (unread_finding p) (map unread_finding paths ++ others)
    (All-append (λ y. unread_finding p ≢ y) (map unread_finding paths) others
    (All-map (λ y. unread_finding p ≢ y) unread_finding paths
    (All-under bytes_of (λ (q : PathUnread). unread_finding p ≢ unread_finding q) (λ bytes. p.bytes ≢ bytes)
    (λ q differ. unlike_path p q differ) paths (first_apart p.bytes (map bytes_of paths) apart)))
    (λ i d within. unlike_told p _ (named i d within)))
    (before_apart paths others (others_apart p.bytes (map bytes_of paths) apart) also named)

pub with_unread : (tree : List TreeFile) (unread : List PathUnread) (told : List Omission)
    → AreApart (map bytes_of unread)
    → AreApart (told_findings tree (told_beside unread told)) → AreApart (all_findings tree unread told)
with_unread tree [] told apart also = also
with_unread tree (first ∷ others) told apart also =
    before_apart (first ∷ others) (told_findings tree (filter is_read told)) apart also (have_other tree told)
