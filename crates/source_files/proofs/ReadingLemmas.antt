-- What a phase answers, source by source, and the parts in which sources are read.
use Rattle.std.proofs.Common.{◌≡◌, ◌∙◌, ℕ, zero, suc, ◌<◌, Bool, true, false, List, [], ◌∷◌, ◌++◌, map, length, Option}
use Rattle.std.proofs.Common.{None, Result, Ok, refl, sym, ap, ap₂, subst, string_bytes, append_assoc, arith}
use Rattle.std.specs.List.{All, flat_map, slice_get}
use Rattle.std.specs.Option.{IfSome}
use Rattle.std.proofs.lemmas.Bool.{false≢true}
use Rattle.std.proofs.lemmas.Grind.{flat_map-append}
use Rattle.std.proofs.lemmas.List.{append-nil, map-append}
use Rattle.std.proofs.lemmas.List.Elements.{All-nil, All-cons, All-append}
use Rattle.index_pool.specs.Phase.{AnswersEach, IsLeastFault}
use Rattle.source_tree.specs.Files.{SourceFile, paths_of}
use Rattle.source_files.specs.Listings.{Listing}
use Rattle.source_files.specs.Unread.{Unread, at_path}
use Rattle.source_files.specs.declared.load_fault.LoadFault.{LoadFault}
use Rattle.source_files.specs.declared.load_fault.LoadFault.TheVariants as load
use Rattle.source_files.specs.declared.reading.ReadSource.{ReadSource}
use Rattle.source_files.specs.declared.reading.ReadSource.TheVariants.{Held, LeftOut}
use Rattle.source_files.specs.Roots.{AreRead, FilesBelow, IsHeld, is_read, is_unread, no_path, path_below, unread_file}
use Rattle.source_files.specs.Reading.{AddsRead, AreReadBut, GiveEach, GivesSource, IsFirstUnreadable, MayStopAt}
use Rattle.source_files.specs.Reading.{file_of, left_of}

-- the texts of a list in two parts
pub texts_of_parts : {S : Type 0} (text : S → List ℕ) (part behind rest : List S) → part ++ behind ≡ rest
    → map text part ++ map text behind ≡ map text rest
texts_of_parts text part behind rest parts = sym (map-append text part behind) ∙ ap (map text) parts

-- what was read of sources, and then of others
pub reads_more : (all more : List ReadSource) (old between new : FilesBelow) → AddsRead all old between
    → AddsRead more between new → AddsRead (all ++ more) old new
reads_more all more old between new first second = record {
  files_are =
      second.files_are
      ∙ (ap (λ (l : List SourceFile). l ++ map file_of more) first.files_are
      ∙ (append_assoc old.files (map file_of all) (map file_of more)
      ∙ ap (λ (l : List SourceFile). old.files ++ l) (sym (map-append file_of all more))));
  unread_are =
      second.unread_are
      ∙ (ap (λ (l : List Unread). l ++ flat_map left_of more) first.unread_are
      ∙ (append_assoc old.unread (flat_map left_of all) (flat_map left_of more)
      ∙ ap (λ (l : List Unread). old.unread ++ l) (sym (flat_map-append left_of all more))));
}

pub reads_none : (below : FilesBelow) → AddsRead [] below below
reads_none below =
    record { files_are = sym (append-nil below.files); unread_are = sym (append-nil below.unread) }

module _ (lists : List ℕ → List ℕ → Option Listing → Type 0) (gives : List ℕ → Option (List ℕ) → Type 0) where
  -- of two lists of paths
  read_append : {root : List ℕ} {paths more : List (List ℕ)} {sources others : List SourceFile}
      {unread gone : List Unread}
      → AreRead lists gives root paths sources unread → AreRead lists gives root more others gone
      → AreRead lists gives root (paths ++ more) (sources ++ others) (unread ++ gone)
  read_append no_path rest = rest
  read_append (is_read held front) rest = is_read held (read_append front rest)
  read_append (is_unread none front) rest = is_unread none (read_append front rest)

  -- where nothing is left out
  pub strict_read : {root : List ℕ} {paths : List (List ℕ)} {sources : List SourceFile} {unread : List Unread}
      → AreRead lists gives root paths sources unread → unread ≡ []
      → (paths_of sources ≡ paths) × All (IsHeld lists gives root) sources
  strict_read {root = root} no_path none = (refl, All-nil (IsHeld lists gives root))
  strict_read {root = root} (is_read {source = source} {sources = sources} held rest) none =
      let others = strict_read rest none in (
        ap (λ (l : List (List ℕ)). source.path ∷ l) others.0,
        All-cons (IsHeld lists gives root) source sources held others.1,
      )
  strict_read (is_unread gone rest) none = absurd (omega (arith, ap length none))

module _ (lists : List ℕ → List ℕ → Option Listing → Type 0) (gives : List ℕ → Option (List ℕ) → Type 0)
    (leaves_out : Bool)
    (root : List ℕ) where
  abbrev Read : (paths : List (List ℕ)) → List SourceFile → (unread : List Unread) → Type 0
  Read paths sources unread = AreRead lists gives root paths sources unread

  abbrev Gives : (path : List ℕ) → Result ReadSource LoadFault → Type 0
  Gives path result = GivesSource lists gives leaves_out root path result

  -- what is left out may be
  left_may : leaves_out ≡ false → leaves_out ≡ true → ⊥
  left_may strict leaves = false≢true (sym strict ∙ leaves)

  -- what is read and what is left out of the sources with these paths
  read_of : (paths : List (List ℕ)) (all : List ReadSource) → GiveEach lists gives leaves_out root paths all
      → Read paths (map file_of all) (flat_map left_of all)
  read_of [] [] give = no_path
  read_of [] (read ∷ all) give = absurd give
  read_of (path ∷ paths) [] give = absurd give
  read_of (path ∷ paths) (Held source ∷ all) give =
      subst (λ (p : List ℕ). Read (p ∷ paths) (source ∷ map file_of all) (flat_map left_of all)) give.0.0
      (is_read give.0.1 (read_of paths all give.1))
  read_of (path ∷ paths) (LeftOut left ∷ all) give =
      subst (λ (p : List ℕ). Read (path ∷ paths) (unread_file p ∷ map file_of all) (at_path p ∷ flat_map left_of all))
      (sym give.0.1) (is_unread give.0.2 (read_of paths all give.1))

  none_left : leaves_out ≡ false → (paths : List (List ℕ)) (all : List ReadSource)
      → GiveEach lists gives leaves_out root paths all → flat_map left_of all ≡ []
  none_left strict [] [] give = refl
  none_left strict [] (read ∷ all) give = absurd give
  none_left strict (path ∷ paths) [] give = absurd give
  none_left strict (path ∷ paths) (Held source ∷ all) give = none_left strict paths all give.1
  none_left strict (path ∷ paths) (LeftOut left ∷ all) give = absurd (left_may strict give.0.0)

  -- where nothing is left out a source that was read is held
  held_first : (path : List ℕ) → leaves_out ≡ false → (read : ReadSource) → Gives path (Ok read)
      → (source : SourceFile) × (source.path ≡ path) × IsHeld lists gives root source
  held_first path strict (Held source) given = (source, given.0, given.1)
  held_first path strict (LeftOut left) given = absurd (left_may strict given.0)

  module _ {S : Type 0} (text : S → List ℕ) where
    abbrev pub gives_each : List S → ℕ → Result ReadSource LoadFault → Type 0
    gives_each paths number result = IfSome (slice_get paths number) (λ path. Gives (text path) result)

    -- an answer for each path
    pub answers_each : (paths : List S) (all : List ReadSource) → AnswersEach (gives_each paths) (length paths) all
        → GiveEach lists gives leaves_out root (map text paths) all
    answers_each [] [] answers = tt
    answers_each [] (read ∷ all) answers = absurd (omega (arith, answers.0))
    answers_each (path ∷ paths) [] answers = absurd (omega (arith, answers.0))
    answers_each (path ∷ paths) (read ∷ all) answers = (
      answers.1 0 read refl,
      answers_each paths all (omega (arith, answers.0), λ number out at. answers.1 (suc number) out at),
    )

    -- the first path whose source isn't read
    first_unreadable : (paths : List S) (number : ℕ) (name : List ℕ) → number < length paths
        → IfSome (slice_get paths number)
        (λ path. (leaves_out ≡ false) × (name ≡ text path) × gives (path_below root (text path)) None)
        → ((lesser : ℕ) → lesser < number → (out : ReadSource) × gives_each paths lesser (Ok out))
        → (leaves_out ≡ false) × IsFirstUnreadable lists gives leaves_out root (map text paths) name
    first_unreadable [] number name within unread before = absurd (omega (arith, within))
    first_unreadable (path ∷ paths) zero name within unread before = (
      unread.0,
      record {
        sources = [];
        behind = map text paths;
        paths_are = ap (λ (p : List ℕ). p ∷ map text paths) (sym unread.1);
        held = All-nil (IsHeld lists gives root);
        unreadable = subst (λ (p : List ℕ). gives (path_below root p) None) (sym unread.1) unread.2;
      },
    )
    first_unreadable (path ∷ paths) (suc number) name within unread before =
        let others = first_unreadable paths number name (omega (arith, within)) unread
        (λ lesser less. before (suc lesser) (omega (arith, less))) in
        let out = before 0 (omega arith) in
        let first = held_first (text path) others.0 out.0 out.1 in (
          others.0,
          record {
            sources = first.0 ∷ others.1.sources;
            behind = others.1.behind;
            paths_are = ap₂ (λ (p : List ℕ) (ps : List (List ℕ)). p ∷ ps) (sym first.1) others.1.paths_are;
            held = All-cons (IsHeld lists gives root) first.0 others.1.sources first.2 others.1.held;
            unreadable = others.1.unreadable;
          },
        )

    -- no fault but these comes
    no_other : (paths : List S) (number : ℕ) → number < length paths → IfSome (slice_get paths number) (λ _. ⊥) → ⊥
    no_other [] number within other = absurd (omega (arith, within))
    no_other (path ∷ paths) zero within other = other
    no_other (path ∷ paths) (suc number) within other = no_other paths number (omega (arith, within)) other

    -- the least fault
    pub stops_at : (paths : List S) (number : ℕ) (fault : LoadFault)
        → IsLeastFault (gives_each paths) (length paths) number fault
        → MayStopAt lists gives leaves_out root (map text paths) fault
    stops_at paths number (load.Unreadable name) least =
        first_unreadable paths number (string_bytes name) least.0 least.1 least.2
    stops_at paths number load.TooMany least = absurd (no_other paths number least.0 least.1)
    stops_at paths number (load.BadPath name) least = absurd (no_other paths number least.0 least.1)
    stops_at paths number (load.SamePath name) least = absurd (no_other paths number least.0 least.1)
    stops_at paths number load.Memory least = tt

  -- what was read of the sources before those that are left
  pub record AreReadFar (paths rest : List (List ℕ)) (below : FilesBelow) : Type 0 where
    pub front : List (List ℕ)
    pub parts : front ++ rest ≡ paths
    pub read : AreReadBut lists gives leaves_out root front below

  pub none_read : (paths : List (List ℕ)) → AreReadFar paths paths (record { files = []; unread = [] })
  none_read paths = record { front = []; parts = refl; read = record { read = no_path; whole = λ _. refl } }

  -- one part more
  pub part_more : (paths rest part behind : List (List ℕ)) (all : List ReadSource) (old new : FilesBelow)
      → part ++ behind ≡ rest → AreReadFar paths rest old → GiveEach lists gives leaves_out root part all
      → AddsRead all old new → AreReadFar paths behind new
  part_more paths rest part behind all old new parts far give adds = record {
    front = far.front ++ part;
    parts = append_assoc far.front part behind ∙ (ap (λ l. far.front ++ l) parts ∙ far.parts);
    read = record {
      read =
          let both = read_append lists gives far.read.read (read_of part all give) in
          subst (λ (l : List SourceFile). Read (far.front ++ part) l new.unread) (sym adds.files_are)
          (subst (λ (l : List Unread). Read (far.front ++ part) (old.files ++ map file_of all) l)
          (sym adds.unread_are) both);
      whole =
          λ strict.
          adds.unread_are
          ∙ (ap (λ (l : List Unread). old.unread ++ l) (none_left strict part all give)
          ∙ (append-nil old.unread ∙ far.read.whole strict));
    };
  }

  -- in the next part a source isn't read
  pub part_stops : (paths rest part behind : List (List ℕ)) (below : FilesBelow) (fault : LoadFault)
      → part ++ behind ≡ rest → AreReadFar paths rest below → MayStopAt lists gives leaves_out root part fault
      → MayStopAt lists gives leaves_out root paths fault
  part_stops paths rest part behind below (load.Unreadable name) parts far stop =
      let first = stop.1 in
      let here = strict_read lists gives far.read.read (far.read.whole stop.0) in
      let all = ap (λ (ps : List (List ℕ)). ps ++ behind) first.paths_are in (
        stop.0,
        record {
          sources = below.files ++ first.sources;
          behind = first.behind ++ behind;
          paths_are =
              sym far.parts
              ∙ (ap (λ (ps : List (List ℕ)). ps ++ rest) (sym here.0)
              ∙ (ap (λ (ps : List (List ℕ)). paths_of below.files ++ ps)
              (sym parts ∙ (all ∙ append_assoc (paths_of first.sources) (string_bytes name ∷ first.behind) behind))
              ∙ (sym (append_assoc (paths_of below.files) (paths_of first.sources)
              (string_bytes name ∷ (first.behind ++ behind)))
              ∙ ap (λ (ps : List (List ℕ)). ps ++ string_bytes name ∷ (first.behind ++ behind))
              (sym (map-append (λ (file : SourceFile). file.path) below.files first.sources)))));
          held = All-append (IsHeld lists gives root) below.files first.sources here.1 first.held;
          unreadable = first.unreadable;
        },
      )
  part_stops paths rest part behind below load.TooMany parts far stop = absurd stop
  part_stops paths rest part behind below (load.BadPath name) parts far stop = absurd stop
  part_stops paths rest part behind below (load.SamePath name) parts far stop = absurd stop
  part_stops paths rest part behind below load.Memory parts far stop = tt

  -- no part is left
  pub all_read : (paths rest : List (List ℕ)) (below : FilesBelow) → rest ≡ [] → AreReadFar paths rest below
      → AreReadBut lists gives leaves_out root paths below
  all_read paths rest below none far =
      let whole = sym (append-nil far.front) ∙ (ap (λ l. far.front ++ l) (sym none) ∙ far.parts) in
      subst (λ l. AreReadBut lists gives leaves_out root l below) whole far.read
