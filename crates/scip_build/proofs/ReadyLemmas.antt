-- Files that were read are ready for their documents.
use Rattle.std.proofs.Common.{◌≡◌, ◌∙◌, ℕ, ◌+◌, ◌<◌, ◌≤◌, zero, suc, Bool, false, true, not, List, [], ◌∷◌}
use Rattle.std.proofs.Common.{length}
use Rattle.std.proofs.Common.{map, Option, Some, None, Result, Ok, Err, ap, sym, refl, subst, arith}
use Rattle.std.specs.List.{slice_get, prefix_len}
use Rattle.std.specs.Option.{option_map, unwrap_or}
use Rattle.std.specs.List.Sorted.{IsStrictlyIncreasing}
use Rattle.std.specs.declared.cmp.Ordering.TheVariants.{Less}
use Rattle.std.specs.Ordering.{nat_cmp, bool_cmp, ordering_then}
use Rattle.std.specs.Cmp.Lexicographic.{slice_cmp}
use Rattle.std.proofs.lemmas.List.{length-map}
use Rattle.std.proofs.lemmas.Option.{same_Some, none-some, slice_get-map, slice_get_within, get_or_from_slice_get}
use Rattle.std.proofs.lemmas.Bool.{and_parts, not-true}
use Rattle.basics.proofs.ListLemmas.{item_at}
use Rattle.basics.proofs.FirstLemmas.{at_contained}
use Rattle.proto_decl.specs.declared.form.FactForm.{FactForm}
use Rattle.proto_parse.specs.dialect.Dialect.TheVariants.{All}
use Rattle.proto_options.specs.Laws.{FieldsStandInOrder}
use Rattle.proto_options.specs.declared.fields.FieldFact.{FieldFact}
use Rattle.option_link.specs.declared.facts.OptionFacts.{OptionFacts}
use Rattle.option_link.specs.Beside.{nothing_beside}
use Rattle.option_link.specs.Fields.{AreInOrder}
use Rattle.scip_build.specs.declared.read_form.ReadForm.{ReadForm}
use Rattle.proto_parse.specs.dialect.Dialect.{Dialect}
use Rattle.proto_decl.specs.Facts.{Facts, AreFactsOf, AreOfSomeFile}
use Rattle.proto_decl.specs.Values.{Seen}
use Rattle.proto_decl.specs.declared.declaration.Declaration.{Declaration}
use Rattle.index_hooks.specs.declared.choice.Choice.{Choice}
use Rattle.proto_visibility.specs.Files.{File, HasFacts, HaveOrigins, IsSource}
use Rattle.proto_visibility.specs.Reaches.Reaches.{sees}
use Rattle.proto_visibility.specs.Reaches.IsReachable.{reached}
use Rattle.proto_visibility.specs.Sees.SeesBy.{itself}
use Rattle.proto_visibility.specs.declared.clash.Duplicates.{Duplicates}
use Rattle.proto_visibility.specs.Linked.{HaveClearNames}
use Rattle.scip_symbol.specs.Path.{IsGoodPath}
use Rattle.scip_model.specs.Chosen.{HaveChoices}
use Rattle.scip_model.specs.Conditions.{HaveGoodPaths, AreOfText, HasText}
use Rattle.scip_model.specs.Options.{AllLinkOptions}
use Rattle.source_tree.specs.Files.{TreeFile, file_cmp}
use Rattle.source_tree.specs.Trees.{IsTree}
use Rattle.scip_build.specs.declared.faulty.Faulty.{Faulty}
use Rattle.scip_build.specs.declared.fault.FileFault.{FileFault}
use Rattle.scip_build.specs.Parsed.{asks_options, form_by, AreFactsIn, IsBesideIf}
use Rattle.scip_build.specs.Files.{FileContents, ReadFile}
use Rattle.scip_build.specs.ParsedFiles.{seen_of, HasContents, IsParsedFile, AreParsedFiles}
use Rattle.scip_build.specs.Linking.{facts_in, linked_file, linked_files, choices_in, choices_of}
use Rattle.scip_build.specs.Ready.{AreWhole, AreWholeIfRead, HasFieldsInOrder, parsed_file_cmp, AreOfTree, ArePresent}
use Rattle.scip_build.specs.Keeping.{is_source}
use Rattle.scip_build.specs.Documents.{beside_in, known_in, text_of, HasReadText, IsRead, AreReady}
use Rattle.scip_build.proofs.LinkingLemmas.{mapped_at, own_paths}
use Rattle.basics.proofs.PlaceLemmas.{beside, rising_at}

mapped : {A B : Type 0} (f : A → B) (xs : List A) (k : ℕ) (x : A) → slice_get xs k ≡ Some x
    → slice_get (map f xs) k ≡ Some (f x)
mapped f xs k x at = slice_get-map f xs k ∙ ap (option_map f) at

-- ---- of a tree

-- facts of a file's bytes are facts of that text
of_text : (dialect : Dialect) (form : FactForm) (number : ℕ) (bytes : List ℕ) (facts : Facts)
    → AreFactsIn dialect form number bytes facts → AreOfText bytes facts
of_text dialect form number bytes facts has =
    let Of : ℕ → Type 0 = λ n. AreFactsOf (form_by dialect form) n has.lexed has.tree facts in
    record {
      origin = record {
        form = form_by dialect form;
        lexed = has.lexed;
        file = has.tree;
        is_lexed = has.lexing.is_lexed;
        derives = (dialect, has.derives);
        of_file = subst Of (sym has.of_tree.numbered) has.of_tree;
      };
      text_is = has.lexing.of_bytes;
    }

whole : (faulty : Faulty) (dialect : Dialect) (form : ReadForm) (allows : Seen → Choice → Type 0) (number : ℕ)
    (file : TreeFile) (contents : Result FileContents FileFault)
    → HasContents faulty dialect form allows number file contents → AreWholeIfRead contents
whole faulty dialect form allows number file (Ok contents) has =
    let Of : List ℕ → Type 0 = λ bytes. AreOfText bytes contents.facts in
    let may_come : Declaration → Choice → Type 0 = λ declaration choice. allows (seen_of declaration) choice in
    record {
      of_text = subst Of (sym has.0) (of_text dialect form.facts number file.text contents.facts has.1.facts_in);
      chosen = λ index declared at.
          beside may_come contents.facts.declarations contents.choices index declared has.1.chosen at;
    }
whole faulty dialect form allows number file (Err fault) has = tt

-- the fields that are known of it stand in order
abbrev AreRising : List FieldFact → Type 0
AreRising fields = IsStrictlyIncreasing (map (λ fact. fact.name.start) fields)

abbrev Rises : Option OptionFacts → Type 0
Rises known = AreRising (unwrap_or known nothing_beside).fields

none_rises : AreRising []
none_rises k within = absurd (omega (arith, within))

rises_beside : FieldsStandInOrder → (asked : Bool) (bytes : List ℕ) (is_included : Bool) (contents : FileContents)
    (beside : Option OptionFacts) → IsBesideIf asked bytes is_included beside → contents.beside ≡ beside
    → HasFieldsInOrder (Ok contents)
rises_beside in_order false bytes is_included contents beside is same =
    subst Rises (sym (same ∙ is)) none_rises
rises_beside in_order true bytes is_included contents None is same = absurd is
rises_beside in_order true bytes is_included contents (Some beside) is same =
    subst Rises (sym same) (subst AreRising (sym is.fields)
    (in_order is.lexed is.tree is.lexing.is_lexed (All, is.derives)))

fields_rise : FieldsStandInOrder → (faulty : Faulty) (dialect : Dialect) (form : ReadForm)
    (allows : Seen → Choice → Type 0) (number : ℕ) (file : TreeFile) (contents : Result FileContents FileFault)
    → HasContents faulty dialect form allows number file contents → HasFieldsInOrder contents
fields_rise in_order faulty dialect form allows number file (Ok contents) has =
    rises_beside in_order (asks_options dialect form.options) file.text file.is_included contents contents.beside
    has.2 refl
fields_rise in_order faulty dialect form allows number file (Err fault) has = none_rises

module _ (faulty : Faulty) (dialect : Dialect) (form : ReadForm) (allows : Seen → Choice → Type 0)
    (tree : List TreeFile) (parsed : List ReadFile) (are : AreParsedFiles faulty dialect form allows tree parsed) where
  -- the file that a reading is one of
  record IsReadAt (number : ℕ) (parsed_file : ReadFile) : Type 0 where
    file : TreeFile
    numbered : slice_get tree number ≡ Some file
    is : IsParsedFile faulty dialect form allows number file parsed_file

  read_at : (number : ℕ) (parsed_file : ReadFile) → slice_get parsed number ≡ Some parsed_file
      → IsReadAt number parsed_file
  read_at number parsed_file at =
      let within : number < length tree = rw (sym are.one_each) (slice_get_within parsed number parsed_file at) in
      let there = item_at tree number within in
      record { file = there.0; numbered = there.1; is = are.each number there.0 parsed_file there.1 at }

  pub whole_at : (number : ℕ) (parsed_file : ReadFile) → slice_get parsed number ≡ Some parsed_file
      → AreWholeIfRead parsed_file.contents
  whole_at number parsed_file at =
      let read = read_at number parsed_file at in
      whole faulty dialect form allows number read.file parsed_file.contents read.is.contents

  pub present_at : ArePresent parsed
  present_at number parsed_file at = (read_at number parsed_file at).is.present

  module _ (in_order : FieldsStandInOrder) (is_tree : IsTree tree) where
    good_at : (number : ℕ) (parsed_file : ReadFile) → slice_get parsed number ≡ Some parsed_file
        → IsGoodPath parsed_file.path
    good_at number parsed_file at =
        let read = read_at number parsed_file at in
        let Good : TreeFile → Type 0 = λ f. IsGoodPath f.path in
        let good : IsGoodPath read.file.path =
        subst Good (get_or_from_slice_get tree number read.file read.file read.numbered)
        (is_tree.good number read.file (slice_get_within tree number read.file read.numbered)) in
        subst IsGoodPath (sym read.is.path) good

    fields_at : (number : ℕ) (parsed_file : ReadFile) → slice_get parsed number ≡ Some parsed_file
        → HasFieldsInOrder parsed_file.contents
    fields_at number parsed_file at =
        let read = read_at number parsed_file at in
        fields_rise in_order faulty dialect form allows number read.file parsed_file.contents read.is.contents

    rises : (lesser number : ℕ) (a b : ReadFile) → lesser < number → slice_get parsed lesser ≡ Some a
        → slice_get parsed number ≡ Some b → parsed_file_cmp a b ≡ Less
    rises lesser number a b less at and =
        let first = read_at lesser a at in
        let second = read_at number b and in
        let up = rising_at file_cmp tree lesser number first.file second.file is_tree.rising less first.numbered
        second.numbered in
        let There : List ℕ → List ℕ → Bool → Bool → Type 0 =
        λ p q x y. ordering_then (bool_cmp x y) (slice_cmp nat_cmp p q) ≡ Less in
        let Marked : Bool → Bool → Type 0 =
        λ x y. ordering_then (bool_cmp x y) (ordering_then (bool_cmp a.is_included b.is_included)
        (slice_cmp nat_cmp a.path b.path)) ≡ Less in
        let by_x = subst (λ x. There first.file.path second.file.path x second.file.is_included)
        (sym first.is.is_included) up in
        let by_y = subst (λ y. There first.file.path second.file.path a.is_included y) (sym second.is.is_included) by_x
        in
        let by_p = subst (λ p. There p second.file.path a.is_included b.is_included) (sym first.is.path) by_y in
        let both : Marked false false =
        subst (λ q. There a.path q a.is_included b.is_included) (sym second.is.path) by_p in
        subst (Marked a.is_left_out) (sym second.is.present)
        (subst (λ x. Marked x false) (sym first.is.present) both)

    pub of_tree : AreOfTree (asks_options dialect form.options) parsed
    of_tree = record {
      few = rw are.one_each is_tree.few;
      each = λ number parsed_file at.
          record {
            good = good_at number parsed_file at;
            contents = whole_at number parsed_file at;
            fields = fields_at number parsed_file at;
            links_are = (read_at number parsed_file at).is.links;
          };
      own = own_paths faulty dialect form allows tree parsed are is_tree.own;
      rising = rises;
    }

-- ---- their facts

-- the reading of a file with facts
pub record HasParsedFile (parsed : List ReadFile) (number : ℕ) (facts : Facts) : Type 0 where
  pub parsed_file : ReadFile
  pub at : slice_get parsed number ≡ Some parsed_file
  pub contents : FileContents
  pub read : parsed_file.contents ≡ Ok contents
  pub facts_are : contents.facts ≡ facts

module _ (parsed : List ReadFile)
    (whole : (number : ℕ) (parsed_file : ReadFile) → slice_get parsed number ≡ Some parsed_file
    → AreWholeIfRead parsed_file.contents) where
  with_contents : (number : ℕ) (facts : Facts) (parsed_file : ReadFile) → slice_get parsed number ≡ Some parsed_file
      → (contents : Result FileContents FileFault) → parsed_file.contents ≡ contents
      → facts_in contents ≡ Some facts → HasParsedFile parsed number facts
  with_contents number facts parsed_file at (Ok contents) is known = record {
    parsed_file = parsed_file;
    at = at;
    contents = contents;
    read = is;
    facts_are = same_Some contents.facts facts known;
  }
  with_contents number facts parsed_file at (Err fault) is known = absurd (none-some facts known)

  pub parsed_file_of : (number : ℕ) (facts : Facts) → HasFacts (linked_files parsed) number facts
      → HasParsedFile parsed number facts
  parsed_file_of number facts has =
      let read = mapped_at linked_file parsed number has.file has.numbered in
      with_contents number facts read.0 read.1 read.0.contents refl
      (sym (ap (λ (f : File). f.facts) read.2) ∙ has.known)

  whole_of : (number : ℕ) (facts : Facts) (of : HasParsedFile parsed number facts) → AreWhole of.contents
  whole_of number facts of = subst AreWholeIfRead of.read (whole number of.parsed_file of.at)

  pub have_origins : HaveOrigins (linked_files parsed)
  have_origins number facts known =
      let of = parsed_file_of number facts known in
      subst AreOfSomeFile of.facts_are (whole_of number facts of).of_text.origin

  has_text : (number : ℕ) (text : List ℕ) → HasReadText parsed number text
      → HasText (linked_files parsed) number text
  has_text number text has facts known =
      let of = parsed_file_of number facts known in
      let same : of.parsed_file ≡ has.parsed_file = same_Some of.parsed_file has.parsed_file
      (sym of.at ∙ has.numbered) in
      let contents : of.contents ≡ has.contents =
      one_ok of.contents has.contents (sym of.read ∙ (ap (λ (r : ReadFile). r.contents) same ∙ has.read)) in
      let Of : List ℕ → Type 0 = λ t. AreOfText t facts in
      let Whole : Facts → Type 0 = λ f. AreOfText of.contents.text f in
      subst Of (ap (λ (c : FileContents). c.text) contents ∙ has.text_is)
      (subst Whole of.facts_are (whole_of number facts of).of_text)
    where
      one_ok : (a b : FileContents) → ◌≡◌ {A = Result FileContents FileFault} (Ok a) (Ok b) → a ≡ b
      one_ok a b e = cc

  has_choices : HaveChoices (linked_files parsed) (map choices_of parsed)
  has_choices number index facts declared has =
      let of = parsed_file_of number facts has.has_facts in
      let In : Facts → Type 0 = λ f. slice_get f.declarations index ≡ Some declared in
      let chosen = (whole_of number facts of).chosen index declared (subst In (sym of.facts_are) has.numbered) in (
        chosen.0,
        record {
          of_file = of.contents.choices;
          file_is = mapped choices_of parsed number of.parsed_file of.at ∙ ap (λ c. Some (choices_in c)) of.read;
          declaration_is = chosen.1;
        },
      )

-- ---- what is known beside them

-- the fields of each file stand in order
pub in_order_of : {links : Bool} (parsed : List ReadFile) → AreOfTree links parsed → AreInOrder (known_in parsed)
in_order_of parsed tree beside there =
    let at = at_contained (known_in parsed) beside there in
    let of = mapped_at (λ (parsed_file : ReadFile). beside_in parsed_file.contents) parsed there.0 beside at in
    subst (λ (known : OptionFacts). IsStrictlyIncreasing (map (λ fact. fact.name.start) known.fields)) (sym of.2)
    (tree.each there.0 of.0 of.1).fields

-- ---- the sources in front

module _ {X : Type 0} (p : X → Bool) where
  chosen_length : (x : X) (xs : List X) → p x ≡ true → prefix_len p (x ∷ xs) ≡ 1 + prefix_len p xs
  chosen_length x xs e = rw e refl

  none_length : (x : X) (xs : List X) → p x ≡ false → prefix_len p (x ∷ xs) ≡ zero
  none_length x xs e = rw e refl

  -- what is below the length of the front passes
  front_passes : (xs : List X) (k : ℕ) (x : X) → slice_get xs k ≡ Some x → k < prefix_len p xs → p x ≡ true
  front_passes [] k x at below = absurd (none-some x at)
  front_passes (y ∷ ys) k x at below = by (λ j. front_passes ys j x) (p y) refl k at below
    where
      by : ((j : ℕ) → slice_get ys j ≡ Some x → j < prefix_len p ys → p x ≡ true) → (b : Bool) → p y ≡ b → (k : ℕ)
          → slice_get (y ∷ ys) k ≡ Some x → k < prefix_len p (y ∷ ys) → p x ≡ true
      by more true e zero at below = subst (λ (z : X). p z ≡ true) (same_Some y x at) e
      by more true e (suc k) at below = more k at (let n = chosen_length y ys e in omega (arith, n, below))
      by more false e k at below = absurd (let n = none_length y ys e in omega (arith, n, below))

  -- and what passes is below it, where all before such a one passes, too
  in_front : (xs : List X) → ((i j : ℕ) (a b : X) → i < j → slice_get xs i ≡ Some a → slice_get xs j ≡ Some b
      → p b ≡ true → p a ≡ true)
      → (k : ℕ) (x : X) → slice_get xs k ≡ Some x → p x ≡ true → k < prefix_len p xs
  in_front [] first k x at is = absurd (none-some x at)
  in_front (y ∷ ys) first zero x at is =
      let n = chosen_length y ys (subst (λ (z : X). p z ≡ true) (sym (same_Some y x at)) is) in omega (arith, n)
  in_front (y ∷ ys) first (suc k) x at is =
      let n = chosen_length y ys (first zero (suc k) y x (omega arith) refl at is) in
      let more = in_front ys (λ i j a b less. first (suc i) (suc j) a b (omega (arith, less))) k x at is in
      omega (arith, n, more)

  front_within : (xs : List X) → (k : ℕ) → k < prefix_len p xs → k < length xs
  front_within [] k below = absurd (omega (arith, below))
  front_within (y ∷ ys) k below = by (λ j. front_within ys j) (p y) refl k below
    where
      by : ((j : ℕ) → j < prefix_len p ys → j < length ys) → (b : Bool) → p y ≡ b → (k : ℕ)
          → k < prefix_len p (y ∷ ys) → k < length (y ∷ ys)
      by more true e zero below = omega arith
      by more true e (suc k) below =
          let n = chosen_length y ys e in
          let rest = more k (omega (arith, n, below)) in
          omega (arith, rest)
      by more false e k below = absurd (let n = none_length y ys e in omega (arith, n, below))

  pub front_most : (xs : List X) → prefix_len p xs ≤ length xs
  front_most [] = omega arith
  front_most (y ∷ ys) = by (front_most ys) (p y) refl
    where
      by : prefix_len p ys ≤ length ys → (b : Bool) → p y ≡ b → prefix_len p (y ∷ ys) ≤ length (y ∷ ys)
      by more true e = let n = chosen_length y ys e in omega (arith, n, more)
      by more false e = let n = none_length y ys e in omega (arith, n)

-- ---- they are ready

-- neither included nor left out
record IsFront (parsed_file : ReadFile) : Type 0 where
  source : parsed_file.is_included ≡ false
  present : parsed_file.is_left_out ≡ false

passes_front : (parsed_file : ReadFile) → IsFront parsed_file → is_source parsed_file ≡ true
passes_front parsed_file of = rw of.source (rw of.present refl)

front_if : (parsed_file : ReadFile) → is_source parsed_file ≡ true → IsFront parsed_file
front_if parsed_file passes =
    let parts = and_parts (not parsed_file.is_included) (not parsed_file.is_left_out) passes in
    record {
      source = not-true parsed_file.is_included parts.0;
      present = not-true parsed_file.is_left_out parts.1;
    }

-- the order of two files by these marks
abbrev There : (a b : ReadFile) → (x y u v : Bool) → Type 0
There a b x y u v =
    ordering_then (bool_cmp x y) (ordering_then (bool_cmp u v) (slice_cmp nat_cmp a.path b.path)) ≡ Less

-- of two files of which the later one is a source
source_first : (a b : ReadFile) → parsed_file_cmp a b ≡ Less → IsFront b → IsFront a
source_first a b less of = by a.is_left_out a.is_included refl refl
  where
    moved : (x u : Bool) → a.is_left_out ≡ x → a.is_included ≡ u → There a b x false u false
    moved x u e f =
        let one = subst (λ z. There a b z b.is_left_out a.is_included b.is_included) e less in
        let two = subst (λ z. There a b x z a.is_included b.is_included) of.present one in
        let three = subst (λ z. There a b x false z b.is_included) f two in
        subst (λ z. There a b x false u z) of.source three

    never_left : (u : Bool) → There a b true false u false → ⊥
    never_left u there = cc

    never_included : There a b false false true false → ⊥
    never_included there = cc

    by : (x u : Bool) → a.is_left_out ≡ x → a.is_included ≡ u → IsFront a
    by false false e f = record { source = f; present = e }
    by false true e f = absurd (never_included (moved false true e f))
    by true u e f = absurd (never_left u (moved true u e f))

by_path : (a b : ReadFile) → IsFront a → IsFront b → parsed_file_cmp a b ≡ Less
    → slice_cmp nat_cmp a.path b.path ≡ Less
by_path a b first second less =
    let one = subst (λ z. There a b z b.is_left_out a.is_included b.is_included) first.present less in
    let two = subst (λ z. There a b false z a.is_included b.is_included) second.present one in
    let three = subst (λ z. There a b false false z b.is_included) first.source two in
    subst (λ z. There a b false false false z) second.source three

-- where names in their options are linked, those of all sources are
pub link_options : {links : Bool} (parsed : List ReadFile) → AreOfTree links parsed → links ≡ true
    → AllLinkOptions (linked_files parsed)
link_options parsed tree so source is =
    let read = mapped_at linked_file parsed source is.file is.numbered in
    record {
      file = linked_file read.0;
      numbered = mapped linked_file parsed source read.0 read.1;
      links = (tree.each source read.0 read.1).links_are ∙ so;
    }

module _ {links : Bool} (duplicates : Duplicates) (parsed : List ReadFile) (tree : AreOfTree links parsed)
    (clear : HaveClearNames duplicates (linked_files parsed)) where
  abbrev count : ℕ
  count = prefix_len is_source parsed

  is_below : (number : ℕ) → IsSource (linked_files parsed) number → number < count
  is_below number is =
      let read = mapped_at linked_file parsed number is.file is.numbered in
      let front : IsFront read.0 = record {
        source = sym (ap (λ (f : File). f.is_included) read.2) ∙ is.source;
        present = sym (ap (λ (f : File). f.is_left_out) read.2) ∙ is.present;
      } in
      in_front is_source parsed
      (λ i j a b less at and passes. passes_front a
      (source_first a b (tree.rising i j a b less at and) (front_if b passes)))
      number read.0 read.1 (passes_front read.0 front)

  source_at : (number : ℕ) → number < count
      → (parsed_file : ReadFile) × (slice_get parsed number ≡ Some parsed_file) × IsFront parsed_file
  source_at number below =
      let there = item_at parsed number (front_within is_source parsed number below) in (
        there.0,
        there.1,
        front_if there.0 (front_passes is_source parsed number there.0 there.1 below),
      )

  is_source_at : (number : ℕ) → number < count → IsSource (linked_files parsed) number
  is_source_at number below =
      let there = source_at number below in
      record {
        file = linked_file there.0;
        numbered = mapped linked_file parsed number there.0 there.1;
        source = there.2.source;
        present = there.2.present;
      }

  read_in : (number : ℕ) (parsed_file : ReadFile) → slice_get parsed number ≡ Some parsed_file
      → IsFront parsed_file → (contents : Result FileContents FileFault) → parsed_file.contents ≡ contents
      → IsRead parsed number
  read_in number parsed_file at front (Ok contents) is = (
    contents.text,
    record {
      parsed_file = parsed_file;
      contents = contents;
      numbered = at;
      read = is;
      text_is = refl;
    },
  )
  read_in number parsed_file at front (Err fault) is =
      let file = linked_file parsed_file in
      let numbered = mapped linked_file parsed number parsed_file at in
      absurd (clear.read number (record {
        file = file;
        counts = reached (record { file = file; numbered = numbered; source = front.source; present = front.present })
            (sees itself) (record { file = file; numbered = numbered; present = front.present });
        numbered = numbered;
        unread = ap facts_in is;
      }))

  reads : (number : ℕ) → number < count → IsRead parsed number
  reads number below =
      let there = source_at number below in read_in number there.0 there.1 there.2 there.0.contents refl

  ascends : (lesser number : ℕ) (a b : File) → lesser < number → number < count
      → slice_get (linked_files parsed) lesser ≡ Some a → slice_get (linked_files parsed) number ≡ Some b
      → slice_cmp nat_cmp a.path b.path ≡ Less
  ascends lesser number a b less below at and =
      let first = mapped_at linked_file parsed lesser a at in
      let second = mapped_at linked_file parsed number b and in
      let front = front_if second.0 (front_passes is_source parsed number second.0 second.1 below) in
      let up = tree.rising lesser number first.0 second.0 less first.1 second.1 in
      rw (first.2, second.2) (by_path first.0 second.0 (source_first first.0 second.0 up front) front up)

  good_paths : HaveGoodPaths (linked_files parsed)
  good_paths number file at =
      let read = mapped_at linked_file parsed number file at in
      rw read.2 (tree.each number read.0 read.1).good

  whole_each : (number : ℕ) (parsed_file : ReadFile) → slice_get parsed number ≡ Some parsed_file
      → AreWholeIfRead parsed_file.contents
  whole_each number parsed_file at = (tree.each number parsed_file at).contents

  pub are_ready : AreReady parsed (linked_files parsed) (map choices_of parsed) count
  are_ready = record {
    sources = λ number. (is_source_at number, is_below number);
    read = reads;
    texts = has_text parsed whole_each;
    good = good_paths;
    rising = ascends;
    choices = has_choices parsed whole_each;
    one_text_each = length-map parsed text_of ∙ sym (length-map parsed linked_file);
  }
