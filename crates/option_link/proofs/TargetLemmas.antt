-- A name has one target at most: each of its components names one entity.
use Rattle.std.proofs.Common.{◌≡◌, ◌⊎◌, inl, inr, ℕ, ◌+◌, ◌<◌, List, [], ◌∷◌, length, map, get_or, Some}
use Rattle.std.proofs.Common.{refl, ap, sym, ◌∙◌, subst, arith}
use Rattle.std.specs.List.{slice_get}
use Rattle.std.proofs.lemmas.Option.{same_Some, slice_get-get_or}
use Rattle.std.proofs.lemmas.Bool.{cases_lt}
use Rattle.std.proofs.lemmas.List.{same_lists}
use Rattle.proto_lex.specs.declared.span.Span.{Span}
use Rattle.proto_lex.specs.Lexed.{part_of}
use Rattle.proto_decl.specs.Names.{components_of, prefix_of}
use Rattle.proto_decl.specs.Facts.{Facts, AreOfSomeFile, NamesInOrder, PackageInOrder, UsesAreFilled, UsesInOrder}
use Rattle.proto_decl.specs.declared.declaration.Declaration.{Declaration}
use Rattle.proto_options.specs.declared.names.OptionName.{OptionName}
use Rattle.proto_options.specs.declared.names.OptionRole.{OptionRole}
use Rattle.proto_options.specs.declared.options.FileOption.{FileOption}
use Rattle.proto_visibility.specs.declared.clash.Duplicates.{Duplicates}
use Rattle.proto_visibility.specs.declared.lookup.Entity.{Entity}
use Rattle.proto_visibility.specs.Clashes.{NoClash}
use Rattle.proto_visibility.specs.Files.{File, HaveOrigins, IsSource}
use Rattle.proto_visibility.specs.Knows.{IsEntityOf}
use Rattle.proto_visibility.specs.Reaches.{IsReachable}
use Rattle.proto_visibility.specs.Reaches.IsReachable.{reached}
use Rattle.proto_visibility.specs.Reaches.Reaches.{sees as reaches_seen}
use Rattle.proto_visibility.proofs.FileFactLemmas.{one_list_of_facts}
use Rattle.proto_link.proofs.TargetOneLemmas.{one_entity}
use Rattle.option_link.specs.declared.contexts.Context.{Context}
use Rattle.option_link.specs.declared.facts.OptionFacts.{OptionFacts}
use Rattle.option_link.specs.declared.place.DeclaredPlace.{DeclaredPlace}
use Rattle.option_link.specs.declared.target.OptionTarget.{OptionTarget}
use Rattle.option_link.specs.Fields.{AreInOrder}
use Rattle.option_link.specs.Contexts.{HasWords, NamesAs, StandsIn, behind_spelled}
use Rattle.option_link.specs.Contexts.NamesAs.{field as names-field, group as names-group, extension as names-extension}
use Rattle.option_link.specs.Contexts.NamesAs.{item as names-item, packed as names-packed, value as names-value}
use Rattle.option_link.specs.OptionNames.{IsOptionTarget, NamesParts}
use Rattle.option_link.proofs.ContextLemmas.{one_context}
use Rattle.option_link.proofs.NameLemmas.{one_behind, one_named}
use Rattle.option_link.proofs.PlaceLemmas.{same_declaration}

mapped_one : (text : List ℕ) (spans : List Span) (word : List ℕ) → map (part_of text) spans ≡ word ∷ []
    → length spans ≡ 1
mapped_one text [] word e = absurd (omega (arith, ap length e))
mapped_one text (span ∷ []) word e = refl
mapped_one text (span ∷ (next ∷ others)) word e = absurd (omega (arith, ap length e))

one_component : (text : List ℕ) (name : OptionName) (word : List ℕ) → HasWords text name (word ∷ [])
    → length name.name.components ≡ 1
one_component text name word x = mapped_one text name.name.components word x.are

abbrev made : ℕ → List Entity → OptionTarget
made number parts = record { name_number = number; parts = parts }

one_OptionTarget : (a b : OptionTarget) → a.name_number ≡ b.name_number → a.parts ≡ b.parts → a ≡ b
one_OptionTarget a b number parts = ap (λ n. made n a.parts) number ∙ ap (made b.name_number) parts

-- A name has one component, or names something in a file that is reachable.
pub by_component_or_reachable : (files : List File) (known : List OptionFacts) (source : ℕ) → IsSource files source
    → (text : List ℕ) (option : FileOption) (number : ℕ) (name : OptionName) (acting : OptionRole) (context : Context)
    (at : DeclaredPlace) → NamesAs files known source text option number name acting context at
    → (length name.name.components ≡ 1) ⊎ IsReachable files at.file
by_component_or_reachable files known source is text option number name _ context at
    (names-field {word = w} words has own not) = inl (one_component text name w words)
by_component_or_reachable files known source is text option number name _ context at
    (names-group {word = w} words has least own) = inl (one_component text name w words)
by_component_or_reachable files known source is text option number name _ context at
    (names-extension words may from up owns stands named of_it) = inr (reached is (reaches_seen owns.gives.sees) owns.present)
by_component_or_reachable files known source is text option number name _ _ at
    (names-item words braces says from up unknown owns stands named first) =
    inr (subst (IsReachable files) (sym first.is.member.same_file)
    (reached is (reaches_seen owns.gives.sees) owns.present))
by_component_or_reachable files known source is text option number name _ _ at
    (names-packed words any called owns stands named) = inr (reached is (reaches_seen owns.gives.sees) owns.present)
by_component_or_reachable files known source is text option number name _ _ at
    (names-value {word = w} words of_enum around stands in_file named path) = inl (one_component text name w words)

module _ (files : List File) (origins : HaveOrigins files)
    (names : (facts : Facts) → AreOfSomeFile facts → NamesInOrder facts.declarations)
    (packages : (facts : Facts) → AreOfSomeFile facts → PackageInOrder facts) where
  pub parts_alike : (duplicates : Duplicates) → NoClash duplicates files → (name : OptionName) (at : DeclaredPlace)
      (behind : ℕ) (a b : List Entity) → (length name.name.components ≡ 1) ⊎ IsReachable files at.file
      → NamesParts files name at behind a → NamesParts files name at behind b → a ≡ b
  parts_alike duplicates clear name at behind a b which x y = same_lists a b (x.one_each ∙ sym y.one_each) each
    where
      is_last : (k : ℕ) (d : Entity) → k < length a → k + 1 ≡ length a → get_or a k d ≡ get_or b k d
      is_last k d within last =
          same_Some (get_or a k d) (get_or b k d)
          (sym (slice_get-get_or a k d within) ∙ (x.last k last ∙ (sym (y.last k (omega (
            arith,
            last,
            x.one_each,
            y.one_each,
          ))) ∙ slice_get-get_or b k d (omega (arith, within, x.one_each, y.one_each)))))

      by_entity : IsReachable files at.file → (k : ℕ) (d : Entity) → k < length a → k + 1 < length a
          → get_or a k d ≡ get_or b k d
      by_entity reachable k d within outer =
          let its = slice_get-get_or a k d within in
          let other = slice_get-get_or b k d (omega (arith, within, x.one_each, y.one_each)) in
          let declaration = same_declaration files at x.declaration y.declaration x.stands y.stands in
          let facts = one_list_of_facts files at.file x.facts y.facts x.known y.known in
          let skipped : x.skipped ≡ y.skipped =
          omega (arith, x.split, y.split, ap (λ (e : Declaration). length (components_of e.full_name)) declaration) in
          let Is : Facts → Declaration → ℕ → Type 0 = λ fs e s.
          IsEntityOf at.file fs (prefix_of e.full_name (s + k + 1)) (s + k + 1) (get_or a k d) in
          let by_facts = subst (λ fs. Is fs x.declaration x.skipped) facts (x.named k (get_or a k d) its outer) in
          let by_name = subst (λ e. Is y.facts e x.skipped) declaration by_facts in
          let moved = subst (Is y.facts y.declaration) skipped by_name in
          one_entity files origins names packages duplicates clear at.file reachable y.facts y.known
          (prefix_of y.declaration.full_name (y.skipped + k + 1)) (y.skipped + k + 1) (get_or a k d) (get_or b k d)
          moved (y.named k (get_or b k d) other (omega (arith, outer, x.one_each, y.one_each)))

      each : (k : ℕ) (d : Entity) → k < length a → get_or a k d ≡ get_or b k d
      each k d within = elim which [
        | inl one ↦ is_last k d within (omega (arith, within, one, x.one_each))
        | inr reachable ↦ elim (cases_lt (k + 1) (length a)) [
          | inl outer ↦ by_entity reachable k d within outer
          | inr last ↦ is_last k d within (omega (arith, within, last))
        ]
      ]

  module _ (known : List OptionFacts) (order : AreInOrder known)
      (uses : (facts : Facts) → AreOfSomeFile facts → UsesInOrder facts.uses)
      (filled : (facts : Facts) → AreOfSomeFile facts → UsesAreFilled facts.uses) where
    pub one_target : (duplicates : Duplicates) → NoClash duplicates files → (source : ℕ) → IsSource files source
        → (text : List ℕ) (option : FileOption) (a b : OptionTarget)
        → IsOptionTarget files known source text option a → IsOptionTarget files known source text option b
        → a.name_number ≡ b.name_number → a ≡ b
    one_target duplicates clear source is text option a b x y same =
        let p = x.names in
        let q = y.names in
        let numbered = subst (λ (n : ℕ). slice_get option.setting.names n ≡ Some x.name) same p.numbered in
        let name : x.name ≡ y.name = same_Some x.name y.name (sym numbered ∙ q.numbered) in
        let stands = subst (λ (n : ℕ). StandsIn files known source text option n p.context) same p.stands in
        let context = one_context files origins known order names uses filled source text option b.name_number
        p.context q.context stands q.stands in
        let Is : ℕ → OptionName → Context → Type 0 = λ n o c.
        (its : NamesAs files known source text option n o o.role c x.at)
        × (behind_spelled its ≡ behind_spelled p.names) in
        let by_number = subst (λ n. Is n x.name p.context) same (p.names, refl) in
        let by_name = subst (λ o. Is b.name_number o p.context) name by_number in
        let moved = subst (Is b.name_number y.name) context by_name in
        let at = one_named files known source text option b.name_number y.name y.name.role q.context x.at y.at
        moved.0 q.names in
        let behind : behind_spelled p.names ≡ behind_spelled q.names = sym moved.1
        ∙ one_behind files known source text option b.name_number y.name y.name.role q.context x.at y.at moved.0 q.names
        in
        let parts = subst (λ (place : DeclaredPlace). NamesParts files y.name place (behind_spelled q.names) a.parts) at
        (subst (λ (o : OptionName). NamesParts files o x.at (behind_spelled q.names) a.parts) name
        (subst (λ (n : ℕ). NamesParts files x.name x.at n a.parts) behind x.parts)) in
        one_OptionTarget a b same (parts_alike duplicates clear y.name y.at (behind_spelled q.names) a.parts b.parts
        (by_component_or_reachable files known source is text option b.name_number y.name y.name.role q.context y.at
        q.names) parts y.parts)
