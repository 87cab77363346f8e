-- What a name names has no fewer components than the name.
use Rattle.std.proofs.Common.{◌≡◌, ◌==◌, ◌+◌, ℕ, ◌<◌, ◌≤◌, Bool, List, [], ◌∷◌, length, length-append, ap, sym, ◌∙◌}
use Rattle.std.proofs.Common.{subst, arith}
use Rattle.std.proofs.lemmas.List.{length-map}
use Rattle.std.proofs.lemmas.List.Splits.{length-slice_split}
use Rattle.proto_lex.specs.Lexed.{part_of}
use Rattle.proto_decl.specs.Names.{HasNoDot, components_of, dotted, qualified}
use Rattle.proto_decl.specs.Facts.{Facts, AreOfSomeFile, NamesAreFilled}
use Rattle.proto_decl.specs.declared.declaration.Declaration.{Declaration}
use Rattle.proto_decl.proofs.NameComponentLemmas.{is_plain, of_behind}
use Rattle.proto_options.specs.declared.names.OptionName.{OptionName}
use Rattle.proto_options.specs.declared.names.OptionRole.{OptionRole}
use Rattle.proto_options.specs.declared.options.FileOption.{FileOption}
use Rattle.proto_visibility.specs.Files.{File, HaveOrigins}
use Rattle.proto_link.proofs.TargetLemmas.{qualified_fit, words_fit}
use Rattle.option_link.specs.declared.contexts.Context.{Context}
use Rattle.option_link.specs.declared.facts.OptionFacts.{OptionFacts}
use Rattle.option_link.specs.declared.place.DeclaredPlace.{DeclaredPlace}
use Rattle.option_link.specs.Places.{Stands}
use Rattle.option_link.specs.Lookups.{LooksFor}
use Rattle.option_link.specs.Lookups.LooksFor.{absolute, single, compound}
use Rattle.option_link.specs.Contexts.{HasWords, NamesAs, behind_spelled}
use Rattle.option_link.specs.Contexts.NamesAs.{field as names-field, group as names-group, extension as names-extension}
use Rattle.option_link.specs.Contexts.NamesAs.{item as names-item, packed as names-packed, value as names-value}
use Rattle.option_link.specs.Found.{HasParts}
use Rattle.option_link.proofs.MemberLemmas.{filled_name}
use Rattle.option_link.proofs.NameLemmas.{looked_for}
use Rattle.option_link.proofs.PlaceLemmas.{same_declaration}

fits : {files : List File} {file : ℕ} {has_dot : Bool} {words : List (List ℕ)} {from name : List ℕ}
    → LooksFor files file has_dot words from name → length words ≤ length (components_of name)
fits (absolute {words = words}) = words_fit words
fits (single {word = word} {scope = scope} innermost) =
    omega (arith, words_fit (word ∷ []), qualified_fit scope word)
fits (compound {first = first} {second = second} {scope = scope} {others = others} innermost) =
    omega (arith, words_fit (first ∷ (second ∷ others)), qualified_fit scope (dotted (first ∷ (second ∷ others))))

-- words that make a full name that isn't empty
filled : {files : List File} {file : ℕ} {has_dot : Bool} {words : List (List ℕ)} {from name : List ℕ}
    → LooksFor files file has_dot words from name → 0 < length name → 0 < length words
filled (absolute {words = []}) some = some
filled (absolute {words = w ∷ ws}) some = omega arith
filled (single innermost) some = omega arith
filled (compound innermost) some = omega arith

-- a member's full name has one more
member_fit : (outer name : List ℕ) → 0 < length outer → HasNoDot name
    → length (components_of (qualified outer name)) ≡ length (components_of outer) + 1
member_fit [] name some plain = absurd (omega (arith, some))
member_fit (byte ∷ outer) name some plain =
    ap length (of_behind (byte ∷ outer) name (is_plain name plain))
    ∙ length-append (components_of (byte ∷ outer)) (name ∷ [])

dotted_filled : (words : List (List ℕ)) → 0 < length (dotted words) → 0 < length words
dotted_filled [] some = some
dotted_filled (w ∷ ws) some = omega arith

pub some_components : (name : List ℕ) → 1 ≤ length (components_of name)
some_components name = omega (arith, length-slice_split (λ byte. byte == 46) name)

words_long : (text : List ℕ) (name : OptionName) (words : List (List ℕ)) → HasWords text name words
    → length name.name.components ≡ length words
words_long text name words has =
    sym (length-map name.name.components (part_of text)) ∙ ap length has.are

module _ (files : List File) (origins : HaveOrigins files)
    (names : (facts : Facts) → AreOfSomeFile facts → NamesAreFilled facts.declarations) (known : List OptionFacts)
    (file : ℕ) (text : List ℕ) (option : FileOption) (number : ℕ) (name : OptionName) where
  by_one : (word : List ℕ) → HasWords text name (word ∷ []) → (at : DeclaredPlace) (d : Declaration) → Stands files at d
      → HasParts files name 0 at
  by_one word has at d stands =
      let size = words_long text name (word ∷ []) has in
      record {
        some = omega (arith, size);
        declaration = d;
        stands = stands;
        few = omega (arith, size, some_components d.full_name);
      }

  pub has_parts : (acting : OptionRole) (context : Context) (at : DeclaredPlace)
      (names_it : NamesAs files known file text option number name acting context at)
      → HasParts files name (behind_spelled names_it) at
  has_parts _ context at (names-field {word = w} has fields own not) =
      by_one w has at own.member.inner own.member.stands.stands
  has_parts _ context at (names-group {word = w} has fields least own) =
      by_one w has at own.is.declaration own.is.stands
  has_parts _ context at (names-extension {words = ws} {full_name = full} {declaration = d} has may from up owns stands
      named of_it) =
      let size = words_long text name ws has in
      let some = subst (λ (n : List ℕ). 0 < length n) named (filled_name files origins names at d stands.stands) in
      record {
        some = omega (arith, size, filled (looked_for up) some);
        declaration = d;
        stands = stands.stands;
        few = subst (λ (n : List ℕ). length name.name.components + 0 ≤ length (components_of n)) (sym named)
            (omega (arith, size, fits (looked_for up)));
      }
  has_parts _ _ at (names-item {type = t} {words = ws} {full_name = full} {declaration = d} has braces says from up
      unknown owns stands named first) =
      let m = first.is.member in
      let size = words_long text name ws has in
      let outer = same_declaration files t m.outer d m.of_message.stands stands.stands in
      let some = filled_name files origins names t m.outer m.of_message.stands in
      let filled_full = subst (λ (n : List ℕ). 0 < length n)
      (ap (λ (e : Declaration). e.full_name) outer ∙ named) some in
      let few = subst (λ (n : List ℕ). length ws ≤ length (components_of n))
      (sym (ap (λ (e : Declaration). e.full_name) outer ∙ named)) (fits up) in
      record {
        some = omega (arith, size, filled up filled_full);
        declaration = m.inner;
        stands = m.stands.stands;
        few = omega (
          arith,
          size,
          few,
          member_fit m.outer.full_name first.is.name some first.is.plain,
          ap (λ (n : List ℕ). length (components_of n)) m.named,
        );
      }
  has_parts _ _ at (names-packed {words = ws} {inner = d} has any called owns stands named) =
      let size = words_long text name ws has in
      let some = subst (λ (n : List ℕ). 0 < length n) named (filled_name files origins names at d stands.stands) in
      record {
        some = omega (arith, size, dotted_filled ws some);
        declaration = d;
        stands = stands.stands;
        few = subst (λ (n : List ℕ). length name.name.components + 0 ≤ length (components_of n)) (sym named)
            (omega (arith, size, words_fit ws));
      }
  has_parts _ _ at (names-value {inner = d} {word = w} has of_enum around stands in_file is path) =
      by_one w has at d stands.stands
