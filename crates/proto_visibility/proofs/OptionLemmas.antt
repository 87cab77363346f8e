-- In which file each source has the messages of its options.
use Rattle.std.proofs.Common.{◌≡◌, ◌↔◌, inl, inr, ℕ, ◌-◌, ◌<◌, ◌≤◌, Bool, true, false, ◌&&◌, List, [], ◌==◌, if◌then◌else◌}
use Rattle.std.proofs.Common.{◌∷◌, ◌++◌, length, reverse, Option, Some, None, All, MatchOption, bytes_eq, codes, get_or, refl}
use Rattle.std.proofs.Common.{ap, sym, ◌∙◌, subst, arith}
use Rattle.std.specs.List.{Contains, list_any, slice_get}
use Rattle.std.specs.List.Sorted.{IsNonDecreasing}
use Rattle.std.proofs.lemmas.Bool.{and_parts, cases_lt, eqb-true, eq-eqb, false≢true}
use Rattle.std.proofs.lemmas.List.Folds.{Any-from_list_any}
use Rattle.std.proofs.lemmas.Slice.Eq.{bytes_eq-Decides}
use Rattle.std.proofs.lemmas.Option.{slice_get_within, slice_get-get_or, get_or_from_slice_get, same_Some}
use Rattle.std.proofs.lemmas.List.{get_or-reverse, length-reverse, length_push, get_or_push}
use Rattle.std.proofs.lemmas.List.Elements.{Contains-get_or}
use Rattle.basics.proofs.FirstLemmas.{at_contained, contained}
use Rattle.proto_decl.specs.Facts.{Facts}
use Rattle.proto_decl.specs.declared.declaration.DeclarationKind.{DeclarationKind}
use Rattle.proto_decl.specs.declared.declaration.DeclarationKind.TheVariants.{Message, Enum, Service, Field, Oneof}
use Rattle.proto_decl.specs.declared.declaration.DeclarationKind.TheVariants.{Value, Method}
use Rattle.proto_visibility.specs.declared.import_table.Steps.{Steps}
use Rattle.proto_visibility.specs.declared.options.OptionsIn.{OptionsIn}
use Rattle.proto_visibility.specs.declared.options.OptionsIn.TheVariants.{At, Several}
use Rattle.proto_visibility.specs.Files.{File, HasPathAt}
use Rattle.proto_visibility.specs.Knows.{is_message}
use Rattle.proto_visibility.specs.Knows.NameKind.{OfDeclaration}
use Rattle.proto_visibility.specs.Sees.{LeadsTo}
use Rattle.proto_visibility.specs.Sees.LeadsTo.{at_once, through}
use Rattle.proto_visibility.specs.Reaches.{ImportsLeadTo, IsDescriptor, HasOptionsIn, IsOptionsIn}
use Rattle.proto_visibility.specs.Reaches.{descriptor_path}
use Rattle.proto_visibility.specs.Reaches.ImportsLeadTo.{at_once as stays, through as goes_on}
use Rattle.proto_visibility.specs.Reaches.HasOptionsIn.{imported, built_in}
use Rattle.proto_visibility.specs.Tables.ImportTables.{HasStep, IsTableOf}
use Rattle.proto_visibility.specs.Tables.OptionTables.{AreOptionsIn, AreTurned, IsFirstEnd, IsNoEnd, AreFirstEnds}
use Rattle.proto_visibility.specs.Tables.OptionTables.{IsAnswer, AreAnswers, answer_of, one_or_several}
use Rattle.proto_visibility.specs.Tables.OptionTables.{has_file_options, is_file_options}
use Rattle.proto_visibility.proofs.SeeingLemmas.{leads_more, slice_get_prefix}
use Rattle.proto_visibility.specs.Tables.ClashTables.{declarations_in}
use Rattle.proto_visibility.proofs.ClashDifferingLemmas.{none_passes}
use Rattle.proto_visibility.proofs.ReachingLemmas.{imports_on}

-- ---- files with the messages of options

is_Message : (kind : DeclarationKind) → is_message (OfDeclaration kind) ≡ true → kind ≡ Message
is_Message Message is = refl
is_Message Enum is = absurd (false≢true is)
is_Message Service is = absurd (false≢true is)
is_Message Field is = absurd (false≢true is)
is_Message Oneof is = absurd (false≢true is)
is_Message Value is = absurd (false≢true is)
is_Message Method is = absurd (false≢true is)

module _ (files : List File) (number : ℕ) (file : File) (stands : slice_get files number ≡ Some file) where
  pub descriptor_from : has_file_options file ≡ true → IsDescriptor files number
  descriptor_from has = by file.facts refl has
    where
      by : (o : Option Facts) → file.facts ≡ o → list_any is_file_options (declarations_in o) ≡ true
          → IsDescriptor files number
      by None known has = absurd (false≢true has)
      by (Some facts) known has =
          let any = Any-from_list_any is_file_options facts.declarations has in
          let one = any.1 in
          let parts = and_parts (is_message (OfDeclaration one.kind))
          (bytes_eq one.full_name (codes "google.protobuf.FileOptions")) any.4 in
          record {
            facts = facts;
            declaration = one;
            known = record { file = file; numbered = stands; known = known };
            listed = (any.0, any.2, any.3);
            message = is_Message one.kind parts.0;
            named = (bytes_eq-Decides one.full_name (codes "google.protobuf.FileOptions")).0 parts.1;
          }

  pub no_descriptor_from : has_file_options file ≡ false → IsDescriptor files number → ⊥
  no_descriptor_from hasnt is =
      let same : is.known.file ≡ file = same_Some is.known.file file (sym is.known.numbered ∙ stands) in
      let known : file.facts ≡ Some is.facts = ap (λ (f : File). f.facts) (sym same) ∙ is.known.known in
      let none = sym (ap (λ o. list_any is_file_options (declarations_in o)) known) ∙ hasnt in
      false≢true (sym (none_passes is_file_options is.facts.declarations none is.declaration is.listed)
      ∙ (ap (λ kind. is_message (OfDeclaration kind)
      && bytes_eq is.declaration.full_name (codes "google.protobuf.FileOptions")) is.message
      ∙ (bytes_eq-Decides is.declaration.full_name (codes "google.protobuf.FileOptions")).1 is.named))

pub descriptor_within : (files : List File) (number : ℕ) → IsDescriptor files number → number < length files
descriptor_within files number is = slice_get_within files number is.known.file is.known.numbered

from_reversed : (ends : List ℕ) (end : ℕ) → Contains (reverse ends) end → Contains ends end
from_reversed ends end there =
    let size = length-reverse ends in
    let within : there.0 < length ends = omega (arith, there.1, size) in
    let is : get_or ends (length ends - 1 - there.0) 0 ≡ end =
    sym (get_or-reverse ends there.0 0 within)
    ∙ get_or_from_slice_get (reverse ends) there.0 end 0 (at_contained (reverse ends) end there) in
    subst (Contains ends) is (Contains-get_or ends (length ends - 1 - there.0) 0 (omega arith))

-- they are files of a table, in either order
module _ (files : List File) (table back : List Steps) (ends some : List ℕ) (are : IsTableOf files table)
    (size : length back ≡ length table) (descriptors : (number : ℕ) → Contains ends number ↔ IsDescriptor files number)
  where
    inside : (number : ℕ) → Contains ends number → number < length back
    inside number there =
        let within = descriptor_within files number ((descriptors number).0 there) in
        omega (arith, within, size, are.one_each)

    pub ends_within : some ≡ ends → All (λ number. number < length back) some
    ends_within same = subst (All (λ number. number < length back)) (sym same)
        (λ k d h. inside (get_or ends k d) (Contains-get_or ends k d h))

    pub reversed_within : some ≡ reverse ends → All (λ number. number < length back) some
    reversed_within same = subst (All (λ number. number < length back)) (sym same)
        (λ k d h. inside (get_or (reverse ends) k d) (from_reversed ends (get_or (reverse ends) k d)
        (Contains-get_or (reverse ends) k d h)))

-- ---- what leads back is what imports lead to

module _ (files : List File) (table back : List Steps) (are : IsTableOf files table) (turned : AreTurned table back)
  where
    pub back_imported : {a b : ℕ} → LeadsTo (HasStep back) a b → ImportsLeadTo files b a
    back_imported at_once = stays
    back_imported (through {file = a} {next = next} step rest) =
        let each = (turned.steps a next).0 step in
        imports_on (back_imported rest) (goes_on ((are.steps next a each.0).0 each.1) stays)

    pub imported_back : {a b : ℕ} → ImportsLeadTo files a b → LeadsTo (HasStep back) b a
    imported_back stays = at_once
    imported_back (goes_on {file = a} {next = next} {publicly = publicly} step rest) =
        leads_more (imported_back rest) ((turned.steps next a).1 (publicly, (are.steps a next publicly).1 step))

-- ---- the first and the last

module _ (back : List Steps) (ends : List ℕ) (in_order : IsNonDecreasing ends) (number : ℕ) where
  least : (first other : ℕ) → IsFirstEnd back ends number first → Contains ends other
      → LeadsTo (HasStep back) other number → first ≤ other
  least first other is there leads = elim (cases_lt there.0 is.index) [
    | inl before ↦ absurd (is.first there.0 other before (at_contained ends other there) leads)
    | inr behind ↦ (
        let order = in_order is.index there.0 0 behind there.1 in
        let here = get_or_from_slice_get ends is.index first 0 is.stands in
        let also = get_or_from_slice_get ends there.0 other 0 (at_contained ends other there) in
        omega (arith, order, here, also))
  ]

  reversed : (other : ℕ) (k : ℕ) → k < length ends → slice_get ends k ≡ Some other
      → slice_get (reverse ends) (length ends - 1 - k) ≡ Some other
  reversed other k within at =
      let j = length ends - 1 - k in
      let size = length-reverse ends in
      let same : length ends - 1 - j ≡ k = omega arith in
      slice_get-get_or (reverse ends) j 0 (omega (arith, size))
      ∙ (ap Some (get_or-reverse ends j 0 (omega arith) ∙ ap (λ i. get_or ends i 0) same)
      ∙ ap Some (get_or_from_slice_get ends k other 0 at))

  greatest : (last other : ℕ) → IsFirstEnd back (reverse ends) number last → Contains ends other
      → LeadsTo (HasStep back) other number → other ≤ last
  greatest last other is there leads =
      let j = length ends - 1 - there.0 in
      let size = length-reverse ends in
      let within = slice_get_within (reverse ends) is.index last is.stands in
      elim (cases_lt j is.index) [
        | inl before ↦ absurd (is.first j other before
            (reversed other there.0 there.1 (at_contained ends other there)) leads)
        | inr behind ↦ (
            let order = in_order there.0 (length ends - 1 - is.index) 0 (omega (arith, there.1)) (omega (arith, there.1)) in
            let here = sym (get_or-reverse ends is.index 0 (omega (arith, within, size)))
            ∙ get_or_from_slice_get (reverse ends) is.index last 0 is.stands in
            let also = get_or_from_slice_get ends there.0 other 0 (at_contained ends other there) in
            omega (arith, order, here, also))
      ]

  to_reversed : (end : ℕ) → Contains ends end → Contains (reverse ends) end
  to_reversed end there = contained (reverse ends) (length ends - 1 - there.0) end
      (reversed end there.0 there.1 (at_contained ends end there))

-- ---- answers

abbrev pub AreAnswersOf : (firsts lasts : List (Option ℕ)) → (built : Option ℕ) → (known : List OptionsIn) → Type 0
AreAnswersOf firsts lasts built known = (number : ℕ) (answer : OptionsIn) → slice_get known number ≡ Some answer
    → IsAnswer firsts lasts built number answer

pub answers_more : (firsts lasts : List (Option ℕ)) (built : Option ℕ) (known : List OptionsIn) (first last : Option ℕ)
    (answer : OptionsIn) → slice_get firsts (length known) ≡ Some first → slice_get lasts (length known) ≡ Some last
    → answer ≡ answer_of first last built → AreAnswersOf firsts lasts built known
    → AreAnswersOf firsts lasts built (known ++ answer ∷ [])
answers_more firsts lasts built known first last answer at_first at_last is so_far number one stands =
    elim (cases_lt number (length known)) [
      | inl before ↦ so_far number one (sym (slice_get_prefix known (answer ∷ []) number before) ∙ stands)
      | inr behind ↦ (
          let within = slice_get_within (known ++ answer ∷ []) number one stands in
          let here : number ≡ length known = omega (arith, within, length_push known answer) in
          let last_one : slice_get (known ++ answer ∷ []) (length known) ≡ Some answer =
          slice_get-get_or (known ++ answer ∷ []) (length known) answer (omega (arith, length_push known answer))
          ∙ ap Some (get_or_push known answer answer (length known) refl) in
          let same : one ≡ answer =
          same_Some one answer (sym stands ∙ (ap (slice_get (known ++ answer ∷ [])) here ∙ last_one)) in
          record {
            first = first;
            last = last;
            has_first = ap (slice_get firsts) here ∙ at_first;
            has_last = ap (slice_get lasts) here ∙ at_last;
            is = same ∙ is;
          })
    ]

module _ (files : List File) (table back : List Steps) (ends : List ℕ) (firsts lasts : List (Option ℕ))
    (built : Option ℕ) (known : List OptionsIn) (are : IsTableOf files table) (turned : AreTurned table back)
    (descriptors : (number : ℕ) → Contains ends number ↔ IsDescriptor files number)
    (in_order : IsNonDecreasing ends) (first_ends : AreFirstEnds back ends firsts)
    (last_ends : AreFirstEnds back (reverse ends) lasts)
    (paths : (number : ℕ) → (built ≡ Some number) ↔ HasPathAt files descriptor_path number) where
  end_leads : (source other : ℕ) → ImportsLeadTo files source other → LeadsTo (HasStep back) other source
  end_leads source other lead = imported_back files table back are turned lead

  from_end : (source : ℕ) (some : List ℕ) (end : ℕ) → ((number : ℕ) → Contains some number → Contains ends number)
      → IsFirstEnd back some source end → HasOptionsIn files source end
  from_end source some end among is =
      imported (back_imported files table back are turned is.leads)
      ((descriptors end).0 (among end (contained some is.index end is.stands)))

  without : (source : ℕ) → IsNoEnd back ends source → (answer : Option ℕ) → answer ≡ built
      → IsOptionsIn files source (answer_of None None answer)
  without source none None same = λ number has. by number has
    where
      by : (number : ℕ) → HasOptionsIn files source number → ⊥
      by number (imported lead is) = none number ((descriptors number).1 is) (end_leads source number lead)
      by number (built_in _ path) = (let there : None ≡ Some number = same ∙ (paths number).1 path in cc)
  without source none (Some one) same = (
    built_in (λ other lead is. none other ((descriptors other).1 is) (end_leads source other lead))
        ((paths one).0 (sym same)),
    by,
  )
    where
      by : (other : ℕ) → HasOptionsIn files source other → other ≡ one
      by other (imported lead is) = absurd (none other ((descriptors other).1 is) (end_leads source other lead))
      by other (built_in _ path) = sym (same_Some one other (same ∙ (paths other).1 path))

  with_some : (source first : ℕ) → IsFirstEnd back ends source first → (last : Option ℕ)
      → MatchOption last (IsNoEnd back (reverse ends) source) (IsFirstEnd back (reverse ends) source)
      → IsOptionsIn files source (one_or_several first last)
  with_some source first is None none = absurd (none first
      (to_reversed back ends in_order source first (contained ends is.index first is.stands)) is.leads)
  with_some source first is (Some last) last_is = by (first == last) refl
    where
      has_first : HasOptionsIn files source first
      has_first = from_end source ends first (λ number there. there) is

      has_last : HasOptionsIn files source last
      has_last = from_end source (reverse ends) last (from_reversed ends) last_is

      only : first ≡ last → (other : ℕ) → HasOptionsIn files source other → other ≡ first
      only same other (imported lead descriptor) =
          let there = (descriptors other).1 descriptor in
          let low = least back ends in_order source first other is there (end_leads source other lead) in
          let high = greatest back ends in_order source last other last_is there (end_leads source other lead) in
          omega (arith, low, high, same)
      only same other (built_in none path) =
          absurd (none first (back_imported files table back are turned is.leads)
          ((descriptors first).0 (contained ends is.index first is.stands)))

      by : (b : Bool) → (first == last) ≡ b → IsOptionsIn files source (if b then At first else Several)
      by true same = (has_first, only (eqb-true first last same))
      by false differ = (
        first,
        last,
        has_first,
        has_last,
        λ same. false≢true (sym differ ∙ eq-eqb first last same),
      )

  one_answer : (source : ℕ) (first last : Option ℕ)
      → MatchOption first (IsNoEnd back ends source) (IsFirstEnd back ends source)
      → MatchOption last (IsNoEnd back (reverse ends) source) (IsFirstEnd back (reverse ends) source)
      → IsOptionsIn files source (answer_of first last built)
  one_answer source None last none last_is = same_answer built (without source none built refl)
    where
      same_answer : (o : Option ℕ) → IsOptionsIn files source (answer_of None None o)
          → IsOptionsIn files source (answer_of None last o)
      same_answer None is = is
      same_answer (Some one) is = is
  one_answer source (Some first) last is last_is = with_some source first is last last_is

  pub all_options : AreAnswers firsts lasts built known → AreOptionsIn files known
  all_options answers = record {
    each = λ source answer at.
        let is = answers.each source answer at in
        subst (IsOptionsIn files source) (sym is.is)
        (one_answer source is.first is.last (first_ends.each source is.first is.has_first)
        (last_ends.each source is.last is.has_last));
    all = λ source linked.
        let within = slice_get_within files source linked.file linked.numbered in
        let size = answers.one_each ∙ (first_ends.one_each ∙ (turned.one_each ∙ are.one_each)) in
        omega (arith, within, size);
  }

-- where no options are linked
pub no_options : (files : List File) → list_any (λ (file : File). file.links_options) files ≡ false
    → (known : List OptionsIn) → known ≡ [] → AreOptionsIn files known
no_options files none known empty = record {
  each = λ source answer at. absurd (nothing source answer (sym (ap (λ xs. slice_get xs source) empty) ∙ at));
  all = λ source linked. absurd (false≢true
      (sym (none_passes (λ (file : File). file.links_options) files none linked.file
      (contained files source linked.file linked.numbered)) ∙ linked.links));
}
  where
    nothing : (source : ℕ) (answer : OptionsIn) → slice_get [] source ≡ Some answer → ⊥
    nothing source answer e = cc
