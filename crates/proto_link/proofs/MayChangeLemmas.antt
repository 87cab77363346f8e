-- A use that is uncertain doesn't name what it named if the file behind has its first word in the package.
use Rattle.std.proofs.Common.{◌≡◌, ◌∙◌, sym, ap, refl, subst, ◌⊎◌, inl, inr, ℕ, ◌<◌, ◌≤◌, Bool, true, false}
use Rattle.std.proofs.Common.{List, [], ◌∷◌, length, Some, None, arith, length-append}
use Rattle.std.specs.List.{All, slice_get, slice_set}
use Rattle.std.proofs.lemmas.Bool.{cases_order, false≢true}
use Rattle.std.proofs.lemmas.List.Elements.{All-contains, Contains-push}
use Rattle.std.proofs.lemmas.Option.{same_Some, slice_get_within}
use Rattle.proto_lex.specs.declared.span.Span.{Span}
use Rattle.proto_decl.specs.Names.{qualified, dotted, IsAround}
use Rattle.proto_decl.specs.Names.IsAround.{before_dot, root}
use Rattle.proto_decl.specs.Facts.{Facts, AreOfSomeFile}
use Rattle.proto_decl.specs.Laws.{IsScope, StandsInScope}
use Rattle.proto_decl.specs.declared.declaration.DeclarationKind.TheVariants.{Message}
use Rattle.proto_decl.specs.declared.declaration.Declaration.{Declaration}
use Rattle.proto_decl.specs.declared.uses.Use.{Use}
use Rattle.proto_decl.proofs.ScopeLemmas.{one_around}
use Rattle.proto_visibility.specs.Files.{File, HaveOrigins}
use Rattle.proto_visibility.specs.Knows.{NameKind, KnowsAs}
use Rattle.proto_visibility.specs.Knows.NameKind.{OfDeclaration}
use Rattle.proto_visibility.specs.Knows.Knows.{declared}
use Rattle.proto_visibility.proofs.FileFactLemmas.{one_list_of_facts}
use Rattle.proto_visibility.proofs.PassLemmas.{length_set, set_there, set_elsewhere}
use Rattle.proto_link.specs.Certain.{OnlyDiffers}
use Rattle.proto_link.specs.declared.target.Target.{Target}
use Rattle.proto_link.specs.declared.uncertain_use.UncertainUse.{UncertainUse}
use Rattle.proto_link.specs.Resolves.{Innermost, ResolvesIn}
use Rattle.proto_link.specs.Resolves.Innermost.{here, farther}
use Rattle.proto_link.specs.Resolves.ResolvesIn.{absolute, single, extended, compound}
use Rattle.proto_link.specs.Targets.{IsTarget}
use Rattle.proto_link.specs.Uncertain.{HasNoFacts, IsFartherOut, IsUncertain, first_wanted, package_name}
use Rattle.proto_link.specs.Mended.{IsAroundOrSame, IsMended, AreMended}
use Rattle.proto_link.specs.Mended.IsAroundOrSame.{same as same_scope, farther as farther_scope}
use Rattle.proto_link.specs.Mended.IsMended.{unchanged, read}
use Rattle.proto_link.proofs.LawLemmas.{one_scope}
use Rattle.proto_link.proofs.MendedLemmas.{sees_stay}
use Rattle.proto_link.proofs.CertainLemmas.{first_compound}
use Rattle.proto_link.proofs.UseScopeLemmas.{IsInPackage, in_package}
use Rattle.proto_link.proofs.UseScopeLemmas.IsInPackage.{outermost, inner}

-- ---- how long scopes are

around_shorter : {scope outer : List ℕ} → IsAround scope outer → length outer < length scope
around_shorter (before_dot {outer = outer} name plain) = omega (arith, length-append outer (46 ∷ name))
around_shorter (root plain) = omega arith

around_no_longer : {scope outer : List ℕ} → IsAroundOrSame scope outer → length outer ≤ length scope
around_no_longer same_scope = omega arith
around_no_longer (farther_scope is more) = omega (arith, around_shorter is, around_no_longer more)

farther_shorter : (scope outer : List ℕ) → IsFartherOut scope outer → length outer < length scope
farther_shorter scope outer out = omega (arith, around_shorter out.1, around_no_longer out.2)

-- the same name isn't one in two scopes, of which one is shorter
qualified_longer : (short long name : List ℕ) → length short < length long
    → length (qualified short name) < length (qualified long name)
qualified_longer short [] name less = absurd (omega (arith, less))
qualified_longer [] (byte ∷ long) name less = omega (arith, length-append (byte ∷ long) (46 ∷ name))
qualified_longer (first ∷ short) (byte ∷ long) name less =
    omega (arith, less, length-append (byte ∷ long) (46 ∷ name), length-append (first ∷ short) (46 ∷ name))

-- ---- where a word is found that is known in the package

module _ (files : List File) (file : ℕ) (facts : Facts) where
  found_inside : {admits : NameKind → Bool} {word from start : List ℕ} → IsInPackage facts from
      → KnowsAs files file admits (qualified (package_name facts) word)
      → Innermost files file admits word from start → length (package_name facts) ≤ length start
  found_inside inside known (here at) = at_least inside
    where
      at_least : {scope : List ℕ} → IsInPackage facts scope → length (package_name facts) ≤ length scope
      at_least outermost = omega arith
      at_least (inner listed around longer rest) = omega (arith, longer, at_least rest)
  found_inside outermost known (farther absent is rest) = absurd (absent known)
  found_inside (inner listed around longer inside) known (farther absent is rest) =
      found_inside (subst (IsInPackage facts) (one_around around is) inside) known rest

  -- where the first word of a use is found
  record StartsAt (is_extended : Bool) (word : List ℕ) (others : List (List ℕ)) (from name : List ℕ) : Type 0 where
    start : List ℕ
    found : Innermost files file (first_wanted is_extended others) word from start
    named : name ≡ qualified start (dotted (word ∷ others))

  abbrev StartsBy : (is_extended : Bool) → (words : List (List ℕ)) → (from name : List ℕ) → Type 0
  StartsBy is_extended [] from name = ⊥
  StartsBy is_extended (word ∷ others) from name = StartsAt is_extended word others from name

  starts : {is_extended has_dot : Bool} {words : List (List ℕ)} {from name : List ℕ}
      → ResolvesIn files file is_extended has_dot words from name → has_dot ≡ false
      → StartsBy is_extended words from name
  starts (absolute known) plain = absurd (false≢true (sym plain))
  starts (single {scope = start} found) plain = record { start = start; found = found; named = refl }
  starts (extended {scope = start} found known) plain = record { start = start; found = found; named = refl }
  starts {from = from} (compound {is_extended} {first} {second} {scope = start} {others = others} found known) plain =
      record {
        start = start;
        found = subst (λ (admits : NameKind → Bool). Innermost files file admits first from start)
            (sym (first_compound is_extended second others)) found;
        named = refl;
      }

-- ---- a file with facts in the place of one

module _ (files : List File) (number : ℕ) (unread : HasNoFacts files number) (facts : Facts) where
  abbrev new_file : File
  new_file = record {
    path = unread.file.path;
    facts = Some facts;
    is_included = unread.file.is_included;
    is_left_out = unread.file.is_left_out;
    links_options = unread.file.links_options;
  }

  abbrev with_facts : List File
  with_facts = slice_set files number new_file

  there : slice_get with_facts number ≡ Some new_file
  there = set_there files number new_file (slice_get_within files number unread.file unread.numbered)

  only_differs : OnlyDiffers files with_facts number
  only_differs other apart = set_elsewhere files number other new_file apart

  are_mended : AreMended files with_facts
  are_mended = record {
    one_each = length_set files number new_file;
    each = λ other file its at now. elim (cases_order other number) [
      | inl same ↦ by other file its same at now
      | inr apart ↦ subst (IsMended file)
          (same_Some file its (sym at ∙ (sym (only_differs other (differ other apart)) ∙ now)))
          unchanged
    ];
  }
    where
      differ : (other : ℕ) → (other < number) ⊎ (number < other) → other ≡ number → ⊥
      differ other (inl less) same = absurd (omega (arith, less, same))
      differ other (inr more) same = absurd (omega (arith, more, same))

      by : (other : ℕ) (file its : File) → other ≡ number → slice_get files other ≡ Some file
          → slice_get with_facts other ≡ Some its → IsMended file its
      by other file its same at now =
          let old : unread.file ≡ file = same_Some unread.file file
          (sym unread.numbered ∙ (ap (slice_get files) (sym same) ∙ at)) in
          let new : new_file ≡ its = same_Some new_file its
          (sym there ∙ (ap (slice_get with_facts) (sym same) ∙ now)) in
          subst (λ f. IsMended f its) old (subst (IsMended unread.file) new (read facts unread.unread))

-- ---- a message in the package

first_message : (is_extended : Bool) (others : List (List ℕ))
    → first_wanted is_extended others (OfDeclaration Message) ≡ true
first_message true others = refl
first_message false [] = refl
first_message false (other ∷ others) = refl

abbrev message_named : List ℕ → Declaration
message_named name =
    record { kind = Message; full_name = name; path = []; name = nowhere; leading = []; trailing = [] }
  where
    nowhere : Span
    nowhere = record { start = 0; end = 0 }

abbrev facts_with : List ℕ → Facts
facts_with name = record {
  number = 0;
  package_name = [];
  imports = [];
  declarations = message_named name ∷ [];
  uses = [];
  details = None;
}

module _ (files : List File) (origins : HaveOrigins files)
    (stand : (facts : Facts) → AreOfSomeFile facts → All (StandsInScope facts) facts.declarations)
    (scoped : (facts : Facts) → AreOfSomeFile facts → All (λ (used : Use). IsScope facts used.scope) facts.uses)
    (uncertain : UncertainUse) (is : IsUncertain files uncertain) (target : Target)
    (its : IsTarget files uncertain.place.file is.type_use target) where
  abbrev nearer : List ℕ
  nearer = qualified (package_name is.facts) is.farther.word

  abbrev mended : List File
  mended = with_facts files uncertain.behind is.behind.unread (facts_with nearer)

  are : AreMended files mended
  are = are_mended files uncertain.behind is.behind.unread (facts_with nearer)

  -- the file knows the first word in the package
  known : KnowsAs mended uncertain.place.file (first_wanted is.type_use.is_extended is.farther.others) nearer
  known = record {
    kind = OfDeclaration Message;
    known = declared {declaration = message_named nearer} (sees_stay files mended are is.behind.sees)
        (record {
          file = new_file files uncertain.behind is.behind.unread (facts_with nearer);
          numbered = there files uncertain.behind is.behind.unread (facts_with nearer);
          known = refl;
        })
        (Contains-push [] (message_named nearer));
    admitted = first_message is.type_use.is_extended is.farther.others;
  }

  abbrev Starts : List File → Type 0
  Starts those =
      StartsAt those uncertain.place.file is.facts is.type_use.is_extended is.farther.word is.farther.others
      is.type_use.scope target.name

  starts_in : (those : List File) → IsTarget those uncertain.place.file is.type_use target → Starts those
  starts_in those names =
      subst (λ words. StartsBy those uncertain.place.file is.facts is.type_use.is_extended words is.type_use.scope
      target.name) is.farther.words_are
      (starts those uncertain.place.file is.facts names.names.resolves is.farther.plain)

  -- a scope that is no farther out than the package isn't one that is farther out
  other_name : (inside outside name : List ℕ) → length (package_name is.facts) ≤ length inside
      → length outside < length (package_name is.facts) → name ≡ qualified inside (dotted (is.farther.word ∷ is.farther.others))
      → name ≡ qualified outside (dotted (is.farther.word ∷ is.farther.others)) → ⊥
  other_name inside outside name in_package farther_out one other =
      absurd (omega (
        arith,
        qualified_longer outside inside (dotted (is.farther.word ∷ is.farther.others)) (omega (arith, in_package, farther_out)),
        ap length (sym one ∙ other),
      ))

  names_other : IsTarget mended uncertain.place.file is.type_use target → ⊥
  names_other alike =
      let old = starts_in files its in
      let new = starts_in mended alike in
      let facts : is.farther.facts ≡ is.facts = one_list_of_facts files uncertain.place.file is.farther.facts is.facts
      is.farther.known is.known in
      let out : IsFartherOut (package_name is.facts) old.start =
      subst (λ f. IsFartherOut (package_name f) old.start) facts
      (subst (IsFartherOut (package_name is.farther.facts)) (one_scope is.farther.farther.innermost old.found)
      is.farther.farther.passed) in
      let origin = origins uncertain.place.file is.facts is.known in
      let inside = found_inside mended uncertain.place.file is.facts
      (in_package is.facts (stand is.facts origin) is.type_use.scope
      (All-contains (λ (used : Use). IsScope is.facts used.scope) is.facts.uses is.type_use (scoped is.facts origin)
      is.listed)) known new.found in
      other_name new.start old.start target.name inside (farther_shorter (package_name is.facts) old.start out)
      new.named old.named

  pub may_change : (mended : List File) × AreMended files mended × OnlyDiffers files mended uncertain.behind
      × (IsTarget mended uncertain.place.file is.type_use target → ⊥)
  may_change = (
    mended,
    are,
    only_differs files uncertain.behind is.behind.unread (facts_with nearer),
    names_other,
  )
