-- A name is looked up in one thing at most.
use Rattle.std.specs.Prelude.{codes}
use Rattle.std.proofs.Common.{◌≡◌, ℕ, List, length, Option, Some, None, refl, ap, sym, ◌∙◌, subst, arith}
use Rattle.std.specs.List.{slice_get}
use Rattle.std.proofs.lemmas.Option.{same_Some}
use Rattle.proto_decl.specs.Facts.{Facts, AreOfSomeFile, NamesInOrder, UsesAreFilled, UsesInOrder}
use Rattle.proto_options.specs.declared.names.OptionName.{OptionName}
use Rattle.proto_options.specs.declared.names.OptionRole.{OptionRole}
use Rattle.proto_options.specs.declared.options.FileOption.{FileOption}
use Rattle.proto_visibility.specs.Files.{File, HaveOrigins}
use Rattle.option_link.specs.declared.contexts.Context.{Context}
use Rattle.option_link.specs.declared.facts.OptionFacts.{OptionFacts}
use Rattle.option_link.specs.declared.place.DeclaredPlace.{DeclaredPlace}
use Rattle.option_link.specs.Fields.{AreInOrder, FieldGives}
use Rattle.option_link.specs.Contexts.{Root, PlaceGives, Leads, StandsIn}
use Rattle.option_link.specs.Contexts.Root.{taken as root-taken, options as root-options}
use Rattle.option_link.specs.Contexts.PlaceGives.{field as gives-field, extension as gives-extension}
use Rattle.option_link.specs.Contexts.PlaceGives.{message as gives-message}
use Rattle.option_link.specs.Contexts.Leads.{named as leads-named, key as leads-key, map_value as leads-map_value}
use Rattle.option_link.specs.Contexts.Leads.{default as leads-default, untold as leads-untold}
use Rattle.option_link.specs.Contexts.Leads.{without_message as leads-without_message, reserved as leads-reserved}
use Rattle.option_link.specs.Contexts.Leads.{skipped as leads-skipped}
use Rattle.option_link.specs.Contexts.StandsIn.{first as stands-first, further as stands-further}
use Rattle.option_link.proofs.DefaultLemmas.{one_defaulted}
use Rattle.option_link.proofs.NameLemmas.{one_word, one_named, none_in_entries, none_skipped, none_untold}
use Rattle.option_link.proofs.NameLemmas.{none_without_message}
use Rattle.option_link.proofs.TypeLemmas.{one_field_gives, one_value_gives}

key_or_value : codes "key" ≡ codes "value" → ⊥
key_or_value e = omega (arith, ap length e)

around_some : (before : ℕ) (around : Option ℕ) → around ≡ None → around ≡ Some before → ⊥
around_some before around e f = cc

same_root : (text : List ℕ) (option : FileOption) (a b : Context) → Root text option a → Root text option b → a ≡ b
same_root text option _ _ (root-taken x) (root-taken y) = refl
same_root text option _ _ (root-taken x) (root-options not) = absurd (not x)
same_root text option _ _ (root-options not) (root-taken y) = absurd (not y)
same_root text option _ _ (root-options not) (root-options nor) = refl

module _ (files : List File) (origins : HaveOrigins files) (known : List OptionFacts)
    (order : AreInOrder known) (names : (facts : Facts) → AreOfSomeFile facts → NamesInOrder facts.declarations)
    (uses : (facts : Facts) → AreOfSomeFile facts → UsesInOrder facts.uses)
    (filled : (facts : Facts) → AreOfSomeFile facts → UsesAreFilled facts.uses) where
  place_gives : (acting : OptionRole) (at : DeclaredPlace) (a b : Context) → PlaceGives files known acting at a
      → PlaceGives files known acting at b → a ≡ b
  place_gives _ at a b (gives-field x) (gives-field y) =
      one_field_gives files origins known order uses filled at a b x y
  place_gives _ at a b (gives-extension x) (gives-extension y) =
      one_field_gives files origins known order uses filled at a b x y
  place_gives _ at _ _ gives-message gives-message = refl

  module _ (file : ℕ) (text : List ℕ) (option : FileOption) where
    one_lead : (number : ℕ) (name : OptionName) (outer a b : Context)
        → Leads files known file text option number name outer a
        → Leads files known file text option number name outer b → a ≡ b
    one_lead number name outer a b (leads-named {at = at} x gives) (leads-named {at = its} y also) =
        let same = one_named files known file text option number name name.role outer at its x y in
        place_gives name.role its a b
        (subst (λ (p : DeclaredPlace). PlaceGives files known name.role p a) same gives) also
    one_lead number name _ a _ (leads-named {at = at} x gives) (leads-key {holder = holder} acting words) =
        absurd (none_in_entries files known file text option number name name.role holder at x)
    one_lead number name _ a _ (leads-named {at = at} x gives) (leads-map_value {holder = holder} acting words y) =
        absurd (none_in_entries files known file text option number name name.role holder at x)
    one_lead number name _ a b (leads-named {at = at} x gives) (leads-default t acting in_file is at_place y) =
        absurd (none_untold files known file text option number name name.role at x)
    one_lead number name _ a _ (leads-named {at = at} x gives) (leads-untold not acting) =
        absurd (none_untold files known file text option number name name.role at x)
    one_lead number name _ a _ (leads-named {at = at} x gives) (leads-without_message acting none) =
        absurd (none_without_message files known file text option number name name.role at acting none x)
    one_lead number name _ a _ (leads-named {at = at} x gives) (leads-reserved is none) = absurd (none at x)
    one_lead number name _ a _ (leads-named {at = at} x gives) leads-skipped =
        absurd (none_skipped files known file text option number name name.role at x)
    one_lead number name _ _ b (leads-reserved is none) (leads-named {at = at} x gives) = absurd (none at x)
    one_lead number name _ _ _ (leads-reserved is none) (leads-reserved its neither) = refl
    one_lead number name _ _ b leads-skipped (leads-named {at = at} x gives) =
        absurd (none_skipped files known file text option number name name.role at x)
    one_lead number name _ _ _ leads-skipped leads-skipped = refl
    one_lead number name _ _ b (leads-key {holder = holder} acting words) (leads-named {at = at} x gives) =
        absurd (none_in_entries files known file text option number name name.role holder at x)
    one_lead number name _ _ _ (leads-key acting words) (leads-key also its) = refl
    one_lead number name _ _ b (leads-key acting words) (leads-map_value also its y) =
        absurd (key_or_value (one_word text name (codes "key") (codes "value") words its))
    one_lead number name _ _ b (leads-map_value {holder = holder} acting words y) (leads-named {at = at} x gives) =
        absurd (none_in_entries files known file text option number name name.role holder at x)
    one_lead number name _ a _ (leads-map_value acting words y) (leads-key also its) =
        absurd (key_or_value (one_word text name (codes "key") (codes "value") its words))
    one_lead number name _ a b (leads-map_value {holder = holder} acting words x) (leads-map_value also its y) =
        one_value_gives files origins known order uses filled holder a b x y
    one_lead number name _ a b (leads-default t acting in_file is at_place y) (leads-named {at = at} x gives) =
        absurd (none_untold files known file text option number name name.role at x)
    one_lead number name _ a b (leads-default {field = f} {place = p} {fact = u} t acting in_file is at_place x)
        (leads-default {field = g} {place = q} {fact = v} s also by_file its there y) =
        let same = one_defaulted files origins known names file text option f g p q u v t s in_file by_file is its
        at_place there in
        one_field_gives files origins known order uses filled g a b
        (subst (λ (field : DeclaredPlace). FieldGives files known field a) same x) y
    one_lead number name _ a _ (leads-default {place = p} t acting in_file is at_place x) (leads-untold not also) =
        absurd (not p t)
    one_lead number name _ _ b (leads-untold not acting) (leads-named {at = at} x gives) =
        absurd (none_untold files known file text option number name name.role at x)
    one_lead number name _ _ b (leads-untold not acting) (leads-default {place = p} t also in_file is at_place y) =
        absurd (not p t)
    one_lead number name _ _ _ (leads-untold not acting) (leads-untold nor also) = refl
    one_lead number name _ _ b (leads-without_message acting none) (leads-named {at = at} x gives) =
        absurd (none_without_message files known file text option number name name.role at acting none x)
    one_lead number name _ _ _ (leads-without_message acting none) (leads-without_message also neither) = refl

    pub one_context : (number : ℕ) (a b : Context) → StandsIn files known file text option number a
        → StandsIn files known file text option number b → a ≡ b
    one_context number a b (stands-first {name = n} at is x) (stands-first {name = m} there its y) =
        same_root text option a b x y
    one_context number a b (stands-first {name = n} at is x)
        (stands-further {before = before} {name = m} there its less outer_at stands leads) =
        let same = same_Some n m (sym at ∙ there) in
        absurd (around_some before m.around
        (subst (λ (o : OptionName). o.around ≡ None) same is) its)
    one_context number a b (stands-further {before = before} {name = n} at is less outer_at stands leads)
        (stands-first {name = m} there its y) =
        let same = same_Some m n (sym there ∙ at) in
        absurd (around_some before n.around
        (subst (λ (o : OptionName). o.around ≡ None) same its) is)
    one_context number a b
        (stands-further {before = i} {name = n} {outer_name = p} {outer = c} at is less outer_at stands leads)
        (stands-further {before = j} {name = m} {outer_name = q} {outer = d} there its again other_at also lead) =
        let name = same_Some n m (sym at ∙ there) in
        let around = subst (λ (o : OptionName). o.around ≡ Some i) name is in
        let before : i ≡ j = same_Some i j (sym around ∙ its) in
        let there_at = subst (λ (k : ℕ). slice_get option.setting.names k ≡ Some p) before outer_at in
        let outer_name = same_Some p q (sym there_at ∙ other_at) in
        let moved = subst (λ (k : ℕ). StandsIn files known file text option k c) before stands in
        let outer = one_context j c d moved also in
        let leading = subst (λ (k : ℕ). Leads files known file text option k p c a) before leads in
        let by_name = subst (λ (o : OptionName). Leads files known file text option j o c a) outer_name leading in
        one_lead j q d a b (subst (λ (o : Context). Leads files known file text option j q o a) outer by_name) lead
