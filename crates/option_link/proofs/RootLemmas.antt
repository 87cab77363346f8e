-- In what the first part of an option is looked up, and in what a further name is.
use Rattle.std.proofs.Common.{◌≡◌, ◌↔◌, ℕ, ◌<◌, Bool, List, [], ◌∷◌, length, get_or, Option, Some, None, IsTrue}
use Rattle.std.proofs.Common.{ap, sym, ◌∙◌, subst}
use Rattle.std.specs.Prelude.{codes}
use Rattle.std.specs.List.{slice_get}
use Rattle.std.proofs.lemmas.Option.{none-some, same_Some, slice_get_within, slice_get-get_or}
use Rattle.proto_lex.specs.declared.span.Span.{Span}
use Rattle.proto_options.specs.declared.elements.Element.TheVariants as of_a
use Rattle.proto_options.specs.declared.names.OptionName.{OptionName}
use Rattle.proto_options.specs.declared.names.OptionRole.TheVariants as role
use Rattle.proto_options.specs.declared.options.FileOption.{FileOption}
use Rattle.proto_visibility.specs.Files.{File}
use Rattle.option_link.specs.declared.contexts.Context.{Context}
use Rattle.option_link.specs.declared.facts.OptionFacts.{OptionFacts}
use Rattle.option_link.specs.Contexts.{HasWords, IsTaken, IsTakenOption, Root, StandsIn}
use Rattle.option_link.specs.Contexts.IsTakenOption.{default as is-default, json_name as is-json_name}
use Rattle.option_link.specs.Contexts.Root.{taken as root-taken, options as root-options}
use Rattle.option_link.specs.Contexts.StandsIn.{first as stands-first, further as stands-further}
use Rattle.option_link.specs.Tables.{IsClear}
use Rattle.option_link.specs.Found.{AreGiven, IsOneWord, LeadsFrom}
use Rattle.option_link.proofs.LoopLemmas.{iff_as}

-- ---- words that protoc takes

pub taken_iff : (text word : List ℕ) (option : FileOption) (field : Span) (is : Bool)
    → option.element ≡ of_a.Field field → (IsTrue is ↔ IsOneWord text word option)
    → IsTrue is ↔ ((place : Span) × IsTaken text word option place)
taken_iff text word option field is element iff = iff_as is (IsOneWord text word option)
    ((place : Span) × IsTaken text word option place)
    (λ one. (
      field,
      record {
        of_field = element;
        one_part = one.one_part;
        name = one.name;
        first = one.first;
        plain = one.plain;
        is = one.is;
      },
    ))
    (λ taken. record {
      one_part = taken.1.one_part;
      name = taken.1.name;
      first = taken.1.first;
      plain = taken.1.plain;
      is = taken.1.is;
    }) iff

module _ (text word : List ℕ) (option : FileOption) (name : OptionName)
    (at : slice_get option.setting.names 0 ≡ Some name) where
  same_name : (one : IsOneWord text word option) → one.name ≡ name
  same_name one = same_Some one.name name (sym one.first ∙ at)

  pub not_plain : (name.role ≡ role.Field → ⊥) → IsOneWord text word option → ⊥
  not_plain not one = not (ap (λ (n : OptionName). n.role) (sym (same_name one)) ∙ one.plain)

  pub word_iff : (is : Bool) → option.setting.parts ≡ 1 → name.role ≡ role.Field
      → (IsTrue is ↔ HasWords text name (word ∷ [])) → IsTrue is ↔ IsOneWord text word option
  word_iff is parts plain iff = iff_as is (HasWords text name (word ∷ [])) (IsOneWord text word option)
      (λ has. record { one_part = parts; name = name; first = at; plain = plain; is = has })
      (λ one. subst (λ (n : OptionName). HasWords text n (word ∷ [])) (same_name one) one.is) iff

pub not_taken : (text : List ℕ) (option : FileOption)
    → (((place : Span) × IsTaken text (codes "default") option place) → ⊥)
    → (((place : Span) × IsTaken text (codes "json_name") option place) → ⊥) → IsTakenOption text option → ⊥
not_taken text option not nor (is-default {field = f} x) = not (f, x)
not_taken text option not nor (is-json_name {field = f} x) = nor (f, x)

-- ---- in what a further name is looked up

module _ (files : List File) (known : List OptionFacts) (file : ℕ) (text : List ℕ) (option : FileOption)
    (given : List (Option Context)) (name : OptionName)
    (numbered : slice_get option.setting.names (length given) ≡ Some name) where
  pub stands_first : name.around ≡ None → (root : Context) → Root text option root
      → StandsIn files known file text option (length given) root
  stands_first first root is = stands-first numbered first is

  pub root_clear : (root : Context) → Root text option root → IsClear files root
  root_clear root is = by root is
    where
      by : (context : Context) → Root text option context → IsClear files context
      by _ (root-taken x) = tt
      by _ (root-options x) = tt

  module _ (all : AreGiven files known file text option given) (before : ℕ) (around : name.around ≡ Some before) where
    pub stands_further : (context : Context) → slice_get given before ≡ Some (Some context)
        → StandsIn files known file text option (length given) context × IsClear files context
    stands_further context at =
        let its = all before (Some context) at in
        let leads : LeadsFrom files known file text option before context = its.0 in (
          stands-further numbered around (slice_get_within given before (Some context) at) leads.numbered leads.stands
              leads.leads,
          its.1,
        )

    leads_from : (context : Context) → StandsIn files known file text option (length given) context
        → (before < length given) × LeadsFrom files known file text option before context
    leads_from context (stands-first {name = other} at none root) =
        absurd (none_around other at none)
      where
        none_around : (n : OptionName) → slice_get option.setting.names (length given) ≡ Some n → n.around ≡ None → ⊥
        none_around n there none =
            let same = same_Some n name (sym there ∙ numbered) in
            none-some before (sym none ∙ (ap (λ (o : OptionName). o.around) same ∙ around))
    leads_from context (stands-further {before = k} {name = other} {outer_name = o} {outer = c} at its less outer_at
        stands leads) =
        let same = same_Some other name (sym at ∙ numbered) in
        let number : k ≡ before =
        same_Some k before (sym its ∙ (ap (λ (n : OptionName). n.around) same ∙ around)) in
        subst (λ (n : ℕ). (n < length given) × LeadsFrom files known file text option n context) number
        (less, record { name = o; numbered = outer_at; outer = c; stands = stands; leads = leads })

    pub stands_nowhere : ((context : Context) → slice_get given before ≡ Some (Some context) → ⊥)
        → (context : Context) → StandsIn files known file text option (length given) context → ⊥
    stands_nowhere none context stands =
        let its = leads_from context stands in
        by (get_or given before None) (slice_get-get_or given before None its.0) its.1
      where
        by : (one : Option Context) → slice_get given before ≡ Some one
            → LeadsFrom files known file text option before context → ⊥
        by None at leads = all before None at context leads
        by (Some other) at leads = none other at
