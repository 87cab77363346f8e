-- Names are named where the rule gives them something.
use Rattle.std.proofs.Common.{◌≡◌, ◌<◌, ◌∙◌, inl, inr, ℕ, true, List, refl, subst, sym}
use Rattle.std.proofs.lemmas.Bool.{cases_order}
use Rattle.proto_visibility.specs.declared.clash.Duplicates.TheVariants.{Refuse}
use Rattle.proto_visibility.specs.Clashes.{IsItem, Item, NoClash}
use Rattle.proto_visibility.specs.Clashes.IsItemBy.{declared}
use Rattle.proto_visibility.specs.Files.{File, HaveOwnPaths, IsPresent, IsSource}
use Rattle.proto_visibility.specs.Reaches.{HasOptionsIn, ImportsLeadTo, IsDescriptor, IsReachable, LinksOptions}
use Rattle.proto_visibility.specs.Reaches.HasOptionsIn.{imported, built_in}
use Rattle.proto_visibility.specs.Reaches.IsReachable.{reached}
use Rattle.proto_visibility.specs.Reaches.Reaches.{imports}
use Rattle.option_link.specs.Contexts.{NamesAs}
use Rattle.option_link.specs.Contexts.NamesAs.{field as names-field}
use Rattle.option_link.specs.Laws.{EachFieldIsNamed, EachSourceHasItsOptionsMessage}

module _ (files : List File) (own : HaveOwnPaths files) (clear : NoClash Refuse files) (source : ℕ)
    (is : IsSource files source) (links : LinksOptions files source)
    (present : (file : ℕ) → HasOptionsIn files source file → IsPresent files file) where
  there : (file : ℕ) → ImportsLeadTo files source file → IsDescriptor files file → IsReachable files file
  there file way has = reached is (imports links way) (present file (imported way has))

  -- the name of the message of files' options, in such a file
  abbrev item : (file : ℕ) → IsDescriptor files file → Item
  item file has = record {
    place = record { file = file; span = has.declaration.name };
    full_name = has.declaration.full_name;
    is_declaration = true;
  }

  item_is : (file : ℕ) → ImportsLeadTo files source file → (has : IsDescriptor files file)
      → IsItem files (item file has)
  item_is file way has = declared (there file way has) has.known has.listed

  apart : (a b : ℕ) → ImportsLeadTo files source a → ImportsLeadTo files source b → (x : IsDescriptor files a)
      → (y : IsDescriptor files b) → a < b → ⊥
  apart a b way other x y less = clear (item a x) (item b y) (record {
    first_is = item_is a way x;
    second_is = item_is b other y;
    ordered = inl less;
    one_name = x.named ∙ sym y.named;
    declares = refl;
  })

  one_file : (a b : ℕ) → HasOptionsIn files source a → HasOptionsIn files source b → a ≡ b
  one_file a b (imported way x) (imported other y) = elim (cases_order a b) [
    | inl same ↦ same
    | inr apart_by ↦ elim apart_by [
      | inl less ↦ absurd (apart a b way other x y less)
      | inr more ↦ absurd (apart b a other way y x more)
    ]
  ]
  one_file a b (imported way x) (built_in none has) = absurd (none a way x)
  one_file a b (built_in none has) (imported way x) = absurd (none b way x)
  one_file a b (built_in none has) (built_in nor other) = own a b has.0 other.0 has.1 other.1 (has.2 ∙ sym other.2)

pub each_options_message : EachSourceHasItsOptionsMessage
each_options_message files own clear source is links present name message named has = record {
  named = named;
  of_source = record {
    has = has;
    only = λ other its. one_file files own clear source is links present other message.file its has;
    present = present message.file has;
  };
}

pub each_field : EachFieldIsNamed
each_field files known source text option number name context message field word fact numbered plain words stands has
    own no_group = record {
      numbered = numbered;
      context = context;
      stands = stands;
      names = subst (λ role. NamesAs files known source text option number name role context field) (sym plain)
          (names-field words has own no_group);
    }
