-- What a file of a part leads to by imports, and what a source of it reaches, is what it does in the whole.
use Rattle.std.proofs.Common.{◌≡◌, ℕ, true, Some, List, ap, sym, ◌∙◌, subst, refl}
use Rattle.std.specs.List.{slice_get}
use Rattle.std.proofs.lemmas.Option.{same_Some, slice_get_within}
use Rattle.proto_visibility.specs.Files.{File, HasPathAt, Imports, IsSource}
use Rattle.proto_visibility.specs.Sees.{LeadsTo, Sees}
use Rattle.proto_visibility.specs.Sees.LeadsTo.{at_once as leads_at_once, through as leads_through}
use Rattle.proto_visibility.specs.Sees.SeesBy.{itself, import}
use Rattle.proto_visibility.specs.Reaches.{HasOptionsIn, ImportsLeadTo, IsDescriptor, LinksOptions, Reaches}
use Rattle.proto_visibility.specs.Reaches.ImportsLeadTo.{at_once, through}
use Rattle.proto_visibility.specs.Reaches as reaches
use Rattle.proto_visibility.specs.Reaches.{descriptor_path}
use Rattle.proto_visibility.specs.Parts.{HasAllReached, HasAllSeen, IsOfPart, IsPart, renumbered}
use Rattle.proto_visibility.proofs.PartLemmas.{facts_of, facts_to, imports_back, imports_to, sees_more, sees_to, shares}

-- ---- along imports

pub joined : {files : List File} {a b c : ℕ} → ImportsLeadTo files a b → ImportsLeadTo files b c
    → ImportsLeadTo files a c
joined at_once more = more
joined (through step rest) more = through step (joined rest more)

pub leads_are : {files : List File} {a b : ℕ} → LeadsTo (Imports files) a b → ImportsLeadTo files a b
leads_are leads_at_once = at_once
leads_are (leads_through step rest) = through step (leads_are rest)

pub sees_are : {files : List File} {a b : ℕ} → Sees files a b → ImportsLeadTo files a b
sees_are itself = at_once
sees_are (import step rest) = through step (leads_are rest)

-- what a public import of a file that is reached names is reached
pub reaches_more : {files : List File} {a b c : ℕ} → Reaches files a b → Imports files b true c → Reaches files a c
reaches_more (reaches.sees way) step = reaches.sees (sees_more way step)
reaches_more (reaches.imports links way) step = reaches.imports links (joined way (through step at_once))
reaches_more (reaches.built_in links has way) step = reaches.built_in links has (joined way (through step at_once))

-- the part has all files that imports of this one lead to in the whole
abbrev pub HasAllLed : (part whole : List File) → (at : ℕ → ℕ) → (number : ℕ) → Type 0
HasAllLed part whole at number = (led : ℕ) → ImportsLeadTo whole (at number) led → IsOfPart part at led

module _ (part whole : List File) (at : ℕ → ℕ) (are : IsPart part whole at) where
  pub led_to : {i j : ℕ} → ImportsLeadTo part i j → ImportsLeadTo whole (at i) (at j)
  led_to at_once = at_once
  led_to (through {file = file} {next = next} step rest) =
      through (imports_to part whole at (shares part whole at are) file next step) (led_to rest)

  pub seen_of_led : (k : ℕ) → HasAllLed part whole at k → HasAllSeen part whole at k
  seen_of_led k all seen sees = all seen (sees_are sees)

  pub all_of_led : (k j : ℕ) → HasAllLed part whole at k → ImportsLeadTo whole (at k) (at j) → HasAllLed part whole at j
  all_of_led k j all way led more = all led (joined way more)

  pub record LedBack (i n : ℕ) : Type 0 where
    pub own : IsOfPart part at n
    pub leads : ImportsLeadTo part i own.number

  pub led_back : {m n : ℕ} → ImportsLeadTo whole m n → (from : IsOfPart part at m) → HasAllLed part whole at from.number
      → LedBack from.number n
  led_back at_once from all = record { own = from; leads = at_once }
  led_back (through {next = next} {publicly = publicly} step rest) from all =
      let first = subst (λ m. Imports whole m publicly next) (sym from.same) step in
      let next_is = all next (through first at_once) in
      let second = subst (λ m. Imports whole (at from.number) publicly m) (sym next_is.same) first in
      let own = imports_back part whole at (shares part whole at are) from.number next_is.number
      (slice_get_within part from.number from.file from.numbered)
      (slice_get_within part next_is.number next_is.file next_is.numbered) second in
      let further = led_back rest next_is
      (all_of_led from.number next_is.number all (through second at_once)) in
      record { own = further.own; leads = through own further.leads }

  -- ---- the messages of options

  descriptor_to : (k : ℕ) → IsDescriptor part k → IsDescriptor whole (at k)
  descriptor_to k is =
      let known = facts_to part whole at (shares part whole at are) k is.facts is.known in
      record {
        facts = renumbered known.0 is.facts;
        declaration = is.declaration;
        known = known.1;
        listed = is.listed;
        message = is.message;
        named = is.named;
      }

  descriptor_back : (n : ℕ) (own : IsOfPart part at n) → IsDescriptor whole n → IsDescriptor part own.number
  descriptor_back n own is =
      let known = facts_of part whole at (shares part whole at are) own is.known in
      record {
        facts = renumbered known.0 is.facts;
        declaration = is.declaration;
        known = known.1;
        listed = is.listed;
        message = is.message;
        named = is.named;
      }

  pub links_to : (k : ℕ) → LinksOptions part k → LinksOptions whole (at k)
  links_to k is =
      let its = are k is.file is.numbered in
      record { file = its.other; numbered = its.numbered; links = sym its.same.links ∙ is.links }

  pub path_at_back : (n : ℕ) (path : List ℕ) → HasPathAt whole path n → (own : IsOfPart part at n)
      → HasPathAt part path own.number
  path_at_back n path has own =
      let its = are own.number own.file own.numbered in
      let same : its.other ≡ has.0 =
      same_Some its.other has.0 (sym its.numbered ∙ (ap (slice_get whole) own.same ∙ has.1)) in
      (own.file, own.numbered, its.same.path ∙ (ap (λ (f : File). f.path) same ∙ has.2))

  path_at_to : (k : ℕ) (path : List ℕ) → HasPathAt part path k → HasPathAt whole path (at k)
  path_at_to k path has =
      let its = are k has.0 has.1 in (its.other, its.numbered, sym its.same.path ∙ has.2)

  module _ (k : ℕ) (file : File) (stands : slice_get part k ≡ Some file) (all : HasAllLed part whole at k) where
    abbrev here : IsOfPart part at (at k)
    here = record { number = k; file = file; numbered = stands; same = refl }

    pub options_in_to : (j : ℕ) → HasOptionsIn part k j → HasOptionsIn whole (at k) (at j)
    options_in_to j (reaches.imported way is) = reaches.imported (led_to way) (descriptor_to j is)
    options_in_to j (reaches.built_in none has) = reaches.built_in none_there (path_at_to j descriptor_path has)
      where
        none_there : (other : ℕ) → ImportsLeadTo whole (at k) other → IsDescriptor whole other → ⊥
        none_there other way is =
            let back = led_back way here all in none back.own.number back.leads (descriptor_back other back.own is)

    pub record OptionsInBack (n : ℕ) : Type 0 where
      pub own : IsOfPart part at n
      pub has : HasOptionsIn part k own.number

    pub options_in_back : (n : ℕ) → IsOfPart part at n → HasOptionsIn whole (at k) n → OptionsInBack n
    options_in_back n own (reaches.imported way is) =
        let back = led_back way here all in
        record { own = back.own; has = reaches.imported back.leads (descriptor_back n back.own is) }
    options_in_back n own (reaches.built_in none has) = record {
      own = own;
      has = reaches.built_in (λ other way is. none (at other) (led_to way) (descriptor_to other is))
          (path_at_back n descriptor_path has own);
    }

-- ---- what is reached

module _ (part whole : List File) (at : ℕ → ℕ) (are : IsPart part whole at)
    (all : HasAllReached part whole at) (source : ℕ) (is : IsSource part source) where
  pub all_led : LinksOptions part source → HasAllLed part whole at source
  all_led links led way = all source led is (reaches.imports (links_to part whole at are source links) way)

  pub reaches_to : (j : ℕ) → Reaches part source j → Reaches whole (at source) (at j)
  reaches_to j (reaches.sees way) = reaches.sees (sees_to part whole at (shares part whole at are) way)
  reaches_to j (reaches.imports links way) =
      reaches.imports (links_to part whole at are source links) (led_to part whole at are way)
  reaches_to j (reaches.built_in {first = first} links has way) =
      reaches.built_in (links_to part whole at are source links)
      (options_in_to part whole at are source is.file is.numbered (all_led links) first has)
      (led_to part whole at are way)

  pub all_seen : HasAllSeen part whole at source
  all_seen seen way = all source seen is (reaches.sees way)
