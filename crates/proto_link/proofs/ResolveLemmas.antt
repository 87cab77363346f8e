-- From lookups to what a use names.
use Rattle.std.proofs.Common.{◌≡◌, ℕ, ◌≤◌, Bool, true, false, List, [], ◌∷◌, length, map, get_or, Option, Some, None}
use Rattle.std.proofs.Common.{MatchOption, Result, Ok, Err, IfOk, refl, ap, sym, ◌∙◌, subst, arith}
use Rattle.proto_decl.specs.Names.{qualified, dotted}
use Rattle.proto_decl.specs.declared.uses.Component.{Component}
use Rattle.proto_decl.specs.declared.uses.Use.{Use}
use Rattle.proto_visibility.specs.Files.{File}
use Rattle.proto_visibility.specs.Knows.{KnowsAs, is_type, is_message, is_aggregate}
use Rattle.proto_link.specs.Resolves.{Innermost, ResolvesIn, Resolves, words_of, wanted}
use Rattle.proto_link.specs.Resolves.ResolvesIn.{absolute, single, extended, compound}
use Rattle.proto_link.specs.Tables.Found.{HasNoName, IsSingle, IsCompound}
use Rattle.proto_link.proofs.LawLemmas.{one_scope}

module _ (files : List File) (file : ℕ) (is_extended : Bool) (first words : List ℕ) (from : List ℕ) where
  pub compound_by : {S : Type 0} (start text : List ℕ) (bytes : S → List ℕ) (result : Option S)
      → text ≡ qualified start words → Innermost files file is_aggregate first from start
      → MatchOption result (KnowsAs files file (wanted is_extended) text → ⊥)
      (λ name. (bytes name ≡ text) × KnowsAs files file (wanted is_extended) text)
      → MatchOption result ((name : List ℕ) → IsCompound files file is_extended first words from name → ⊥)
      (λ name. IsCompound files file is_extended first words from (bytes name))
  compound_by start text bytes None is innermost none = λ name c.
      let same = ap (λ s. qualified s words) (one_scope c.innermost innermost) in
      none (subst (KnowsAs files file (wanted is_extended)) (c.name_is ∙ (same ∙ sym is)) c.known)
  compound_by start text bytes (Some name) is innermost some =
      record {
        start = start;
        innermost = innermost;
        name_is = some.0 ∙ is;
        known = subst (KnowsAs files file (wanted is_extended)) (sym some.0) some.1;
      }

  pub compound_none : ((start : List ℕ) → Innermost files file is_aggregate first from start → ⊥) → (name : List ℕ)
      → IsCompound files file is_extended first words from name → ⊥
  compound_none none name c = none c.start c.innermost

-- what is found for a use with these words
abbrev pub Answers : {S : Type 0} → List File → ℕ → (bytes : S → List ℕ) → Option S → (is_extended has_dot : Bool)
    → (words : List (List ℕ)) (from : List ℕ) → Type 0
Answers files file bytes result is_extended has_dot words from =
    MatchOption result ((name : List ℕ) → ResolvesIn files file is_extended has_dot words from name → ⊥)
    (λ name. ResolvesIn files file is_extended has_dot words from (bytes name))

module _ {S : Type 0} (files : List File) (file : ℕ) (bytes : S → List ℕ) (from : List ℕ) where
  no_absolute : (is_extended : Bool) (words : List (List ℕ)) (text name : List ℕ) → text ≡ dotted words
      → (KnowsAs files file (wanted is_extended) text → ⊥) → ResolvesIn files file is_extended true words from name → ⊥
  no_absolute is_extended words text name is none (absolute known) =
      none (subst (KnowsAs files file (wanted is_extended)) (sym is) known)

  absolute_by : (is_extended : Bool) (words : List (List ℕ)) (text : List ℕ) (result : Option S) → text ≡ dotted words
      → MatchOption result (KnowsAs files file (wanted is_extended) text → ⊥)
      (λ name. (bytes name ≡ text) × KnowsAs files file (wanted is_extended) text)
      → Answers files file bytes result is_extended true words from
  absolute_by is_extended words text None is none = λ name r. no_absolute is_extended words text name is none r
  absolute_by is_extended words text (Some name) is some =
      subst (ResolvesIn files file is_extended true words from) (sym (some.0 ∙ is))
      (absolute (subst (KnowsAs files file (wanted is_extended)) is some.1))

  single_by : (word : List ℕ) (result : Option S)
      → MatchOption result ((start : List ℕ) → Innermost files file is_type word from start → ⊥)
      (λ name. IsSingle files file word from (bytes name)) → Answers files file bytes result false false (word ∷ []) from
  single_by word None none = λ name r. not name r
    where
      not : (name : List ℕ) → ResolvesIn files file false false (word ∷ []) from name → ⊥
      not name (single {scope = scope} innermost) = none scope innermost
  single_by word (Some name) some =
      subst (ResolvesIn files file false false (word ∷ []) from) (sym some.name_is) (single some.innermost)

  extended_by : (word : List ℕ) (result : Option S)
      → MatchOption result ((name : List ℕ) → IsCompound files file true word word from name → ⊥)
      (λ name. IsCompound files file true word word from (bytes name))
      → Answers files file bytes result true false (word ∷ []) from
  extended_by word None none = λ name r. not name r
    where
      not : (name : List ℕ) → ResolvesIn files file true false (word ∷ []) from name → ⊥
      not name (extended {scope = scope} innermost known) =
          none (qualified scope word)
          (record { start = scope; innermost = innermost; name_is = refl; known = known })
  extended_by word (Some name) some =
      subst (ResolvesIn files file true false (word ∷ []) from) (sym some.name_is)
      (extended some.innermost (subst (KnowsAs files file is_message) some.name_is some.known))

  no_compound : (is_extended : Bool) (first second : List ℕ) (others : List (List ℕ)) (text name : List ℕ)
      → text ≡ dotted (first ∷ (second ∷ others))
      → ((name : List ℕ) → IsCompound files file is_extended first text from name → ⊥)
      → ResolvesIn files file is_extended false (first ∷ (second ∷ others)) from name → ⊥
  no_compound is_extended first second others text name is none (compound {scope = scope} innermost known) =
      none (qualified scope (dotted (first ∷ (second ∷ others))))
      (record { start = scope; innermost = innermost; name_is = ap (qualified scope) (sym is); known = known })

  compound_of : (is_extended : Bool) (first second : List ℕ) (others : List (List ℕ)) (text : List ℕ)
      (result : Option S) → text ≡ dotted (first ∷ (second ∷ others))
      → MatchOption result ((name : List ℕ) → IsCompound files file is_extended first text from name → ⊥)
      (λ name. IsCompound files file is_extended first text from (bytes name))
      → Answers files file bytes result is_extended false (first ∷ (second ∷ others)) from
  compound_of is_extended first second others text None is none =
      λ name r. no_compound is_extended first second others text name is none r
  compound_of is_extended first second others text (Some name) is some =
      let name_is = some.name_is ∙ ap (qualified some.start) is in
      subst (ResolvesIn files file is_extended false (first ∷ (second ∷ others)) from) (sym name_is)
      (compound some.innermost (subst (KnowsAs files file (wanted is_extended)) name_is some.known))

one_word : (cs : List Component) (word : Component) → length cs ≡ 1 → word ≡ get_or cs 0 word
    → map (λ c. c.name) cs ≡ word.name ∷ []
one_word [] word e is = absurd (omega arith)
one_word (c ∷ []) word e is = ap (λ (x : Component). x.name ∷ []) (sym is)
one_word (c ∷ (d ∷ ds)) word e is = absurd (omega (arith, e))

more_words : (cs : List Component) (first : Component) → 2 ≤ length cs → first ≡ get_or cs 0 first
    → (second : List ℕ) × (others : List (List ℕ)) × (map (λ c. c.name) cs ≡ first.name ∷ (second ∷ others))
more_words [] first h is = absurd (omega (arith, h))
more_words (c ∷ []) first h is = absurd (omega (arith, h))
more_words (c ∷ (d ∷ ds)) first h is =
    (d.name, map (λ x. x.name) ds, ap (λ (x : Component). x.name ∷ (d.name ∷ map (λ y. y.name) ds)) (sym is))

-- ---- a use

module _ {S : Type 0} (files : List File) (file : ℕ) (type_use : Use) (bytes : S → List ℕ) (result : Option S) where
  abbrev pub AnswersUse : Type 0
  AnswersUse = MatchOption result (HasNoName files file type_use) (λ name. Resolves files file type_use (bytes name))

  by_parts : (is_extended has_dot : Bool) (words : List (List ℕ)) → type_use.is_extended ≡ is_extended
      → type_use.has_leading_dot ≡ has_dot → words_of type_use ≡ words
      → Answers files file bytes result is_extended has_dot words type_use.scope → AnswersUse
  by_parts is_extended has_dot words extends is are answers =
      let With : Bool → Bool → List (List ℕ) → Type 0 = λ e d ws.
      Answers files file bytes result e d ws type_use.scope in
      subst (λ e. With e type_use.has_leading_dot (words_of type_use)) (sym extends)
      (subst (λ d. With is_extended d (words_of type_use)) (sym is) (subst (With is_extended has_dot) (sym are) answers))

  pub use_dotted : (text : List ℕ) → type_use.has_leading_dot ≡ true → text ≡ dotted (words_of type_use)
      → MatchOption result (KnowsAs files file (wanted type_use.is_extended) text → ⊥)
      (λ name. (bytes name ≡ text) × KnowsAs files file (wanted type_use.is_extended) text) → AnswersUse
  use_dotted text dot is found =
      by_parts type_use.is_extended true (words_of type_use) refl dot refl
      (absolute_by files file bytes type_use.scope type_use.is_extended (words_of type_use) text result is found)

  pub use_single : (word : List ℕ) → type_use.is_extended ≡ false → type_use.has_leading_dot ≡ false
      → words_of type_use ≡ word ∷ []
      → MatchOption result ((start : List ℕ) → Innermost files file is_type word type_use.scope start → ⊥)
      (λ name. IsSingle files file word type_use.scope (bytes name)) → AnswersUse
  use_single word plain dot are found =
      by_parts false false (word ∷ []) plain dot are (single_by files file bytes type_use.scope word result found)

  pub use_extended : (word : List ℕ) → type_use.is_extended ≡ true → type_use.has_leading_dot ≡ false
      → words_of type_use ≡ word ∷ []
      → MatchOption result ((name : List ℕ) → IsCompound files file type_use.is_extended word word type_use.scope name
      → ⊥) (λ name. IsCompound files file type_use.is_extended word word type_use.scope (bytes name)) → AnswersUse
  use_extended word extends dot are found =
      let Found : Bool → Type 0 = λ e.
      MatchOption result ((name : List ℕ) → IsCompound files file e word word type_use.scope name → ⊥)
      (λ name. IsCompound files file e word word type_use.scope (bytes name)) in
      by_parts true false (word ∷ []) extends dot are
      (extended_by files file bytes type_use.scope word result (subst Found extends found))

  pub use_compound : (first : Component) (text : List ℕ) → type_use.has_leading_dot ≡ false
      → 2 ≤ length type_use.components → first ≡ get_or type_use.components 0 first → text ≡ dotted (words_of type_use)
      → MatchOption result ((name : List ℕ)
      → IsCompound files file type_use.is_extended first.name text type_use.scope name → ⊥)
      (λ name. IsCompound files file type_use.is_extended first.name text type_use.scope (bytes name)) → AnswersUse
  use_compound first text dot size is text_is found =
      let words = more_words type_use.components first size is in
      by_parts type_use.is_extended false (first.name ∷ (words.0 ∷ words.1)) refl dot words.2
      (compound_of files file bytes type_use.scope type_use.is_extended first.name words.0 words.1 text result
      (text_is ∙ ap dotted words.2) found)

-- ---- a use, by the texts of what is looked up

pub ok_each : {A E : Type 0} (P Q : A → Type 0) (result : Result A E) → IfOk result P → ((x : A) → P x → Q x)
    → IfOk result Q
ok_each P Q (Ok x) holds each = each x holds
ok_each P Q (Err e) holds each = tt

-- the one word of a use
pub word_alone : (type_use : Use) (components : List Component) (word : Component) (text : List ℕ)
    → components ≡ type_use.components → length components ≡ 1 → word ≡ get_or components 0 word → text ≡ word.name
    → words_of type_use ≡ text ∷ []
word_alone type_use components word text are size is text_is =
    ap (λ (cs : List Component). map (λ c. c.name) cs) (sym are)
    ∙ (one_word components word size is ∙ ap (λ (t : List ℕ). t ∷ []) (sym text_is))

-- what a lookup of a word, or of more words, finds
abbrev pub SingleFound : {S : Type 0} → List File → ℕ → (bytes : S → List ℕ) → (word scope : List ℕ) → Option S → Type 0
SingleFound files file bytes word scope result =
    MatchOption result ((start : List ℕ) → Innermost files file is_type word scope start → ⊥)
    (λ name. IsSingle files file word scope (bytes name))

abbrev pub CompoundFound : {S : Type 0} → List File → ℕ → (bytes : S → List ℕ) → (is_extended : Bool)
    → (first words scope : List ℕ) → Option S → Type 0
CompoundFound files file bytes is_extended first words scope result =
    MatchOption result ((name : List ℕ) → IsCompound files file is_extended first words scope name → ⊥)
    (λ name. IsCompound files file is_extended first words scope (bytes name))

module _ {S : Type 0} (files : List File) (file : ℕ) (type_use : Use) (bytes : S → List ℕ)
    (plain : type_use.has_leading_dot ≡ false) where
  pub single_of_use : (word scope : List ℕ) (result : Option S) → type_use.is_extended ≡ false
      → words_of type_use ≡ word ∷ [] → scope ≡ type_use.scope → SingleFound files file bytes word scope result
      → AnswersUse files file type_use bytes result
  single_of_use word scope result not are scope_is found =
      use_single files file type_use bytes result word not plain are
      (subst (λ s. SingleFound files file bytes word s result) scope_is found)

  pub compound_of_use : (components : List Component) (first : Component) (text words : List ℕ) (result : Option S)
      → components ≡ type_use.components → 2 ≤ length components
      → first ≡ get_or components 0 first → text ≡ first.name → words ≡ dotted (map (λ c. c.name) components)
      → CompoundFound files file bytes type_use.is_extended text words type_use.scope result
      → AnswersUse files file type_use bytes result
  compound_of_use components first text words result are size is text_is words_are found =
      use_compound files file type_use bytes result first words plain
      (subst (λ (cs : List Component). 2 ≤ length cs) are size)
      (subst (λ (cs : List Component). first ≡ get_or cs 0 first) are is)
      (words_are ∙ ap (λ (cs : List Component). dotted (map (λ c. c.name) cs)) are)
      (subst (λ t. CompoundFound files file bytes type_use.is_extended t words type_use.scope result) text_is found)
