-- Names that may name another field: from what is found step by step.
use Rattle.std.proofs.Common.{◌≡◌, ◌↔◌, inl, inr, ℕ, ◌+◌, ◌<◌, Bool, true, false, List, [], ◌∷◌, Option, Some, None}
use Rattle.std.proofs.Common.{IsTrue, MatchOption}
use Rattle.std.proofs.Common.{length, map, refl, sym, ◌∙◌, subst, arith}
use denote.Ref.{Bor}
use Rattle.proto_lex.specs.declared.span.Span.{Span}
use Rattle.std.specs.Option.{is_some}
use Rattle.std.proofs.lemmas.Bool.{cases_lt, cases_order, false≢true, leb-true, leb-false}
use Rattle.std.proofs.lemmas.Option.{none-some}
use Rattle.proto_options.specs.declared.names.OptionName.{OptionName}
use Rattle.proto_options.specs.declared.names.OptionRole.TheVariants as role
use Rattle.proto_options.specs.declared.options.FileOption.{FileOption}
use Rattle.proto_visibility.specs.Files.{File}
use Rattle.proto_visibility.specs.Knows.{NameKind}
use Rattle.proto_link.specs.Resolves.{Innermost}
use Rattle.proto_link.specs.Uncertain.{IsBeyondPackage, IsFartherOut, IsFirstUnread, package_name}
use Rattle.proto_link.proofs.LawLemmas.{one_scope}
use Rattle.option_link.specs.declared.contexts.Context.{Context}
use Rattle.option_link.specs.declared.facts.OptionFacts.{OptionFacts}
use Rattle.option_link.specs.declared.place.DeclaredPlace.{DeclaredPlace}
use Rattle.option_link.specs.declared.target.UncertainName.{UncertainName}
use Rattle.option_link.specs.Contexts.{HasWords, NamesAs, NamesIn}
use Rattle.option_link.specs.Contexts.NamesAs.{extension as names_extension, item as names_item}
use Rattle.option_link.specs.Contexts.MayBeExtended.{message as extended_message}
use Rattle.option_link.specs.Found.{IsExtendedName, IsScope, in_braces}
use Rattle.option_link.specs.Uncertain.{IsInDoubt, IsLookedUpFarther, IsShared, IsUncertainName, first_sought}
use Rattle.option_link.specs.Uncertain.IsShared.{part as of_part, in_braces as of_braces}
use Rattle.option_link.specs.Doubts.{AreFoundFarther, HasLookup, IsWordFarther, LookUpFarther, first_doubt}
use Rattle.option_link.specs.Doubts.{number_if}
use Rattle.option_link.proofs.ExtensionLemmas.{same_scope}
use Rattle.option_link.proofs.NameLemmas.{same_words}
use Rattle.option_link.proofs.WordLemmas.{now}

-- ---- where the first word is found

module _ (files : List File) (file : ℕ) (option : FileOption) (number : ℕ) where
  abbrev pub IsBeyond : (from start : List ℕ) → Type 0
  IsBeyond from start =
      (shared : List ℕ) × IsShared files file option number from shared × IsFartherOut shared start

  pub beyond_braces : (from start : List ℕ) → in_braces option number ≡ true
      → IsFartherOut from start ↔ IsBeyond from start
  beyond_braces from start inside = (
    λ out. (from, of_braces (leb-true option.setting.parts number inside), out),
    λ is. by is.1 is.2,
  )
    where
      by : {shared : List ℕ} → IsShared files file option number from shared → IsFartherOut shared start
          → IsFartherOut from start
      by (of_part less has) out = absurd (omega (arith, less, leb-true option.setting.parts number inside))
      by (of_braces least) out = out

  pub beyond_part : (from start : List ℕ) → in_braces option number ≡ false
      → IsBeyondPackage files file start ↔ IsBeyond from start
  beyond_part from start outside = (
    λ is. (package_name is.0, of_part (leb-false option.setting.parts number outside) is.1, is.2),
    λ is. by is.1 is.2,
  )
    where
      by : {shared : List ℕ} → IsShared files file option number from shared → IsFartherOut shared start
          → IsBeyondPackage files file start
      by (of_part {facts = facts} less has) out = (facts, has, out)
      by (of_braces least) out = absurd (omega (arith, least, leb-false option.setting.parts number outside))

  pub word_found : (admits : NameKind → Bool) (word from start : List ℕ) → Innermost files file admits word from start
      → IsBeyond from start ↔ IsWordFarther files file option number admits word from
  word_found admits word from start innermost = (
    λ is. record {
      shared = is.0;
      is_shared = is.1;
      farther = record { start = start; innermost = innermost; passed = is.2 };
    },
    λ w. (
      w.shared,
      w.is_shared,
      subst (IsFartherOut w.shared) (one_scope w.farther.innermost innermost) w.farther.passed,
    ),
  )

  pub word_lost : (admits : NameKind → Bool) (word from : List ℕ)
      → ((start : List ℕ) → Innermost files file admits word from start → ⊥)
      → IsWordFarther files file option number admits word from → ⊥
  word_lost admits word from none w = none w.farther.start w.farther.innermost

  pub words_farther : (words : List (List ℕ)) (word : List ℕ) (others : List (List ℕ)) (from : List ℕ)
      → words ≡ word ∷ others → IsWordFarther files file option number (first_sought others) word from
      ↔ AreFoundFarther files file option number words from
  words_farther words word others from are = (
    λ w. record { word = word; others = others; are = are; farther = w },
    λ a. (
        let same = sym a.are ∙ are in
        subst (λ os. IsWordFarther files file option number (first_sought os) word from)
        (tail_of a.word word a.others others same)
        (subst (λ w. IsWordFarther files file option number (first_sought a.others) w from)
        (head_of a.word word a.others others same) a.farther)),
  )
    where
      head_of : (a b : List ℕ) (xs ys : List (List ℕ)) → a ∷ xs ≡ b ∷ ys → a ≡ b
      head_of a b xs ys e = cc

      tail_of : (a b : List ℕ) (xs ys : List (List ℕ)) → a ∷ xs ≡ b ∷ ys → xs ≡ ys
      tail_of a b xs ys e = cc

  pub no_words_farther : (words : List (Bor (List ℕ))) (from : List ℕ) → length words < 1
      → AreFoundFarther files file option number (map now words) from → ⊥
  no_words_farther [] from few a = nothing a.word a.others a.are
    where
      nothing : (word : List ℕ) (others : List (List ℕ)) → [] ≡ word ∷ others → ⊥
      nothing word others e = cc
  no_words_farther (word ∷ words) from few a = omega (arith, few)

  -- by the scope that it is looked up from
  pub from_scope : (context : Context) (words : List (List ℕ)) (extended scope : List ℕ)
      → IsExtendedName files option context extended → IsScope option number extended scope
      → HasLookup files option number context → AreFoundFarther files file option number words scope
      ↔ LookUpFarther files file option number context words
  from_scope context words extended scope called is_scope has = (
    λ a. record {
      has = has;
      are = subst (AreFoundFarther files file option number words) (sym (same has)) a;
    },
    λ l. subst (AreFoundFarther files file option number words) (same l.has) l.are,
  )
    where
      same : (h : HasLookup files option number context) → h.from ≡ scope
      same h = same_scope files option number context extended scope called is_scope h.message h.from h.extended
          h.looked_from

-- ---- the name

pub no_dot : (dot : Option Span) → is_some dot ≡ false → dot ≡ None
no_dot None is = refl
no_dot (Some span) is = absurd (false≢true (sym is))

pub with_dot : (dot : Option Span) → is_some dot ≡ true → dot ≡ None → ⊥
with_dot None is none = false≢true is
with_dot (Some span) is none = none-some span (sym none)

module _ (files : List File) (known : List OptionFacts) (file : ℕ) (text : List ℕ) (option : FileOption) (number : ℕ)
    (name : OptionName) where
  pub has_lookup : (context : Context) (at : DeclaredPlace)
      → NamesIn files known file text option number name context at → name.role ≡ role.Extension
      → HasLookup files option number context
  has_lookup context at names is =
      by (subst (λ r. NamesAs files known file text option number name r context at) is names)
    where
      by : {c : Context} → NamesAs files known file text option number name role.Extension c at
          → HasLookup files option number c
      by (names_extension {message = m} {from = f} words may from up owner stands named of_message) =
          record { message = m; extended = may; from = f; looked_from = from }
      by (names_item {set = set} {from = f} words braces says from found unknown owner stands named first) =
          record { message = set; extended = extended_message; from = f; looked_from = from }

  pub name_farther : (context : Context) (words : List (List ℕ)) → name.role ≡ role.Extension
      → name.name.leading_dot ≡ None → HasWords text name words
      → LookUpFarther files file option number context words
      ↔ IsLookedUpFarther files file text option number name context
  name_farther context words is plain has_words = (
    λ l. record {
      extension = is;
      plain = plain;
      word = l.are.word;
      others = l.are.others;
      words = subst (HasWords text name) l.are.are has_words;
      message = l.has.message;
      extended = l.has.extended;
      from = l.has.from;
      looked_from = l.has.looked_from;
      shared = l.are.farther.shared;
      is_shared = l.are.farther.is_shared;
      farther = l.are.farther.farther;
    },
    λ n. record {
      has = record { message = n.message; extended = n.extended; from = n.from; looked_from = n.looked_from };
      are = record {
        word = n.word;
        others = n.others;
        are = same_words text name words (n.word ∷ n.others) has_words n.words;
        farther = record { shared = n.shared; is_shared = n.is_shared; farther = n.farther };
      };
    },
  )

-- ---- behind which file

-- the number of the file, if the name is found farther out
pub behind_if : (files : List File) (file behind : ℕ) (Farther : Type 0) (is : Bool) → (IsTrue is ↔ Farther)
    → IsFirstUnread files file behind → (found : Option ℕ) → found ≡ number_if is behind
    → MatchOption found ((b : ℕ) → Farther → IsFirstUnread files file b → ⊥)
    (λ b. Farther × IsFirstUnread files file b)
behind_if files file behind Farther true iff first found made =
    subst (λ f. MatchOption f ((b : ℕ) → Farther → IsFirstUnread files file b → ⊥)
    (λ b. Farther × IsFirstUnread files file b)) (sym made) (iff.0 refl, first)
behind_if files file behind Farther false iff first found made =
    subst (λ f. MatchOption f ((b : ℕ) → Farther → IsFirstUnread files file b → ⊥)
    (λ b. Farther × IsFirstUnread files file b)) (sym made) (λ b farther unread. false≢true (iff.1 farther))

-- ---- the first one

module _ (files : List File) (known : List OptionFacts) (file : ℕ) (text : List ℕ) (option : FileOption) where
  -- what is found so far among the first so many names
  abbrev pub IsFirstDoubt : (count : ℕ) → Option UncertainName → Type 0
  IsFirstDoubt count found = MatchOption found
      ((number behind : ℕ) → number < count → IsInDoubt files known file text option number behind → ⊥)
      (IsUncertainName files known file text option)

  pub doubt_more : (number : ℕ) (so_far : Option UncertainName) (behind : Option ℕ) → IsFirstDoubt number so_far
      → MatchOption behind ((b : ℕ) → IsInDoubt files known file text option number b → ⊥)
      (IsInDoubt files known file text option number)
      → IsFirstDoubt (number + 1) (first_doubt so_far number behind)
  doubt_more number (Some uncertain) behind is here = is
  doubt_more number None (Some behind) none here = record {
    doubt = here;
    first = λ before other less doubt. none before other less doubt;
  }
  doubt_more number None None none here = λ n b less doubt. elim (cases_lt n number) [
    | inl before ↦ none n b before doubt
    | inr last ↦ (
        let at : n ≡ number = omega (arith, less, last) in
        here b (subst (λ k. IsInDoubt files known file text option k b) at doubt))
  ]

  -- there is one
  pub one_uncertain : (a b : UncertainName) → IsUncertainName files known file text option a
      → IsUncertainName files known file text option b → a ≡ b
  one_uncertain a b is also =
      let number : a.name_number ≡ b.name_number = elim (cases_order a.name_number b.name_number) [
        | inl same ↦ same
        | inr apart ↦ elim apart [
          | inl less ↦ absurd (also.first a.name_number a.behind less is.doubt)
          | inr more ↦ absurd (is.first b.name_number b.behind more also.doubt)
        ]
      ] in
      let one = is.doubt.first in
      let other = also.doubt.first in
      let behind : a.behind ≡ b.behind = elim (cases_order a.behind b.behind) [
        | inl same ↦ same
        | inr apart ↦ elim apart [
          | inl less ↦ absurd (other.least a.behind less one.unread one.sees)
          | inr more ↦ absurd (one.least b.behind more other.unread other.sees)
        ]
      ] in
      λ i. record { name_number = number i; behind = behind i }
