-- Which scopes are farther out than another one, and which uses are found there.
use Rattle.std.proofs.Common.{◌≡◌, ◌↔◌, ℕ, Bool, false, List, [], ◌∷◌, length, map, take, Option, Some, None}
use Rattle.std.proofs.Common.{◌-◌, ◌≤◌, drop, get_or}
use Rattle.std.proofs.Common.{MatchOption, IsTrue, refl, ap, sym, ◌∙◌, subst, arith}
use Rattle.std.specs.Option.{is_some}
use Rattle.std.proofs.lemmas.Bool.{false≢true}
use Rattle.std.proofs.lemmas.List.{take_all}
use denote.Ref.{Bor}
use Rattle.proto_decl.specs.Names.{IsAround, dotted, package_of}
use Rattle.proto_decl.specs.Facts.{Facts}
use Rattle.proto_decl.specs.declared.uses.Component.{Component}
use Rattle.proto_decl.specs.declared.uses.Use.{Use}
use Rattle.proto_decl.proofs.ScopeLemmas.{one_around, none_around_root}
use Rattle.proto_visibility.specs.Files.{File, HasFacts}
use Rattle.proto_visibility.specs.Knows.{NameKind, IsOwner}
use Rattle.proto_visibility.proofs.FileFactLemmas.{one_list_of_facts}
use Rattle.proto_link.specs.Resolves.{Innermost, Resolves, wanted, words_of}
use Rattle.proto_link.specs.Mended.{IsAroundOrSame}
use Rattle.proto_link.specs.Uncertain.{HasTarget, IsFartherOut, IsFoundFarther, first_wanted}
use Rattle.proto_link.specs.Mended.IsAroundOrSame.{same as same_scope, farther as farther_scope}
use Rattle.proto_link.proofs.LawLemmas.{one_scope}
use Rattle.proto_link.proofs.TargetLemmas.{with_owner, without_owner}

-- ---- scopes that are farther out

-- the other scope is the next one, or around it
abbrev pub IsFrom : (next : Option (Bor (List ℕ))) → (outer : List ℕ) → Type 0
IsFrom None outer = ⊥
IsFrom (Some next) outer = IsAroundOrSame next.now outer

pub farther_from : (scope outer : List ℕ) (next : Option (Bor (List ℕ)))
    → MatchOption next (scope ≡ []) (λ o. IsAround scope o.now) → IsFartherOut scope outer ↔ IsFrom next outer
farther_from scope outer None root = (
  λ out. none_around_root (subst (λ s. IsAround s out.0) root out.1),
  λ from. absurd from,
)
farther_from scope outer (Some next) is = (
  λ out. subst (λ n. IsAroundOrSame n outer) (one_around out.1 is) out.2,
  λ from. (next.now, is, from),
)

-- what is left to look through answers for all
abbrev pub StandsFor : (scope outer : List ℕ) → Option (Bor (List ℕ)) → Type 0
StandsFor scope outer next = IsFartherOut scope outer ↔ IsFrom next outer

pub farther_more : (scope outer inner : List ℕ) (next : Option (Bor (List ℕ))) → (inner ≡ outer → ⊥)
    → IsFartherOut scope outer ↔ IsAroundOrSame inner outer
    → MatchOption next (inner ≡ []) (λ o. IsAround inner o.now) → StandsFor scope outer next
farther_more scope outer inner next apart so_far around = (
  λ out. (farther_from inner outer next around).0 (leave (so_far.0 out) refl),
  λ from. (let out = (farther_from inner outer next around).1 from in so_far.1 (farther_scope out.1 out.2)),
)
  where
    leave : {o : List ℕ} → IsAroundOrSame inner o → o ≡ outer → IsFartherOut inner outer
    leave same_scope same = absurd (apart same)
    leave (farther_scope {next = step} is more) same =
        (step, is, subst (λ o. IsAroundOrSame step o) same more)

-- ---- a use that is found there

module _ (files : List File) (file : ℕ) (type_use : Use) where
  module _ (word : List ℕ) (others : List (List ℕ)) (words : words_of type_use ≡ word ∷ others) where
    -- the first word is one, and so is where it is found
    found_at : (is : IsFoundFarther files file type_use)
        → Innermost files file (first_wanted type_use.is_extended others) word type_use.scope is.farther.start
    found_at is =
        let both = sym is.words_are ∙ words in
        subst (λ os. Innermost files file (first_wanted type_use.is_extended os) word type_use.scope is.farther.start)
        (tail_of is.word word is.others others both)
        (subst
        (λ w. Innermost files file (first_wanted type_use.is_extended is.others) w type_use.scope is.farther.start)
        (head_of is.word word is.others others both) is.farther.innermost)
      where
        head_of : (a b : List ℕ) (xs ys : List (List ℕ)) → a ∷ xs ≡ b ∷ ys → a ≡ b
        head_of a b xs ys e = cc

        tail_of : (a b : List ℕ) (xs ys : List (List ℕ)) → a ∷ xs ≡ b ∷ ys → xs ≡ ys
        tail_of a b xs ys e = cc

    pub found_there : (start : List ℕ) → type_use.has_leading_dot ≡ false
        → Innermost files file (first_wanted type_use.is_extended others) word type_use.scope start
        → (facts : Facts) → HasFacts files file facts
        → IsFartherOut (package_of facts.package_name (length facts.package_name)) start
        ↔ IsFoundFarther files file type_use
    found_there start plain innermost facts has = (
      λ out. record {
        facts = facts;
        known = has;
        word = word;
        others = others;
        words_are = words;
        plain = plain;
        farther = record { start = start; innermost = innermost; passed = out };
      },
      λ is. (
          let scope = one_scope (found_at is) innermost in
          let same = one_list_of_facts files file is.facts facts is.known has in
          let Out : Facts → List ℕ → Type 0 = λ f s. IsFartherOut (package_of f.package_name (length f.package_name)) s
          in
          subst (Out facts) scope (subst (λ f. Out f is.farther.start) same is.farther.passed)),
    )

    -- whether it is, by where the first word is found
    pub found_by : (start : List ℕ) → type_use.has_leading_dot ≡ false
        → Innermost files file (first_wanted type_use.is_extended others) word type_use.scope start → (is : Bool)
        → (IsTrue is ↔ ((facts : Facts) × HasFacts files file facts
        × IsFartherOut (package_of facts.package_name (length facts.package_name)) start))
        → IsTrue is ↔ IsFoundFarther files file type_use
    found_by start plain innermost is beyond = (
      λ t. (let of = beyond.0 t in (found_there start plain innermost of.0 of.1).0 of.2),
      λ found. beyond.1
          (found.facts, found.known, (found_there start plain innermost found.facts found.known).1 found),
    )

-- the words of a use, by its first component
pub first_words : (type_use : Use) (components : List Component) (first : Component)
    → components ≡ type_use.components → 1 ≤ length components → first ≡ get_or components 0 first
    → words_of type_use
    ≡ first.name ∷ map (λ (c : Component). c.name) (take (length components - 1) (drop 1 components))
first_words type_use components first are size is =
    ap (λ (cs : List Component). map (λ (c : Component). c.name) cs) (sym are) ∙ by components size is
  where
    by : (cs : List Component) → 1 ≤ length cs → first ≡ get_or cs 0 first
        → map (λ (c : Component). c.name) cs
        ≡ first.name ∷ map (λ (c : Component). c.name) (take (length cs - 1) (drop 1 cs))
    by [] few at = absurd (omega (arith, few))
    by (c ∷ cs) few at =
        let all : take (length (c ∷ cs) - 1) cs ≡ cs = take_all (length (c ∷ cs) - 1) cs (omega arith) in
        ap (λ (x : Component). x.name ∷ map (λ (d : Component). d.name) cs) (sym at)
        ∙ ap (λ (ds : List Component). first.name ∷ map (λ (d : Component). d.name) ds) (sym all)

-- the whole package's name
pub whole_package : (components : List Component)
    → dotted (map (λ (c : Component). c.name) components) ≡ package_of components (length components)
whole_package components =
    ap (λ (cs : List Component). dotted (map (λ (c : Component). c.name) cs)) (sym (take_all (length components)
    components (omega arith)))

-- ---- a use that names a type

module _ (files : List File) (file : ℕ) (type_use : Use) where
  pub target_iff : (name : List ℕ) (admits : NameKind → Bool) → Resolves files file type_use name
      → admits ≡ wanted type_use.is_extended → (found : Option ℕ)
      → MatchOption found ((owner : ℕ) → IsOwner files file admits name owner → ⊥) (IsOwner files file admits name)
      → IsTrue (is_some found) ↔ HasTarget files file type_use
  target_iff name admits resolves role None none = (
    λ t. absurd (false≢true t),
    λ has. absurd (without_owner files file type_use name admits resolves role none has.0 has.1 has.2),
  )
  target_iff name admits resolves role (Some owner) owned = (
    λ t. (name, owner, with_owner files file type_use name admits resolves role owner owned),
    λ has. refl,
  )
