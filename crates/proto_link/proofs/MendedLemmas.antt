-- What a use names if files without facts are mended.
use Rattle.std.proofs.Common.{◌≡◌, ℕ, ◌<◌, Bool, List, ◌∷◌, length, Some, None, refl, sym, ◌∙◌, arith}
use Rattle.std.specs.List.{slice_get}
use Rattle.std.proofs.lemmas.Option.{slice_get_within}
use Rattle.basics.proofs.ListLemmas.{item_at}
use Rattle.proto_decl.specs.Names.{qualified, IsAround}
use Rattle.proto_decl.specs.Facts.{Facts}
use Rattle.proto_decl.specs.declared.uses.Use.{Use}
use Rattle.proto_visibility.specs.Files.{File, HasFacts, Imports, IsPresent}
use Rattle.proto_visibility.specs.Sees.{LeadsTo, Sees}
use Rattle.proto_visibility.specs.Sees.LeadsTo.{at_once, through}
use Rattle.proto_visibility.specs.Sees.SeesBy.{itself, import}
use Rattle.proto_visibility.specs.Knows.{NameKind, Knows, KnowsAs, SeesGiving}
use Rattle.proto_visibility.specs.Knows.Knows.{declared, packaged}
use Rattle.proto_link.specs.Resolves.{Innermost, ResolvesIn, words_of, wanted}
use Rattle.proto_link.specs.Resolves.Innermost.{here, farther}
use Rattle.proto_link.specs.Resolves.ResolvesIn.{absolute, single, extended, compound}
use Rattle.proto_link.specs.Mended.{IsAroundOrSame, IsMended, AreMended, NothingMatters, MendedResolvesAlike}
use Rattle.proto_link.specs.Mended.IsAroundOrSame.{same as same_scope, farther as farther_scope}
use Rattle.proto_link.specs.Mended.IsMended.{unchanged, read}
use Rattle.proto_link.specs.Mended.Matters.{first_word}

-- a scope that is around another one, with one more
around_more : {scope next outer : List ℕ} → IsAroundOrSame scope next → IsAround next outer
    → IsAroundOrSame scope outer
around_more same_scope is = farther_scope is same_scope
around_more (farther_scope step more) is = farther_scope step (around_more more is)

module _ (files mended : List File) (are : AreMended files mended) where
  -- what is the same of a file that is mended
  pub record IsSame (number : ℕ) (file : File) : Type 0 where
    pub other : File
    pub numbered : slice_get mended number ≡ Some other
    pub path : other.path ≡ file.path
    pub is_left_out : other.is_left_out ≡ file.is_left_out
    pub facts : (facts : Facts) → file.facts ≡ Some facts → other.facts ≡ Some facts

  pub same_file : (number : ℕ) (file : File) → slice_get files number ≡ Some file → IsSame number file
  same_file number file at =
      let inside : number < length mended =
      (let within = slice_get_within files number file at in omega (arith, are.one_each, within)) in
      let there = item_at mended number inside in
      by there.0 there.1 (are.each number file there.0 at there.1)
    where
      no_facts : (facts : Facts) → file.facts ≡ None → file.facts ≡ Some facts → ⊥
      no_facts facts none some = absurd (nothing (sym none ∙ some))
        where
          nothing : None ≡ Some facts → ⊥
          nothing e = cc

      by : (other : File) → slice_get mended number ≡ Some other → IsMended file other → IsSame number file
      by _ at (unchanged) = record {
        other = file;
        numbered = at;
        path = refl;
        is_left_out = refl;
        facts = λ facts some. some;
      }
      by other at (read its none) = record {
        other = other;
        numbered = at;
        path = refl;
        is_left_out = refl;
        facts = λ facts some. absurd (no_facts facts none some);
      }

  pub facts_stay : (number : ℕ) (facts : Facts) → HasFacts files number facts → HasFacts mended number facts
  facts_stay number facts has =
      let same = same_file number has.file has.numbered in
      record { file = same.other; numbered = same.numbered; known = same.facts facts has.known }

  import_stays : (i j : ℕ) {publicly : Bool} → Imports files i publicly j → Imports mended i publicly j
  import_stays i j is =
      let same = same_file j is.file is.numbered in
      record {
        facts = is.facts;
        import = is.import;
        file = same.other;
        known = facts_stay i is.facts is.known;
        listed = is.listed;
        kind = is.kind;
        numbered = same.numbered;
        path = same.path ∙ is.path;
      }

  leads_stay : {i j : ℕ} → LeadsTo (Imports files) i j → LeadsTo (Imports mended) i j
  leads_stay at_once = at_once
  leads_stay (through {file = file} {next = next} step rest) = through (import_stays file next step) (leads_stay rest)

  pub sees_stay : {i j : ℕ} → Sees files i j → Sees mended i j
  sees_stay itself = itself
  sees_stay (import {file = file} {next = next} step rest) = import (import_stays file next step) (leads_stay rest)

  pub knows_stay : (file : ℕ) (name : List ℕ) (kind : NameKind) → Knows files file name kind → Knows mended file name kind
  knows_stay file _ _ (declared {seen = seen} {facts = facts} sees has listed) =
      declared (sees_stay sees) (facts_stay seen facts has) listed
  knows_stay file _ _ (packaged {seen = seen} {facts = facts} sees has some few) =
      packaged (sees_stay sees) (facts_stay seen facts has) some few

  pub known_stays : {file : ℕ} {admits : NameKind → Bool} {name : List ℕ} → KnowsAs files file admits name
      → KnowsAs mended file admits name
  known_stays {file} {admits} {name} k =
      record { kind = k.kind; known = knows_stay file name k.kind k.known; admitted = k.admitted }

  pub gives_stays : (file : ℕ) (admits : NameKind → Bool) (name : List ℕ) (seen : ℕ)
      → SeesGiving files file admits name seen → SeesGiving mended file admits name seen
  gives_stays file admits name seen is =
      let g = is.giving in
      let has = facts_stay seen g.gives.facts
      (record { file = g.file; numbered = g.numbered; known = g.gives.known }) in
      record {
        sees = sees_stay is.sees;
        giving = record {
          file = has.file;
          numbered = has.numbered;
          gives = record { facts = g.gives.facts; known = has.known; gives = g.gives.gives };
        };
      }

  pub present_stays : (number : ℕ) → IsPresent files number → IsPresent mended number
  present_stays number is =
      let same = same_file number is.file is.numbered in
      record { file = same.other; numbered = same.numbered; present = same.is_left_out ∙ is.present }

  module _ (file : ℕ) (type_use : Use) (name : List ℕ) (nothing : NothingMatters files mended file type_use name) where
    innermost : {admits : NameKind → Bool} {word from scope : List ℕ} {others : List (List ℕ)}
        → words_of type_use ≡ word ∷ others → IsAroundOrSame type_use.scope from
        → Innermost files file admits word from scope → Innermost mended file admits word from scope
    innermost words around (here known) = here (known_stays known)
    innermost {word = word} words around (farther {scope = scope} absent is inner) =
        farther
        (λ k. absent (record {
          kind = k.kind;
          known = nothing.known (qualified scope word) k.kind (first_word words around) k.known;
          admitted = k.admitted;
        })) is (innermost words (around_more around is) inner)

    resolves : {is_extended has_dot : Bool} {words : List (List ℕ)} {found : List ℕ} → words_of type_use ≡ words
        → ResolvesIn files file is_extended has_dot words type_use.scope found
        → ResolvesIn mended file is_extended has_dot words type_use.scope found
    resolves words (absolute known) = absolute (known_stays known)
    resolves words (single inner) = single (innermost words same_scope inner)
    resolves words (extended inner known) = extended (innermost words same_scope inner) (known_stays known)
    resolves words (compound inner known) = compound (innermost words same_scope inner) (known_stays known)

pub mended_resolves_alike : MendedResolvesAlike
mended_resolves_alike files mended are file type_use target is nothing =
    let names = is.names in
    record {
      owner = is.owner;
      facts = is.facts;
      names = record {
        resolves = resolves files mended are file type_use target.name nothing refl names.resolves;
        owned = record {
          gives = gives_stays files mended are file (wanted type_use.is_extended) target.name is.owner
              names.owned.gives;
          present = present_stays files mended are is.owner names.owned.present;
          alone = λ other gives. names.owned.alone other (nothing.given other gives);
        };
      };
      known = facts_stay files mended are is.owner is.facts is.known;
      skipped = is.skipped;
      split = is.split;
      one_each = is.one_each;
      named = is.named;
    }
