-- What messages say of the names in values of them, by what is known of their files.
use Rattle.std.proofs.Common.{◌≡◌, ◌↔◌, ℕ, ◌+◌, ◌<◌, ◌≤◌, Bool, List, [], Option, Some, None, MatchOption, IsTrue}
use Rattle.std.proofs.Common.{length, refl, ap, sym, ◌∙◌, subst, inl, inr, arith}
use Rattle.std.specs.List.{Contains, slice_get}
use Rattle.std.specs.List.Sorted.{IsNonDecreasingBy, IsPermutation}
use Rattle.std.proofs.lemmas.Bool.{cases_lt}
use Rattle.std.proofs.lemmas.Option.{none-some, same_Some, slice_get_within}
use Rattle.std.proofs.lemmas.List.Sorted.{Contains-permutation}
use Rattle.basics.proofs.FirstLemmas.{contained, at_contained}
use Rattle.proto_lex.specs.declared.span.Span.{Span}
use Rattle.proto_decl.specs.declared.declaration.Declaration.{Declaration}
use Rattle.proto_options.specs.declared.messages.MessageClause.{MessageClause}
use Rattle.proto_options.specs.declared.messages.MessageClause.TheVariants as clauses
use Rattle.proto_options.specs.declared.messages.MessageFact.{MessageFact}
use Rattle.proto_visibility.specs.Files.{File}
use Rattle.option_link.specs.declared.facts.OptionFacts.{OptionFacts}
use Rattle.option_link.specs.declared.place.DeclaredPlace.{DeclaredPlace}
use Rattle.option_link.specs.declared.table.Listed.{Listed}
use Rattle.option_link.specs.Places.{Stands, place_at}
use Rattle.option_link.specs.Said.{IsSaid, IsSaidAt, ListsSaid, Says, fact_hash, saying}
use Rattle.option_link.specs.Tables.{AddsUpTo, listed_by}
use Rattle.option_link.proofs.LoopLemmas.{iff_as, some_of}
use Rattle.option_link.proofs.PlaceLemmas.{same_declaration}

-- ---- one fact

pub other_place : (fact : MessageFact) (name : Span) (clause : MessageClause) → (fact.name ≡ name → ⊥)
    → fact ≡ saying name clause → ⊥
other_place fact name clause not same = not (ap (λ (f : MessageFact). f.name) same)

same_bytes : (a b : List ℕ) → clauses.Reserves a ≡ clauses.Reserves b → a ≡ b
same_bytes a b e = cc

pub set_reserves_none : (word : List ℕ) → clauses.IsMessageSet ≡ clauses.Reserves word → ⊥
set_reserves_none word e = cc

pub reserves_no_set : (bytes : List ℕ) → clauses.Reserves bytes ≡ clauses.IsMessageSet → ⊥
reserves_no_set bytes e = cc

pub reserves_iff : (bytes word : List ℕ) (is : Bool) → (IsTrue is ↔ (bytes ≡ word))
    → IsTrue is ↔ (clauses.Reserves bytes ≡ clauses.Reserves word)
reserves_iff bytes word is iff = iff_as is (bytes ≡ word) (clauses.Reserves bytes ≡ clauses.Reserves word)
    (λ same. ap clauses.Reserves same) (same_bytes bytes word) iff

pub saying_by : (fact : MessageFact) (name : Span) (clause : MessageClause) (is : Bool) → fact.name ≡ name
    → (IsTrue is ↔ (fact.clause ≡ clause)) → IsTrue is ↔ (fact ≡ saying name clause)
saying_by fact name clause is named iff = iff_as is (fact.clause ≡ clause) (fact ≡ saying name clause)
    (λ same i. record { name = named i; clause = same i })
    (λ same. ap (λ (f : MessageFact). f.clause) same) iff

-- ---- those of a file

-- what is known of the file has these messages
pub messages_are : (known : List OptionFacts) (file : ℕ) (facts : List MessageFact)
    → MatchOption (slice_get known file) (facts ≡ []) (λ beside. facts ≡ beside.messages)
    → (beside : OptionFacts) → slice_get known file ≡ Some beside → facts ≡ beside.messages
messages_are known file facts are beside is =
    some_of (facts ≡ []) (λ (b : OptionFacts). facts ≡ b.messages) beside is are

-- ---- what is listed

-- all that is said in the first so many files is listed
abbrev pub SaidUpTo : List OptionFacts → (count : ℕ) → List Listed → Type 0
SaidUpTo known count listed = (place : DeclaredPlace) (fact : MessageFact) → place.file < count
    → IsSaidAt known place fact → Contains listed (listed_by (fact_hash place.file) place fact)

pub said_none : (known : List OptionFacts) (listed : List Listed) → SaidUpTo known 0 listed
said_none known listed place fact before is = absurd (omega (arith, before))

pub said_more : (known : List OptionFacts) (file : ℕ) (facts : List MessageFact) (old new : List Listed)
    → MatchOption (slice_get known file) (facts ≡ []) (λ beside. facts ≡ beside.messages)
    → AddsUpTo (fact_hash file) file facts (length facts) old new → SaidUpTo known file old
    → SaidUpTo known (file + 1) new
said_more known file facts old new are adds so_far place fact before is = elim (cases_lt place.file file) [
  | inl less ↦ adds.kept (listed_by (fact_hash place.file) place fact) (so_far place fact less is)
  | inr last ↦ (
      let here : place.file ≡ file = omega (arith, before, last) in
      let its = messages_are known file facts are is.beside (ap (slice_get known) (sym here) ∙ is.of_file) in
      let at : slice_get facts place.index ≡ Some fact =
      ap (λ (fs : List MessageFact). slice_get fs place.index) its ∙ is.listed in
      subst (λ (n : ℕ). Contains new (listed_by (fact_hash n) (place_at n place.index) fact)) (sym here)
      (adds.added place.index fact (slice_get_within facts place.index fact at) at))
]

pub said_all : (known : List OptionFacts) (count : ℕ) (old new : List Listed) → length known ≤ count
    → SaidUpTo known count old → IsPermutation old new → IsNonDecreasingBy (λ (one : Listed). one.hash64) new
    → ListsSaid known new
said_all known count old new all so_far permutation sorted = record {
  sorted = sorted;
  each = λ place fact is. Contains-permutation old new (listed_by (fact_hash place.file) place fact) permutation
      (so_far place fact (omega (arith, slice_get_within known place.file is.beside is.of_file, all)) is);
}

-- ---- what is found

pub said_by : (known : List OptionFacts) (file : ℕ) (place : DeclaredPlace) (fact : MessageFact) → place.file ≡ file
    → IsSaidAt known place fact → IsSaid known file fact
said_by known file place fact here is = record {
  beside = is.beside;
  of_file = ap (slice_get known) (sym here) ∙ is.of_file;
  listed = contained is.beside.messages place.index fact is.listed;
}

pub said_at : (known : List OptionFacts) (file : ℕ) (fact : MessageFact) (is : IsSaid known file fact)
    → IsSaidAt known (place_at file is.listed.0) fact
said_at known file fact is = record {
  beside = is.beside;
  of_file = is.of_file;
  listed = at_contained is.beside.messages fact is.listed;
}

-- all that is so said in a file is near
pub near_said : (known : List OptionFacts) (file hash : ℕ) (listed near : List Listed) (fact : MessageFact)
    → ListsSaid known listed
    → ((one : Listed) → Contains near one ↔ (Contains listed one × (one.hash64 ≡ hash)))
    → hash ≡ fact_hash file fact → (is : IsSaid known file fact)
    → Contains near (listed_by (fact_hash file) (place_at file is.listed.0) fact)
near_said known file hash listed near fact lists are same is =
    let one = listed_by (fact_hash file) (place_at file is.listed.0) fact in
    (are one).1 (lists.each (place_at file is.listed.0) fact (said_at known file fact is), sym same)

-- something is known of a file in which something is said
known_by : (known : List OptionFacts) (file : ℕ) (facts : List MessageFact) (index : ℕ) (fact : MessageFact)
    (at : Option OptionFacts) → slice_get known file ≡ at
    → MatchOption at (facts ≡ []) (λ beside. facts ≡ beside.messages) → slice_get facts index ≡ Some fact
    → (beside : OptionFacts) × (slice_get known file ≡ Some beside)
known_by known file facts index fact None is none there =
    absurd (omega (arith, slice_get_within facts index fact there, ap length none))
known_by known file facts index fact (Some beside) is are there = (beside, is)

-- what is read of a place tells what is said there
module _ (known : List OptionFacts) (file : ℕ) (place : DeclaredPlace) (facts : List MessageFact) (wanted : MessageFact)
    (are : MatchOption (slice_get known place.file) (facts ≡ []) (λ beside. facts ≡ beside.messages)) where
  read_there : (x : IsSaidAt known place wanted) → slice_get facts place.index ≡ Some wanted
  read_there x =
      ap (λ (fs : List MessageFact). slice_get fs place.index)
      (messages_are known place.file facts are x.beside x.of_file) ∙ x.listed

  pub not_said_at : slice_get facts place.index ≡ None → (place.file ≡ file) × IsSaidAt known place wanted → ⊥
  not_said_at none x = none-some wanted (sym none ∙ read_there x.1)

  pub said_at_iff : (fact : MessageFact) (is : Bool) → place.file ≡ file → slice_get facts place.index ≡ Some fact
      → (IsTrue is ↔ (fact ≡ wanted)) → IsTrue is ↔ ((place.file ≡ file) × IsSaidAt known place wanted)
  said_at_iff fact is here at iff =
      let its = known_by known place.file facts place.index fact (slice_get known place.file) refl are at in
      iff_as is (fact ≡ wanted) ((place.file ≡ file) × IsSaidAt known place wanted)
      (λ same. (
        here,
        record {
          beside = its.0;
          of_file = its.1;
          listed = ap (λ (fs : List MessageFact). slice_get fs place.index)
              (sym (messages_are known place.file facts are its.0 its.1)) ∙ (at ∙ ap Some same);
        },
      ))
      (λ x. same_Some fact wanted (sym at ∙ read_there x.1)) iff

-- what is read behind the end of the list
abbrev pub nowhere : Listed
nowhere = record { hash64 = 0; place = place_at 0 0 }

-- the message of this declaration says it, if it is said of the name
pub says_iff : (files : List File) (known : List OptionFacts) (message : DeclaredPlace) (clause : MessageClause)
    (d : Declaration) (is : Bool) → Stands files message d
    → (IsTrue is ↔ IsSaid known message.file (saying d.name clause)) → IsTrue is ↔ Says files known message clause
says_iff files known message clause d is stands iff =
    iff_as is (IsSaid known message.file (saying d.name clause)) (Says files known message clause)
    (λ said. record { declaration = d; stands = stands; said = said })
    (λ x. subst (λ (e : Declaration). IsSaid known message.file (saying e.name clause))
    (same_declaration files message x.declaration d x.stands stands) x.said)
    iff
