-- What messages say, beside their fields, of the names in values of them: that a name is reserved for no field (proto3
-- specification, "Reserved"), and that the message is a message set (descriptor.proto, `message_set_wire_format`).
use Rattle.std.specs.Prelude.{◌≡◌, ℕ, Option, None, Some, List, [], Contains}
use Rattle.std.specs.List.{slice_get}
use Rattle.std.specs.List.Sorted.{IsNonDecreasingBy}
use denote.Ref.{Bor}
use Rattle.proto_lex.specs.declared.span.Span.{Span}
use Rattle.proto_decl.specs.Names.{hash64_byte, hash64_on}
use Rattle.proto_decl.specs.declared.declaration.Declaration.{Declaration}
use Rattle.proto_options.specs.declared.messages.MessageClause.{MessageClause}
use Rattle.proto_options.specs.declared.messages.MessageClause.TheVariants as clauses
use Rattle.proto_options.specs.declared.messages.MessageFact.{MessageFact}
use Rattle.proto_visibility.specs.Files.{File}
use Rattle.option_link.specs.declared.facts.OptionFacts.{OptionFacts}
use Rattle.option_link.specs.declared.place.DeclaredPlace.{DeclaredPlace}
use Rattle.option_link.specs.declared.table.Listed.{Listed}
use Rattle.option_link.specs.Places.{Stands}
use Rattle.option_link.specs.Tables.{listed_by}

-- the message whose declared name is at this place says so
abbrev pub saying : (name : Span) → MessageClause → MessageFact
saying name clause = record { name = name; clause = clause }

-- it is known of the file beside its facts
pub record IsSaid (known : List OptionFacts) (file : ℕ) (fact : MessageFact) : Type 0 where
  pub beside : OptionFacts
  pub of_file : slice_get known file ≡ Some beside
  pub listed : Contains beside.messages fact

pub record Says (files : List File) (known : List OptionFacts) (message : DeclaredPlace) (clause : MessageClause)
    : Type 0 where
  pub declaration : Declaration
  pub stands : Stands files message declaration
  pub said : IsSaid known message.file (saying declaration.name clause)

-- The message reserves this name.
abbrev pub Reserves : List File → List OptionFacts → DeclaredPlace → (word : List ℕ) → Type 0
Reserves files known message word = Says files known message (clauses.Reserves word)

-- ---- what is said, by numbers

-- what the code asks for: that a message reserves a word, or without one that it is a message set
abbrev pub asked_for : Option (Bor (List ℕ)) → MessageClause
asked_for None = clauses.IsMessageSet
asked_for (Some word) = clauses.Reserves word.now

-- the number of what is said: that of the word, mixed with the file's and where the message's name starts
abbrev pub word_of : MessageClause → List ℕ
word_of clauses.IsMessageSet = []
word_of (clauses.Reserves word) = word

abbrev pub said_hash : (file start : ℕ) → (word : List ℕ) → ℕ
said_hash file start word = hash64_on (hash64_byte file start) word

abbrev pub fact_hash : (file : ℕ) → MessageFact → ℕ
fact_hash file fact = said_hash file fact.name.start (word_of fact.clause)

-- it is so said of a message of this file, as the one with this number
pub record IsSaidAt (known : List OptionFacts) (place : DeclaredPlace) (fact : MessageFact) : Type 0 where
  pub beside : OptionFacts
  pub of_file : slice_get known place.file ≡ Some beside
  pub listed : slice_get beside.messages place.index ≡ Some fact

-- All that is said is listed by those numbers, and they rise.
pub record ListsSaid (known : List OptionFacts) (listed : List Listed) : Type 0 where
  pub sorted : IsNonDecreasingBy (λ one. one.hash64) listed
  pub each : (place : DeclaredPlace) (fact : MessageFact) → IsSaidAt known place fact
      → Contains listed (listed_by (fact_hash place.file) place fact)
