-- Laws of tokens, comments and faults.
use Rattle.std.specs.Prelude.{◌≡◌, ℕ, ◌⊎◌, List, [], ◌++◌}
use Rattle.proto_lex.specs.Lexes.{Spells, IsToken, LexesWith, Lexes}
use Rattle.proto_lex.specs.Faults.{IsFirstFaultWith}
use Rattle.proto_lex.specs.declared.hashes.Hashes.{Hashes}
use Rattle.proto_lex.specs.declared.fault.LexFault.{LexFault}
use Rattle.proto_lex.specs.declared.token.Token.{Token}
use Rattle.proto_lex.specs.declared.token.TokenKind.{TokenKind}
use Rattle.proto_lex.specs.declared.token.Comment.{Comment}

-- A text lexes into one list of tokens
abbrev pub OneTokens : Type 0
OneTokens =
    (hashes : Hashes) (text : List ℕ) (tokens others : List Token) (comments remarks : List Comment)
    → LexesWith hashes text tokens comments → LexesWith hashes text others remarks → tokens ≡ others

-- and one of comments.
abbrev pub OneComments : Type 0
OneComments =
    (hashes : Hashes) (text : List ℕ) (tokens others : List Token) (comments remarks : List Comment)
    → LexesWith hashes text tokens comments → LexesWith hashes text others remarks → comments ≡ remarks

-- A text has at most one first fault,
abbrev pub OneFirstFault : Type 0
OneFirstFault = (hashes : Hashes) (text : List ℕ) (fault other : LexFault) → IsFirstFaultWith hashes text fault
    → IsFirstFaultWith hashes text other → fault ≡ other

-- none if it lexes,
abbrev pub NoFaultWhereItLexes : Type 0
NoFaultWhereItLexes =
    (hashes : Hashes) (text : List ℕ) (tokens : List Token) (comments : List Comment) (fault : LexFault)
    → LexesWith hashes text tokens comments → IsFirstFaultWith hashes text fault → ⊥

-- and one if it doesn't.
abbrev pub LexesOrFaults : Type 0
LexesOrFaults =
    (hashes : Hashes) (text : List ℕ)
    → ((tokens : List Token) × (comments : List Comment) × LexesWith hashes text tokens comments)
    ⊎ ((fault : LexFault) × IsFirstFaultWith hashes text fault)

-- What lexes though no `#` begins a comment lexes alike wherever one may.
abbrev pub LexesAlike : Type 0
LexesAlike =
    (hashes : Hashes) (text : List ℕ) (tokens : List Token) (comments : List Comment)
    → Lexes text tokens comments → LexesWith hashes text tokens comments

-- A token is as long as it can be: no longer spelling of a token begins at its place.
abbrev pub LongestToken : Type 0
LongestToken =
    (kind other : TokenKind) (word rest more tail : List ℕ)
    → IsToken kind word rest → rest ≡ more ++ tail → Spells other (word ++ more) → more ≡ []
