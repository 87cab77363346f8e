-- What an index says of a symbol besides its documentation (`scip.proto`, SymbolInformation).
use Rattle.std.specs.Prelude.{ℕ, ℤ, pos, List, [], Option, Some, None}
use Rattle.scip_records.specs.declared.details.Signature.{Signature}
use Rattle.scip_records.specs.declared.details.Details.{Details}

-- the signature that isn't there
abbrev pub no_signature : Signature
no_signature = record { language = []; text = [] }

-- nothing but the symbol's documentation is known
abbrev pub no_details : Details
no_details = record { kind = pos 0; signature = no_signature; enclosing_symbol = [] }

-- details that may not be there
abbrev pub details_if_any : Option Details → Details
details_if_any None = no_details
details_if_any (Some details) = details

-- with one part in the place of an earlier one

abbrev pub with_kind : ℤ → Details → Details
with_kind kind d = record { kind = kind; signature = d.signature; enclosing_symbol = d.enclosing_symbol }

abbrev pub with_signature : Signature → Details → Details
with_signature signature d = record { kind = d.kind; signature = signature; enclosing_symbol = d.enclosing_symbol }

abbrev pub with_enclosing_symbol : List ℕ → Details → Details
with_enclosing_symbol symbol d = record { kind = d.kind; signature = d.signature; enclosing_symbol = symbol }
