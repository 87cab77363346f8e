use Rattle.std.proofs.Common.{◌≡◌, ◌++◌, drop}
use Rattle.std.specs.Prelude.{string_bytes}
use Rattle.proto_decl.specs.Signatures.{spelled_behind}
use Rattle.proto_decl.proofs.detail.push_behind.Given as goal

-- what is appended so far, and the spellings of the tokens left, are the whole
abbrev pub invariant-loop-token : goal.invariant-loop-token
invariant-loop-token l = string_bytes l.signature ++ spelled_behind l.text l.before (drop l.token-index l.tokens)
    ≡ string_bytes l.fn.signature ++ spelled_behind l.text l.fn.first l.tokens
