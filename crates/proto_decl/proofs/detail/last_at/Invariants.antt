use Rattle.std.proofs.Common.{◌≡◌, ℕ, ◌<◌, ◌≤◌, take}
use Rattle.proto_lex.specs.declared.token.TokenKind.TheVariants.{OpenBrace, CloseBrace}
use Rattle.proto_decl.specs.Extents.{AreOpen, count_of}
use Rattle.proto_decl.proofs.detail.last_at.Given as goal

-- so many braces are in the tokens so far, and with each of these tokens one is open
abbrev pub invariant-loop-index : goal.invariant-loop-index
invariant-loop-index l = record {
  opened : l.opened ≡ count_of OpenBrace (take l.index l.tokens);
  closed : l.closed ≡ count_of CloseBrace (take l.index l.tokens);
  goes_on : (fewer : ℕ) → 0 < fewer → fewer ≤ l.index → AreOpen (take fewer l.tokens);
}
