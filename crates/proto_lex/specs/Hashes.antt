-- Where a `#` begins a comment (Text Format Language Specification, "Whitespace and Comments"). protoc writes an option's
-- value in braces on one line, in which strings, comments and braces are those of the source, and reads it in the text
-- format. So such a comment ends before the `}` that closes the value; in inner braces, which would stay open, none begins.
use Rattle.std.specs.Prelude.{ℕ, zero, suc, ◌+◌, ◌-◌, nat_eq, Bool, true, false, not, ◌&&◌, cond, List, [], ◌∷◌, ◌++◌}
use Rattle.proto_lex.specs.declared.hashes.Hashes.{Hashes}
use Rattle.proto_lex.specs.declared.hashes.Hashes.TheVariants.{Nowhere, InValues}
use Rattle.proto_lex.specs.declared.token.Token.{Token}
use Rattle.proto_lex.specs.declared.token.TokenKind.{TokenKind}
use Rattle.proto_lex.specs.declared.token.TokenKind.TheVariants as kind

abbrev pub opens : TokenKind → Bool
opens kind.OpenBrace = true
opens _ = false

abbrev pub closes : TokenKind → Bool
closes kind.CloseBrace = true
closes _ = false

abbrev pub is_equals : TokenKind → Bool
is_equals kind.Equals = true
is_equals _ = false

-- whether these tokens, of which the last is given first, end with a `=`
abbrev pub end_with_equals : List Token → Bool
end_with_equals [] = false
end_with_equals (last ∷ _) = is_equals last.kind

-- of how many `{` before a token a `}` comes later, if it is so many behind it
abbrev pub closed_before : ℕ → TokenKind → ℕ
closed_before closed k = cond (opens k) (closed - 1) (cond (closes k) (closed + 1) closed)

-- whether the innermost brace that is open is right behind a `=`, where these are the tokens from the last one on, and
-- of so many `{` among them a `}` comes later
abbrev pub is_in_value : (closed : ℕ) → List Token → Bool
is_in_value closed [] = false
is_in_value closed (last ∷ before) =
    cond (opens last.kind && nat_eq closed 0) (end_with_equals before)
    (is_in_value (closed_before closed last.kind) before)

-- where a place in a text is
pub data Where : Type 0 where
  -- where no `#` begins a comment
  Plain : Where
  -- behind these tokens
  Behind : (tokens : List Token) → Where
  -- in a comment that a `#` began behind these tokens; so many braces are open in it
  Commented : (tokens : List Token) (depth : ℕ) → Where

-- behind these tokens
abbrev pub behind : Hashes → List Token → Where
behind Nowhere tokens = Plain
behind InValues tokens = Behind tokens

-- whether a token ends the comment, in which so many braces are open
abbrev pub ends_comment : ℕ → TokenKind → Bool
ends_comment zero k = closes k
ends_comment (suc depth) k = false

-- how many braces are open behind a token, if so many are open before it
abbrev pub opened : ℕ → TokenKind → ℕ
opened depth k = cond (opens k) (depth + 1) (cond (closes k) (depth - 1) depth)

-- whether a token belongs to a comment
abbrev pub is_commented : Where → TokenKind → Bool
is_commented Plain k = false
is_commented (Behind tokens) k = false
is_commented (Commented tokens depth) k = not (ends_comment depth k)

-- the tokens from a place on, the first of which this would be
abbrev pub listed : Where → Token → List Token → List Token
listed place token others = cond (is_commented place token.kind) others (token ∷ others)

-- where it is behind a token
abbrev pub past_token : Where → Token → Where
past_token Plain token = Plain
past_token (Behind tokens) token = Behind (tokens ++ token ∷ [])
past_token (Commented tokens depth) token =
    cond (ends_comment depth token.kind) (Behind (tokens ++ token ∷ [])) (Commented tokens (opened depth token.kind))

-- where it is behind a `#` that begins a comment, or another sign in one
abbrev pub past_odd : Where → Where
past_odd Plain = Plain
past_odd (Behind tokens) = Commented tokens 0
past_odd (Commented tokens depth) = Commented tokens depth
