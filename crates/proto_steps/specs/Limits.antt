-- The profile's limit.
use Rattle.std.specs.Prelude.{ℕ}

-- How many messages and groups may be inside one another: a message has at most 63 around it.
abbrev pub max_message_depth : ℕ
max_message_depth = 64
