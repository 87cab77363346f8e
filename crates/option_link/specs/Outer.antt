-- The scopes from the root to one, by their full names (proto3 language guide, "Packages and Name Resolution").
use Rattle.std.specs.Prelude.{◌≡◌, ◌<◌, ◌≤◌, ℕ, List, length, take, get_or}
use Rattle.proto_lex.specs.Ascii as ascii
use Rattle.proto_decl.specs.Names.{IsAround}

-- the full name of this scope, or of one around it: nothing, or what is before a dot
pub record IsOuter (scope name : List ℕ) : Type 0 where
  pub within : length name ≤ length scope
  pub front : name ≡ take (length name) scope
  pub dot : 0 < length name → length name < length scope → get_or scope (length name) 0 ≡ ascii.dot

-- of these scopes the next one inwards
pub record IsNextIn (scope outer name : List ℕ) : Type 0 where
  pub also : IsOuter scope name
  pub around : IsAround name outer
  pub longer : length outer < length name
