-- By which names a symbol is found, and which texts are like them.
use Rattle.std.specs.Prelude.{ℕ, ◌-◌, ◌==◌, Bool, true, false, not, nat_eq, nat_le, ◌||◌, cond, List, [], ◌∷◌}
use Rattle.std.specs.Prelude.{◌++◌, length, take, codes, Option, None, Some}
use Rattle.std.specs.List.{list_any, count_by, flat_map, ends_with}
use Rattle.std.specs.Char.{to_ascii_lowercase}
use Rattle.std.specs.Option.{option_map, unwrap_or}
use Rattle.std.specs.Str.{bytes_eq}
use Rattle.scip_query.specs.References.{is_local}

-- the longest end of a text in which a byte occurs at most so often
abbrev pub longest_end : ℕ → ℕ → List ℕ → List ℕ
longest_end byte most [] = []
longest_end byte most (b ∷ text) =
    cond (nat_le (count_by (nat_eq byte) (b ∷ text)) most) (b ∷ text) (longest_end byte most text)

-- a text without what stands between backticks (of a name in backticks nothing is left), from where it is between two
-- or not
abbrev pub kept_byte : Bool → ℕ → List ℕ
kept_byte quoted b = cond (quoted || (b == 96)) [] (b ∷ [])

abbrev pub quoted_behind : Bool → ℕ → Bool
quoted_behind quoted b = cond (b == 96) (not quoted) quoted

abbrev pub unquoted_from : Bool → List ℕ → List ℕ
unquoted_from quoted [] = []
unquoted_from quoted (b ∷ text) = kept_byte quoted b ++ unquoted_from (quoted_behind quoted b) text

-- a sign between descriptors is a dot, and a sign that only marks one is left out (`scip.proto`, Symbol)
abbrev pub is_mark : ℕ → Bool
is_mark b = list_any (nat_eq b) (codes "()[]")

abbrev pub is_between : ℕ → Bool
is_between b = list_any (nat_eq b) (codes "/#:!")

abbrev pub dotted_byte : ℕ → List ℕ
dotted_byte b = cond (is_mark b) [] (cond (is_between b) 46 b ∷ [])

abbrev pub dotted : List ℕ → List ℕ
dotted descriptors = flat_map dotted_byte descriptors

abbrev pub without_last_dot : List ℕ → List ℕ
without_last_dot name = cond (ends_with nat_eq name (codes ".")) (take (length name - 1) name) name

-- the full name of a symbol: what is behind its last space, its descriptors, with a dot between two, and without names
-- in backticks. A local symbol has none
abbrev pub full_name : List ℕ → List ℕ
full_name symbol = cond (is_local symbol) [] (without_last_dot (dotted (longest_end 32 0 (unquoted_from false symbol))))

-- of a full name as much of its end as has no more dots than a text
abbrev pub name_like : List ℕ → List ℕ → List ℕ
name_like text name = longest_end 46 (count_by (nat_eq 46) text) name

-- what is behind the first byte of a name, if that is a byte, whatever their case is
abbrev pub behind_alike : ℕ → List ℕ → Option (List ℕ)
behind_alike b [] = None
behind_alike b (c ∷ name) = cond (to_ascii_lowercase b == to_ascii_lowercase c) (Some name) None

-- whether a name begins with a text, whatever their ASCII letters' case is
abbrev pub begins_alike : List ℕ → List ℕ → Bool
begins_alike [] name = true
begins_alike (b ∷ text) name = unwrap_or (option_map (begins_alike text) (behind_alike b name)) false

-- how a text is like names: it is one of them (true), or begins one (false), or isn't like them at all
abbrev pub likeness_to : List ℕ → List ℕ → List ℕ → Option Bool
likeness_to text shown ending =
    cond (bytes_eq text shown || bytes_eq text ending) (Some true)
    (cond (begins_alike text shown || begins_alike text ending) (Some false) None)

-- and how it is like a symbol, which is shown by a name
abbrev pub likeness : List ℕ → List ℕ → List ℕ → Option Bool
likeness text shown symbol = likeness_to text shown (name_like text (full_name symbol))
