-- `--max-skipped` and `--min-sources`: the limits that an index has to keep.
use Rattle.std.specs.Prelude.{ℕ, List, Option, Some, None, codes, if◌then◌else◌, nat_le}
use Rattle.std.specs.Option.{option_and_then}
use Rattle.std.specs.Str.Parse.{digits_value, without_leading_plus}
use Rattle.clap.specs.Words.{Row, Rule, Text, one_of}
use Rattle.clap.specs.ValueTests.{is_unsigned_in}
use Rattle.clap.specs.declared.builder.value_parser.ValueParser.TheVariants as values
use Rattle.command_line.specs.Arguments.{option_rule}
use Rattle.command_line.specs.declared.options.limits.Limits.{Limits}

-- the greatest number of 32 bits
abbrev pub most_limit : ℕ
most_limit = 4294967295

-- the option takes a number from 0 to `most_limit`
abbrev pub taking_limit : Rule → Rule
taking_limit rule = record rule { parser = Some (values.Unsigned 0 most_limit) }

abbrev pub max_skipped_rule : Rule
max_skipped_rule = taking_limit (option_rule (codes "max-skipped"))

abbrev pub min_sources_rule : Rule
min_sources_rule = taking_limit (option_rule (codes "min-sources"))

-- the number from 0 to `most_limit` that the text spells, with or without a plus sign and zeros before it; `clap`
-- refuses every other text
abbrev pub limit_in : Text → Option ℕ
limit_in text =
    if is_unsigned_in 0 most_limit text then Some (digits_value 10 (without_leading_plus text)) else None

-- a number from 0 to `most_limit`, if there is one
abbrev pub in_limit : Option ℕ → Option ℕ
in_limit None = None
in_limit (Some n) = if nat_le n most_limit then Some n else None

-- the limit of an option, if it is given
abbrev pub limit_of : Text → List Row → Option ℕ
limit_of id rows = option_and_then limit_in (one_of id rows)

abbrev pub limits_of : List Row → Limits
limits_of rows = record {
  max_skipped = limit_of (codes "max-skipped") rows;
  min_sources = limit_of (codes "min-sources") rows;
}
