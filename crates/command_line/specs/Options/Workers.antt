-- `--workers`: how many threads there are.
use Rattle.std.specs.Prelude.{ℕ, List, Option, Some, None, codes, if◌then◌else◌, nat_le, ◌&&◌}
use Rattle.std.specs.Option.{option_map_or}
use Rattle.std.specs.Str.Parse.{digits_value, without_leading_plus}
use Rattle.clap.specs.Words.{Row, Rule, Text, one_of}
use Rattle.clap.specs.ValueTests.{is_unsigned_in}
use Rattle.clap.specs.declared.builder.value_parser.ValueParser.TheVariants as values
use Rattle.index_pool.specs.Workers.{most_workers}
use Rattle.command_line.specs.Arguments.{option_rule, or_default}

-- a number from 1 to `most_workers`, and 4 if it isn't given
abbrev pub workers_rule : Rule
workers_rule = or_default (codes "4")
    (record (option_rule (codes "workers")) { parser = Some (values.Unsigned 1 most_workers) })

-- the number from 1 to `most_workers` that the text spells, with or without a plus sign and zeros before it; `clap`
-- refuses every other text
abbrev pub workers_in : Text → ℕ
workers_in text = if is_unsigned_in 1 most_workers text then digits_value 10 (without_leading_plus text) else 1

-- a number from 1 to `most_workers`; else 1
abbrev pub fitting : Option ℕ → ℕ
fitting None = 1
fitting (Some n) = if nat_le 1 n && nat_le n most_workers then n else 1

-- that of the text that is given, or of the default: `clap` gives one of them
abbrev pub workers_of : List Row → ℕ
workers_of rows = option_map_or workers_in (one_of (codes "workers") rows) 1
