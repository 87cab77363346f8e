-- Where the value of an option comes from.
use Rattle.std.proofs.Common.{◌≡◌, ◌∙◌, ap, refl, Option, Some, None}
use Rattle.std.specs.List.{find}
use Rattle.std.specs.Option.{option_and_then, option_map}
use Rattle.std.specs.Str.{bytes_eq}
use Rattle.clap.specs.Words.{Row, Text, matched_of, rows_of}
use Rattle.clap.specs.Facts.{Entry}
use Rattle.clap.specs.Walk.{row_of}
use Rattle.clap.specs.declared.parser.matches.Found.{Found}
use Rattle.clap.specs.declared.parser.matches.MatchedArg.{MatchedArg}
use Rattle.clap.proofs.WalkLemmas.{find-map}

-- what is found for an id, by the rows
pub source-rows : (f : Found) (id : Text)
    → option_and_then (λ a. a.source) (matched_of f id)
    ≡ option_and_then (λ r. r.source) (find (λ r. bytes_eq r.id id) (rows_of f))
source-rows f id = go (find (λ (e : Entry). bytes_eq e.0.now id) f.entries.items)
    ∙ ap (option_and_then (λ (r : Row). r.source)) (find-map (λ (r : Row). bytes_eq r.id id) row_of f.entries.items)
  where
    go : (o : Option Entry)
        → option_and_then (λ (a : MatchedArg). a.source) (option_map (λ e. e.1) o)
        ≡ option_and_then (λ (r : Row). r.source) (option_map row_of o)
    go None = refl
    go (Some e) = refl
