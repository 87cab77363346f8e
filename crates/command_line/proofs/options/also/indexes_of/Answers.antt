use Rattle.std.specs.String.{string_bytes}
use Rattle.std.proofs.Common.{◌∙◌, ◌++◌, ap, ap₂, map}
use Rattle.std.proofs.lemmas.List.{map-append}
use Rattle.command_line.proofs.options.also.indexes_of.Goals as goal

pub returns : goal.returns
returns c =
    ap (map string_bytes) c.in_ok-append.ensures.items ∙ map-append string_bytes _ _
    ∙ ap₂ (λ a b. a ++ b) c.in_ok-indexes.ensures c.in_ok-texts_of.ensures
