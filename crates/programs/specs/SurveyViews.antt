-- What is told of an index, as the definitions have it.
use Rattle.std.specs.Prelude.{string_bytes}
use Rattle.std.specs.Option.{option_map}
use Rattle.programs.specs.Surveying.{Surveyed}
use Rattle.programs.specs.declared.surveying.Telling.{Telling}

abbrev pub telling_view : Telling → Surveyed
telling_view s = record { text = option_map string_bytes s.text; is_sound = s.is_sound }
