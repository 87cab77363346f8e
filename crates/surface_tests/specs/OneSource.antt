-- A source that is linked alone.
use Rattle.std.specs.Prelude.{false, Some, codes}
use Rattle.proto_decl.specs.Facts.{Facts}
use Rattle.proto_visibility.specs.Files.{File}

-- `a.proto` with these facts
abbrev pub source_with : Facts → File
source_with facts = record {
  path = codes "a.proto";
  facts = Some facts;
  is_included = false;
  is_left_out = false;
  links_options = false;
}
