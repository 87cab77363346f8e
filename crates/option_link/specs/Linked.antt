-- Files that are linked, with what is known of each beside its facts.
use Rattle.std.specs.Prelude.{◌≡◌, List, length}
use Rattle.proto_visibility.specs.Files.{File}
use Rattle.option_link.specs.declared.facts.OptionFacts.{OptionFacts}
use Rattle.option_link.specs.Fields.{AreInOrder}

pub record LinkedOptions : Type 0 where
  pub files : List File
  pub known : List OptionFacts

-- It is known of each file, with its fields in order.
pub record AreKnown (linked : LinkedOptions) : Type 0 where
  pub each : length linked.known ≡ length linked.files
  pub in_order : AreInOrder linked.known
