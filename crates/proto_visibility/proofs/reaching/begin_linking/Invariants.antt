use Rattle.std.proofs.Common.{◌≡◌, ◌↔◌, ℕ, take}
use Rattle.std.specs.List.{Contains}
use Rattle.proto_visibility.specs.Tables.OptionTables.{IsBegunIn}
use Rattle.proto_visibility.proofs.reaching.begin_linking.Given as goal

abbrev pub invariant-loop-source : goal.invariant-loop-source
invariant-loop-source l =
    record {
      files : l.search.files ≡ l.fn.search.files;
      begun : (number : ℕ) → Contains l.search.numbers number
          ↔ IsBegunIn l.options (take l.source-index l.sources) number;
    }
