use Rattle.std.proofs.Common.{◌≡◌, ◌+◌, length}
use denote.Shadow.{shadow}
use denote.Text.{Utf8}
use Rattle.proto_decl.specs.Names.{components_of}
use Rattle.option_link.proofs.FrontLemmas.{AreFromInside}
use Rattle.option_link.proofs.fronts.outer_entities.Given as goal

abbrev pub invariant-loop-done : goal.invariant-loop-done
invariant-loop-done l =
    shadow (Utf8 l.front) × (length l.parts.items ≡ l._done) × (l.left + l._done ≡ length (components_of l.name))
    × AreFromInside l.file l.facts l.name l.front l.left l.parts.items
