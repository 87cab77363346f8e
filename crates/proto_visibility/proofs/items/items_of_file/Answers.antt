use Rattle.std.proofs.Common.{ap, sym, ◌∙◌}
use Rattle.std.specs.Option.{option_map}
use Rattle.proto_visibility.specs.Files.{File}
use Rattle.proto_visibility.proofs.ItemAllLemmas.{in_file}
use Rattle.proto_visibility.proofs.items.items_of_file.Goals as goal

pub returns-in_ok-items-in-Some-clause-items : goal.returns-in_ok-items-in-Some-clause-items
returns-in_ok-items-in-Some-clause-items c =
    let known = sym (ap (λ (f : File). f.facts) c.file.view_is) ∙ ap (option_map (λ facts. facts.now)) c.in-Some.is in
    in_file c.args.number c.args.file.now c.in-Some.facts.now c.in_ok-items-in-Some.items.items known
    c.in_ok-items-in-Some.ensures.items
