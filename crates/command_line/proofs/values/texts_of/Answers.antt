use Rattle.std.proofs.Common.{◌∙◌, ap, List, ℕ, [], map, string_bytes}
use Rattle.std.proofs.lemmas.Result.{IfOk-weaker}
use Rattle.std.specs.Prelude.{Option, unwrap_or}
use Rattle.clap.specs.Words.{found_of}
use Rattle.clap.proofs.WalkLemmas.{raw_values-rows}
use Rattle.command_line.proofs.values.texts_of.Goals as goal

abbrev or_none : Option (List (List ℕ)) → List (List ℕ)
or_none texts = unwrap_or texts []

pub returns-in-Some : goal.returns-in-Some
returns-in-Some c = IfOk-weaker c.copies_of.result _ _
    (λ v same. same ∙ ap or_none (c.in-Some.ensures ∙ raw_values-rows (found_of c.args.given.now) c.args.id.now))
    c.copies_of.ensures

pub returns-in-None : goal.returns-in-None
returns-in-None c = ap (map string_bytes) c.new.ensures.items
    ∙ ap or_none (c.in-None.ensures ∙ raw_values-rows (found_of c.args.given.now) c.args.id.now)
