use Rattle.std.proofs.Common.{◌∙◌, ◌++◌, ap, ℕ, List}
use Rattle.std.specs.Prelude.{codes}
use Rattle.std.specs.String.{string_bytes}
use Rattle.std.proofs.lemmas.Result.{on_ok_weaker}
use Rattle.diagnostics.specs.Excerpts.{excerpt}
use Rattle.diagnostics.specs.Places.{place_text}
use Rattle.protoscip.proofs.ExplainingLemmas.{four_parts}
use Rattle.protoscip.proofs.tree_counter.push_counted.Goals as goal

pub returns-clause-explained : goal.returns-clause-explained
returns-clause-explained c =
    let text = c.args.counter.now in
    on_ok_weaker c.push_excerpt.result (λ h.
    four_parts (string_bytes c.args.out.now) (string_bytes c.push_str.new.self) (string_bytes c.push_place.new.out)
    (string_bytes c.push_str-2.new.self) (string_bytes c.push_excerpt.new.out)
    (codes "\n") (place_text c.args.path.now text c.args.part.at) c.args.sentence.now
    (excerpt text c.args.part.at c.args.part.len)
    c.in_ok-push_str.ensures.bytes c.in_ok-push_place.ensures.place c.in_ok-push_str-2.ensures.bytes
    (h ∙ ap (λ (t : List ℕ). string_bytes c.push_str-2.new.self ++ excerpt t c.args.part.at c.args.part.len)
    c.in_ok-push_place.ensures.same)) c.push_excerpt.ensures.excerpt
