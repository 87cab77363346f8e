use Rattle.std.proofs.Common.{◌≡◌, ◌==◌, ℕ, List, Option, None, Some, refl, ◌∙◌, ap, lit<}
use Rattle.std.specs.Borrow.{Bor}
use Rattle.std.specs.List.{slice_get, slice_split}
use Rattle.std.specs.Option.{option_map}
use Rattle.std.proofs.lemmas.Iterator.Consumers.{nth_from_yields_List}
use Rattle.std.proofs.lemmas.Iterator.Splits.{YieldsList-from_str_split}
use Rattle.scip_query.specs.CommandViews.{text_of}
use Rattle.scip_pages.proofs.told.line_at.Goals as goal

shown : (text : Option (Bor (List ℕ))) → option_map text_of text ≡ option_map (λ (b : Bor (List ℕ)). b.now) text
shown None = refl
shown (Some b) = refl

pub returns : goal.returns
returns c =
    shown c.nth.result
    ∙ nth_from_yields_List c.nth.result c.nth.new.self c.args.number c.nth.ensures.ran
    (YieldsList-from_str_split 10 c.as_str.result.now
    (lit< tt) c.split.ensures.text c.split.ensures.has_more c.split.ensures.pattern)
    ∙ ap (λ (text : List ℕ). slice_get (slice_split (λ b. b == 10) text) c.args.number) c.as_str.ensures
