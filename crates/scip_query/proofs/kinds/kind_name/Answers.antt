use Rattle.std.proofs.Common.{◌≡◌, ◌==◌, ℕ, ℤ, pos, negsuc, List, Option, None, Some, refl, ◌∙◌, ap, lit<}
use lib.IntN.{nat_abs}
use Rattle.std.specs.Borrow.{Bor}
use Rattle.std.specs.Int.{w32, FitsUnsignedBits}
use Rattle.std.specs.List.{slice_get, slice_split}
use Rattle.std.specs.Option.{option_map}
use Rattle.std.proofs.lemmas.Int.{to_z-of_z}
use Rattle.std.proofs.lemmas.Iterator.Consumers.{nth_from_yields_List}
use Rattle.std.proofs.lemmas.Iterator.Splits.{YieldsList-from_str_split}
use Rattle.scip_query.specs.CommandViews.{text_of}
use Rattle.scip_query.specs.Kinds.{kind_name, kind_names}
use Rattle.scip_query.proofs.kinds.kind_name.Goals as goal

shown : (text : Option (Bor (List ℕ))) → option_map text_of text ≡ option_map (λ (b : Bor (List ℕ)). b.now) text
shown None = refl
shown (Some b) = refl

named : (kind : ℤ) (number : ℕ) → FitsUnsignedBits 64 kind → number ≡ nat_abs kind
    → slice_get (slice_split (λ b. b == 32) kind_names) number ≡ kind_name kind
named (pos n) number fits is = ap (slice_get (slice_split (λ b. b == 32) kind_names)) is
named (negsuc n) number fits is = absurd fits

pub returns-in-Ok : goal.returns-in-Ok
returns-in-Ok c =
    shown c.nth.result
    ∙ nth_from_yields_List c.nth.result c.nth.new.self c.in-Ok.number c.nth.ensures.ran
    (YieldsList-from_str_split 32 kind_names
    (lit< tt) c.split.ensures.text c.split.ensures.has_more c.split.ensures.pattern)
    ∙ named _ c.in-Ok.number c.in-Ok.ensures.0 c.in-Ok.ensures.1
    ∙ ap kind_name (to_z-of_z w32 c.args.kind c.ranges.kind)
