-- Each step of a loop takes a token.
use Rattle.std.proofs.Common.{◌≡◌, Bool, ap}
use Rattle.proto_grammar.specs.declared.dialect.CustomOptions.{CustomOptions}
use Rattle.proto_grammar.specs.Reading.Repetition.{adding, passing}
use Rattle.proto_grammar.specs.Reading.Names.{dot_name_at, pass_dot_name_at}
use Rattle.proto_grammar.specs.Reading.Options.{dot_part_at, literal_at, comma_setting_at}
use Rattle.proto_grammar.specs.Reading.Reserved.{comma_item_at}
use Rattle.proto_grammar.proofs.RepetitionStepLemmas.{same_ok, bind_ok}
use Rattle.proto_grammar.proofs.RepetitionUntilLemmas.{Falls, adding-falls}
use Rattle.proto_grammar.proofs.Found.Names.{dot_name_found}
use Rattle.proto_grammar.proofs.Found.Options.{dot_part_found, literal_found, comma_setting_found}
use Rattle.proto_grammar.proofs.Found.Fields.{comma_item_found}
use Rattle.proto_grammar.proofs.GrammarShorterLemmas.{dot_name_shorter, dot_part_shorter, literal_shorter}
use Rattle.proto_grammar.proofs.GrammarShorterLemmas.{comma_setting_shorter}
use Rattle.proto_grammar.proofs.GrammarShorterLemmas.{comma_item_shorter}

pub dot_names_fall : Falls (adding dot_name_at)
dot_names_fall = adding-falls dot_name_at
    (λ tokens x e. dot_name_shorter tokens.left x.1.left x.0 (dot_name_found tokens x e))

pub pass_dot_names_fall : Falls (passing pass_dot_name_at)
unfolding pass_dot_name_at
pass_dot_names_fall s tokens x e =
    let t = bind_ok (dot_name_at tokens) _ x e in
    let left : t.0.1.left ≡ x.1.left = ap (λ y. y.1.left) (same_ok _ x t.2) in
    rw (← left) (dot_name_shorter tokens.left t.0.1.left t.0.0 (dot_name_found tokens t.0 t.1))

pub dot_parts_fall : (custom : CustomOptions) → Falls (passing (dot_part_at custom))
dot_parts_fall custom s tokens x e = dot_part_shorter custom tokens.left x.1.left (dot_part_found custom tokens x e)

pub literals_fall : Falls (passing literal_at)
literals_fall s tokens x e = literal_shorter tokens.left x.1.left (literal_found tokens x e)

pub comma_settings_fall : (custom : CustomOptions) → Falls (passing (comma_setting_at custom))
comma_settings_fall custom s tokens x e =
    comma_setting_shorter custom tokens.left x.1.left (comma_setting_found custom tokens x e)

pub comma_items_fall : (negative names : Bool) → Falls (passing (comma_item_at negative names))
comma_items_fall negative names s tokens x e =
    comma_item_shorter negative names tokens.left x.1.left (comma_item_found negative names tokens x e)
