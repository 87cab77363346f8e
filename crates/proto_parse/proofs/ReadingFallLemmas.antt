-- Each step of a loop takes a token, as its step of the grammar does.
use Rattle.std.proofs.Common.{ℕ, ◌∙◌}
use Rattle.proto_grammar.specs.declared.dialect.CustomOptions.{CustomOptions}
use Rattle.proto_grammar.specs.declared.dialect.Syntax.{Syntax}
use Rattle.proto_grammar.specs.Reading.Repetition.{adding, passing}
use Rattle.proto_grammar.proofs.RepetitionUntilLemmas.{Falls, adding-falls}
use Rattle.proto_parse.proofs.Reading.Enums.{enum_item_at}
use Rattle.proto_parse.proofs.Reading.Messages.{passed_item_at, item_at, inside_at}
use Rattle.proto_parse.proofs.Reading.Services.{method_item_at, service_item_at}
use Rattle.proto_parse.proofs.Reading.Files.{path_literal_at}
use Rattle.proto_steps.specs.declared.statement.Within.{Within}
use Rattle.proto_steps.specs.Choice.{item_of}
use Rattle.proto_steps.specs.Grammar.Definitions.{enum_item, inside, passed_item, method_item, service_item}
use Rattle.proto_steps.specs.Grammar.Definitions.{kept_literal}
use Rattle.proto_steps.proofs.MoveLemmas.{shorter}
use Rattle.proto_steps.proofs.EnumLemmas.{enum_item_moves}
use Rattle.proto_steps.proofs.MessageLemmas.{item_moves, passed_item_moves}
use Rattle.proto_steps.proofs.ServiceLemmas.{method_item_moves, service_item_moves}
use Rattle.proto_steps.proofs.FileLemmas.{kept_literal_moves}
use Rattle.proto_parse.proofs.Agreement.Enums.{enum_item_agrees}
use Rattle.proto_parse.proofs.Agreement.Messages.{passed_item_agrees, item_agrees}
use Rattle.proto_parse.proofs.Agreement.Services.{method_item_agrees, service_item_agrees}
use Rattle.proto_parse.proofs.Agreement.Files.{kept_literal_agrees}

pub enum_items_fall : (custom : CustomOptions) → Falls (adding (enum_item_at custom))
enum_items_fall custom =
    adding-falls (enum_item_at custom)
    (λ place x e.
    shorter (enum_item custom) (enum_item_moves custom) place x.1 x.0 (enum_item_agrees custom place ∙ e))

pub passed_items_fall : Falls (passing passed_item_at)
passed_items_fall s place x e = shorter passed_item passed_item_moves place x.1 x.0 (passed_item_agrees place ∙ e)

pub items_fall : (within : Within) (syntax : Syntax) (levels : ℕ)
    → Falls (adding (item_at within syntax (inside_at syntax levels)))
items_fall within syntax levels =
    adding-falls (item_at within syntax (inside_at syntax levels))
    (λ place x e.
    shorter (item_of within syntax (inside syntax levels)) (item_moves within syntax (inside syntax levels)) place x.1
    x.0 (item_agrees within syntax levels place ∙ e))

pub method_items_fall : (custom : CustomOptions) → Falls (passing (method_item_at custom))
method_items_fall custom s place x e =
    shorter (method_item custom) (method_item_moves custom) place x.1 x.0 (method_item_agrees custom place ∙ e)

pub service_items_fall : (custom : CustomOptions) → Falls (adding (service_item_at custom))
service_items_fall custom =
    adding-falls (service_item_at custom)
    (λ place x e.
    shorter (service_item custom) (service_item_moves custom) place x.1 x.0 (service_item_agrees custom place ∙ e))

pub path_literals_fall : Falls (adding path_literal_at)
path_literals_fall =
    adding-falls path_literal_at
    (λ place x e. shorter kept_literal kept_literal_moves place x.1 x.0 (kept_literal_agrees place ∙ e))
