use Rattle.std.proofs.lemmas.List.Elements.{All-same}
use Rattle.proto_lex.specs.Lexed.{IsPart}
use Rattle.proto_parse.specs.Parts.Part.{MethodPart}
use Rattle.proto_decl.specs.Spans.{OfMethod, OfPart}
use Rattle.proto_decl.proofs.OutlineLemmas.{parts-row}
use Rattle.proto_decl.proofs.walk.walk_service.Goals as goal

pub outline_methods-requires : goal.outline_methods-requires
outline_methods-requires c =
    All-same (OfMethod (IsPart c.args.text.now)) _ _ c.as_slice-methods.ensures
    (parts-row (OfPart (IsPart c.args.text.now)) MethodPart c.args.service.now.methods c.requires.1)

pub use_methods-requires : goal.use_methods-requires
use_methods-requires c =
    All-same (OfMethod (IsPart c.args.text.now)) _ _ c.as_slice-methods.ensures
    (parts-row (OfPart (IsPart c.args.text.now)) MethodPart c.args.service.now.methods c.requires.1)
