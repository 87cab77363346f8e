use Rattle.std.proofs.lemmas.List.Elements.{All-same}
use Rattle.proto_lex.specs.Lexed.{IsPart}
use Rattle.proto_parse.specs.tree.Heading.{Heading}
use Rattle.proto_parse.specs.Parts.Part.{ValuePart}
use Rattle.proto_decl.specs.Spans.{OfPart}
use Rattle.proto_decl.proofs.OutlineLemmas.{parts-row}
use Rattle.proto_decl.proofs.outlines.outline_enum.Goals as goal

pub outline_values-requires : goal.outline_values-requires
outline_values-requires c =
    All-same (λ (value : Heading). OfPart (IsPart c.args.text.now) (ValuePart value)) _ _ c.as_slice.ensures
    (parts-row (OfPart (IsPart c.args.text.now)) ValuePart c.args.declared.now.values c.requires.1)
