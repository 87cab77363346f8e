use Rattle.std.proofs.Common.{sym}
use Rattle.proto_lex.proofs.PositionLineStartLemmas.{line_of-is}
use Rattle.proto_lex.proofs.text.Text.line.Goals as goal

pub returns : goal.returns
returns c = sym (line_of-is c.args.self.now c.args.offset c.line_at.result
    (record { within = c.line_at.ensures.within; parted = c.line_at.ensures.parted }))
