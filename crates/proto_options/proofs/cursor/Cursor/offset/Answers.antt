use Rattle.proto_grammar.proofs.TerminalPlaceLemmas.{first-offset}
use Rattle.proto_options.proofs.cursor.Cursor.offset.Goals as goal

pub returns : goal.returns
returns c =
    let inside = c.self.inside in
    rw (← c.self.view_is) (first-offset inside.tokens.now.text inside.tokens.now.tokens inside.next c.offset_at.result
    c.offset_at.ensures)
