use Rattle.proto_options.proofs.CursorLemmas.{span_at}
use Rattle.proto_options.proofs.cursor.Cursor.span_of.Goals as goal

pub returns : goal.returns
returns c =
    let inside = c.self.inside in
    rw (← c.self.view_is) (span_at inside.tokens.now.text inside.tokens.now.tokens inside.next c.args.kind
    c.span_at.result c.span_at.ensures)
