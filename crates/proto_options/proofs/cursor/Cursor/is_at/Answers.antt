use Rattle.proto_options.proofs.CursorLemmas.{kind_at}
use Rattle.proto_options.proofs.cursor.Cursor.is_at.Goals as goal

pub returns : goal.returns
returns c =
    let inside = c.self.inside in
    rw (← c.self.view_is) (kind_at inside.tokens.now.text inside.tokens.now.tokens inside.next c.args.kind
    c.is_kind_at.result c.is_kind_at.ensures)
