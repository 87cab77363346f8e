use Rattle.proto_options.proofs.CursorLemmas.{word_at}
use Rattle.proto_options.proofs.cursor.Cursor.is_at_word.Goals as goal

pub returns : goal.returns
returns c =
    let inside = c.self.inside in
    rw (← c.self.view_is) (word_at inside.tokens.now.text inside.tokens.now.tokens inside.next c.args.word.now
    c.is_word_at.result c.is_word_at.ensures)
