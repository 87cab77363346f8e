use Rattle.proto_grammar.proofs.TerminalPlaceLemmas.{first-dot}
use Rattle.proto_grammar.proofs.parser.Parser.is_at_dot.Goals as goal

pub returns : goal.returns
returns c =
    let inside = c.self.inside in
    rw (← c.self.view_is) (first-dot inside.tokens.now.text inside.tokens.now.tokens inside.next c.is_dot_at.result
    c.is_dot_at.ensures)
