use Rattle.std.proofs.Common.{◌≡◌, ◌∙◌, sym, ap, Some, None, slice_get, drop}
use Rattle.std.proofs.lemmas.Option.{slice_get_past}
use Rattle.proto_lex.specs.declared.token.TokenKind.TheVariants.{Dot}
use Rattle.proto_grammar.specs.Lexeme.{Place, lexemes_of}
use Rattle.proto_grammar.specs.Terminal.{first_is, of_kind, others}
use Rattle.proto_grammar.proofs.TerminalPlaceLemmas.{slice_get-got, first-lexemes_of, first-none}
use Rattle.proto_options.proofs.cursor.Cursor.peek.Goals as goal

pub returns : goal.returns
returns c =
    let inside = c.self.inside in
    let got = c.in_ok-token.ensures.lookup in
    let token = c.in_ok-token.token.now in
    let here : slice_get inside.tokens.now.tokens inside.next ≡ Some token =
    rw (← c.tokens.ensures.value) (slice_get-got c.tokens.result.now inside.next token got.3.0 got.1) in
    let dotted : c.is_dotted-dotted.result
    ≡ first_is (of_kind Dot) (others (drop inside.next (lexemes_of inside.tokens.now.text inside.tokens.now.tokens))) =
    c.is_dotted-dotted.ensures ∙ ap (λ (p : Place). first_is (of_kind Dot) (others p.left)) (sym c.self.view_is) in
    rw (← c.self.view_is) (first-lexemes_of inside.tokens.now.text inside.tokens.now.tokens inside.next token
    c.slice-spelling.result.now c.is_dotted-dotted.result here c.slice-spelling.ensures.part dotted)

pub returns-in_err-token : goal.returns-in_err-token
returns-in_err-token c =
    let inside = c.self.inside in
    let none : slice_get inside.tokens.now.tokens inside.next ≡ None =
    rw (← c.tokens.ensures.value) (slice_get_past c.tokens.result.now inside.next c.in_err-token.ensures.lookup.3) in
    rw (← c.self.view_is, c.from_residual.ensures)
    (first-none inside.tokens.now.text inside.tokens.now.tokens inside.next none)
