use Rattle.proto_lex.specs.Lexed.{IsPart}
use Rattle.proto_decl.proofs.DetailLemmas.{token_at, token_within, token_holds}
use Rattle.proto_decl.proofs.detail.at_begun.Goals as goal

pub returns-clause-at : goal.returns-clause-at
returns-clause-at c =
    token_at c.args.lexed.now c.args.span c.tokens.ensures.in_order c.args.begun c.requires.begun c.requires.token

pub returns-clause-within : goal.returns-clause-within
returns-clause-within c =
    token_within c.args.lexed.now c.args.span c.args.begun
    (token_at c.args.lexed.now c.args.span c.tokens.ensures.in_order c.args.begun c.requires.begun c.requires.token)

pub returns-clause-part : goal.returns-clause-part
returns-clause-part c =
    token_holds (IsPart c.args.lexed.now.text) c.args.lexed.now c.args.span c.tokens.ensures.parts c.requires.token
