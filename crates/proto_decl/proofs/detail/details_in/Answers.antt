use Rattle.proto_decl.proofs.detail.details_in.Goals as goal

pub details_at-requires-clause-tokens : goal.details_at-requires-clause-tokens
details_at-requires-clause-tokens c = c.requires.tokens c.in_ok-surrounding.surrounding
