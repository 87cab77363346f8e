use Rattle.std.proofs.lemmas.Result.{IfOk-weaker}
use Rattle.proto_decl.proofs.detail.signature_at.Goals as goal

pub returns : goal.returns
returns c =
    IfOk-weaker c.signature_of.result _ _
    (λ signature same. record { index = c.args.begun.tokens; begins = c.at_begun.ensures.at; text = same })
    c.signature_of.ensures
