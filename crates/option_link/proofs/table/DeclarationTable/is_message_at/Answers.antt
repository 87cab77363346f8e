use Rattle.std.proofs.Common.{◌≡◌, ap, ◌∙◌}
use Rattle.proto_decl.specs.declared.declaration.Declaration.{Declaration}
use Rattle.proto_decl.specs.declared.declaration.DeclarationKind.TheVariants.{Message}
use Rattle.option_link.specs.Typed.{IsMessageAt}
use Rattle.option_link.proofs.LoopLemmas.{iff_as, never_so}
use Rattle.option_link.proofs.PlaceLemmas.{same_declaration}
use Rattle.option_link.proofs.table.DeclarationTable.is_message_at.Goals as goal

pub returns-in-Some : goal.returns-in-Some
returns-in-Some c =
    let d = c.in-Some.declared.now in
    iff_as c.is_a.result (d.kind ≡ Message) (IsMessageAt c.args.self.now c.args.place)
    (λ is. record { declaration = d; stands = c.in-Some.ensures.stands; is = is })
    (λ message. ap (λ (x : Declaration). x.kind) (same_declaration c.args.self.now c.args.place d
    message.declaration c.in-Some.ensures.stands message.stands) ∙ message.is) c.is_a.ensures

pub returns-in-None : goal.returns-in-None
returns-in-None c = never_so _ (λ message. c.in-None.ensures.stands message.declaration message.stands)
