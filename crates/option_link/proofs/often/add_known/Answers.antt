use Rattle.std.proofs.Common.{◌≡◌, ◌++◌, ◌∷◌, []}
use Rattle.option_link.specs.KnownFields.{AreKnownFields}
use Rattle.option_link.specs.declared.known_fields.KnownField.{KnownField}
use Rattle.option_link.proofs.KnownFieldLemmas.{if_named_by, is_known, known_more}
use Rattle.option_link.proofs.LoopLemmas.{ok_as}
use Rattle.option_link.proofs.often.add_known.Goals as goal

pub returns : goal.returns
returns c =
    let files = c.args.files.names.now in
    let known = c.args.files.known.now in
    let old = c.args.often.now.fields.items in
    let new = c.add.new.self.fields.items in
    let one : KnownField = record {
      field = c.args.field;
      message = c.in_ok-message.message;
      gives = c.in_ok-gives.gives;
    } in
    ok_as c.add.result (λ _. new ≡ old ++ one ∷ []) (λ _. AreKnownFields files known new)
    (λ _ made. known_more files known old new one
    (is_known files known one
    (if_named_by files known c.args.field c.args.declared.now c.requires.stands c.in_ok-message.message
    c.in_ok-message.ensures) c.in_ok-gives.ensures) made c.requires.known) c.add.ensures
