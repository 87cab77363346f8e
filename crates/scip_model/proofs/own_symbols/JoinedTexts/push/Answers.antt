use Rattle.std.proofs.Common.{◌≡◌, ◌∙◌, ◌++◌, ◌∷◌, [], List, ℕ, ap, sym, subst, length}
use Rattle.std.specs.String.{string_bytes}
use Rattle.scip_model.specs.Tables.OwnTexts.{parts_from, AreEnds}
use Rattle.scip_model.proofs.OwnTextJoinedLemmas.{parts_more, ends_more}
use Rattle.scip_model.proofs.own_symbols.JoinedTexts.push.Goals as goal

pub invariant_of-self-2 : goal.invariant_of-self-2
invariant_of-self-2 c =
    let text = string_bytes c.self.inside.joined in
    let ends = c.self.inside.ends.items in
    let more = c.args.text.now in
    let joined : string_bytes c.push_str.new.self ≡ text ++ more = c.in_ok-push_str.ensures.bytes in
    let listed : c.push.new.self.items ≡ ends ++ length (text ++ more) ∷ [] =
    c.in_ok-push.ensures.items
    ∙ (ap (λ (its : List ℕ). its ++ c.len.result ∷ []) c.reserve.ensures.items
    ∙ ap (λ (n : ℕ). ends ++ n ∷ []) (c.len.ensures
    ∙ (c.push_str.new.self.bytes.ok.0 ∙ ap (λ (its : List ℕ). length its) joined))) in
    subst (λ (its : List ℕ). AreEnds its 0 c.push.new.self.items) (sym joined)
    (subst (λ (its : List ℕ). AreEnds (text ++ more) 0 its) (sym listed)
    (ends_more text more 0 ends c.utf8.text c.self.invariant))

pub returns : goal.returns
returns c =
    let text = string_bytes c.self.inside.joined in
    let ends = c.self.inside.ends.items in
    let more = c.args.text.now in
    let joined : string_bytes c.push_str.new.self ≡ text ++ more = c.in_ok-push_str.ensures.bytes in
    let listed : c.push.new.self.items ≡ ends ++ length (text ++ more) ∷ [] =
    c.in_ok-push.ensures.items
    ∙ (ap (λ (its : List ℕ). its ++ c.len.result ∷ []) c.reserve.ensures.items
    ∙ ap (λ (n : ℕ). ends ++ n ∷ []) (c.len.ensures
    ∙ (c.push_str.new.self.bytes.ok.0 ∙ ap (λ (its : List ℕ). length its) joined))) in
    ap (λ (its : List ℕ). parts_from its 0 c.push.new.self.items) joined
    ∙ (ap (λ (its : List ℕ). parts_from (text ++ more) 0 its) listed
    ∙ (parts_more text more 0 ends c.self.invariant
    ∙ ap (λ (parts : List (List ℕ)). parts ++ more ∷ []) c.self.view_is))
