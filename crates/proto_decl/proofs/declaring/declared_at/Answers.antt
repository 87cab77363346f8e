use Rattle.std.proofs.Common.{◌≡◌, ◌∙◌, ◌++◌, ◌∷◌, ◌+◌, ◌<◌, [], ℕ, List, ap, get_or, length, subst, sym, take}
use Rattle.std.specs.List.{AllZip, flat_map}
use Rattle.std.proofs.lemmas.List.{flat_map_more, take_more}
use Rattle.std.proofs.lemmas.List.Elements.{All-get_or}
use Rattle.proto_lex.specs.Lexed.{IsPart}
use Rattle.proto_parse.specs.tree.FileItem.{FileItem}
use Rattle.proto_decl.specs.Spans.{OfParts}
use Rattle.proto_decl.specs.Walked.{in_item, uses_in_item, parts_in_item}
use Rattle.proto_decl.specs.Declares.{IsDeclaration}
use Rattle.proto_decl.specs.declared.declaration.Outline.{Outline}
use Rattle.proto_decl.proofs.WalkedLemmas.{outlines_are, uses_are}
use Rattle.proto_decl.proofs.declaring.declared_at.Goals as goal

-- one item more comes behind those before it
one_taken : {X : Type 0} (xs : List X) (i : ℕ) (x : X) → i < length xs → x ≡ get_or xs i x
    → take i xs ++ x ∷ [] ≡ take (i + 1) xs
one_taken xs i x within is = ap (λ y. take i xs ++ y ∷ []) is ∙ sym (take_more xs i x within)

-- what one item more gives is behind what the items before it give
one_more : {X A : Type 0} (f : X → List A) (xs : List X) (i : ℕ) (x : X) (old new : List A) → i < length xs
    → x ≡ get_or xs i x → old ≡ flat_map f (take i xs) → new ≡ old ++ f x → new ≡ flat_map f (take (i + 1) xs)
one_more f xs i x old new within is before grown =
    grown ∙ (ap (λ l. l ++ f x) before ∙ (flat_map_more f [] (take i xs) x ∙ ap (flat_map f) (one_taken xs i x within is)))

-- so do the declarations of what one item more gives
declare_more : {X A B : Type 0} (R : A → B → Type 0) (f : X → List A) (xs : List X) (i : ℕ) (x : X) (os : List A)
    (ys : List B) → i < length xs → x ≡ get_or xs i x → os ≡ f x → AllZip R (flat_map f (take i xs) ++ os) ys
    → AllZip R (flat_map f (take (i + 1) xs)) ys
declare_more R f xs i x os ys within is same all = subst (λ l. AllZip R l ys)
    (ap (λ l. flat_map f (take i xs) ++ l) same
    ∙ (flat_map_more f [] (take i xs) x ∙ ap (flat_map f) (one_taken xs i x within is))) all

pub walk_last-requires : goal.walk_last-requires
walk_last-requires c =
    let of_item = λ (item : FileItem). OfParts (IsPart c.args.text.now) (parts_in_item item) in
    subst of_item (sym c.item-item.is)
    (All-get_or of_item c.args.items.now c.loop-item.item-index c.item-item.result c.loop-item-test.true c.requires)

pub loop-item-preserved : goal.loop-item-preserved
loop-item-preserved c =
    let items = c.args.items.now in
    let text = c.args.text.now in
    let around = c.args.surrounding.now in
    let i = c.loop-item.item-index in
    let declares = in_item text around in
    let R = IsDeclaration c.args.form c.args.lexed.now in
    let before = subst (λ (os : List Outline). AllZip R os c.loop-item.declared.declarations.items)
    (sym (outlines_are text around (take i items))) c.loop-item.invariant.declarations in
    record {
      declarations = subst (λ (os : List Outline). AllZip R os c.push_documented.new.declared.declarations.items) (outlines_are text around (take (i + 1) items))
          (declare_more R declares items i c.item-item.result _ _ c.loop-item-test.true c.item-item.is
          c.in_ok-found.ensures.outlines (c.in_ok-push_documented.ensures (flat_map declares (take i items)) before));
      uses = one_more (uses_in_item text around) items i c.item-item.result _ _ c.loop-item-test.true c.item-item.is
          (c.loop-item.invariant.uses ∙ sym (uses_are text around (take i items))) c.in_ok-found.ensures.uses
          ∙ uses_are text around (take (i + 1) items);
    }
