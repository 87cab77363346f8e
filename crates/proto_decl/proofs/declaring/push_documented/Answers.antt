use Rattle.std.proofs.Common.{◌++◌, ◌∷◌, [], List, subst, append_assoc}
use Rattle.std.specs.List.{AllZip}
use Rattle.std.proofs.lemmas.List.{append-nil}
use Rattle.basics.proofs.ListLemmas.{zip_push as AllZip-push}
use Rattle.proto_decl.specs.Declares.{IsDeclaration}
use Rattle.proto_decl.proofs.declaring.push_documented.Goals as goal

push_behind : {A B : Type 0} (R : A → B → Type 0) (before xs : List A) (ys : List B) (x : A) (y : B)
    → AllZip R (before ++ xs) ys → R x y → AllZip R (before ++ (xs ++ x ∷ [])) (ys ++ y ∷ [])
push_behind R before xs ys x y all r = subst (λ os. AllZip R os (ys ++ y ∷ [])) (append_assoc before xs (x ∷ []))
    (AllZip-push R (before ++ xs) ys x y all r)

pub loop-outline-init : goal.loop-outline-init
loop-outline-init c = λ before all. rw (append-nil before) all

pub loop-outline-preserved : goal.loop-outline-preserved
loop-outline-preserved c = λ before all.
    rw c.in_ok-push.ensures.items
    (push_behind (IsDeclaration c.args.form c.args.lexed.now) before c.loop-outline.yielded _ _ _
    (c.loop-outline.invariant before all) c.in_ok-declaration.ensures)
