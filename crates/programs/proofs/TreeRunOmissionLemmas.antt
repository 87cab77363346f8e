-- What is said of an index, by what it lacks.
use Rattle.std.proofs.Common.{◌≡◌, ℕ, suc, Bool, true, false, List, [], ◌∷◌, Option, Some, None, Result, Ok, Err}
use Rattle.std.proofs.Common.{length, ◌==◌, ◌&&◌, refl, subst, sym}
use Rattle.std.specs.Prelude.{IfSome}
use Rattle.std.specs.Option.{option_map}
use Rattle.std.proofs.lemmas.Option.{same_Some}
use Rattle.basics.proofs.TestLemmas.{never_zero as no_items, first_holds}
use Rattle.streams.specs.Writers.{Writer}
use Rattle.proto_parse.specs.dialect.Dialect.{Dialect}
use Rattle.source_tree.specs.Files.{TreeFile}
use Rattle.source_tree.specs.Trees.{IsSourceCount}
use Rattle.scip_build.specs.declared.omission.Omission.{Omission}
use Rattle.protoscip.specs.declared.fault.Fault.{Fault}
use Rattle.protoscip.specs.Unread.{PathUnread}
use Rattle.programs.specs.Messages.{Says, SaysIfAny, SaysOfSuccess}
use Rattle.programs.specs.TreeRuns.{Ends, IsWholeText, IsWholeTextIfAny, SaysOmissions, SaysAll}

module _ {M : Type 0} (says : (List ℕ → Type 0) → Writer M → (status : ℕ) → Type 0)
    (none_found : Option (List ℕ) → Type 0) (explain : Option Dialect) (real : Bool)
    (tree : List TreeFile) (messages : Writer M) (status : ℕ) where
  -- nothing is lacking
  pub nothing : (unread : List PathUnread) (told : List Omission) → (length unread == 0 && length told == 0) ≡ true
      → (line : Option (List ℕ)) → none_found line → SaysIfAny line messages status
      → SaysOmissions says none_found explain real tree unread told messages status
  nothing [] [] none line found said = (line, found, said)
  nothing [] (first ∷ others) none line found said = absurd (no_items (length others) none)
  nothing (path ∷ unread) told none line found said =
      absurd (no_items (length unread) (first_holds (suc (length unread) == 0) (length told == 0) none))

  -- something is
  pub something : (unread : List PathUnread) (told : List Omission) → (length unread == 0 && length told == 0) ≡ false
      → SaysAll says explain real tree unread told messages status
      → SaysOmissions says none_found explain real tree unread told messages status
  something [] [] some tells = absurd cc
  something [] (first ∷ others) some tells = tells
  something (path ∷ unread) told some tells = tells

  -- the line of none found is one of which `none_found` holds
  pub omissions_said : (line : Option (List ℕ)) → none_found line → (unread : List PathUnread) (told : List Omission)
      → SaysOmissions says (λ l. l ≡ line) explain real tree unread told messages status
      → SaysOmissions says none_found explain real tree unread told messages status
  omissions_said line found [] [] lacks = (lacks.0, subst none_found (sym lacks.1) found, lacks.2)
  omissions_said line found [] (first ∷ others) lacks = lacks
  omissions_said line found (path ∷ unread) told lacks = lacks

  pub ends_of : {A : Type 0} (unread : List PathUnread) (told_of : A → List Omission) (done : Result A Fault)
      (line : Option (List ℕ)) → none_found line
      → Ends says (λ l. l ≡ line) explain real tree unread told_of done messages status
      → Ends says none_found explain real tree unread told_of done messages status
  ends_of unread told_of (Ok made) line found ends = omissions_said line found unread (told_of made) ends
  ends_of unread told_of (Err fault) line found ends = ends

-- a line that is said after a success, with whatever status, is said with the status 0
any_success : {M : Type 0} (messages : Writer M) (status : ℕ) (line : Option (List ℕ))
    → SaysIfAny line messages status → SaysIfAny line messages 0
any_success messages status None silent = (silent.0, refl)
any_success messages status (Some text) said = (refl, said.1)

-- a success has the status 0
pub is_success : {M : Type 0} (none_found : Option (List ℕ) → Type 0) (explain : Option Dialect) (real : Bool)
    (tree : List TreeFile) (messages : Writer M) (status : ℕ) (unread : List PathUnread) (told : List Omission)
    → SaysOmissions SaysOfSuccess none_found explain real tree unread told messages status
    → SaysOmissions SaysOfSuccess none_found explain real tree unread told messages 0
is_success none_found explain real tree messages status [] [] lacks =
    (lacks.0, lacks.1, any_success messages status lacks.0 lacks.2)
is_success none_found explain real tree messages status [] (first ∷ others) says =
    (says.0, says.1, (says.2.0, says.2.1, (refl, says.2.2.1)))
is_success none_found explain real tree messages status (path ∷ unread) told says =
    (says.0, says.1, (says.2.0, says.2.1, (refl, says.2.2.1)))

-- the text that was made of it is said; or, if there is none, the line of none found
pub text_is_said : {M T : Type 0} (bytes : T → List ℕ) (explain : Option Dialect) (real : Bool)
    (tree : List TreeFile) (messages : Writer M) (status : ℕ) (line : Option (List ℕ)) (unread : List PathUnread)
    (told : List Omission) (text : Option T)
    → IsWholeTextIfAny explain real tree unread told (option_map bytes text)
    → IfSome text (λ (t : T). Says (bytes t) 0 messages status)
    → (text ≡ None → SaysIfAny line messages status)
    → SaysOmissions SaysOfSuccess (λ l. l ≡ line) explain real tree unread told messages status
text_is_said bytes explain real tree messages status line [] [] None is said silent = (line, refl, silent refl)
text_is_said bytes explain real tree messages status line [] [] (Some t) is said silent = absurd cc
text_is_said bytes explain real tree messages status line [] (first ∷ others) None is said silent =
    let never = is.2.2 in absurd cc
text_is_said bytes explain real tree messages status line [] (first ∷ others) (Some t) is said silent = (
  is.0,
  is.1,
  (
    bytes t,
    subst (IsWholeText explain real tree is.0 [] (first ∷ others)) (sym (same_Some (bytes t) is.2.0 is.2.2)) is.2.1,
    said,
  ),
)
text_is_said bytes explain real tree messages status line (path ∷ unread) told None is said silent =
    let never = is.2.2 in absurd cc
text_is_said bytes explain real tree messages status line (path ∷ unread) told (Some t) is said silent = (
  is.0,
  is.1,
  (
    bytes t,
    subst (IsWholeText explain real tree is.0 (path ∷ unread) told) (sym (same_Some (bytes t) is.2.0 is.2.2))
        is.2.1,
    said,
  ),
)

module _ (explain : Option Dialect) (real : Bool) (tree : List TreeFile) where
  -- if nothing is lacking, there is no text
  pub no_text : (unread : List PathUnread) (told : List Omission) → (length unread == 0 && length told == 0) ≡ true
      → IsWholeTextIfAny explain real tree unread told None
  no_text [] [] none = refl
  no_text [] (first ∷ others) none = absurd (no_items (length others) none)
  no_text (path ∷ unread) told none =
      absurd (no_items (length unread) (first_holds (suc (length unread) == 0) (length told == 0) none))

  -- if something is, there is one
  pub some_text : (unread : List PathUnread) (told : List Omission) (text : List ℕ)
      → (length unread == 0 && length told == 0) ≡ false
      → ((sources : ℕ) × IsSourceCount tree sources
      × IsWholeText explain real tree sources unread told text)
      → IsWholeTextIfAny explain real tree unread told (Some text)
  some_text [] [] text some is = absurd cc
  some_text [] (first ∷ others) text some is = (is.0, is.1, (text, is.2, refl))
  some_text (path ∷ unread) told text some is = (is.0, is.1, (text, is.2, refl))
