-- A run over a tree that hands out more than what is recorded.
use Rattle.std.proofs.Common.{◌≡◌, ℕ, Bool, List, Option, Result, Ok, Err}
use Rattle.std.specs.Result.{result_map_both}
use Rattle.streams.specs.Writers.{Writer}
use Rattle.proto_parse.specs.dialect.Dialect.{Dialect}
use Rattle.source_tree.specs.Files.{TreeFile}
use Rattle.scip_build.specs.declared.omission.Omission.{Omission}
use Rattle.protoscip.specs.declared.fault.Fault.{Fault}
use Rattle.proto_decl.specs.Values.{Seen}
use Rattle.index_hooks.specs.declared.choice.Choice.{Choice}
use Rattle.scip_build.specs.declared.settings.Settings.{Settings}
use Rattle.command_line.specs.declared.options.IndexRequest.{IndexRequest}
use Rattle.protoscip.specs.Explanations.{explain_in}
use Rattle.protoscip.specs.Unread.{PathUnread}
use Rattle.programs.specs.Indexing.{IndexesInto, not_begun, into_part, too_poor}
use Rattle.programs.specs.Messages.{SaysOfSuccess}
use Rattle.programs.specs.Placing.{Place}
use Rattle.programs.specs.TreeRuns.{Ends}
use Rattle.programs.proofs.TreeRunOmissionLemmas.{ends_of, omissions_said}

-- the part of what is handed out, or the fault
abbrev pub part_of : {A B E : Type 0} → (A → B) → Result A E → Result B E
part_of f done = result_map_both f (λ e. e) done

-- a run ends alike, if what is told is of the part
pub ends_alike : {M A B : Type 0} (f : A → B) (told_of : B → List Omission)
    (says : (List ℕ → Type 0) → Writer M → (status : ℕ) → Type 0) (none_found : Option (List ℕ) → Type 0)
    (explain : Option Dialect) (real : Bool) (tree : List TreeFile) (unread : List PathUnread) (done : Result A Fault)
    (messages : Writer M) (status : ℕ)
    → Ends says none_found explain real tree unread (λ a. told_of (f a)) done messages status
    → Ends says none_found explain real tree unread told_of (part_of f done) messages status
ends_alike f told_of says none_found explain real tree unread (Ok a) messages status ends = ends
ends_alike f told_of says none_found explain real tree unread (Err e) messages status ends = ends

-- a tree is indexed alike, if the line of none found is one of which `none_found` holds
pub into_of : {P W Q V M : Type 0} (none_found : List TreeFile → Option (List ℕ) → Type 0) (asked : IndexRequest)
    (allows : Seen → Choice → Type 0) (settings : Settings) (workers : ℕ) (tree : List TreeFile)
    (unread : List PathUnread) (at : Place P W)
    (report : Place Q V) (messages : Writer M) (status : ℕ) (line : Option (List ℕ)) → none_found tree line
    → IndexesInto (λ _ l. l ≡ line) asked allows settings workers tree unread at report messages status
    → IndexesInto none_found asked allows settings workers tree unread at report messages status
into_of none_found asked allows settings workers tree unread at report messages status line found
    (not_begun fault may left as_it_was tells) = not_begun fault may left as_it_was tells
into_of none_found asked allows settings workers tree unread at report messages status line found
    (into_part done apart fills ends) =
    into_part done apart fills
    (ends_of SaysOfSuccess (none_found tree) (explain_in asked.options.explain settings.dialect) asked.options.is_real
    tree messages status
    unread (λ recorded. recorded.told) done line found ends)
into_of none_found asked allows settings workers tree unread at report messages status line found
    (too_poor recorded fault apart forgoes breaks ends) =
    too_poor recorded fault apart forgoes breaks (
      ends.0,
      omissions_said SaysOfSuccess (none_found tree) (explain_in asked.options.explain settings.dialect)
          asked.options.is_real tree
          (record messages { after = ends.0 }) 0 line found unread recorded.told ends.1,
      ends.2,
    )
