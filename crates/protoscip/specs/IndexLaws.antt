-- What the definitions say about indexes of trees, whatever the code does. `allows` and `others` say which choices
-- may come, by one chooser and by another, or by one that is asked twice.
use Rattle.std.specs.Prelude.{◌≡◌, ◌⊎◌, ℕ, Bool, true, false, List}
use Rattle.proto_decl.specs.Values.{Seen}
use Rattle.index_hooks.specs.declared.choice.Choice.{Choice}
use Rattle.source_tree.specs.Files.{TreeFile}
use Rattle.scip_build.specs.declared.settings.Settings.{Settings}
use Rattle.protoscip.specs.Indexes.{IsIndexed, IsRefused}
use Rattle.protoscip.specs.declared.recorded.Recorded.{Recorded}
use Rattle.protoscip.specs.declared.fault.Fault.{Fault}
use Rattle.protoscip.specs.declared.fault.Fault.TheVariants.{Spawn, Memory, Unread, Lex, Syntax, Duplicate}
use Rattle.protoscip.specs.declared.fault.Fault.TheVariants.{MissingImport, Unresolved, Ambiguous, OptionGap, Uncertain}
use Rattle.protoscip.specs.declared.fault.Fault.TheVariants.{TooLarge, Write, Read, Answer}

-- Whether a fault is one of the tree. The others are lack of memory or of a thread, and a failed read or write.
abbrev pub is_of_tree : Fault → Bool
is_of_tree Spawn = false
is_of_tree Memory = false
is_of_tree (Unread number) = true
is_of_tree (Lex number fault) = true
is_of_tree (Syntax number fault) = true
is_of_tree (Duplicate first second) = true
is_of_tree (MissingImport place) = true
is_of_tree (Unresolved place) = true
is_of_tree (Ambiguous place) = true
is_of_tree (OptionGap place) = true
is_of_tree (Uncertain place behind) = true
is_of_tree TooLarge = true
is_of_tree (Write count) = false
is_of_tree Read = false
is_of_tree (Answer count) = false

-- a tree has one fault at most
abbrev pub OneFault : (allows others : Seen → Choice → Type 0) → Type 0
OneFault allows others =
    (settings : Settings) (tree : List TreeFile) (workers more : ℕ) (fault other : Fault)
    → IsRefused allows settings tree workers fault → IsRefused others settings tree more other
    → is_of_tree fault ≡ true → is_of_tree other ≡ true → fault ≡ other

-- a tree that is indexed has no fault; but with other choices its index may have too many bytes
abbrev pub IndexedHasNoFault : (allows others : Seen → Choice → Type 0) → Type 0
IndexedHasNoFault allows others =
    (settings : Settings) (tree : List TreeFile) (workers : ℕ) (recorded : Recorded) (bytes : List ℕ) (fault : Fault)
    → IsIndexed allows settings tree recorded bytes → IsRefused others settings tree workers fault
    → (is_of_tree fault ≡ false) ⊎ (fault ≡ TooLarge)

-- once the choices are recorded, what is told and the bytes depend only on the tree, these choices and the settings,
-- whatever else may be chosen
abbrev pub OneIndexingOfChoices : (allows others : Seen → Choice → Type 0) → Type 0
OneIndexingOfChoices allows others =
    (settings : Settings) (tree : List TreeFile) (recorded more : Recorded) (bytes also : List ℕ)
    → recorded.choices ≡ more.choices
    → IsIndexed allows settings tree recorded bytes → IsIndexed others settings tree more also
    → (recorded ≡ more) × (bytes ≡ also)

-- only one choice may come for what is seen of a declaration, whichever of the two is asked
abbrev pub AllowOneChoice : (allows others : Seen → Choice → Type 0) → Type 0
AllowOneChoice allows others = (seen : Seen) (choice another : Choice) → allows seen choice → others seen another
    → choice ≡ another

-- there, the choices are one, too: so all depends only on the tree, what is allowed, and the settings;
abbrev pub OneIndexing : (allows others : Seen → Choice → Type 0) → Type 0
OneIndexing allows others =
    (settings : Settings) (tree : List TreeFile) (recorded more : Recorded) (bytes also : List ℕ)
    → AllowOneChoice allows others
    → IsIndexed allows settings tree recorded bytes → IsIndexed others settings tree more also
    → (recorded ≡ more) × (bytes ≡ also)

-- and a tree that is indexed has no fault of its own, not even one of size
abbrev pub OneIndexingHasNoFault : (allows others : Seen → Choice → Type 0) → Type 0
OneIndexingHasNoFault allows others =
    (settings : Settings) (tree : List TreeFile) (workers : ℕ) (recorded : Recorded) (bytes : List ℕ) (fault : Fault)
    → AllowOneChoice allows others
    → IsIndexed allows settings tree recorded bytes → IsRefused others settings tree workers fault
    → is_of_tree fault ≡ false
