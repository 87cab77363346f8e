-- What messages say: as the code reads it, and that nothing is said where nothing begins so.
use Rattle.std.proofs.Common.{◌≡◌, ℕ, zero, suc, ◌+◌, ◌<◌, ◌≤◌, ◌==◌, true, false, ◌||◌, List, [], ◌∷◌}
use Rattle.std.proofs.Common.{◌++◌, map, drop, length, nat_lt, refl, sym, ◌∙◌, ap, arith}
use Rattle.std.specs.List.{flat_map}
use Rattle.std.specs.List.Sorted.{IsPartitionPoint}
use Rattle.std.proofs.lemmas.Bool.Decides.{nat_tests}
use Rattle.std.proofs.lemmas.List.{append_assoc}
use Rattle.proto_lex.specs.declared.token.Token.{Token}
use Rattle.proto_lex.proofs.ReadingTestLemmas.{chosen}
use Rattle.proto_grammar.specs.Lexeme.{Lexeme, lexemes_of}
use Rattle.proto_grammar.specs.Terminal.{others}
use Rattle.proto_grammar.proofs.RepetitionStepLemmas.{both_false}
use Rattle.proto_parse.specs.tree.Enum.{Enum}
use Rattle.proto_parse.specs.tree.Service.{Service}
use Rattle.proto_parse.specs.tree.Leaf.{Leaf as LeafTree}
use Rattle.proto_parse.specs.tree.Leaf.TheVariants as leaf
use Rattle.proto_parse.specs.tree.FileItem.{FileItem}
use Rattle.proto_parse.specs.tree.FileItem.TheVariants as item
use Rattle.proto_parse.specs.tree.Head.TheVariants as head
use Rattle.proto_parse.specs.tree.Heading.{Heading}
use Rattle.proto_parse.specs.tree.Item.{Item}
use Rattle.proto_parse.specs.tree.Item.TheVariants.{Block, Leaf}
use Rattle.proto_parse.specs.Items.{body_of}
use Rattle.proto_parse.specs.Tree.{Body, BlockTree}
use Rattle.proto_parse.specs.Tree.Body.{NoMore, LeafThen, BlockThen}
use Rattle.proto_parse.specs.Parts.{Part, anywhere, of_enum, of_leaf, of_body, of_block, of_service, of_item}
use Rattle.proto_parse.specs.Parts.{of_items}
use Rattle.proto_parse.specs.Parts.Part.{BlockPart, EnumPart, ValuePart, ServicePart, MethodPart}
use Rattle.proto_options.specs.declared.messages.MessageFact.{MessageFact}
use Rattle.proto_options.specs.Grammar.Passed.{braces_behind}
use Rattle.proto_options.specs.Messages.{reserves_names, makes_message_set}
use Rattle.proto_options.specs.Messages.{clauses_at, clauses_direct, is_over, clauses_in, tokens_from}
use Rattle.proto_options.specs.Messages.{behind_start, fact_of, said_in, said_by, says_any}

-- ---- names in literals

-- ---- clauses in braces

-- some tokens are left where braces aren't over
pub some_left : (open_braces : ℕ) (a : List Lexeme) → is_over open_braces a ≡ false
    → length (others a) + 1 ≡ length a
some_left open_braces [] further = cc
some_left open_braces (t ∷ rest) further = omega arith

-- ---- the tokens behind a brace

pub parted_from : (start place : ℕ) (text : List ℕ) (tokens : List Token) → place ≤ length tokens
    → IsPartitionPoint (λ (t : Token). t.span.start < start) (λ (t : Token). start ≤ t.span.start) tokens place
    → drop place (lexemes_of text tokens) ≡ tokens_from start (lexemes_of text tokens)
parted_from start zero text [] h p = refl
parted_from start (suc place) text [] h p = refl
parted_from start zero text (t ∷ rest) h p =
    let from : start ≤ t.span.start = p.1 0 t (omega arith) (omega arith) in
    let no_less : nat_lt t.span.start start ≡ false = grind (arith, nat_tests) in
    rw no_less refl
parted_from start (suc place) text (t ∷ rest) h p =
    let before : t.span.start < start = p.0 0 t (omega arith) (omega arith) in
    let less : nat_lt t.span.start start ≡ true = grind (arith, nat_tests) in
    rw less
    (parted_from start place text rest (omega (arith, h)) (
      λ k d low high. p.0 (suc k) d (omega arith) (omega (arith, high)),
      λ k d low high. p.1 (suc k) d (omega (arith, low)) (omega (arith, high)),
    ))

-- ---- where nothing is said

record SaysNothing (t : Lexeme) (rest : List Lexeme) : Type 0 where
  reserves : reserves_names (t ∷ rest) ≡ false
  sets : makes_message_set (t ∷ rest) ≡ false
  behind : says_any rest ≡ false

nothing_here : (t : Lexeme) (rest : List Lexeme) → says_any (t ∷ rest) ≡ false → SaysNothing t rest
nothing_here t rest none =
    let here = both_false (reserves_names (t ∷ rest)) (makes_message_set (t ∷ rest) || says_any rest) none in
    let more = both_false (makes_message_set (t ∷ rest)) (says_any rest) here.1 in
    record { reserves = here.0; sets = more.0; behind = more.1 }

none_direct : (open_braces : ℕ) (a : List Lexeme) → clauses_at a ≡ [] → clauses_direct open_braces a ≡ []
none_direct open_braces a none =
    chosen (open_braces == 0) {z = clauses_direct open_braces a} refl (λ _ e. sym e ∙ none) (λ _ e. sym e)

none_in : (open_braces : ℕ) (a : List Lexeme) → says_any a ≡ false → clauses_in open_braces a ≡ []
none_in open_braces [] none = refl
none_in open_braces (t ∷ rest) none =
    let here = nothing_here t rest none in
    let at : clauses_at (t ∷ rest) ≡ [] = rw (here.reserves, here.sets) refl in
    chosen (is_over open_braces (t ∷ rest)) {z = clauses_in open_braces (t ∷ rest)} refl (λ _ e. sym e)
    (λ _ e. sym e
    ∙ rw (none_direct open_braces (t ∷ rest) at) (none_in (braces_behind (t ∷ rest) open_braces) rest here.behind))

none_from : (start : ℕ) (a : List Lexeme) → says_any a ≡ false → says_any (tokens_from start a) ≡ false
none_from start [] none = refl
none_from start (t ∷ rest) none =
    chosen (nat_lt t.span.start start) {z = tokens_from start (t ∷ rest)} refl
    (λ _ e. ap says_any (sym e) ∙ none_from start rest (nothing_here t rest none).behind)
    (λ _ e. ap says_any (sym e) ∙ none)

none_behind : (a : List Lexeme) → says_any a ≡ false → says_any (others a) ≡ false
none_behind [] none = refl
none_behind (t ∷ rest) none = (nothing_here t rest none).behind

none_said : (tokens : List Lexeme) (heading : Heading) → says_any tokens ≡ false → said_in tokens heading ≡ []
none_said tokens heading none =
    ap (map (fact_of heading.name)) (none_in 0 (behind_start heading.closing.start tokens)
    (none_behind (tokens_from heading.closing.start tokens) (none_from heading.closing.start tokens none)))

none_by : (tokens : List Lexeme) → says_any tokens ≡ false → (around : Unit {0}) (part : Part)
    → said_by tokens around part ≡ []
none_by tokens none around (BlockPart (head.Message heading)) = none_said tokens heading none
none_by tokens none around (BlockPart (head.Group group)) = none_said tokens group.heading none
none_by tokens none around part = refl

-- ---- what says something are messages and groups

none_each : {A B : Type 0} (f : A → List B) → ((x : A) → f x ≡ []) → (xs : List A) → flat_map f xs ≡ []
none_each f none [] = refl
none_each f none (x ∷ xs) = rw (none x) (none_each f none xs)

module _ (tokens : List Lexeme) where
  pub none_in_enum : (enum : Enum) → of_enum anywhere (said_by tokens) tt enum ≡ []
  none_in_enum enum =
      none_each (λ value. said_by tokens (anywhere tt (EnumPart enum.heading)) (ValuePart value)) (λ value. refl)
      enum.values

  pub none_in_service : (service : Service) → of_service anywhere (said_by tokens) tt service ≡ []
  none_in_service service =
      none_each (λ method. said_by tokens (anywhere tt (ServicePart service.heading)) (MethodPart method))
      (λ method. refl) service.methods

  pub none_in_leaf : (a_leaf : LeafTree) → of_leaf anywhere (said_by tokens) tt a_leaf ≡ []
  none_in_leaf (leaf.Enum enum) = none_in_enum enum
  none_in_leaf (leaf.Field field) = refl
  none_in_leaf (leaf.MapField field) = refl

  -- an item more
  pub leaf_more : (front all : List MessageFact) (items rest : List Item) (a_leaf : LeafTree)
      → items ≡ Leaf a_leaf ∷ rest
      → front ++ of_body anywhere (said_by tokens) tt (body_of items) ≡ all
      → front ++ of_body anywhere (said_by tokens) tt (body_of rest) ≡ all
  leaf_more front all items rest a_leaf left so_far =
      let here : of_body anywhere (said_by tokens) tt (body_of items)
      ≡ of_body anywhere (said_by tokens) tt (body_of rest) = rw (left, none_in_leaf a_leaf) refl in
      ap (λ (found : List MessageFact). front ++ found) (sym here) ∙ so_far

  pub block_more : (front now all : List MessageFact) (items rest : List Item) (block : BlockTree)
      → items ≡ Block block ∷ rest → now ≡ front ++ of_block anywhere (said_by tokens) tt block
      → front ++ of_body anywhere (said_by tokens) tt (body_of items) ≡ all
      → now ++ of_body anywhere (said_by tokens) tt (body_of rest) ≡ all
  block_more front now all items rest block left added so_far =
      let behind : List MessageFact = of_body anywhere (said_by tokens) tt (body_of rest) in
      let its : List MessageFact = of_block anywhere (said_by tokens) tt block in
      let here : of_body anywhere (said_by tokens) tt (body_of items) ≡ its ++ behind =
      rw left (sym (append_assoc (said_by tokens tt (BlockPart block.head))
      (of_body anywhere (said_by tokens) tt block.body) behind)) in
      ap (λ (found : List MessageFact). found ++ behind) added
      ∙ (append_assoc front its behind ∙ (ap (λ (found : List MessageFact). front ++ found) (sym here) ∙ so_far))

  none_in_body : says_any tokens ≡ false → (body : Body) → of_body anywhere (said_by tokens) tt body ≡ []
  none_in_body none NoMore = refl
  none_in_body none (LeafThen a_leaf others) = rw (none_in_leaf a_leaf) (none_in_body none others)
  none_in_body none (BlockThen a_head inner others) =
      rw (none_by tokens none tt (BlockPart a_head), none_in_body none inner) (none_in_body none others)

  none_in_item : says_any tokens ≡ false → (an_item : FileItem) → of_item anywhere (said_by tokens) tt an_item ≡ []
  none_in_item none (item.Block block) =
      rw (none_by tokens none tt (BlockPart block.head)) (none_in_body none block.body)
  none_in_item none (item.Enum enum) = none_in_enum enum
  none_in_item none (item.Service service) = none_in_service service

  pub none_in_items : says_any tokens ≡ false → (items : List FileItem)
      → of_items anywhere (said_by tokens) tt items ≡ []
  none_in_items none items = none_each (of_item anywhere (said_by tokens) tt) (none_in_item none) items
