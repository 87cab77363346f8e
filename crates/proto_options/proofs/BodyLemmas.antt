-- What is between braces is read by what they are of.
use Rattle.std.proofs.Common.{◌≡◌, ◌≢◌, ℕ, zero, suc, Bool, true, false, cond, Result, Ok, Err, List, length, refl, ap}
use Rattle.std.proofs.Common.{codes}
use Rattle.proto_lex.specs.declared.token.TokenKind.TheVariants.{CloseBrace}
use Rattle.proto_grammar.specs.declared.fault.SyntaxFault.{SyntaxFault}
use Rattle.proto_grammar.specs.Lexeme.{Lexeme, Place}
use Rattle.proto_grammar.specs.Terminal.{first_is, of_kind, is_word, closes}
use Rattle.proto_grammar.specs.Reading.Repetition.{◌>>=◌, Read, token_that, until_by, until_at}
use Rattle.proto_decl.specs.Names.{qualified}
use Rattle.proto_options.specs.declared.options.FileOption.{FileOption}
use Rattle.proto_options.specs.declared.statements.Within.{Within}
use Rattle.proto_options.specs.declared.statements.Within.TheVariants as within
use Rattle.proto_options.specs.declared.statements.Statement.TheVariants.{Passed, Member}
use Rattle.proto_options.specs.Reading.Options.{Keeping}
use Rattle.proto_options.specs.Reading.Walk.{Inside, braced_at, item_by, member_at, passed_at}
use Rattle.proto_options.specs.Reading.Walk.{enum_statement_at, method_at, body_at, statement_by, statement_at}
use Rattle.proto_options.specs.Reading.Walk.{items_at, block_at}

-- steps that read the same do so as often as they are done
module _ {S : Type 0} (ends : List Lexeme → Bool) (first second : S → Read S)
    (same : (s : S) (place : Place) → first s place ≡ second s place) where
  behind_same : (n : ℕ)
      → ((s : S) (place : Place) → until_by ends first n s place ≡ until_by ends second n s place)
      → (o : Result (S × Place) SyntaxFault)
      → (o >>= λ x. until_by ends first n x.0 x.1) ≡ (o >>= λ x. until_by ends second n x.0 x.1)
  behind_same n e (Ok x) = e x.0 x.1
  behind_same n e (Err fault) = refl

  by_same : (n : ℕ) (s : S) (place : Place) → until_by ends first n s place ≡ until_by ends second n s place
  by_same zero s place = rw (same s place) refl
  by_same (suc n) s place =
      rw (same s place)
      (ap (λ o. cond (ends place.left) (Ok (s, place)) o) (behind_same n (by_same n) (second s place)))

  until_same : (s : S) (place : Place) → until_at ends first s place ≡ until_at ends second s place
  unfolding until_at
  until_same s place = by_same (length place.left) s place

module _ (kind : Within) (around : List ℕ) (first second : Keeping)
    (same : (options : List FileOption) (tokens : Place) → first options tokens ≡ second options tokens) where
  item_same : (options : List FileOption) (tokens : Place)
      → item_by kind around first options tokens ≡ item_by kind around second options tokens
  item_same options tokens = rw (same options tokens) refl

  braced_same : (options : List FileOption) (tokens : Place)
      → braced_at (item_by kind around first) options tokens ≡ braced_at (item_by kind around second) options tokens
  braced_same options tokens =
      ap
      (λ (o : Result (List FileOption × Place) SyntaxFault). o >>= λ items.
      token_that (of_kind CloseBrace) items.1 >>= λ close_brace. Ok (items.0, close_brace.1))
      (until_same closes (item_by kind around first) (item_by kind around second) item_same options tokens)

enum_by : (inside : Inside) (scope : List ℕ) (options : List FileOption) (tokens : Place) (test : Bool)
    → statement_by (cond test Passed Member) within.Enum inside scope scope options tokens
    ≡ cond test (passed_at options tokens) (member_at within.Enum inside scope options tokens)
enum_by inside scope options tokens true = refl
enum_by inside scope options tokens false = refl

enum_same : (inside : Inside) (scope : List ℕ) (options : List FileOption) (tokens : Place)
    → statement_at within.Enum inside scope scope options tokens ≡ enum_statement_at inside scope options tokens
unfolding statement_at
enum_same inside scope options tokens =
    enum_by inside scope options tokens (first_is (is_word (codes "reserved")) tokens.left)

oneof_same : (inside : Inside) (scope : List ℕ) (options : List FileOption) (tokens : Place)
    → statement_at within.Oneof inside scope scope options tokens ≡ member_at within.Oneof inside scope options tokens
unfolding statement_at
oneof_same inside scope options tokens = refl

extend_same : (inside : Inside) (scope : List ℕ) (options : List FileOption) (tokens : Place)
    → statement_at within.Extend inside scope scope options tokens ≡ member_at within.Extend inside scope options tokens
unfolding statement_at
extend_same inside scope options tokens = refl

method_same : (inside : Inside) (scope : List ℕ) (options : List FileOption) (tokens : Place)
    → statement_at within.Method inside scope scope options tokens ≡ passed_at options tokens
unfolding statement_at
method_same inside scope options tokens = refl

service_same : (inside : Inside) (around inner : List ℕ) (options : List FileOption) (tokens : Place)
    → statement_at within.Service inside around inner options tokens ≡ method_at inner options tokens
unfolding statement_at
service_same inside around inner options tokens = refl

-- ---- what is between the braces of each

enum_body : (inside : Inside) (around name : List ℕ) (options : List FileOption) (tokens : Place)
    → block_at within.Enum inside around around options tokens
    ≡ body_at within.Enum inside around name options tokens
unfolding block_at items_at
enum_body inside around name options tokens =
    braced_same within.Enum around (statement_at within.Enum inside around around) (enum_statement_at inside around)
    (enum_same inside around) options tokens

oneof_body : (inside : Inside) (around name : List ℕ) (options : List FileOption) (tokens : Place)
    → block_at within.Oneof inside around around options tokens
    ≡ body_at within.Oneof inside around name options tokens
unfolding block_at items_at
oneof_body inside around name options tokens =
    braced_same within.Oneof around (statement_at within.Oneof inside around around)
    (member_at within.Oneof inside around) (oneof_same inside around) options tokens

extend_body : (inside : Inside) (around name : List ℕ) (options : List FileOption) (tokens : Place)
    → block_at within.Extend inside around around options tokens
    ≡ body_at within.Extend inside around name options tokens
unfolding block_at items_at
extend_body inside around name options tokens =
    braced_same within.Extend around (statement_at within.Extend inside around around)
    (member_at within.Extend inside around) (extend_same inside around) options tokens

method_body : (inside : Inside) (around name : List ℕ) (options : List FileOption) (tokens : Place)
    → block_at within.Method inside around around options tokens
    ≡ body_at within.Method inside around name options tokens
unfolding block_at items_at
method_body inside around name options tokens =
    braced_same within.Method around (statement_at within.Method inside around around) passed_at
    (method_same inside around) options tokens

pub service_body : (inside : Inside) (around name : List ℕ) (options : List FileOption) (tokens : Place)
    → block_at within.Service inside around (qualified around name) options tokens
    ≡ body_at within.Service inside around name options tokens
unfolding block_at items_at
service_body inside around name options tokens =
    braced_same within.Service around (statement_at within.Service inside around (qualified around name))
    (method_at (qualified around name)) (service_same inside around (qualified around name)) options tokens

-- of all but messages, services and files
pub flat_body : (kind : Within) (inside : Inside) (around name : List ℕ) (options : List FileOption) (tokens : Place)
    → kind ≢ within.Message → kind ≢ within.Service → kind ≢ within.File
    → block_at kind inside around around options tokens ≡ body_at kind inside around name options tokens
flat_body within.File inside around name options tokens p q r = absurd (r refl)
flat_body within.Message inside around name options tokens p q r = absurd (p refl)
flat_body within.Oneof inside around name options tokens p q r = oneof_body inside around name options tokens
flat_body within.Extend inside around name options tokens p q r = extend_body inside around name options tokens
flat_body within.Enum inside around name options tokens p q r = enum_body inside around name options tokens
flat_body within.Service inside around name options tokens p q r = absurd (q refl)
flat_body within.Method inside around name options tokens p q r = method_body inside around name options tokens
