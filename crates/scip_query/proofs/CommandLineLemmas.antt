-- Lines of bytes (`lines_of`), and what is kept of one (`kept_line`).
use Rattle.std.proofs.Common.{◌≡◌, ℕ, ◌+◌, ◌<◌, ◌≤◌, ◌==◌, Bool, true, false, List, [], ◌∷◌, ◌++◌, length, take, cond}
use Rattle.std.proofs.Common.{refl, sym, ◌∙◌, ap, arith}
use Rattle.std.specs.Prelude.{None, nat_le}
use Rattle.std.specs.List.{count_by, onto_first}
use Rattle.std.proofs.lemmas.List.{take_all, take-append-le, length-take, length-append}
use Rattle.std.proofs.lemmas.List.Sums.{sum_by-cons}
use Rattle.std.proofs.lemmas.Bool.Decides.{nat_tests}
use Rattle.scip_query.specs.Commands.{command_lines, max_command_length}
use Rattle.scip_query.specs.CommandReading.{command_of}
use Rattle.scip_query.specs.MoreCommandReading.{more_command_of}
use Rattle.scip_query.specs.AnswerText.{answer_or_refusal}
use Rattle.scip_query.specs.MoreAnswers.{Asked, more_or_refusal, json_or_refusal, spoken, reply_in, reply_to}
use Rattle.scip_query.specs.declared.manner.Manner.{Manner}
use Rattle.scip_query.specs.declared.manner.Manner.TheVariants.{Plain, More, Spoken, Json}
use Rattle.scip_query.specs.Conversing.{is_line_end}
use Rattle.scip_query.specs.Tables.ConversingSteps.{kept_line, kept_with}

-- the first byte of a line that no `\n` ends is none, and none is behind it
inside : (b : ℕ) (line : List ℕ) → count_by is_line_end (b ∷ line) ≡ 0
    → ((b == 10) ≡ false) × (count_by is_line_end line ≡ 0)
inside b line e = by (b == 10) refl (sym (sum_by-cons (λ x. cond (is_line_end x) 1 0) b line) ∙ e) where
  by : (t : Bool) → (b == 10) ≡ t → cond (b == 10) 1 0 + count_by is_line_end line ≡ 0
      → ((b == 10) ≡ false) × (count_by is_line_end line ≡ 0)
  by true is sum = let some : 1 + count_by is_line_end line ≡ 0 = rw is at sum in absurd (omega arith)
  by false is sum = let none : 0 + count_by is_line_end line ≡ 0 = rw is at sum in (is, omega arith)

-- a `\n` ends the line that is begun
pub line_ended : (begun behind : List ℕ) → count_by is_line_end begun ≡ 0
    → command_lines (begun ++ 10 ∷ behind) ≡ begun ∷ command_lines behind
line_ended [] behind e = refl
line_ended (b ∷ begun) behind e =
    let in_line = inside b begun e in
    ap (λ t. cond t ([] ∷ command_lines (begun ++ 10 ∷ behind))
    (onto_first b (command_lines (begun ++ 10 ∷ behind)))) in_line.0
    ∙ ap (onto_first b) (line_ended begun behind in_line.1)

-- the end of the bytes ends it too, where it isn't empty
pub last_line : (b : ℕ) (begun : List ℕ) → count_by is_line_end (b ∷ begun) ≡ 0
    → command_lines (b ∷ begun) ≡ (b ∷ begun) ∷ []
last_line b [] e = ap (λ t. cond t ([] ∷ []) ((b ∷ []) ∷ [])) (inside b [] e).0
last_line b (a ∷ begun) e =
    let in_line = inside b (a ∷ begun) e in
    ap (λ t. cond t ([] ∷ command_lines (a ∷ begun)) (onto_first b (command_lines (a ∷ begun)))) in_line.0
    ∙ ap (onto_first b) (last_line a begun in_line.1)

-- some bytes have a line
some_line : (b : ℕ) (bytes : List ℕ)
    → (next : List ℕ) × (others : List (List ℕ)) × (command_lines (b ∷ bytes) ≡ next ∷ others)
some_line b bytes = by (b == 10) refl (command_lines bytes) refl where
  by : (t : Bool) → (b == 10) ≡ t → (lines : List (List ℕ)) → command_lines bytes ≡ lines
      → (next : List ℕ) × (others : List (List ℕ)) × (command_lines (b ∷ bytes) ≡ next ∷ others)
  by true is lines are = (
    [],
    command_lines bytes,
    ap
        (λ t. cond t ([] ∷ command_lines bytes) (onto_first b (command_lines bytes))) is,
  )
  by false is [] are = (
    b ∷ [],
    [],
    ap (λ t. cond t ([] ∷ command_lines bytes) (onto_first b (command_lines bytes))) is ∙ ap (onto_first b) are,
  )
  by false is (line ∷ lines) are = (
    b ∷ line,
    lines,
    ap (λ t. cond t ([] ∷ command_lines bytes) (onto_first b (command_lines bytes))) is
        ∙ ap (onto_first b) are,
  )

pub line_there : (begun : List ℕ) (b : ℕ) (behind : List ℕ)
    → (next : List ℕ) × (others : List (List ℕ)) × (command_lines (begun ++ b ∷ behind) ≡ next ∷ others)
line_there [] b behind = some_line b behind
line_there (a ∷ begun) b behind = some_line a (begun ++ b ∷ behind)

-- ---- what is kept of a line

-- a line of at most m bytes is kept whole, and of a longer one m + 1 bytes: with one byte more
kept_more : (m : ℕ) (line : List ℕ) (b : ℕ)
    → cond (nat_le (length (take (m + 1) line)) m) (take (m + 1) line ++ b ∷ []) (take (m + 1) line)
    ≡ take (m + 1) (line ++ b ∷ [])
kept_more m line b = by (nat_le (length line) m) refl where
  by : (t : Bool) → nat_le (length line) m ≡ t
      → cond (nat_le (length (take (m + 1) line)) m) (take (m + 1) line ++ b ∷ []) (take (m + 1) line)
      ≡ take (m + 1) (line ++ b ∷ [])
  by true is =
      let few : length line ≤ m = grind (arith, nat_tests) in
      let whole : take (m + 1) line ≡ line = take_all (m + 1) line (omega arith) in
      rw (whole, is) (sym (take_all (m + 1) (line ++ b ∷ []) (omega (arith, length-append line (b ∷ [])))))
  by false is =
      let many : m < length line = grind (arith, nat_tests) in
      let count : length (take (m + 1) line) ≡ m + 1 = omega (arith, length-take (m + 1) line) in
      let too_many : nat_le (length (take (m + 1) line)) m ≡ false = grind (arith, nat_tests) in
      ap (λ t. cond t (take (m + 1) line ++ b ∷ []) (take (m + 1) line)) too_many
      ∙ sym (take-append-le (m + 1) line (b ∷ []) (omega arith))

pub kept_with-is : (begun : List ℕ) (b : ℕ) → kept_with (kept_line begun) b ≡ kept_line (begun ++ b ∷ [])
kept_with-is begun b = kept_more max_command_length begun b

-- it is too long for a command where the line is, and the same where it isn't
kept_enough : {A : Type 0} (m : ℕ) (line : List ℕ) (f : List ℕ → A) (none : A)
    → cond (nat_le (length (take (m + 1) line)) m) (f (take (m + 1) line)) none
    ≡ cond (nat_le (length line) m) (f line) none
kept_enough m line f none = by (nat_le (length line) m) refl where
  by : (t : Bool) → nat_le (length line) m ≡ t
      → cond (nat_le (length (take (m + 1) line)) m) (f (take (m + 1) line)) none
      ≡ cond (nat_le (length line) m) (f line) none
  by true is =
      let few : length line ≤ m = grind (arith, nat_tests) in
      ap (λ l. cond (nat_le (length l) m) (f l) none) (take_all (m + 1) line (omega arith))
  by false is =
      let many : m < length line = grind (arith, nat_tests) in
      let count : length (take (m + 1) line) ≡ m + 1 = omega (arith, length-take (m + 1) line) in
      let too_many : nat_le (length (take (m + 1) line)) m ≡ false = grind (arith, nat_tests) in
      ap (λ t. cond t (f (take (m + 1) line)) none) too_many ∙ sym (ap (λ t. cond t (f line) none) is)

pub kept_answer : (asked : Asked) (line : List ℕ) → reply_to asked (kept_line line) ≡ reply_to asked line
kept_answer asked line = by asked.manner where
  by : (manner : Manner) → reply_in manner asked.index (kept_line line) ≡ reply_in manner asked.index line
  by Plain = ap (answer_or_refusal asked.index) (kept_enough max_command_length line command_of None)
  by More = ap (more_or_refusal asked.index) (kept_enough max_command_length line more_command_of None)
  by Spoken =
      ap (λ command. spoken (more_or_refusal asked.index command))
      (kept_enough max_command_length line more_command_of None)
  by Json = ap (json_or_refusal asked.index) (kept_enough max_command_length line more_command_of None)

-- nothing is kept of the empty line alone
kept_some : (m b : ℕ) (line : List ℕ) → take (m + 1) (b ∷ line) ≡ [] → ⊥
kept_some m b line e = let none : length (take (m + 1) (b ∷ line)) ≡ 0 = ap length e in
    omega (arith, length-take (m + 1) (b ∷ line))

pub kept_nothing : (line : List ℕ) → kept_line line ≡ [] → line ≡ []
kept_nothing [] e = refl
kept_nothing (b ∷ line) e = absurd (kept_some max_command_length b line e)

-- ---- `is_empty`

pub no_items : (line : List ℕ) (n : ℕ) → n ≡ length line → (n == 0) ≡ true → line ≡ []
no_items [] n e none = refl
no_items (b ∷ line) n e none = let zero : n ≡ 0 = grind (arith, nat_tests) in absurd (omega arith)

pub some_items : (line : List ℕ) (n : ℕ) → n ≡ length line → (n == 0) ≡ false → line ≡ [] → ⊥
some_items line n e some none = let zero : n ≡ 0 = e ∙ ap length none in grind (arith, nat_tests)
