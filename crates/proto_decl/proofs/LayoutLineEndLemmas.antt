-- Lines that end between two offsets.
use Rattle.std.proofs.Common.{◌≡◌, ◌∙◌, sym, ap, ℕ, ◌+◌, ◌-◌, ◌<◌, ◌≤◌, Bool, false, cond, ltb, List, take, drop}
use Rattle.std.proofs.Common.{slice_range, arith}
use Rattle.std.specs.Prelude.{◌↔◌, IsTrue}
use Rattle.std.specs.List.{count_by}
use Rattle.std.proofs.lemmas.Bool.{false≢true}
use Rattle.std.proofs.lemmas.List.{take-take, drop-take}
use Rattle.std.proofs.lemmas.List.Sums.{sum_by-take-drop}
use Rattle.proto_lex.proofs.PositionLineStartLemmas.{more_lines as lines_rise}
use Rattle.proto_lex.specs.Position.{is_line_end, line_of}
use Rattle.proto_decl.proofs.LayoutLineLemmas.{less-test}

-- the lines of two offsets differ by the line ends between them
pub lines_between : (text : List ℕ) (from upto : ℕ) → from ≤ upto
    → line_of text from + count_by is_line_end (slice_range text from upto) ≡ line_of text upto
lines_between text from upto h =
    let whole : from + (upto - from) ≡ upto = omega (arith, h) in
    let front : take from (take upto text) ≡ take from text = take-take from upto text h in
    let rest : drop from (take upto text) ≡ take (upto - from) (drop from text) =
    ap (λ (n : ℕ). drop from (take n text)) (sym whole) ∙ drop-take from (upto - from) text in
    rw (front, rest) at (sum_by-take-drop (λ c. cond {A = ℕ} (is_line_end c) 1 0) (take upto text) from)

-- what the test of the lines says, in the text that the call gave
pub later_by_lines : (text text' : List ℕ) (from upto a b : ℕ) → text' ≡ text → a ≡ line_of text' from
    → b ≡ line_of text' upto → IsTrue (ltb a b) ↔ (line_of text from < line_of text upto)
later_by_lines text text' from upto a b same ea eb =
    let ea' : a ≡ line_of text from = ea ∙ ap (λ (t : List ℕ). line_of t from) same in
    let eb' : b ≡ line_of text upto = eb ∙ ap (λ (t : List ℕ). line_of t upto) same in
    ((λ e. omega (arith, ea', eb', (less-test a b).0 e)), (λ less. (less-test a b).1 (omega (arith, ea', eb', less))))

-- offsets in order are on one line where the further one isn't on a later line
pub one_line : (text : List ℕ) (from upto : ℕ) (later : Bool) → from ≤ upto
    → IsTrue later ↔ (line_of text from < line_of text upto) → later ≡ false → line_of text upto ≡ line_of text from
one_line text from upto later le says not =
    let rises = lines_rise text from upto le in
    let less : line_of text from < line_of text upto → ⊥ = λ h. false≢true (sym not ∙ says.1 h) in
    omega (arith, rises, less)
