-- The lines of a block comment behind its first.
use Rattle.std.proofs.Common.{◌≡◌, ◌∙◌, ap, ℕ, List, map}
use Rattle.std.specs.Borrow.{Bor}
use Rattle.basics.proofs.LoopLemmas.{fused}
use Rattle.comment_texts.specs.Lines.{without_last_blanks}
use Rattle.comment_texts.specs.Comments.{behind_star, dedented, star_indentation, plain_indentation, other_lines}

-- so much is cut from each as all of them have
pub as_other_lines : (lines : List (Bor (List ℕ))) (stars plains : ℕ)
    → stars ≡ star_indentation (map (λ (line : Bor (List ℕ)). line.now) lines)
    → plains ≡ plain_indentation (map (λ (line : Bor (List ℕ)). line.now) lines)
    → map (λ (line : Bor (List ℕ)). without_last_blanks (dedented stars plains (behind_star line.now) line.now)) lines
    ≡ map without_last_blanks (other_lines (map (λ (line : Bor (List ℕ)). line.now) lines))
as_other_lines lines stars plains star plain =
    let texts : List (List ℕ) = map (λ (line : Bor (List ℕ)). line.now) lines in
    fused without_last_blanks (λ (line : Bor (List ℕ)). dedented stars plains (behind_star line.now) line.now) lines
    ∙ (ap (map without_last_blanks)
    (fused (λ (text : List ℕ). dedented stars plains (behind_star text) text) (λ (line : Bor (List ℕ)). line.now) lines)
    ∙ (ap (λ (n : ℕ). map without_last_blanks (map (λ (text : List ℕ). dedented n plains (behind_star text) text) texts))
    star
    ∙ ap (λ (n : ℕ). map without_last_blanks
    (map (λ (text : List ℕ). dedented (star_indentation texts) n (behind_star text) text) texts)) plain))
