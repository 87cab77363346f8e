-- The test of UTF-8, as the reader of texts uses it.
use Rattle.std.proofs.Common.{◌≡◌, ℕ, true, false, List}
use Rattle.std.specs.Str.{is_utf8, IsUtf8}
use Rattle.std.proofs.lemmas.Str.{IsUtf8-from_is_utf8, is_utf8-from_IsUtf8}
use Rattle.scip_wire.proofs.ReadingOptionLemmas.{split}

pub text_of_utf8 : (bytes : List ℕ) → IsUtf8 bytes → is_utf8 bytes ≡ true
text_of_utf8 bytes h = is_utf8-from_IsUtf8 bytes h

pub none_of_others : (bytes : List ℕ) → ¬ (IsUtf8 bytes) → is_utf8 bytes ≡ false
none_of_others bytes h = split (is_utf8 bytes) (λ t. absurd (h (IsUtf8-from_is_utf8 bytes t))) (λ f. f)
