-- The order of what isn't read is one, and tells any two apart; and what is shown of a path.
use Rattle.std.proofs.Common.{◌≡◌, ◌∙◌, ◌==◌, ◌&&◌, ℕ, Bool, true, false, List, Option, None, Some, refl, sym, ap, ap₂}
use Rattle.std.proofs.Common.{nat_eq, string_bytes}
use Rattle.std.specs.Bool.{beq}
use Rattle.std.proofs.Common.{◌++◌, [], ◌∷◌, IsUtf8, append-nil, append_assoc, arith, length}
use Rattle.std.specs.Char.{encode_utf8}
use Rattle.std.specs.List.{flat_map}
use Rattle.std.proofs.lemmas.Str.{chars-nil, chars_past_char}
use Rattle.std.specs.Cmp.{IsTotalOrder, bool_cmp_total, both_tied, unsigned_ties}
use Rattle.std.specs.Cmp.Lexicographic.{options_total, pointwise, slice_cmp, texts_ties}
use Rattle.std.specs.Option.{option_cmp, option_eq}
use Rattle.std.specs.String.{string_eq}
use Rattle.std.specs.Ordering.{bool_cmp, eq_by_cmp, is_eq, nat_cmp, ordering_then}
use Rattle.std.specs.declared.cmp.Ordering.{Ordering}
use Rattle.std.specs.declared.cmp.Ordering.TheVariants.{Equal, Greater, Less}
use Rattle.std.proofs.lemmas.Bool.{eqb-true, false≢true}
use Rattle.std.proofs.lemmas.Cmp.{nat_cmp_total, nat_list_cmp_total, on_total, then_total}
use Rattle.std.proofs.lemmas.Map.Lookups.{exact_bytes}
use Rattle.std.proofs.lemmas.Map.Views.{tells_apart}
use Rattle.source_files.specs.declared.listing.FolderIdentity.{FolderIdentity}
use Rattle.source_files.specs.declared.unread_entry.UnreadEntry.{UnreadEntry}
use Rattle.source_files.specs.Unread.{Unread, at_path, identity_cmp, shown_character, shown_path, unread_cmp, unread_of}

-- ---- it is an order

identity_total : IsTotalOrder identity_cmp
identity_total =
    then_total (on_total (λ (folder : FolderIdentity). folder.device) nat_cmp_total)
    (on_total (λ (folder : FolderIdentity). folder.number) nat_cmp_total)

pub unread_total : IsTotalOrder unread_cmp
unread_total =
    then_total (on_total (λ (entry : Unread). entry.shown) nat_list_cmp_total)
    (then_total (on_total (λ (entry : Unread). entry.bytes) nat_list_cmp_total)
    (then_total (on_total (λ (entry : Unread). entry.folder) (options_total identity_total))
    (on_total (λ (entry : Unread). entry.has_bad_path) bool_cmp_total)))

-- ---- what it doesn't tell apart is one

both_equal : (first second : Ordering) → is_eq (ordering_then first second) ≡ true
    → (is_eq first ≡ true) × (is_eq second ≡ true)
both_equal Less second same = absurd (false≢true same)
both_equal Equal second same = (refl, same)
both_equal Greater second same = absurd (false≢true same)

pub equal_texts : (v w : List ℕ) → eq_by_cmp (slice_cmp nat_cmp) v w ≡ true → v ≡ w
equal_texts v w same = tells_apart exact_bytes v w same

equal_numbers : (m n : ℕ) → eq_by_cmp nat_cmp m n ≡ true → m ≡ n
equal_numbers m n same = eqb-true m n (unsigned_ties m n ∙ same)

equal_bools : (a b : Bool) → eq_by_cmp bool_cmp a b ≡ true → a ≡ b
equal_bools false false same = refl
equal_bools false true same = absurd (false≢true same)
equal_bools true false same = absurd (false≢true same)
equal_bools true true same = refl

equal_identities : (one other : FolderIdentity) → eq_by_cmp identity_cmp one other ≡ true → one ≡ other
equal_identities one other same =
    let both = both_equal (nat_cmp one.device other.device) (nat_cmp one.number other.number) same in
    ap₂ (λ (d n : ℕ). record { device = d; number = n }) (equal_numbers one.device other.device both.0)
    (equal_numbers one.number other.number both.1)

equal_folders : (one other : Option FolderIdentity) → eq_by_cmp (option_cmp identity_cmp) one other ≡ true
    → one ≡ other
equal_folders None None same = refl
equal_folders None (Some other) same = absurd (false≢true same)
equal_folders (Some one) None same = absurd (false≢true same)
equal_folders (Some one) (Some other) same = ap Some (equal_identities one other same)

pub equal_unread : (one other : Unread) → eq_by_cmp unread_cmp one other ≡ true → one ≡ other
equal_unread one other same =
    let first = both_equal (slice_cmp nat_cmp one.shown other.shown) _ same in
    let second = both_equal (slice_cmp nat_cmp one.bytes other.bytes) _ first.1 in
    let third = both_equal (option_cmp identity_cmp one.folder other.folder) _ second.1 in
    ap (λ (shown : List ℕ). record one { shown = shown }) (equal_texts one.shown other.shown first.0)
    ∙ (ap (λ (bytes : List ℕ). record one { shown = other.shown; bytes = bytes })
    (equal_texts one.bytes other.bytes second.0)
    ∙ (ap (λ (folder : Option FolderIdentity). record other { folder = folder; has_bad_path = one.has_bad_path })
    (equal_folders one.folder other.folder third.0)
    ∙ ap (λ (bad : Bool). record other { has_bad_path = bad })
    (equal_bools one.has_bad_path other.has_bad_path third.1)))

-- ---- two entries are one by their parts just where it doesn't tell them apart

folder_ties : (one other : FolderIdentity) → (one.device == other.device && one.number == other.number)
    ≡ eq_by_cmp identity_cmp one other
folder_ties one other =
    both_tied _ _ (nat_cmp one.device other.device) (nat_cmp one.number other.number)
    (unsigned_ties one.device other.device) (unsigned_ties one.number other.number)

folders_ties : (one other : Option FolderIdentity)
    → option_eq (λ (a b : FolderIdentity). a.device == b.device && a.number == b.number) one other
    ≡ eq_by_cmp (option_cmp identity_cmp) one other
folders_ties None None = refl
folders_ties None (Some other) = refl
folders_ties (Some one) None = refl
folders_ties (Some one) (Some other) = folder_ties one other

bools_ties : (a b : Bool) → beq a b ≡ eq_by_cmp bool_cmp a b
bools_ties false false = refl
bools_ties false true = refl
bools_ties true false = refl
bools_ties true true = refl

pub unread_ties : (one other : UnreadEntry)
    → (string_eq one.shown other.shown && (pointwise nat_eq one.bytes.items other.bytes.items
    && (option_eq (λ (a b : FolderIdentity). a.device == b.device && a.number == b.number) one.folder other.folder
    && beq one.has_bad_path other.has_bad_path)))
    ≡ eq_by_cmp unread_cmp (unread_of one) (unread_of other)
unread_ties one other =
    both_tied _ _ (slice_cmp nat_cmp (string_bytes one.shown) (string_bytes other.shown)) _
    (texts_ties (string_bytes one.shown) (string_bytes other.shown))
    (both_tied _ _ (slice_cmp nat_cmp one.bytes.items other.bytes.items) _
    (texts_ties one.bytes.items other.bytes.items)
    (both_tied _ _ (option_cmp identity_cmp one.folder other.folder) _ (folders_ties one.folder other.folder)
    (bools_ties one.has_bad_path other.has_bad_path)))

-- ---- what is shown of a path, character by character

pub shown_step : (path shown longer text rest : List ℕ) (character : ℕ) → IsUtf8 text
    → text ≡ encode_utf8 character ++ rest → longer ≡ shown ++ shown_character character
    → shown ++ shown_path text ≡ shown_path path → longer ++ shown_path rest ≡ shown_path path
shown_step path shown longer text rest character utf8 parts pushed so_far =
    ap (λ (l : List ℕ). l ++ shown_path rest) pushed
    ∙ (append_assoc shown (shown_character character) (shown_path rest)
    ∙ (ap (λ (cs : List ℕ). shown ++ flat_map shown_character cs) (sym (chars_past_char text rest character utf8 parts))
    ∙ so_far))

-- nothing is shown of the root
pub root_is : record { shown = []; bytes = []; folder = None; has_bad_path = false } ≡ at_path []
root_is = ap (λ (shown : List ℕ). record { shown = shown; bytes = []; folder = None; has_bad_path = false })
    (ap (λ (cs : List ℕ). flat_map shown_character cs) (sym chars-nil))

pub shown_empty : (path shown text : List ℕ) → length text ≡ 0 → shown ++ shown_path text ≡ shown_path path
    → shown ≡ shown_path path
shown_empty path shown [] none so_far =
    sym (append-nil shown)
    ∙ (ap (λ (cs : List ℕ). shown ++ flat_map shown_character cs) (sym chars-nil) ∙ so_far)
shown_empty path shown (byte ∷ text) none so_far = absurd (omega (arith, none))
