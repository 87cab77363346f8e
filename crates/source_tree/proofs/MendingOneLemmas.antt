-- Of bytes one text is read, which is as long.
use Rattle.std.proofs.Common.{◌≡◌, ◌∙◌, refl, ap, sym, subst, ℕ, suc, ◌+◌, List, [], ◌∷◌, ◌++◌}
use Rattle.std.proofs.Common.{length, take, drop, arith, length-append, take-append-drop}
use Rattle.std.specs.Char.{encode_utf8}
use Rattle.std.proofs.lemmas.List.{length-take}
use Rattle.std.proofs.lemmas.Str.{encode_same, length-encode, len_utf8_bounds}
use Rattle.proto_lex.specs.LexLaws.{OneFirstFault}
use Rattle.proto_lex.specs.Faults.{IsFirstFaultWith}
use Rattle.proto_lex.specs.declared.hashes.Hashes.TheVariants.{InValues}
use Rattle.proto_lex.specs.declared.fault.LexFault.TheVariants.{BadByte}
use Rattle.source_tree.specs.Mending.{Reads, at_end, well_formed, ill_formed, SameAt}
use Rattle.source_tree.specs.Mending.{in_comments, outside, too_long}
use Rattle.source_tree.specs.MendingLaws.{OneReading, ReadsAsMany}

-- ---- from left to right

no_character : (c : ℕ) (bytes : List ℕ) → [] ≡ encode_utf8 c ++ bytes → ⊥
no_character c bytes same =
    omega (arith, ap length same, length-append (encode_utf8 c) bytes, length-encode c, (len_utf8_bounds c).0)

one_read : {bytes a : List ℕ} → Reads bytes a → {others b : List ℕ} → Reads others b → bytes ≡ others → a ≡ b
one_read at_end at_end same = refl
one_read at_end (well_formed d {bytes = others} {text = read} also more) same = absurd (no_character d others same)
one_read at_end (ill_formed none more) same = absurd cc
one_read (well_formed c {bytes} {text} known reads) at_end same = absurd (no_character c bytes (sym same))
one_read (well_formed c {bytes} {text} known reads) (well_formed d {bytes = others} {text = read} also more) same =
    let e = encode_same c d bytes others same in
    ap (λ n. encode_utf8 n ++ text) e.0 ∙ ap (λ l. encode_utf8 d ++ l) (one_read reads more e.1)
one_read (well_formed c {bytes} {text} known reads) (ill_formed none more) same = absurd (none c bytes known (sym same))
one_read (ill_formed none reads) at_end same = absurd cc
one_read (ill_formed none reads) (well_formed d {bytes = others} {text = read} also more) same = absurd (none d others also same)
one_read (ill_formed {byte} {bytes} {text} none reads) (ill_formed {byte = x} {bytes = others} {text = read} some more)
    same =
    let behind : bytes ≡ others = cc in ap (λ l. 0 ∷ l) (one_read reads more behind)

length_read : {bytes text : List ℕ} → Reads bytes text → length text ≡ length bytes
length_read at_end = refl
length_read (well_formed c {bytes} {text} known reads) =
    length-append (encode_utf8 c) text
    ∙ (ap (λ n. length (encode_utf8 c) + n) (length_read reads) ∙ sym (length-append (encode_utf8 c) bytes))
length_read (ill_formed none reads) = ap suc (length_read reads)

-- ---- what is read of all

same_place : (n m : ℕ) → BadByte n ≡ BadByte m → n ≡ m
same_place n m e = cc

pub one_reading : OneFirstFault → OneReading
one_reading one bytes text other (in_comments short reads same) (in_comments also more alike) = one_read reads more refl
one_reading one bytes text other (in_comments short reads same) (outside read at also more first differs) =
    let is = one_read reads more refl in
    absurd (differs (subst (λ (t : List ℕ). SameAt bytes t at) is
    (same at (subst (λ (t : List ℕ). IsFirstFaultWith InValues t (BadByte at)) (sym is) first))))
one_reading one bytes text other (in_comments short reads same) (too_long long) = absurd (omega (arith, short, long))
one_reading one bytes text other (outside read at short reads first differs) (in_comments also more alike) =
    let is = one_read reads more refl in
    absurd (differs (subst (λ (t : List ℕ). SameAt bytes t at) (sym is)
    (alike at (subst (λ (t : List ℕ). IsFirstFaultWith InValues t (BadByte at)) is first))))
one_reading one bytes text other (outside read at short reads first differs)
    (outside another place also more fault unlike) =
    let is = one_read reads more refl in
    let here : at ≡ place = same_place at place
    (one InValues another (BadByte at) (BadByte place) (subst (λ (t : List ℕ). IsFirstFaultWith InValues t (BadByte at)) is first) fault) in
    ap (λ t. take at t ++ drop at bytes) is ∙ ap (λ n. take n another ++ drop n bytes) here
one_reading one bytes text other (outside read at short reads first differs) (too_long long) =
    absurd (omega (arith, short, long))
one_reading one bytes text other (too_long long) (in_comments also more alike) = absurd (omega (arith, also, long))
one_reading one bytes text other (too_long long) (outside another place also more fault unlike) =
    absurd (omega (arith, also, long))
one_reading one bytes text other (too_long long) (too_long other_long) = refl

pub reads_as_many : ReadsAsMany
reads_as_many bytes text (in_comments short reads same) = length_read reads
reads_as_many bytes text (outside read at short reads first differs) =
    omega (
      arith,
      length_read reads,
      length-append (take at read) (drop at bytes),
      length-append (take at bytes) (drop at bytes),
      ap length (take-append-drop at bytes),
      length-take at read,
      length-take at bytes,
    )
reads_as_many bytes text (too_long long) = refl
