-- The words of a name, one by one.
use Rattle.std.proofs.Common.{◌≡◌, ◌↔◌, ℕ, ◌+◌, ◌<◌, ◌≤◌, Bool, List, [], ◌∷◌, ◌++◌, length, map, take, get_or, Option, None, Some}
use Rattle.std.proofs.Common.{IsTrue, MatchOption, refl, ap, sym, ◌∙◌, subst, arith}
use Rattle.std.specs.Str.{bytes_eq}
use Rattle.std.specs.List.{All, slice_get}
use Rattle.std.proofs.lemmas.List.{length-map, map-append, take_all}
use Rattle.std.proofs.lemmas.List.Elements.{All-contains}
use Rattle.std.proofs.lemmas.Option.{slice_get-get_or}
use Rattle.std.proofs.lemmas.Slice.Eq.{bytes_eq-Decides}
use denote.Ref.{Bor}
use Rattle.basics.proofs.FirstLemmas.{contained, take_next}
use Rattle.proto_lex.specs.declared.span.Span.{Span}
use Rattle.proto_lex.specs.Lexed.{IsPart, part_of}
use Rattle.proto_options.specs.declared.names.OptionName.{OptionName}
use Rattle.option_link.specs.Contexts.{HasWords}
use Rattle.option_link.proofs.LoopLemmas.{UpTo, none_yet, one_more}
use Rattle.option_link.proofs.NameLemmas.{one_word}

abbrev pub now : Bor (List ℕ) → List ℕ
now word = word.now

-- what is read behind the end of a list of spans
abbrev pub no_span : Span
no_span = record { start = 0; end = 0 }

pub words_more : (text : List ℕ) (spans : List Span) (i : ℕ) (span : Span) (words new : List (Bor (List ℕ)))
    (word : Bor (List ℕ)) → slice_get spans i ≡ Some span → word.now ≡ part_of text span
    → map now words ≡ map (part_of text) (take i spans) → new ≡ words ++ word ∷ []
    → map now new ≡ map (part_of text) (take (i + 1) spans)
words_more text spans i span words new word at is so_far made =
    ap (map now) made ∙ (map-append now words (word ∷ [])
    ∙ (ap (λ (ws : List (List ℕ)). ws ++ word.now ∷ []) so_far
    ∙ (ap (λ (w : List ℕ). map (part_of text) (take i spans) ++ w ∷ []) is
    ∙ (sym (map-append (part_of text) (take i spans) (span ∷ []))
    ∙ ap (map (part_of text)) (sym (take_next spans i span at))))))

pub not_words : (text : List ℕ) (name : OptionName) (spans : List Span) (i : ℕ) (span : Span)
    → spans ≡ name.name.components → slice_get spans i ≡ Some span → (IsPart text span → ⊥)
    → (words : List (List ℕ)) → HasWords text name words → ⊥
not_words text name spans i span are at not words has =
    not (All-contains (IsPart text) name.name.components span has.parts
    (contained name.name.components i span (subst (λ (s : List Span). slice_get s i ≡ Some span) are at)))

pub words_all : (text : List ℕ) (name : OptionName) (spans : List Span) (i : ℕ) (words : List (Bor (List ℕ)))
    → spans ≡ name.name.components → length spans ≤ i → UpTo (IsPart text) spans i
    → map now words ≡ map (part_of text) (take i spans) → HasWords text name (map now words)
words_all text name spans i words are all parts so_far =
    subst (λ (s : List Span). All (IsPart text) s → map now words ≡ map (part_of text) s
    → HasWords text name (map now words)) (sym are) (λ its is. record { parts = its; are = sym is })
    (λ k d within. parts k (get_or spans k d) (omega (arith, within, all)) (slice_get-get_or spans k d within))
    (so_far ∙ ap (map (part_of text)) (take_all i spans all))

-- ---- one word

pub one_of : (words : List (Bor (List ℕ))) (d : Bor (List ℕ)) → length words ≡ 1
    → map now words ≡ (get_or words 0 d).now ∷ []
one_of [] d size = absurd (omega (arith, size))
one_of (w ∷ []) d size = refl
one_of (w ∷ (v ∷ ws)) d size = absurd (omega (arith, size))

pub none_one : (words : List (Bor (List ℕ))) (word : List ℕ) → length words < 1 → map now words ≡ word ∷ [] → ⊥
none_one [] word few e = omega (arith, ap length e)
none_one (w ∷ ws) word few e = omega (arith, few)

pub many_one : (words : List (Bor (List ℕ))) (word : List ℕ) → 2 ≤ length words → map now words ≡ word ∷ [] → ⊥
many_one [] word many e = omega (arith, many)
many_one (w ∷ []) word many e = omega (arith, many)
many_one (w ∷ (v ∷ ws)) word many e = omega (arith, ap length e)

-- whether the word of a name is this one
pub word_is : (text : List ℕ) (name : OptionName) (only word : List ℕ) (result : Bool) → result ≡ bytes_eq only word
    → HasWords text name (only ∷ []) → IsTrue result ↔ HasWords text name (word ∷ [])
word_is text name only word result is has = (
  λ t. subst (λ (w : List ℕ). HasWords text name (w ∷ [])) ((bytes_eq-Decides only word).0 (sym is ∙ t)) has,
  λ other. is ∙ (bytes_eq-Decides only word).1 (one_word text name only word has other),
)

module _ (text : List ℕ) (name : OptionName) (spans : List Span) (are : spans ≡ name.name.components) where
  pub not_one_word : (length spans ≡ 1 → ⊥) → (word : List ℕ) → HasWords text name (word ∷ []) → ⊥
  not_one_word other word has =
      other (ap length are ∙ (sym (length-map name.name.components (part_of text)) ∙ ap length has.are))

  pub only_word_by : (d : Span) (found : Option (Bor (List ℕ))) → length spans ≡ 1
      → MatchOption found (IsPart text (get_or spans 0 d) → ⊥)
      (λ word. IsPart text (get_or spans 0 d) × (word.now ≡ part_of text (get_or spans 0 d)))
      → MatchOption found ((word : List ℕ) → HasWords text name (word ∷ []) → ⊥)
      (λ word. HasWords text name (word.now ∷ []))
  only_word_by d None size not = λ word.
      not_words text name spans 0 (get_or spans 0 d) are (slice_get-get_or spans 0 d (omega (arith, size))) not
      (word ∷ [])
  only_word_by d (Some word) size part =
      let at = slice_get-get_or spans 0 d (omega (arith, size)) in
      words_all text name spans 1 (word ∷ []) are (omega (arith, size))
      (one_more (IsPart text) spans 0 (get_or spans 0 d) at part.0 (none_yet (IsPart text) spans))
      (words_more text spans 0 (get_or spans 0 d) [] (word ∷ []) word at part.1 refl refl)
