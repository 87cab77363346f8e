-- What is told of the first so many files.
use Rattle.std.proofs.Common.{◌≡◌, ◌↔◌, inl, inr, ℕ, ◌+◌, Bool, List, [], ◌∷◌, ◌++◌, length, Some, IsTrue, ap, sym}
use Rattle.std.proofs.Common.{◌∙◌, subst, arith, false, true, not, ◌&&◌}
use Rattle.std.proofs.lemmas.Bool.{cases_lt, false≢true}
use Rattle.std.proofs.lemmas.List.{length_push, get_or_push}
use Rattle.std.proofs.lemmas.Option.{same_Some, slice_get_within, slice_get-get_or}
use Rattle.proto_visibility.specs.Files.{File, IsPresent, IsSourceAt}
use Rattle.proto_visibility.proofs.SeeingLemmas.{slice_get_prefix}
use Rattle.option_link.specs.Tables.{TellsOf}

module _ (Holds : ℕ → Type 0) where
  pub tells_none : (told : List Bool) → told ≡ [] → TellsOf Holds 0 told
  tells_none told none = record {
    each = ap length none;
    right = λ number is at. absurd (omega (arith, ap length none, slice_get_within told number is at));
  }

  pub tells_more : (file : ℕ) (told new : List Bool) (its : Bool) → (IsTrue its ↔ Holds file)
      → new ≡ told ++ its ∷ [] → TellsOf Holds file told → TellsOf Holds (file + 1) new
  tells_more file told new its iff made so_far = subst (TellsOf Holds (file + 1)) (sym made) (record {
    each = omega (arith, length_push told its, so_far.each);
    right = λ number is at. elim (cases_lt number (length told)) [
      | inl before ↦ so_far.right number is (sym (slice_get_prefix told (its ∷ []) number before) ∙ at)
      | inr last ↦ (
          let within = slice_get_within (told ++ its ∷ []) number is at in
          let here : length told ≡ number = omega (arith, last, within, length_push told its) in
          let same : its ≡ is = same_Some its is (sym (slice_get-get_or (told ++ its ∷ []) number its
          (omega (arith, within)) ∙ ap Some (get_or_push told its its number here)) ∙ at) in
          let place : file ≡ number = sym so_far.each ∙ here in
          subst (λ (n : ℕ). IsTrue is ↔ Holds n) place
          (subst (λ (b : Bool). IsTrue b ↔ Holds file) same iff))
    ];
  })

-- a source isn't left out
pub source_present : (files : List File) (number : ℕ) (is : Bool) → is ≡ true → IsSourceAt files number is
    → IsPresent files number
source_present files number is t at = record {
  file = at.0;
  numbered = at.1;
  present = by at.0.is_included at.0.is_left_out (sym at.2 ∙ t);
}
  where
    by : (included left_out : Bool) → (not included && not left_out) ≡ true → left_out ≡ false
    by true left_out e = absurd (false≢true e)
    by false true e = absurd (false≢true e)
    by false false e = refl_false
      where
        refl_false : false ≡ false
        refl_false = cc
