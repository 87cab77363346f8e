-- What the fields of a message do to one of its parts, against the values of a field number.
use Rattle.std.proofs.Common.{◌≡◌, refl, ap, sym, ◌∙◌, subst, ℕ, ℤ, pos, true, false, List, [], ◌∷◌, ◌++◌, Option, Some}
use Rattle.std.proofs.Common.{None}
use Rattle.std.proofs.lemmas.Option.{same_Some, none-some}
use Rattle.std.proofs.lemmas.Bool.{cond-true, cond-false}
use Rattle.std.specs.Prelude.{nat_eq, is_some}
use Rattle.std.specs.Str.{is_utf8}
use Rattle.std.proofs.lemmas.Str.{IsUtf8-from_is_utf8, is_utf8-from_IsUtf8}
use Rattle.std.proofs.lemmas.List.{append-nil, append_assoc}
use Rattle.scip_wire.specs.Fields.{Payload, Varint, Fixed64, Delimited, Fixed32, Field}
use Rattle.scip_wire.specs.Decodes.{payloads, Joined, none, next, last_or, IsOnly, absent, only, GivesText, text}
use Rattle.scip_wire.specs.Decodes.{GivesNumber, signed, GivesMessage, message, Text, Texts, Number, OneMessage}
use Rattle.scip_wire.specs.Decodes.{GivesDetail, unreadable, Messages, LastDetail}
use Rattle.scip_wire.specs.Reading.{◌>>=◌, changed, column, add_more, add_last, add_only, text_at, number_at}
use Rattle.scip_wire.specs.Reading.{message_in, number_in, text_column, texts_column, number_column, only_column}
use Rattle.scip_wire.specs.Reading.{messages_column, readable, detail_in}
use Rattle.scip_wire.proofs.ReadingOptionLemmas.{bind_some, bind_at, chosen, guard_some, split}

-- ---- any column

joined_next : {A : Type 0} {Gives : Payload → List A → Type 0} {payload : Payload} {others : List Payload} {xs : List A}
    → Joined Gives (payload ∷ others) xs
    → (few : List A) × (more : List A) × (Gives payload few) × (Joined Gives others more) × (xs ≡ few ++ more)
joined_next (next {values = values} {more = more} g j) = (values, more, g, j, refl)

joined_none : {A : Type 0} {Gives : Payload → List A → Type 0} {xs : List A} → Joined Gives [] xs → xs ≡ []
joined_none none = refl

module _ {S A : Type 0} (add : S → List A → Option S) (values : Payload → Option (List A))
    (Gives : Payload → List A → Type 0)
    (nothing : (s : S) → add s [] ≡ Some s)
    (joins : (s : S) (xs ys : List A) → add s (xs ++ ys) ≡ (add s xs >>= λ t. add t ys))
    (found : (payload : Payload) (xs : List A) → values payload ≡ Some xs → Gives payload xs)
    (read : (payload : Payload) (xs : List A) → Gives payload xs → values payload ≡ Some xs)
    (number : ℕ) where
  pub column_found : (fields : List Field) (s t : S) → changed (column add values number) fields s ≡ Some t
      → (xs : List A) × (Joined Gives (payloads number fields) xs) × (add s xs ≡ Some t)
  unfolding column
  column_found [] s t e = ([], none, nothing s ∙ e)
  column_found (field ∷ fields) s t e =
      let u = bind_some (column add values number s field) _ t e in
      let h = column_found fields u.0 t u.2 in
      let P : List A → List Payload → Type 0 = λ xs ps. Joined Gives ps xs in
      chosen (nat_eq field.number number) _ _ _ u.1
      (λ is has.
      let few = bind_some (values field.payload) _ u.0 has in (
        few.0 ++ h.0,
        subst (P (few.0 ++ h.0)) (sym (cond-true _ _ _ is)) (next (found field.payload few.0 few.1) h.1),
        joins s few.0 h.0 ∙ (bind_at (add s few.0) _ u.0 few.2 ∙ h.2),
      ))
      (λ is_not same.
      (h.0, subst (P h.0) (sym (cond-false _ _ _ is_not)) h.1, ap (λ v. add v h.0) (same_Some s u.0 same) ∙ h.2))

  pub column_exact : (fields : List Field) (xs : List A) (s t : S) → Joined Gives (payloads number fields) xs
      → add s xs ≡ Some t
      → changed (column add values number) fields s ≡ Some t
  unfolding column
  column_exact [] xs s t j e = sym (nothing s) ∙ (ap (add s) (sym (joined_none j)) ∙ e)
  column_exact (field ∷ fields) xs s t j e =
      split (nat_eq field.number number)
      (λ is.
      let n = joined_next (subst (λ ps. Joined Gives ps xs) (cond-true (nat_eq field.number number) _ _ is) j) in
      let u = bind_some (add s n.0) (λ v. add v n.1) t (sym (joins s n.0 n.1) ∙ (ap (add s) (sym n.4) ∙ e)) in
      bind_at (column add values number s field) _ u.0
      (cond-true (nat_eq field.number number) _ _ is
      ∙ (bind_at (values field.payload) (add s) n.0 (read field.payload n.0 n.2) ∙ u.1))
      ∙ column_exact fields n.1 u.0 t n.3 u.2)
      (λ is_not.
      bind_at (column add values number s field) _ s (cond-false (nat_eq field.number number) _ _ is_not)
      ∙ column_exact fields xs s t
      (subst (λ ps. Joined Gives ps xs) (cond-false (nat_eq field.number number) _ _ is_not) j) e)

-- ---- the three ways to add values

pub more_nothing : {A : Type 0} (s : List A) → add_more s [] ≡ Some s
more_nothing s = ap Some (append-nil s)

pub more_joins : {A : Type 0} (s xs ys : List A) → add_more s (xs ++ ys) ≡ (add_more s xs >>= λ t. add_more t ys)
more_joins s xs ys = ap Some (sym (append_assoc s xs ys))

pub last_nothing : {A : Type 0} (s : A) → add_last s [] ≡ Some s
last_nothing s = refl

last_or-append : {A : Type 0} (s : A) (xs ys : List A) → last_or s (xs ++ ys) ≡ last_or (last_or s xs) ys
last_or-append s [] ys = refl
last_or-append s (x ∷ xs) ys = last_or-append x xs ys

pub last_joins : {A : Type 0} (s : A) (xs ys : List A) → add_last s (xs ++ ys) ≡ (add_last s xs >>= λ t. add_last t ys)
last_joins s xs ys = ap Some (last_or-append s xs ys)

pub only_nothing : {A : Type 0} (s : Option A) → add_only s [] ≡ Some s
only_nothing None = refl
only_nothing (Some x) = refl

pub only_joins : {A : Type 0} (s : Option A) (xs ys : List A)
    → add_only s (xs ++ ys) ≡ (add_only s xs >>= λ t. add_only t ys)
only_joins None [] ys = refl
only_joins (Some y) [] ys = refl
only_joins None (x ∷ xs) ys = only_joins (Some x) xs ys
only_joins (Some y) (x ∷ xs) ys = refl

only_found : {A : Type 0} (Values : List A → Type 0) (xs : List A) (o : Option A) → add_only None xs ≡ Some o
    → Values xs → IsOnly Values o
only_found Values [] o e v = subst (IsOnly Values) (same_Some None o e) (absent v)
only_found Values (x ∷ []) o e v = subst (IsOnly Values) (same_Some (Some x) o e) (only v)
only_found Values (x ∷ (y ∷ ys)) o e v = absurd (cc)

only_exact : {A : Type 0} {Values : List A → Type 0} {o : Option A} → IsOnly Values o
    → (xs : List A) × (Values xs) × (add_only None xs ≡ Some o)
only_exact (absent v) = ([], v, refl)
only_exact (only {value = value} v) = (value ∷ [], v, refl)

-- ---- the values of a payload

pub text_in_found : (payload : Payload) (xs : List (List ℕ)) → message_in text_at payload ≡ Some xs
    → GivesText payload xs
unfolding text_at
text_in_found (Delimited bytes) xs e =
    let t = bind_some (text_at bytes) _ xs e in
    let g = guard_some (is_utf8 bytes) _ t.0 t.1 in
    let same : bytes ∷ [] ≡ xs = ap (λ b. b ∷ []) (same_Some bytes t.0 g.1) ∙ same_Some (t.0 ∷ []) xs t.2 in
    subst (GivesText (Delimited bytes)) same (text (IsUtf8-from_is_utf8 bytes g.0))
text_in_found (Varint value) xs e = subst (GivesText (Varint value)) (same_Some [] xs e) (GivesText.other_type refl)
text_in_found (Fixed64 bytes) xs e = subst (GivesText (Fixed64 bytes)) (same_Some [] xs e) (GivesText.other_type refl)
text_in_found (Fixed32 bytes) xs e = subst (GivesText (Fixed32 bytes)) (same_Some [] xs e) (GivesText.other_type refl)

pub text_in_exact : (payload : Payload) (xs : List (List ℕ)) → GivesText payload xs
    → message_in text_at payload ≡ Some xs
unfolding text_at
text_in_exact (Delimited bytes) xs (text u) = rw (is_utf8-from_IsUtf8 bytes u) refl
text_in_exact (Delimited bytes) xs (GivesText.other_type h) = absurd (cc)
text_in_exact (Varint value) xs (GivesText.other_type h) = refl
text_in_exact (Fixed64 bytes) xs (GivesText.other_type h) = refl
text_in_exact (Fixed32 bytes) xs (GivesText.other_type h) = refl

number_in_found : (payload : Payload) (xs : List ℤ) → number_in payload ≡ Some xs → GivesNumber payload xs
number_in_found (Delimited bytes) xs e =
    subst (GivesNumber (Delimited bytes)) (same_Some [] xs e) (GivesNumber.other_type refl)
number_in_found (Varint value) xs e = subst (GivesNumber (Varint value)) (same_Some (number_at value ∷ []) xs e) signed
number_in_found (Fixed64 bytes) xs e =
    subst (GivesNumber (Fixed64 bytes)) (same_Some [] xs e) (GivesNumber.other_type refl)
number_in_found (Fixed32 bytes) xs e =
    subst (GivesNumber (Fixed32 bytes)) (same_Some [] xs e) (GivesNumber.other_type refl)

number_in_exact : (payload : Payload) (xs : List ℤ) → GivesNumber payload xs → number_in payload ≡ Some xs
number_in_exact (Varint value) xs signed = refl
number_in_exact (Varint value) xs (GivesNumber.other_type h) = absurd (cc)
number_in_exact (Delimited bytes) xs (GivesNumber.other_type h) = refl
number_in_exact (Fixed64 bytes) xs (GivesNumber.other_type h) = refl
number_in_exact (Fixed32 bytes) xs (GivesNumber.other_type h) = refl

module _ {A : Type 0} (read : List ℕ → Option A) (IsMessage : List ℕ → A → Type 0) where
  pub message_in_found : ((bytes : List ℕ) (x : A) → read bytes ≡ Some x → IsMessage bytes x)
      → (payload : Payload) (xs : List A) → message_in read payload ≡ Some xs → GivesMessage IsMessage payload xs
  message_in_found found (Delimited bytes) xs e =
      let x = bind_some (read bytes) _ xs e in
      subst (GivesMessage IsMessage (Delimited bytes)) (same_Some (x.0 ∷ []) xs x.2) (message (found bytes x.0 x.1))
  message_in_found found (Varint value) xs e =
      subst (GivesMessage IsMessage (Varint value)) (same_Some [] xs e) (GivesMessage.other_type refl)
  message_in_found found (Fixed64 bytes) xs e =
      subst (GivesMessage IsMessage (Fixed64 bytes)) (same_Some [] xs e) (GivesMessage.other_type refl)
  message_in_found found (Fixed32 bytes) xs e =
      subst (GivesMessage IsMessage (Fixed32 bytes)) (same_Some [] xs e) (GivesMessage.other_type refl)

  pub message_in_exact : ((bytes : List ℕ) (x : A) → IsMessage bytes x → read bytes ≡ Some x)
      → (payload : Payload) (xs : List A) → GivesMessage IsMessage payload xs → message_in read payload ≡ Some xs
  message_in_exact back (Delimited bytes) xs (message {value = x} h) = bind_at (read bytes) _ x (back bytes x h)
  message_in_exact back (Delimited bytes) xs (GivesMessage.other_type h) = absurd (cc)
  message_in_exact back (Varint value) xs (GivesMessage.other_type h) = refl
  message_in_exact back (Fixed64 bytes) xs (GivesMessage.other_type h) = refl
  message_in_exact back (Fixed32 bytes) xs (GivesMessage.other_type h) = refl

-- ---- the columns

pub text_found : (number : ℕ) (fields : List Field) (t : List ℕ) → changed (text_column number) fields [] ≡ Some t
    → Text number fields t
text_found number fields t e =
    let c = column_found add_last
    (message_in text_at) GivesText last_nothing last_joins text_in_found text_in_exact number fields [] t e in
    record { values = c.0; are_values = c.1; is_last = sym (same_Some (last_or [] c.0) t c.2) }

pub text_exact : (number : ℕ) (fields : List Field) (t : List ℕ) → Text number fields t
    → changed (text_column number) fields [] ≡ Some t
text_exact number fields t h =
    column_exact add_last (message_in text_at) GivesText last_nothing last_joins text_in_found text_in_exact number
    fields h.values [] t h.are_values (ap Some (sym h.is_last))

pub texts_found : (number : ℕ) (fields : List Field) (ts : List (List ℕ))
    → changed (texts_column number) fields [] ≡ Some ts → Texts number fields ts
texts_found number fields ts e =
    let c = column_found add_more
    (message_in text_at) GivesText more_nothing more_joins text_in_found text_in_exact number fields [] ts e in
    subst (Joined GivesText (payloads number fields)) (same_Some c.0 ts c.2) c.1

pub texts_exact : (number : ℕ) (fields : List Field) (ts : List (List ℕ)) → Texts number fields ts
    → changed (texts_column number) fields [] ≡ Some ts
texts_exact number fields ts h =
    column_exact add_more (message_in text_at) GivesText more_nothing more_joins text_in_found text_in_exact number
    fields ts [] ts h refl

pub number_found : (number : ℕ) (fields : List Field) (z : ℤ) → changed (number_column number) fields (pos 0) ≡ Some z
    → Number number fields z
number_found number fields z e =
    let c = column_found add_last number_in GivesNumber last_nothing last_joins number_in_found number_in_exact number
    fields (pos 0) z e in
    record { values = c.0; are_values = c.1; is_last = sym (same_Some (last_or (pos 0) c.0) z c.2) }

pub number_exact : (number : ℕ) (fields : List Field) (z : ℤ) → Number number fields z
    → changed (number_column number) fields (pos 0) ≡ Some z
number_exact number fields z h =
    column_exact add_last number_in GivesNumber last_nothing last_joins number_in_found number_in_exact number fields
    h.values (pos 0) z h.are_values (ap Some (sym h.is_last))

-- a repeated field whose payloads are read by a function of its own
module _ {A : Type 0} (values : Payload → Option (List A)) (Gives : Payload → List A → Type 0)
    (found : (payload : Payload) (xs : List A) → values payload ≡ Some xs → Gives payload xs)
    (read : (payload : Payload) (xs : List A) → Gives payload xs → values payload ≡ Some xs) (number : ℕ) where
  pub repeated_found : (fields : List Field) (xs : List A) → changed (column add_more values number) fields [] ≡ Some xs
      → Joined Gives (payloads number fields) xs
  repeated_found fields xs e =
      let c = column_found add_more values Gives more_nothing more_joins found read number fields [] xs e in
      subst (Joined Gives (payloads number fields)) (same_Some c.0 xs c.2) c.1

  pub repeated_exact : (fields : List Field) (xs : List A) → Joined Gives (payloads number fields) xs
      → changed (column add_more values number) fields [] ≡ Some xs
  repeated_exact fields xs h =
      column_exact add_more values Gives more_nothing more_joins found read number fields xs [] xs h refl

-- a detail, which is left out where it can't be read
module _ {A : Type 0} (values : Payload → Option (List A)) (Gives : Payload → List A → Type 0)
    (found : (payload : Payload) (xs : List A) → values payload ≡ Some xs → Gives payload xs)
    (read : (payload : Payload) (xs : List A) → Gives payload xs → values payload ≡ Some xs) where
  detail_of : (payload : Payload) (o : Option (List A)) → values payload ≡ o → GivesDetail Gives payload (readable o)
  detail_of payload None e = unreadable (λ xs given. none-some xs (sym e ∙ read payload xs given))
  detail_of payload (Some xs) e = GivesDetail.readable (found payload xs e)

  pub detail_found : (payload : Payload) (xs : List A) → detail_in values payload ≡ Some xs
      → GivesDetail Gives payload xs
  detail_found payload xs e =
      subst (GivesDetail Gives payload) (same_Some (readable (values payload)) xs e)
      (detail_of payload (values payload) refl)

  none_readable : (payload : Payload) → ((xs : List A) → ¬ (Gives payload xs)) → (o : Option (List A))
      → values payload ≡ o → readable o ≡ []
  none_readable payload never None e = refl
  none_readable payload never (Some xs) e = absurd (never xs (found payload xs e))

  pub detail_exact : (payload : Payload) (xs : List A) → GivesDetail Gives payload xs
      → detail_in values payload ≡ Some xs
  detail_exact payload xs (GivesDetail.readable given) = ap (λ o. Some (readable o)) (read payload xs given)
  detail_exact payload xs (unreadable never) = ap Some (none_readable payload never (values payload) refl)

  pub last_detail_found : (number : ℕ) (fields : List Field) (first x : A)
      → changed (column add_last (detail_in values) number) fields first ≡ Some x
      → LastDetail Gives first number fields x
  last_detail_found number fields first x e =
      let c = column_found add_last (detail_in values) (GivesDetail Gives) last_nothing last_joins detail_found
      detail_exact number fields first x e in
      record { values = c.0; are_values = c.1; is_last = sym (same_Some (last_or first c.0) x c.2) }

  pub last_detail_exact : (number : ℕ) (fields : List Field) (first x : A) → LastDetail Gives first number fields x
      → changed (column add_last (detail_in values) number) fields first ≡ Some x
  last_detail_exact number fields first x h =
      column_exact add_last (detail_in values) (GivesDetail Gives) last_nothing last_joins detail_found detail_exact
      number fields h.values first x h.are_values (ap Some (sym h.is_last))

module _ {A : Type 0} (read : List ℕ → Option A) (IsMessage : List ℕ → A → Type 0)
    (found : (bytes : List ℕ) (x : A) → read bytes ≡ Some x → IsMessage bytes x)
    (back : (bytes : List ℕ) (x : A) → IsMessage bytes x → read bytes ≡ Some x) (number : ℕ) (fields : List Field) where
  pub messages_found : (xs : List A) → changed (messages_column read number) fields [] ≡ Some xs
      → Messages IsMessage number fields xs
  messages_found xs e =
      repeated_found (message_in read) (GivesMessage IsMessage) (message_in_found read IsMessage found)
      (message_in_exact read IsMessage back) number fields xs e

  pub messages_exact : (xs : List A) → Messages IsMessage number fields xs
      → changed (messages_column read number) fields [] ≡ Some xs
  messages_exact xs h =
      repeated_exact (message_in read) (GivesMessage IsMessage) (message_in_found read IsMessage found)
      (message_in_exact read IsMessage back) number fields xs h

  pub one_message_found : (o : Option A) → changed (only_column read number) fields None ≡ Some o
      → OneMessage IsMessage number fields o
  one_message_found o e =
      let c = column_found add_only (message_in read) (GivesMessage IsMessage) only_nothing only_joins
      (message_in_found read IsMessage found) (message_in_exact read IsMessage back) number fields None o e in
      only_found (Joined (GivesMessage IsMessage) (payloads number fields)) c.0 o c.2 c.1

  pub one_message_exact : (o : Option A) → OneMessage IsMessage number fields o
      → changed (only_column read number) fields None ≡ Some o
  one_message_exact o h =
      let v = only_exact h in
      column_exact add_only (message_in read) (GivesMessage IsMessage) only_nothing only_joins
      (message_in_found read IsMessage found)
      (message_in_exact read IsMessage back) number fields v.0 None o v.1 v.2

-- a second one is refused, whatever it holds
pub only_taken : {A : Type 0} (read : List ℕ → Option A) (earlier : Option A) (bytes : List ℕ) → is_some earlier ≡ true
    → (message_in read (Delimited bytes) >>= add_only earlier) ≡ None
only_taken read None bytes h = absurd (cc)
only_taken {A = A} read (Some y) bytes h = taken (read bytes) where
  taken : (x : Option A) → ((x >>= λ v. Some (v ∷ [])) >>= add_only (Some y)) ≡ None
  taken None = refl
  taken (Some v) = refl

-- the first one is what is read
pub only_first : {A : Type 0} (read : List ℕ → Option A) (earlier : Option A) (bytes : List ℕ) → is_some earlier ≡ false
    → (message_in read (Delimited bytes) >>= add_only earlier) ≡ (read bytes >>= λ v. Some (Some v))
only_first read (Some y) bytes h = absurd (cc)
only_first {A = A} read None bytes h = first (read bytes) where
  first : (x : Option A) → ((x >>= λ v. Some (v ∷ [])) >>= add_only None) ≡ (x >>= λ v. Some (Some v))
  first None = refl
  first (Some v) = refl
