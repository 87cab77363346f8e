-- The fault that the reader names is why bytes decode to no index; and there is one such fault.
use Rattle.std.proofs.Common.{◌≡◌, ◌⊎◌, inl, inr, refl, sym, ◌∙◌, subst, ℕ, ℤ, ◌<◌, List, []}
use Rattle.std.proofs.Common.{◌∷◌, length, None, Result, Ok, Err, arith}
use Rattle.std.specs.Prelude.{IfErr}
use Rattle.std.proofs.lemmas.Option.{none-some}
use Rattle.scip_records.specs.declared.records.Index.{Index}
use Rattle.scip_records.specs.declared.records.Document.{Document}
use Rattle.scip_wire.specs.declared.read.occurrence.OccurrenceParts.{OccurrenceParts}
use Rattle.scip_wire.specs.declared.wire_fault.WireFault.{WireFault}
use Rattle.scip_wire.specs.declared.wire_fault.WireFault.TheVariants.{Memory}
use Rattle.scip_wire.specs.Fields.{Payload, Varint, Fixed64, Delimited, Fixed32, Field}
use Rattle.scip_wire.specs.Decodes.{AreNoRange, IsDocument}
use Rattle.scip_wire.specs.Decodes.{Decodes}
use Rattle.scip_wire.specs.Gives.{Gives, Blames}
use Rattle.scip_wire.specs.Reading.{add_more, add_last, add_only, message_in, text_at, number_in}
use Rattle.scip_wire.specs.Reading.{info_at}
use Rattle.scip_wire.specs.Reading.{metadata_at, numbers_in, range_at, occurrence_step}
use Rattle.scip_wire.specs.Reading.{no_parts, parts_at, occurrence_of, occurrence_at, occurrence_in}
use Rattle.scip_wire.specs.Reading.{document_step}
use Rattle.scip_wire.specs.Reading.{no_document, document_at, index_step, no_index, index_at}
use Rattle.scip_wire.specs.Refused.{NoMessage, NoInfo}
use Rattle.scip_wire.specs.Refused.{NoMetadata, OccurrenceRecords, HoldsRecords}
use Rattle.scip_wire.specs.Refused.{NoOccurrenceField, NoOccurrence, NoDocumentField, NoDocument, NoIndexField, NoIndex}
use Rattle.scip_wire.specs.Blamed.{inner_fault, info_fault}
use Rattle.scip_wire.specs.Blamed.{metadata_fault, occurrence_step_fault, parts_fault}
use Rattle.scip_wire.specs.Blamed.{occurrence_fault, document_step_fault, document_fault, index_step_fault, index_fault}
use Rattle.scip_wire.proofs.ReadingOptionLemmas.{bind_none}
use Rattle.scip_wire.proofs.DecodesLemmas.{no_range_found, no_range_exact, parts_found, parts_exact}
use Rattle.scip_wire.proofs.DecodesLemmas.{document_found, document_exact, index_found, index_exact}
use Rattle.scip_wire.proofs.RefusedVarintLemmas.{on_option}
use Rattle.scip_wire.proofs.RefusedColumnLemmas.{both_none, left_none, right_none, parted_none, none_parted}
use Rattle.scip_wire.proofs.RefusedColumnLemmas.{column_none, none_in_column, values_none, text_refused, text_blamed}
use Rattle.scip_wire.proofs.RefusedColumnLemmas.{inner_refused, only_refused, inner_blamed, only_blamed}
use Rattle.scip_wire.proofs.RefusedPackedLemmas.{numbers_refused, numbers_blamed}
use Rattle.scip_wire.proofs.RefusedLemmas.{message_refused, message_blamed, last_total, more_total, number_never}
use Rattle.scip_wire.proofs.RefusedLemmas.{detail_never}
use Rattle.scip_wire.proofs.RefusedLemmas.{at_number, info_refused, info_blamed, metadata_refused, metadata_blamed}

-- ---- occurrences

abbrev parts_view : OccurrenceParts → OccurrenceRecords
parts_view o = (o.numbers, (o.symbol, (o.symbol_roles, o.around)))

parts_step_refused : (s : OccurrenceParts) (start end : ℕ) (f : Field) → occurrence_step s f ≡ None
    → NoOccurrenceField (parts_view s) start end f (occurrence_step_fault s start end f)
unfolding occurrence_step occurrence_step_fault
parts_step_refused s start end f e =
    let P : Field → Type 0 = λ f. NoOccurrenceField (parts_view s) start end f (occurrence_step_fault s start end f) in
    elim (both_none _ _ _ f (parted_none _ _ _ s f e)) [
      | inl range ↦
          let h = values_none add_more numbers_in 1 more_total _ f range in
          at_number P f 1 h.0 (NoOccurrenceField.range (numbers_refused start end s.numbers f.payload h.1))
      | inr others ↦ elim (both_none _ _ _ f others) [
        | inl symbol ↦
            let h = values_none add_last (message_in text_at) 2 last_total _ f symbol in
            at_number P f 2 h.0 (NoOccurrenceField.symbol (text_refused start f.payload h.1))
        | inr last ↦ elim (both_none _ _ _ f last) [
          | inl roles ↦ absurd (number_never f.payload (values_none add_last number_in 3 last_total _ f roles).1)
          | inr around ↦ absurd (detail_never add_more numbers_in 7 more_total _ f around)
        ]
      ]
    ]

parts_step_blamed : (s : OccurrenceParts) (start end : ℕ) (f : Field) (fault : WireFault)
    → NoOccurrenceField (parts_view s) start end f fault
    → (occurrence_step s f ≡ None) × (fault ≡ occurrence_step_fault s start end f)
unfolding occurrence_step occurrence_step_fault
parts_step_blamed s start end f fault (NoOccurrenceField.range n) =
    let t = numbers_blamed start end s.numbers n in (
      none_parted _ _ _ s f (left_none _ _ _ f (none_in_column add_more numbers_in 1 _ f refl (bind_none _ _ t.0))),
      t.1,
    )
parts_step_blamed s start end f fault (NoOccurrenceField.symbol n) =
    let t = text_blamed n in (
      none_parted _ _ _ s f (right_none _ _ _ f (left_none _ _ _ f
          (none_in_column add_last (message_in text_at) 2 _ f refl (bind_none _ _ t.0)))),
      t.1,
    )

parts_refused : (end : ℕ) (bytes : List ℕ) → parts_at bytes ≡ None
    → NoMessage HoldsRecords NoOccurrenceField end bytes (parts_fault end bytes)
unfolding parts_at parts_fault
parts_refused =
    message_refused occurrence_step occurrence_step_fault no_parts parts_view HoldsRecords NoOccurrenceField parts_found
    parts_step_refused

parts_blamed : (end : ℕ) (bytes : List ℕ) (fault : WireFault) → NoMessage HoldsRecords NoOccurrenceField end bytes fault
    → (parts_at bytes ≡ None) × (fault ≡ parts_fault end bytes)
unfolding parts_at parts_fault
parts_blamed =
    message_blamed occurrence_step occurrence_step_fault no_parts parts_view HoldsRecords NoOccurrenceField
    (λ bytes records is. (
      record { numbers = records.0; symbol = records.1.0; symbol_roles = records.1.1.0; around = records.1.1.1 },
      parts_exact bytes records.0 records.1.0 records.1.1.0 records.1.1.1 is,
      refl,
    ))
    parts_step_blamed

-- no occurrence is made of such numbers
no_range : (numbers symbol : List ℕ) (roles : ℤ) (around : List ℕ)
    → occurrence_of (record { numbers = numbers; symbol = symbol; symbol_roles = roles; around = around }) ≡ None
    → (0 < length numbers) × AreNoRange numbers
unfolding occurrence_of
no_range [] symbol roles around e = absurd (cc)
no_range (n ∷ numbers) symbol roles around e = (
  omega arith,
  no_range_found (n ∷ numbers) (on_option (range_at (n ∷ numbers)) (λ none. none)
      (λ range some. absurd (none-some _ (sym (rw some at e))))),
)

of_no_range : (numbers symbol : List ℕ) (roles : ℤ) (around : List ℕ) → 0 < length numbers → AreNoRange numbers
    → occurrence_of (record { numbers = numbers; symbol = symbol; symbol_roles = roles; around = around }) ≡ None
unfolding occurrence_of
of_no_range [] symbol roles around there not_one = absurd (omega (arith, there))
of_no_range (n ∷ numbers) symbol roles around there not_one =
    bind_none (range_at (n ∷ numbers)) _ (no_range_exact (n ∷ numbers) not_one)

occurrence_refused : (start end : ℕ) (payload : Payload) → occurrence_in payload ≡ None
    → NoOccurrence start end payload (inner_fault (occurrence_fault start) end payload)
unfolding occurrence_at occurrence_fault
occurrence_refused start end (Delimited bytes) e =
    on_option (parts_at bytes)
    (λ none. rw none (NoOccurrence.inside (parts_refused end bytes none)))
    (λ o some.
    let not_one = no_range o.numbers o.symbol o.symbol_roles o.around (rw some at e) in
    rw some (NoOccurrence.bad_range (parts_found bytes o some) not_one.0 not_one.1))
occurrence_refused start end (Varint value) e = absurd (cc)
occurrence_refused start end (Fixed64 bytes) e = absurd (cc)
occurrence_refused start end (Fixed32 bytes) e = absurd (cc)

occurrence_blamed : {start end : ℕ} {payload : Payload} {fault : WireFault} → NoOccurrence start end payload fault
    → (occurrence_in payload ≡ None) × (fault ≡ inner_fault (occurrence_fault start) end payload)
unfolding occurrence_at occurrence_fault
occurrence_blamed {end = end} (NoOccurrence.inside {bytes = bytes} {fault = fault} n) =
    let h = parts_blamed end bytes fault n in
    (rw h.0 refl, rw h.0 h.1)
occurrence_blamed (NoOccurrence.bad_range {bytes = bytes} {numbers = ns} {symbol = symbol} {around = around}
    {roles = roles} h there not_one) =
    let parts = parts_exact bytes ns symbol roles around h in
    (rw parts (of_no_range ns symbol roles around there not_one), rw parts refl)

-- ---- documents

document_step_refused : (s : Document) (start end : ℕ) (f : Field) → document_step s f ≡ None
    → NoDocumentField s start end f (document_step_fault s start end f)
unfolding document_step document_step_fault
document_step_refused s start end f e =
    let P : Field → Type 0 = λ f. NoDocumentField s start end f (document_step_fault s start end f) in
    elim (both_none _ _ _ f (parted_none _ _ _ s f e)) [
      | inl path ↦
          let h = values_none add_last (message_in text_at) 1 last_total _ f path in
          at_number P f 1 h.0 (NoDocumentField.text (inl refl) (text_refused start f.payload h.1))
      | inr others ↦ elim (both_none _ _ _ f others) [
        | inl occurrence ↦
            let h = values_none add_more occurrence_in 2 more_total _ f occurrence in
            at_number P f 2 h.0 (NoDocumentField.occurrence (occurrence_refused start end f.payload h.1))
        | inr more ↦ elim (both_none _ _ _ f more) [
          | inl symbols ↦
              let h = values_none add_more (message_in info_at) 3 more_total _ f symbols in
              at_number P f 3 h.0 (NoDocumentField.symbols
              (inner_refused info_at info_fault NoInfo info_refused end f.payload h.1))
          | inr last ↦ elim (both_none _ _ _ f last) [
            | inl language ↦
                let h = values_none add_last (message_in text_at) 4 last_total _ f language in
                at_number P f 4 h.0 (NoDocumentField.text (inr refl) (text_refused start f.payload h.1))
            | inr encoding ↦
                absurd (number_never f.payload (values_none add_last number_in 6 last_total _ f encoding).1)
          ]
        ]
      ]
    ]

document_step_blamed : (s : Document) (start end : ℕ) (f : Field) (fault : WireFault)
    → NoDocumentField s start end f fault
    → (document_step s f ≡ None) × (fault ≡ document_step_fault s start end f)
unfolding document_step document_step_fault
document_step_blamed s start end f fault (NoDocumentField.text (inl e) n) =
    let t = text_blamed n in (
      none_parted _ _ _ s f (left_none _ _ _ f
          (none_in_column add_last (message_in text_at) 1 _ f (rw e refl) (bind_none _ _ t.0))),
      rw e t.1,
    )
document_step_blamed s start end f fault (NoDocumentField.text (inr e) n) =
    let t = text_blamed n in (
      none_parted _ _ _ s f (right_none _ _ _ f (right_none _ _ _ f (right_none _ _ _ f (left_none _ _ _ f
          (none_in_column add_last (message_in text_at) 4 _ f (rw e refl) (bind_none _ _ t.0)))))),
      rw e t.1,
    )
document_step_blamed s start end f fault (NoDocumentField.occurrence n) =
    let t = occurrence_blamed n in (
      none_parted _ _ _ s f (right_none _ _ _ f (left_none _ _ _ f
          (none_in_column add_more occurrence_in 2 _ f refl (bind_none _ _ t.0)))),
      t.1,
    )
document_step_blamed s start end f fault (NoDocumentField.symbols n) =
    let t = inner_blamed info_at info_fault NoInfo info_blamed n in (
      none_parted _ _ _ s f (right_none _ _ _ f (right_none _ _ _ f (left_none _ _ _ f
          (none_in_column add_more (message_in info_at) 3 _ f refl (bind_none _ _ t.0))))),
      t.1,
    )

document_refused : (end : ℕ) (bytes : List ℕ) → document_at bytes ≡ None
    → NoDocument end bytes (document_fault end bytes)
unfolding document_at document_fault
document_refused =
    message_refused document_step document_step_fault no_document (λ d. d) IsDocument NoDocumentField document_found
    document_step_refused

document_blamed : (end : ℕ) (bytes : List ℕ) (fault : WireFault) → NoDocument end bytes fault
    → (document_at bytes ≡ None) × (fault ≡ document_fault end bytes)
unfolding document_at document_fault
document_blamed =
    message_blamed document_step document_step_fault no_document (λ d. d) IsDocument NoDocumentField
    (λ bytes d is. (d, document_exact bytes d is, refl)) document_step_blamed

-- ---- the index

index_step_refused : (s : Index) (start end : ℕ) (f : Field) → index_step s f ≡ None
    → NoIndexField s start end f (index_step_fault s start end f)
unfolding index_step index_step_fault
index_step_refused s start end f e =
    let P : Field → Type 0 = λ f. NoIndexField s start end f (index_step_fault s start end f) in
    elim (both_none _ _ _ f (parted_none _ _ _ s f e)) [
      | inl metadata ↦
          let h = column_none add_only (message_in metadata_at) 1 _ f metadata in
          at_number P f 1 h.0 (NoIndexField.metadata
          (only_refused metadata_at metadata_fault NoMetadata metadata_refused start end s.metadata f.payload h.1))
      | inr others ↦ elim (both_none _ _ _ f others) [
        | inl documents ↦
            let h = values_none add_more (message_in document_at) 2 more_total _ f documents in
            at_number P f 2 h.0 (NoIndexField.documents
            (inner_refused document_at document_fault NoDocument document_refused end f.payload h.1))
        | inr externals ↦
            let h = values_none add_more (message_in info_at) 3 more_total _ f externals in
            at_number P f 3 h.0 (NoIndexField.external_symbols
            (inner_refused info_at info_fault NoInfo info_refused end f.payload h.1))
      ]
    ]

index_step_blamed : (s : Index) (start end : ℕ) (f : Field) (fault : WireFault)
    → NoIndexField s start end f fault
    → (index_step s f ≡ None) × (fault ≡ index_step_fault s start end f)
unfolding index_step index_step_fault
index_step_blamed s start end f fault (NoIndexField.metadata n) =
    let t = only_blamed metadata_at metadata_fault NoMetadata metadata_blamed n in (
      none_parted _ _ _ s f (left_none _ _ _ f
          (none_in_column add_only (message_in metadata_at) 1 _ f refl t.0)),
      t.1,
    )
index_step_blamed s start end f fault (NoIndexField.documents n) =
    let t = inner_blamed document_at document_fault NoDocument document_blamed n in (
      none_parted _ _ _ s f (right_none _ _ _ f (left_none _ _ _ f
          (none_in_column add_more (message_in document_at) 2 _ f refl (bind_none _ _ t.0)))),
      t.1,
    )
index_step_blamed s start end f fault (NoIndexField.external_symbols n) =
    let t = inner_blamed info_at info_fault NoInfo info_blamed n in (
      none_parted _ _ _ s f (right_none _ _ _ f (right_none _ _ _ f
          (none_in_column add_more (message_in info_at) 3 _ f refl (bind_none _ _ t.0)))),
      t.1,
    )

pub index_refused : (bytes : List ℕ) → index_at bytes ≡ None → NoIndex bytes (index_fault bytes)
unfolding index_at index_fault
index_refused bytes =
    message_refused index_step index_step_fault no_index (λ i. i) Decodes NoIndexField index_found index_step_refused
    (length bytes) bytes

pub index_blamed : {bytes : List ℕ} {fault : WireFault} → NoIndex bytes fault
    → (index_at bytes ≡ None) × (fault ≡ index_fault bytes)
unfolding index_at index_fault
index_blamed {bytes = bytes} {fault = fault} =
    message_blamed index_step index_step_fault no_index (λ i. i) Decodes NoIndexField
    (λ bytes i is. (i, index_exact is, refl)) index_step_blamed (length bytes) bytes fault

-- ---- what a reader of the index answers, and the laws

pub fault_of : (r : Result Index WireFault) (bytes : List ℕ) → Gives (λ i. i) r (index_at bytes)
    → Blames r (index_fault bytes) → IfErr r (λ e. (e ≡ Memory) ⊎ NoIndex bytes e)
fault_of (Ok i) bytes reads blames = tt
fault_of (Err e) bytes (inl memory) blames = inl memory
fault_of (Err e) bytes (inr none) (inl memory) = inl memory
fault_of (Err e) bytes (inr none) (inr is) = inr (subst (NoIndex bytes) (sym is) (index_refused bytes none))

pub index_or_fault : (bytes : List ℕ)
    → ((index : Index) × Decodes bytes index) ⊎ ((fault : WireFault) × NoIndex bytes fault)
index_or_fault bytes =
    on_option (index_at bytes)
    (λ none. inr (index_fault bytes, index_refused bytes none))
    (λ index some. inl (index, index_found bytes index some))

pub one_fault : (bytes : List ℕ) (fault other : WireFault) → NoIndex bytes fault → NoIndex bytes other
    → fault ≡ other
one_fault bytes fault other n m = (index_blamed n).1 ∙ sym (index_blamed m).1

pub no_fault : (bytes : List ℕ) (fault : WireFault) (index : Index) → NoIndex bytes fault
    → Decodes bytes index → ⊥
no_fault bytes fault index n is = none-some index (sym (index_blamed n).0 ∙ index_exact is)
