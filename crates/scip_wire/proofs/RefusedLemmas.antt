-- The fault that is named is why bytes are no message: of any, of symbol information, tool information and metadata.
use Rattle.std.proofs.Common.{◌≡◌, inl, inr, refl, sym, subst, ℕ, ◌-◌, List}
use Rattle.std.proofs.Common.{length, Option, Some, None, arith}
use Rattle.std.proofs.lemmas.Option.{none-some}
use Rattle.scip_records.specs.declared.records.Metadata.{Metadata}
use Rattle.scip_records.specs.declared.records.ToolInfo.{ToolInfo}
use Rattle.scip_records.specs.declared.records.SymbolInformation.{SymbolInformation}
use Rattle.scip_wire.specs.declared.wire_fault.WireFault.{WireFault}
use Rattle.scip_wire.specs.Fields.{Payload, Varint, Fixed64, Delimited, Fixed32, Field}
use Rattle.scip_wire.specs.Decodes.{IsInfo, IsToolInfo, IsMetadata}
use Rattle.scip_wire.specs.Reading.{field_at, fold_at, add_more, add_last, add_only, message_in, text_at, number_in}
use Rattle.scip_wire.specs.Reading.{signature_at, column, detail_in, info_step, no_info, info_at, tool_info_step}
use Rattle.scip_wire.specs.Reading.{no_tool_info, tool_info_at}
use Rattle.scip_wire.specs.Reading.{metadata_step, no_metadata, metadata_at}
use Rattle.scip_wire.specs.Refused.{NoMessage, record_itself, what_it_holds}
use Rattle.scip_wire.specs.Refused.{NoInfoField, NoInfo, NoToolInfoField, NoToolInfo, NoMetadataField, NoMetadata}
use Rattle.scip_wire.specs.Blamed.{message_fault, text_fault, info_fault}
use Rattle.scip_wire.specs.Blamed.{tool_info_fault}
use Rattle.scip_wire.specs.Blamed.{metadata_step_fault, metadata_fault}
use Rattle.scip_wire.proofs.ReadingOptionLemmas.{bind_none}
use Rattle.scip_wire.proofs.FieldLemmas.{field_found, field_exact, field_falls}
use Rattle.scip_wire.proofs.ReadingFoldLemmas.{fields_found, fields_exact}
use Rattle.scip_wire.proofs.DecodesLemmas.{info_found, info_exact}
use Rattle.scip_wire.proofs.DecodesLemmas.{tool_info_found, tool_info_exact, metadata_found, metadata_exact}
use Rattle.scip_wire.proofs.RefusedFieldLemmas.{field_refused, field_blamed}
use Rattle.scip_wire.proofs.RefusedMessageLemmas.{stops, stopped}
use Rattle.scip_wire.proofs.RefusedColumnLemmas.{both_none, left_none, right_none, parted_none, none_parted}
use Rattle.scip_wire.proofs.RefusedColumnLemmas.{column_none, none_in_column, values_none, text_refused, text_blamed}
use Rattle.scip_wire.proofs.RefusedColumnLemmas.{only_refused, only_blamed}

-- ---- any message

module _ {S A : Type 0} (step : S → Field → Option S) (step_fault : S → (start end : ℕ) → Field → WireFault) (first : S)
    (view : S → A) (IsMessage : List ℕ → A → Type 0)
    (Faulty : (earlier : A) (start end : ℕ) → Field → WireFault → Type 0) where
  pub message_refused : ((bytes : List ℕ) (s : S)
      → fold_at field_at step bytes first ≡ Some s → IsMessage bytes (view s))
      → ((s : S) (start end : ℕ) (f : Field) → step s f ≡ None
      → Faulty (view s) start end f (step_fault s start end f))
      → (end : ℕ) (bytes : List ℕ) → fold_at field_at step bytes first ≡ None
      → NoMessage IsMessage Faulty end bytes (message_fault step step_fault end bytes first)
  message_refused found refused end bytes e =
      let stop = stops step step_fault end first bytes e in
      let is = found stop.front stop.made (fields_exact step stop.has_fields first stop.made stop.makes) in
      let P : WireFault → Type 0 = NoMessage IsMessage Faulty end bytes in
      elim stop.why [
        | inl unread ↦
            subst P (sym unread.1) (record_itself stop.front stop.back (view stop.made) stop.regrouped is stop.there
            (field_refused (end - length stop.back) stop.back unread.0))
        | inr other ↦
            let f = field_found stop.back (other.0, other.1) other.2 in
            subst P (sym other.4) (what_it_holds stop.front stop.back (view stop.made) stop.regrouped is f
            (refused stop.made (end - length stop.back) (end - length other.1) other.0 other.3))
      ]

  pub message_blamed : ((bytes : List ℕ) (a : A) → IsMessage bytes a
      → (s : S) × (fold_at field_at step bytes first ≡ Some s) × (view s ≡ a))
      → ((s : S) (start end : ℕ) (f : Field) (fault : WireFault) → Faulty (view s) start end f fault
      → (step s f ≡ None) × (fault ≡ step_fault s start end f))
      → (end : ℕ) (bytes : List ℕ) (fault : WireFault) → NoMessage IsMessage Faulty end bytes fault
      → (fold_at field_at step bytes first ≡ None) × (fault ≡ message_fault step step_fault end bytes first)
  message_blamed exact blamed end bytes fault (record_itself front back a same is there n)
      =
      let m = exact front a is in
      let fs = fields_found step front first m.0 m.1 in
      stopped step step_fault end first bytes fault (record {
        front = front;
        back = back;
        regrouped = same;
        there = there;
        fields = fs.0;
        has_fields = fs.1;
        made = m.0;
        makes = fs.2;
        why = inl (field_blamed n);
      })
  message_blamed exact blamed end bytes fault
      (what_it_holds front back a {rest = rest} {field = f} same is has faulty) =
      let m = exact front a is in
      let fs = fields_found step front first m.0 m.1 in
      let start = end - length back in
      let own = subst (λ (x : A). Faulty x start (end - length rest) f fault) (sym m.2) faulty in
      let h = blamed m.0 start (end - length rest) f fault own in
      stopped step step_fault end first bytes fault (record {
        front = front;
        back = back;
        regrouped = same;
        there = omega (arith, field_falls has);
        fields = fs.0;
        has_fields = fs.1;
        made = m.0;
        makes = fs.2;
        why = inr (f, rest, field_exact has, h.0, h.1);
      })

-- ---- what can always be added

pub last_total : {A : Type 0} (s : A) (xs : List A) → (t : A) × (add_last s xs ≡ Some t)
last_total s xs = (_, refl)

pub more_total : {A : Type 0} (s xs : List A) → (t : List A) × (add_more s xs ≡ Some t)
more_total s xs = (_, refl)

pub number_never : (payload : Payload) → number_in payload ≡ None → ⊥
number_never (Varint value) e = absurd (cc)
number_never (Delimited bytes) e = absurd (cc)
number_never (Fixed64 bytes) e = absurd (cc)
number_never (Fixed32 bytes) e = absurd (cc)

-- a detail refuses nothing
pub detail_never : {S A : Type 0} (add : S → List A → Option S) (values : Payload → Option (List A)) (number : ℕ)
    → ((s : S) (xs : List A) → (t : S) × (add s xs ≡ Some t)) → (s : S) (f : Field)
    → column add (detail_in values) number s f ≡ None → ⊥
detail_never add values number total s f e =
    none-some _ (sym (values_none add (detail_in values) number total s f e).1)

-- what holds of a field with this number
pub at_number : (P : Field → Type 0) (f : Field) (number : ℕ) → f.number ≡ number
    → P (record { number = number; payload = f.payload }) → P f
at_number P f number e p = subst (λ n. P (record { number = n; payload = f.payload })) (sym e) p

-- ---- symbol information

info_step_refused : (s : SymbolInformation) (start end : ℕ) (f : Field) → info_step s f ≡ None
    → NoInfoField s start end f (text_fault s start end f)
unfolding info_step
info_step_refused s start end f e =
    elim (both_none _ _ _ f (parted_none _ _ _ s f e)) [
      | inl symbol ↦
          let h = values_none add_last (message_in text_at) 1 last_total _ f symbol in
          NoInfoField.text (inl h.0) (text_refused start f.payload h.1)
      | inr others ↦ elim (both_none _ _ _ f others) [
        | inl documentation ↦
            let h = values_none add_more (message_in text_at) 3 more_total _ f documentation in
            NoInfoField.text (inr (inl h.0)) (text_refused start f.payload h.1)
        | inr more ↦ elim (both_none _ _ _ f more) [
          | inl kind ↦ absurd (number_never f.payload (values_none add_last number_in 5 last_total _ f kind).1)
          | inr shown ↦ elim (both_none _ _ _ f shown) [
            | inl display_name ↦
                let h = values_none add_last (message_in text_at) 6 last_total _ f display_name in
                NoInfoField.text (inr (inr h.0)) (text_refused start f.payload h.1)
            | inr last ↦ elim (both_none _ _ _ f last) [
              | inl signature ↦ absurd (detail_never add_last (message_in signature_at) 7 last_total _ f signature)
              | inr symbol ↦ absurd (detail_never add_last (message_in text_at) 8 last_total _ f symbol)
            ]
          ]
        ]
      ]
    ]

info_step_blamed : (s : SymbolInformation) (start end : ℕ) (f : Field) (fault : WireFault)
    → NoInfoField s start end f fault
    → (info_step s f ≡ None) × (fault ≡ text_fault s start end f)
unfolding info_step
info_step_blamed s start end f fault (NoInfoField.text (inl e) n) =
    let t = text_blamed n in (
      none_parted _ _ _ s f (left_none _ _ _ f
          (none_in_column add_last (message_in text_at) 1 _ f (rw e refl) (bind_none _ _ t.0))),
      t.1,
    )
info_step_blamed s start end f fault (NoInfoField.text (inr (inl e)) n) =
    let t = text_blamed n in (
      none_parted _ _ _ s f (right_none _ _ _ f (left_none _ _ _ f
          (none_in_column add_more (message_in text_at) 3 _ f (rw e refl) (bind_none _ _ t.0)))),
      t.1,
    )
info_step_blamed s start end f fault (NoInfoField.text (inr (inr e)) n) =
    let t = text_blamed n in (
      none_parted _ _ _ s f (right_none _ _ _ f (right_none _ _ _ f (right_none _ _ _ f (left_none _ _ _ f
          (none_in_column add_last (message_in text_at) 6 _ f (rw e refl) (bind_none _ _ t.0)))))),
      t.1,
    )

pub info_refused : (end : ℕ) (bytes : List ℕ) → info_at bytes ≡ None
    → NoInfo end bytes (info_fault end bytes)
unfolding info_at info_fault
info_refused =
    message_refused info_step text_fault no_info (λ i. i) IsInfo NoInfoField info_found info_step_refused

pub info_blamed : (end : ℕ) (bytes : List ℕ) (fault : WireFault) → NoInfo end bytes fault
    → (info_at bytes ≡ None) × (fault ≡ info_fault end bytes)
unfolding info_at info_fault
info_blamed =
    message_blamed info_step text_fault no_info (λ i. i) IsInfo NoInfoField
    (λ bytes i is. (i, info_exact bytes i is, refl)) info_step_blamed

-- ---- tool information

tool_info_step_refused : (s : ToolInfo) (start end : ℕ) (f : Field) → tool_info_step s f ≡ None
    → NoToolInfoField s start end f (text_fault s start end f)
unfolding tool_info_step
tool_info_step_refused s start end f e =
    elim (both_none _ _ _ f (parted_none _ _ _ s f e)) [
      | inl name ↦
          let h = values_none add_last (message_in text_at) 1 last_total _ f name in
          NoToolInfoField.text (inl h.0) (text_refused start f.payload h.1)
      | inr others ↦ elim (both_none _ _ _ f others) [
        | inl version ↦
            let h = values_none add_last (message_in text_at) 2 last_total _ f version in
            NoToolInfoField.text (inr (inl h.0)) (text_refused start f.payload h.1)
        | inr arguments ↦
            let h = values_none add_more (message_in text_at) 3 more_total _ f arguments in
            NoToolInfoField.text (inr (inr h.0)) (text_refused start f.payload h.1)
      ]
    ]

tool_info_step_blamed : (s : ToolInfo) (start end : ℕ) (f : Field) (fault : WireFault)
    → NoToolInfoField s start end f fault
    → (tool_info_step s f ≡ None) × (fault ≡ text_fault s start end f)
unfolding tool_info_step
tool_info_step_blamed s start end f fault (NoToolInfoField.text (inl e) n) =
    let t = text_blamed n in (
      none_parted _ _ _ s f (left_none _ _ _ f
          (none_in_column add_last (message_in text_at) 1 _ f (rw e refl) (bind_none _ _ t.0))),
      t.1,
    )
tool_info_step_blamed s start end f fault (NoToolInfoField.text (inr (inl e)) n) =
    let t = text_blamed n in (
      none_parted _ _ _ s f (right_none _ _ _ f (left_none _ _ _ f
          (none_in_column add_last (message_in text_at) 2 _ f (rw e refl) (bind_none _ _ t.0)))),
      t.1,
    )
tool_info_step_blamed s start end f fault (NoToolInfoField.text (inr (inr e)) n) =
    let t = text_blamed n in (
      none_parted _ _ _ s f (right_none _ _ _ f (right_none _ _ _ f
          (none_in_column add_more (message_in text_at) 3 _ f (rw e refl) (bind_none _ _ t.0)))),
      t.1,
    )

tool_info_refused : (end : ℕ) (bytes : List ℕ) → tool_info_at bytes ≡ None
    → NoToolInfo end bytes (tool_info_fault end bytes)
unfolding tool_info_at tool_info_fault
tool_info_refused =
    message_refused tool_info_step text_fault no_tool_info (λ t. t) IsToolInfo NoToolInfoField tool_info_found
    tool_info_step_refused

tool_info_blamed : (end : ℕ) (bytes : List ℕ) (fault : WireFault) → NoToolInfo end bytes fault
    → (tool_info_at bytes ≡ None) × (fault ≡ tool_info_fault end bytes)
unfolding tool_info_at tool_info_fault
tool_info_blamed =
    message_blamed tool_info_step text_fault no_tool_info (λ t. t) IsToolInfo NoToolInfoField
    (λ bytes t is. (t, tool_info_exact bytes t is, refl)) tool_info_step_blamed

-- ---- metadata

metadata_step_refused : (s : Metadata) (start end : ℕ) (f : Field) → metadata_step s f ≡ None
    → NoMetadataField s start end f (metadata_step_fault s start end f)
unfolding metadata_step metadata_step_fault
metadata_step_refused s start end f e =
    let P : Field → Type 0 = λ f. NoMetadataField s start end f (metadata_step_fault s start end f) in
    elim (both_none _ _ _ f (parted_none _ _ _ s f e)) [
      | inl version ↦ absurd (number_never f.payload (values_none add_last number_in 1 last_total _ f version).1)
      | inr others ↦ elim (both_none _ _ _ f others) [
        | inl tool_info ↦
            let h = column_none add_only (message_in tool_info_at) 2 _ f tool_info in
            at_number P f 2 h.0 (NoMetadataField.tool_info
            (only_refused tool_info_at tool_info_fault NoToolInfo tool_info_refused start end s.tool_info f.payload
            h.1))
        | inr last ↦ elim (both_none _ _ _ f last) [
          | inl project_root ↦
              let h = values_none add_last (message_in text_at) 3 last_total _ f project_root in
              at_number P f 3 h.0 (NoMetadataField.project_root (text_refused start f.payload h.1))
          | inr encoding ↦
              absurd (number_never f.payload (values_none add_last number_in 4 last_total _ f encoding).1)
        ]
      ]
    ]

metadata_step_blamed : (s : Metadata) (start end : ℕ) (f : Field) (fault : WireFault)
    → NoMetadataField s start end f fault
    → (metadata_step s f ≡ None) × (fault ≡ metadata_step_fault s start end f)
unfolding metadata_step metadata_step_fault
metadata_step_blamed s start end f fault (NoMetadataField.tool_info n) =
    let t = only_blamed tool_info_at tool_info_fault NoToolInfo tool_info_blamed n in (
      none_parted _ _ _ s f (right_none _ _ _ f (left_none _ _ _ f
          (none_in_column add_only (message_in tool_info_at) 2 _ f refl t.0))),
      t.1,
    )
metadata_step_blamed s start end f fault (NoMetadataField.project_root n) =
    let t = text_blamed n in (
      none_parted _ _ _ s f (right_none _ _ _ f (right_none _ _ _ f (left_none _ _ _ f
          (none_in_column add_last (message_in text_at) 3 _ f refl (bind_none _ _ t.0))))),
      t.1,
    )

pub metadata_refused : (end : ℕ) (bytes : List ℕ) → metadata_at bytes ≡ None
    → NoMetadata end bytes (metadata_fault end bytes)
unfolding metadata_at metadata_fault
metadata_refused =
    message_refused metadata_step metadata_step_fault no_metadata (λ m. m) IsMetadata NoMetadataField metadata_found
    metadata_step_refused

pub metadata_blamed : (end : ℕ) (bytes : List ℕ) (fault : WireFault) → NoMetadata end bytes fault
    → (metadata_at bytes ≡ None) × (fault ≡ metadata_fault end bytes)
unfolding metadata_at metadata_fault
metadata_blamed =
    message_blamed metadata_step metadata_step_fault no_metadata (λ m. m) IsMetadata NoMetadataField
    (λ bytes m is. (m, metadata_exact bytes m is, refl)) metadata_step_blamed
