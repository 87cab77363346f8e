-- A record of the code as a field.
use Rattle.std.specs.Prelude.{ℕ, length}
use Rattle.scip_wire.specs.Fields
use Rattle.scip_wire.specs.declared.read.field.Payload.{Payload}
use Rattle.scip_wire.specs.declared.read.field.Payload.TheVariants.{Varint, Fixed64, Delimited, Fixed32}
use Rattle.scip_wire.specs.declared.read.field.Field.{Field}

abbrev pub payload_view : Payload → Fields.Payload
payload_view (Varint value) = Fields.Varint value
payload_view (Fixed64 bytes) = Fields.Fixed64 bytes.now
payload_view (Delimited bytes) = Fields.Delimited bytes.now
payload_view (Fixed32 bytes) = Fields.Fixed32 bytes.now

abbrev pub field_view : Field → Fields.Field
field_view f = record { number = f.number; payload = payload_view f.payload }

-- how many bytes of the input it holds
abbrev pub payload_len : Payload → ℕ
payload_len (Varint value) = 0
payload_len (Fixed64 bytes) = length bytes.now
payload_len (Delimited bytes) = length bytes.now
payload_len (Fixed32 bytes) = length bytes.now
