-- Enums and services have no fields.
use Rattle.std.proofs.Common.{◌≡◌, ℕ, Option, List, [], ◌∷◌, refl}
use Rattle.std.specs.List.{flat_map}
use Rattle.proto_parse.specs.tree.Enum.{Enum}
use Rattle.proto_parse.specs.tree.Service.{Service}
use Rattle.proto_parse.specs.Parts.{of_enum, of_service}
use Rattle.proto_parse.specs.Parts.Part.{EnumPart, ValuePart, ServicePart, MethodPart}
use Rattle.proto_options.specs.Fields.{extended_in, fields_by}

none_each : {A B : Type 0} (f : A → List B) → ((x : A) → f x ≡ []) → (xs : List A) → flat_map f xs ≡ []
none_each f none [] = refl
none_each f none (x ∷ xs) = rw (none x) (none_each f none xs)

pub no_fields_in_enum : (extended : Option ℕ) (enum : Enum) → of_enum extended_in fields_by extended enum ≡ []
no_fields_in_enum extended enum =
    none_each (λ value. fields_by (extended_in extended (EnumPart enum.heading)) (ValuePart value)) (λ value. refl)
    enum.values

pub no_fields_in_service : (extended : Option ℕ) (service : Service)
    → of_service extended_in fields_by extended service ≡ []
no_fields_in_service extended service =
    none_each (λ method. fields_by (extended_in extended (ServicePart service.heading)) (MethodPart method))
    (λ method. refl) service.methods
