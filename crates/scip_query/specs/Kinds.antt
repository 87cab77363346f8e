-- The names of kinds (`scip.proto`, SymbolInformation.Kind).
use Rattle.std.specs.Prelude.{ℕ, ℤ, pos, negsuc, ◌==◌, List, codes, ◌++◌, Option, None}
use Rattle.std.specs.List.{slice_split, slice_get}
use Rattle.std.specs.Option.{unwrap_or}
use Rattle.std.specs.Fmt.{signed_decimal}

-- in the order of their numbers, from 0, with one space between them. (No kind has the number 83.)
abbrev pub kind_names : List ℕ
kind_names =
    codes "- Array Assertion AssociatedType Attribute Axiom Boolean Class Constant Constructor DataFamily Enum "
    ++ codes "EnumMember Event Fact Field File Function Getter Grammar Instance Interface Key Lang Lemma Macro "
    ++ codes "Method MethodReceiver Message Module Namespace Null Number Object Operator Package PackageObject "
    ++ codes "Parameter ParameterLabel Pattern Predicate Property Protocol Quasiquoter SelfParameter Setter "
    ++ codes "Signature Subscript String Struct Tactic Theorem ThisParameter Trait Type TypeAlias TypeClass "
    ++ codes "TypeFamily TypeParameter Union Value Variable Contract Error Library Modifier AbstractMethod "
    ++ codes "MethodSpecification ProtocolMethod PureVirtualMethod TraitMethod TypeClassMethod Accessor Delegate "
    ++ codes "MethodAlias SingletonClass SingletonMethod StaticDataMember StaticEvent StaticField StaticMethod "
    ++ codes "StaticProperty StaticVariable 83 Extension Mixin Concept"

abbrev pub kind_name : ℤ → Option (List ℕ)
kind_name (pos number) = slice_get (slice_split (λ b. b == 32) kind_names) number
kind_name (negsuc number) = None

-- its name; the number of one that has none
abbrev pub kind_text : ℤ → List ℕ
kind_text kind = unwrap_or (kind_name kind) (signed_decimal kind)
