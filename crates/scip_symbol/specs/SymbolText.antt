-- The spelling of a symbol that the printer gives: backticks only if they are needed.
use Rattle.std.specs.Prelude.{ℕ, List, [], ◌∷◌, ◌++◌, codes, if◌then◌else◌}
use Rattle.std.specs.List.{flat_map}
use Rattle.scip_symbol.specs.Names.{is_simple_identifier, doubled, space, backtick}
use Rattle.scip_symbol.specs.declared.symbol.Suffix.{Suffix}
use Rattle.scip_symbol.specs.declared.symbol.Suffix.TheVariants.{Namespace, «Type», Term, Meta, Macro, Method}
use Rattle.scip_symbol.specs.declared.symbol.Suffix.TheVariants.{TypeParameter, Parameter}
use Rattle.scip_symbol.specs.declared.symbol.Descriptor.{Descriptor}
use Rattle.scip_symbol.specs.declared.symbol.GlobalSymbol.{GlobalSymbol}
use Rattle.scip_symbol.specs.declared.symbol.SymbolParts.{SymbolParts}
use Rattle.scip_symbol.specs.declared.symbol.SymbolParts.TheVariants.{Local, Global}

abbrev pub part_text : List ℕ → List ℕ
part_text [] = codes "."
part_text (b ∷ others) = doubled space (b ∷ others)

abbrev pub name_text : List ℕ → List ℕ
name_text name = if is_simple_identifier name then name else codes "`" ++ doubled backtick name ++ codes "`"

-- what comes before the name
abbrev pub front_text : Suffix → List ℕ
front_text Namespace = []
front_text «Type» = []
front_text Term = []
front_text Meta = []
front_text Macro = []
front_text (Method disambiguator) = []
front_text TypeParameter = codes "["
front_text Parameter = codes "("

-- what comes after it
abbrev pub suffix_text : Suffix → List ℕ
suffix_text Namespace = codes "/"
suffix_text «Type» = codes "#"
suffix_text Term = codes "."
suffix_text Meta = codes ":"
suffix_text Macro = codes "!"
suffix_text (Method disambiguator) = codes "(" ++ disambiguator ++ codes ")."
suffix_text TypeParameter = codes "]"
suffix_text Parameter = codes ")"

abbrev pub descriptor_text : Descriptor → List ℕ
descriptor_text d = front_text d.suffix ++ name_text d.name ++ suffix_text d.suffix

abbrev pub descriptors_text : List Descriptor → List ℕ
descriptors_text = flat_map descriptor_text

abbrev pub global_text : GlobalSymbol → List ℕ
global_text s =
    doubled space s.scheme ++ codes " " ++ part_text s.manager ++ codes " " ++ part_text s.name ++ codes " "
    ++ part_text s.version ++ codes " "
    ++ descriptors_text s.descriptors

abbrev pub symbol_text : SymbolParts → List ℕ
symbol_text (Local name) = codes "local " ++ name
symbol_text (Global s) = global_text s
