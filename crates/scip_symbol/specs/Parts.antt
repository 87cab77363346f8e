-- Which parts have a spelling (`scip.proto`, the comment of `Symbol`).
use Rattle.std.specs.Prelude.{◌≡◌, ◌≢◌, ℕ, true, List, [], ◌∷◌, ◌++◌, codes, All}
use Rattle.std.specs.List.{list_all}
use Rattle.scip_symbol.specs.Names.{is_identifier_character, is_simple_identifier, space}
use Rattle.scip_symbol.specs.declared.symbol.Suffix.{Suffix}
use Rattle.scip_symbol.specs.declared.symbol.Suffix.TheVariants.{Namespace, «Type», Term, Meta, Macro, Method}
use Rattle.scip_symbol.specs.declared.symbol.Suffix.TheVariants.{TypeParameter, Parameter}
use Rattle.scip_symbol.specs.declared.symbol.Descriptor.{Descriptor}
use Rattle.scip_symbol.specs.declared.symbol.GlobalSymbol.{GlobalSymbol}
use Rattle.scip_symbol.specs.declared.symbol.SymbolParts.{SymbolParts}
use Rattle.scip_symbol.specs.declared.symbol.SymbolParts.TheVariants.{Local, Global}

-- "must not be empty nor start with 'local'"; that it doesn't begin with a space is the profile's
pub record IsScheme (scheme : List ℕ) : Type 0 where
  pub some : scheme ≢ []
  pub no_space_first : (rest : List ℕ) → scheme ≢ space ∷ rest
  pub not_local : (rest : List ℕ) → scheme ≢ codes "local" ++ rest

-- A manager, a name or a version, which may be empty: `.` stands for the empty one, so none is the text `.`; that it
-- doesn't begin with a space is the profile's too.
pub record IsPart (part : List ℕ) : Type 0 where
  pub no_space_first : (rest : List ℕ) → part ≢ space ∷ rest
  pub no_dot : part ≢ codes "."

-- a method's disambiguator is a simple identifier, or there is none
abbrev pub IsSuffix : Suffix → Type 0
IsSuffix Namespace = Unit {0}
IsSuffix «Type» = Unit {0}
IsSuffix Term = Unit {0}
IsSuffix Meta = Unit {0}
IsSuffix Macro = Unit {0}
IsSuffix (Method disambiguator) = list_all is_identifier_character disambiguator ≡ true
IsSuffix TypeParameter = Unit {0}
IsSuffix Parameter = Unit {0}

-- "identifier: at least one character"
pub record IsDescriptor (d : Descriptor) : Type 0 where
  pub name : d.name ≢ []
  pub suffix : IsSuffix d.suffix

pub record IsGlobal (s : GlobalSymbol) : Type 0 where
  pub scheme : IsScheme s.scheme
  pub manager : IsPart s.manager
  pub name : IsPart s.name
  pub version : IsPart s.version
  pub some : s.descriptors ≢ []
  pub descriptors : All IsDescriptor s.descriptors

abbrev pub IsSymbol : SymbolParts → Type 0
IsSymbol (Local name) = is_simple_identifier name ≡ true
IsSymbol (Global s) = IsGlobal s
