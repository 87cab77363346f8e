-- Laws of names, symbols and targets: what the headline rests on.
use Rattle.std.specs.Prelude.{◌≢◌, List, [], All}
use Rattle.proto_decl.specs.Names.{IsSimple}
use Rattle.proto_decl.specs.Facts.{Facts, AreOfSomeFile}
use Rattle.proto_decl.specs.Laws.{AreNamed, AreHeld}
use Rattle.proto_link.specs.Laws.{OneDeclarationAName}
use Rattle.option_link.specs.Laws.{TargetsAreReachable}
use Rattle.scip_symbol.specs.OneEntity.{IsWithoutClash, declarations_of, AreWithoutClash}
use Rattle.scip_model.specs.Laws.{SymbolsNameOne}
use Rattle.protoscip.specs.UseLaws.{EachUseHasATarget, EachOptionNameHasParts}

-- Names are identifiers, and what holds a declaration is declared; a full name is that of one declaration, and a
-- symbol's text that of one entity; each use that names a type has a target, and each component of a name in an option
-- names an entity, if the name names something, which is in a reachable file.
pub record LawsOfNames : Type 0 where
  pub named : (facts : Facts) → AreOfSomeFile facts → AreNamed facts.package_name facts.declarations
  pub paths : (facts : Facts) → AreOfSomeFile facts → All (λ declaration. declaration.path ≢ []) facts.declarations
  pub held : (facts : Facts) → AreOfSomeFile facts → AreHeld facts.package_name facts.declarations
  pub simple : (facts : Facts) → AreOfSomeFile facts → All (λ component. IsSimple component.name) facts.package_name
  pub one_name : OneDeclarationAName
  pub unclashed : (files : List Facts) → AreWithoutClash files → IsWithoutClash (declarations_of files)
  pub symbols : SymbolsNameOne
  pub targets : EachUseHasATarget
  pub in_options : EachOptionNameHasParts
  pub reachable : TargetsAreReachable
