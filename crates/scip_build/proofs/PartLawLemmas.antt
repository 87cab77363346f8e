-- The laws of what is built of parts of a tree.
use Rattle.proto_decl.specs.Values.{Seen}
use Rattle.proto_visibility.specs.Kept.{NothingIsLeftOutOfGoodFiles}
use Rattle.proto_link.specs.Laws.{OneDeclarationAName}
use Rattle.option_link.specs.Laws.{TargetsAreReachable}
use Rattle.index_hooks.specs.declared.choice.Choice.{Choice}
use Rattle.scip_model.specs.Laws.{NothingIsRepeated, SymbolsNameOne}
use Rattle.scip_model.specs.Tables.KnownFacts.{AreIdentifiers}
use Rattle.scip_build.specs.Kept.{NothingIsToldOfAGoodTree}
use Rattle.scip_build.specs.Laws.{NoFactsWhereUnreadable, OneBesideAFile, OneListOfFacts, ParsedFilesHaveOwnPaths}
use Rattle.scip_build.specs.Parts.{PartsAreBuiltAlike}
use Rattle.scip_build.proofs.PartGoodLemmas.{AllAreLinked}
use Rattle.scip_build.proofs.PartApartLemmas.{ClearEach, ReadHaveOrigins, apart_externals}
use Rattle.scip_build.proofs.PartBuiltLemmas.{alike, comes_of, paths_are}
use Rattle.scip_build.proofs.PartRefusedLemmas.{never_refused}

-- of files that are read, of trees, and of names
pub record Known (allows : Seen → Choice → Type 0) : Type 0 where
  pub facts : OneListOfFacts
  pub beside : OneBesideAFile
  pub unread : NoFactsWhereUnreadable
  pub told : NothingIsToldOfAGoodTree
  pub left : NothingIsLeftOutOfGoodFiles
  pub linked : AllAreLinked
  pub repeated : NothingIsRepeated
  pub paths : ParsedFilesHaveOwnPaths allows
  pub origins : ReadHaveOrigins allows
  pub clear_each : ClearEach
  pub one_name : OneDeclarationAName
  pub spelled : AreIdentifiers
  pub symbols : SymbolsNameOne
  pub targets : TargetsAreReachable

pub parts_are_built_alike : (allows : Seen → Choice → Type 0) → Known allows → PartsAreBuiltAlike allows
parts_are_built_alike allows known = record {
  never_refused = λ whole is free settings tree of workers reason.
      never_refused known.facts known.beside known.unread known.told known.left known.linked known.repeated allows
      known.paths whole is free settings tree of workers reason;
  parts = λ whole is free part of.
      alike known.facts known.beside known.unread known.told known.left known.linked known.repeated allows known.paths
      whole is free part of;
  paths = λ all is_tree is none. paths_are known.told known.left known.linked allows all is none is_tree;
  apart = λ all is free packages.
      apart_externals known.told known.left known.linked known.one_name known.spelled known.symbols known.targets
      known.clear_each allows known.origins known.paths all is free packages;
  externals = λ whole is free entry listed.
      comes_of known.facts known.beside known.unread known.told known.left known.linked known.repeated allows
      known.paths whole is free entry listed;
}
