-- What is known of a file after it was read.
use Rattle.std.specs.Prelude.{ℕ, Bool, Result, Option, List}
use Rattle.proto_decl.specs.Facts.{Facts}
use Rattle.option_link.specs.declared.facts.OptionFacts.{OptionFacts}
use Rattle.index_hooks.specs.declared.choice.Choice.{Choice}
use Rattle.scip_build.specs.declared.fault.FileFault.{FileFault}

-- The contents of a file that can be read: its text, its facts, the choice for each of its declarations, and what is
-- known beside its facts, if it is asked for.
pub record FileContents : Type 0 where
  pub text : List ℕ
  pub facts : Facts
  pub choices : List Choice
  pub beside : Option OptionFacts

-- A file after it was read: its contents, or why it has none, whether it is left out of what is linked, and whether
-- names in its options are linked.
pub record ReadFile : Type 0 where
  pub path : List ℕ
  pub is_included : Bool
  pub is_left_out : Bool
  pub links_options : Bool
  pub contents : Result FileContents FileFault
