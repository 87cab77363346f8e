-- A tree that is indexed in parts: what is built of them is a whole's shards, of which the join is its index.
use Rattle.std.specs.Prelude.{◌≢◌, None, List, [], map, flat_map, Contains}
use Rattle.std.specs.List.Sorted.{IsPermutation}
use Rattle.proto_decl.specs.Values.{Seen}
use Rattle.index_hooks.specs.declared.choice.Choice.{Choice}
use Rattle.scip_records.specs.declared.records.Index.{Index}
use Rattle.scip_model.specs.Packages.{ArePackages}
use Rattle.scip_build.specs.Parts.{BuiltTree, IsBuiltPart, IsBuiltTree, IsFaultless, source_paths}
use Rattle.scip_join.specs.Joined.{IsJoin}
use Rattle.scip_join.specs.Laws.{AreShards}

abbrev pub index_of : BuiltTree → Index
index_of all = all.built.index

-- The trees are parts of the whole. The paths of their sources, one list after the other, are those of its sources in
-- some order: so each of its sources is one of just one part.
pub record AreBuiltParts (allows : Seen → Choice → Type 0) (whole : BuiltTree) (is : IsBuiltTree allows whole)
    (parts : List BuiltTree) : Type 0 where
  pub some : parts ≢ []
  pub each : (part : BuiltTree) → Contains parts part → IsBuiltPart allows whole is part
  pub parted : IsPermutation (flat_map (λ (part : BuiltTree). source_paths part.tree) parts) (source_paths whole.tree)

-- The laws of such parts of a tree without faults.
pub record PartsMakeTheWhole (allows : Seen → Choice → Type 0) : Type 0 where
  -- their indexes are shards of its index;
  pub shards : (whole : BuiltTree) (is : IsBuiltTree allows whole) → IsFaultless allows whole is
      → (parts : List BuiltTree) → AreBuiltParts allows whole is parts
      → AreShards whole.built.index (map index_of parts)
  -- and so it is their join
  pub join : (whole : BuiltTree) (is : IsBuiltTree allows whole) → IsFaultless allows whole is
      → ArePackages whole.settings.«package» → (parts : List BuiltTree) → AreBuiltParts allows whole is parts
      → IsJoin None (map index_of parts) whole.built.index
