-- What becomes of the places of folders, by what was answered of the pages made in one.
use Rattle.std.proofs.Common.{ℕ, List, Option}
use Rattle.std.specs.Prelude.{Result}
use Rattle.streams.specs.Writers.{Writer}
use Rattle.scip_records.specs.declared.records.Index.{Index}
use Rattle.scip_site.specs.declared.site_fault.SiteFault.{SiteFault}
use Rattle.programs.specs.Paging.{FolderPlaces, Fills, Finishes, MakesIn, filled, refused, unmade}
use Rattle.programs.specs.Paging.Finishes.{folder_is_put, folder_is_refused, folder_is_unmade}

module _ {P F M : Type 0} (gives : List ℕ → Option (List ℕ) → Type 0) (root out : List ℕ) (index : Index)
    (places : FolderPlaces P F) (messages : Writer M) (begun whole : F) where
  pub fills : (made done : Result (Unit {0}) SiteFault) → MakesIn gives root index places begun whole messages made
      → Finishes places out whole made done → Fills gives root out index places messages done
  fills _ _ makes (folder_is_put put) = filled begun whole makes put
  fills _ _ makes (folder_is_refused left) = refused begun whole makes left
  fills _ _ makes (folder_is_unmade left) = unmade begun whole makes left
