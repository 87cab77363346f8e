-- Filters and rules are asked apart.
use Rattle.index_hooks.proofs.registry.RegistryChooses.choose_by.Goals as goal

pub returns : goal.returns
returns g c = record {
  keep = rw (← c.as_slice-filters.ensures) c.keeps-keep.ensures.keeps;
  doc = rw (← c.as_slice.ensures) c.documents-doc.ensures;
}
