use Rattle.surface_tests.proofs.EntityConditions.{two_components}
use Rattle.surface_tests.proofs.entities.package_text.Goals as goal

pub package_symbol-requires : goal.package_symbol-requires
package_symbol-requires c = two_components c.component-a.result.name c.component-b.result.name c.component-a.ensures c.component-b.ensures
