use Rattle.proto_parse.proofs.Found.Files.{as_relation}
use Rattle.proto_parse.proofs.Walk.Marks.{items_among, imports_among, package_among}
use Rattle.proto_parse.proofs.Walk.Package.{package_among_items}
use Rattle.proto_parse.proofs.laws.spans_of_tokens.Goals as goal

pub returns-clause-items : goal.returns-clause-items
returns-clause-items c = λ text tokens file d. items_among file (as_relation d.1)

pub returns-clause-imports : goal.returns-clause-imports
returns-clause-imports c = λ text tokens file d. imports_among file (as_relation d.1)

pub returns-clause-package_name : goal.returns-clause-package_name
returns-clause-package_name c = λ text tokens file d. package_among file (as_relation d.1)

pub returns-clause-package_place : goal.returns-clause-package_place
returns-clause-package_place c = λ text tokens file d. package_among_items file (as_relation d.1)
