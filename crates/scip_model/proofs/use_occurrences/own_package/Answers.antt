use Rattle.std.proofs.Common.{◌≡◌, ◌∙◌, sym, ℕ}
use Rattle.proto_visibility.specs.declared.lookup.Entity.TheVariants.{Declared, Package}
use Rattle.scip_model.proofs.use_occurrences.own_package.Goals as goal

same_package : {m n : ℕ} → Package m ≡ Package n → m ≡ n
same_package h = cc

not_declared : {file index count : ℕ} → Declared file index ≡ Package count → ⊥
not_declared h = cc

pub returns-in-Package : goal.returns-in-Package
returns-in-Package c = λ count is. same_package (sym c.in-Package.is ∙ is)

pub returns-in-Declared : goal.returns-in-Declared
returns-in-Declared c = λ count is. absurd (not_declared (sym c.in-Declared.is ∙ is))
