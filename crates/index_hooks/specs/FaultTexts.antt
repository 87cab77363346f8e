-- How faults are printed: by the variant's name.
use Rattle.std.specs.Prelude.{ℕ, List, codes}
use Rattle.index_hooks.specs.declared.fault.HookFault.{HookFault}
use Rattle.index_hooks.specs.declared.fault.HookFault.TheVariants.{Full, Memory}

abbrev pub fault_text : HookFault → List ℕ
fault_text Full = codes "Full"
fault_text Memory = codes "Memory"
