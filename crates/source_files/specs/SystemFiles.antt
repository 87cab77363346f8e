-- What is made of an answer of the system.
use Rattle.std.specs.Prelude.{◌≡◌, ◌≢◌, Option, Some, None, Result, Ok, Err}
use Rattle.std.specs.IoError.{error_kind}
use Rattle.std.specs.declared.alloc.AllocError.{AllocError}
use Rattle.std.specs.declared.io.Error.{Error}
use Rattle.std.specs.declared.io.ErrorKind.TheVariants.{OutOfMemory}

-- what it gave; memory ran out where its error is of that kind, and at no other; else nothing can be read
abbrev pub IsGiven : {A : Type 0} → Result A Error → Result (Option A) AllocError → Type 0
IsGiven (Ok value) given = given ≡ Ok (Some value)
IsGiven (Err error) (Ok (Some value)) = ⊥
IsGiven (Err error) (Ok None) = error_kind error ≢ OutOfMemory
IsGiven (Err error) (Err refused) = error_kind error ≡ OutOfMemory
