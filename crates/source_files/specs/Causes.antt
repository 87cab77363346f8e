-- Why the system refuses what it is asked for, by its kinds of errors, and its usual words.
use Rattle.std.specs.Prelude.{ℕ, List, codes}
use Rattle.std.specs.declared.io.ErrorKind.{ErrorKind}
use Rattle.std.specs.declared.io.ErrorKind.TheVariants as kind
use Rattle.source_files.specs.declared.cause.Cause.{Cause}
use Rattle.source_files.specs.declared.cause.Cause.TheVariants.{NoSpace, NoShare, NotAllowed, NotThere, ClosedPipe}
use Rattle.source_files.specs.declared.cause.Cause.TheVariants.{IsFolder, NoFolder, TooLong, ReadOnly, BadName}
use Rattle.source_files.specs.declared.cause.Cause.TheVariants.{TooManyLinks, IsThere, NotEmpty, Other}

abbrev pub cause_of : ErrorKind → Cause
cause_of kind.StorageFull = NoSpace
cause_of kind.QuotaExceeded = NoShare
cause_of kind.PermissionDenied = NotAllowed
cause_of kind.NotFound = NotThere
cause_of kind.BrokenPipe = ClosedPipe
cause_of kind.IsADirectory = IsFolder
cause_of kind.NotADirectory = NoFolder
cause_of kind.FileTooLarge = TooLong
cause_of kind.ReadOnlyFilesystem = ReadOnly
cause_of kind.InvalidFilename = BadName
cause_of kind.FilesystemLoop = TooManyLinks
cause_of kind.AlreadyExists = IsThere
cause_of kind.DirectoryNotEmpty = NotEmpty
cause_of _ = Other

-- (strerror, ISO C and POSIX, without the capital letter)
abbrev pub words_of : Cause → List ℕ
words_of NoSpace = codes "no space left on device"
words_of NoShare = codes "disk quota exceeded"
words_of NotAllowed = codes "permission denied"
words_of NotThere = codes "no such file or directory"
words_of ClosedPipe = codes "broken pipe"
words_of IsFolder = codes "is a directory"
words_of NoFolder = codes "not a directory"
words_of TooLong = codes "file too large"
words_of ReadOnly = codes "read-only file system"
words_of BadName = codes "file name too long or invalid"
words_of TooManyLinks = codes "too many levels of symbolic links"
words_of IsThere = codes "file exists"
words_of NotEmpty = codes "directory not empty"
words_of Other = codes "input/output error, or another error of the system"
