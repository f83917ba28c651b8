-- Which errors of std are want of memory of this program.
use Rattle.std.specs.Prelude.{◌≡◌, None}
use Rattle.std.specs.IoError.{error_kind, raw_os_error}
use Rattle.std.specs.declared.io.Error.{Error}
use Rattle.std.specs.declared.io.ErrorKind.TheVariants.{OutOfMemory}

-- An allocation was refused. Where the system lacked memory, the error has a number of the system, and is a fault.
abbrev pub IsRefusedMemory : Error → Type 0
IsRefusedMemory error = (error_kind error ≡ OutOfMemory) × (raw_os_error error ≡ None)
