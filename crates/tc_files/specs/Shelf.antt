-- What a shelf over a folder shows.
use Rattle.std.specs.Prelude.{ℕ, Bool, Option}
use Rattle.std.specs.declared.io.Error.{Error}
use Rattle.tc_files.specs.declared.shelf.FileShelf.{FileShelf}

-- its member `faults`
abbrev pub shelf_faults : FileShelf → ℕ
shelf_faults shelf = shelf.faults

-- the error of the last kit that was not given for a fault
abbrev pub shelf_error : FileShelf → Option Error
shelf_error shelf = shelf.last_error

-- it makes the folders that are missing; else it makes none
abbrev pub makes_folders : FileShelf → Bool
makes_folders shelf = shelf.makes_folders
