-- The status with which a program ends whose words give no options.
use Rattle.std.specs.Prelude.{ℕ}
use Rattle.clap.specs.declared.error.kind.ErrorKind.{ErrorKind}
use Rattle.clap.specs.declared.error.kind.ErrorKind.TheVariants as kind

-- 0 where help or the version was asked for, 3 for want of memory, 64 for wrong words
abbrev pub status_of : ErrorKind → ℕ
status_of kind.DisplayHelp = 0
status_of kind.DisplayVersion = 0
status_of kind.OutOfMemory = 3
status_of k = 64
