-- Whether a slave table keeps the sleep bytes of its file, by the code's word for it.
use Rattle.std.specs.Prelude.{Bool, true, false}
use Rattle.convert.specs.declared.table.SleepBytes.{SleepBytes}
use Rattle.convert.specs.declared.table.SleepBytes.TheVariants as bytes

abbrev pub is_kept : SleepBytes → Bool
is_kept bytes.Kept = true
is_kept bytes.AllAwake = false
