-- The number of each fault, and how it is told.
use Rattle.std.specs.Prelude.{ℕ, List, ◌++◌, codes, decimal}
use Rattle.sheet.specs.declared.fault.Fault.{Fault}
use Rattle.sheet.specs.declared.fault.Fault.TheVariants.{Alarms, Limit, UnknownAlarm, SameAlarm, ZeroCount, PinnedCount, NoRow, CountOverflow, Full, ShortLevels, ChargeLength, ChargeTooLarge, NotConvex, LevelBeyondLimit}

abbrev pub number_of : Fault → ℕ
number_of Alarms = 10
number_of Limit = 11
number_of UnknownAlarm = 12
number_of SameAlarm = 13
number_of ZeroCount = 14
number_of PinnedCount = 15
number_of NoRow = 16
number_of CountOverflow = 17
number_of Full = 18
number_of ShortLevels = 20
number_of ChargeLength = 22
number_of ChargeTooLarge = 23
number_of NotConvex = 24
number_of LevelBeyondLimit = 26

-- `refused ` and the number in decimal
abbrev pub fault_text : Fault → List ℕ
fault_text f = codes "refused " ++ decimal (number_of f)
