-- The call that a step of the program names.
use Rattle.sheet.specs.Calls.{Call, opens, notes, strikes}
use Rattle.levels.specs.declared.Step.{Step}
use Rattle.levels.specs.declared.Step.TheVariants.{Open, Note, Strike}

abbrev pub call_of : Step → Call
call_of (Open alarms limit) = opens alarms limit
call_of (Note first second count) = notes first second count
call_of (Strike first second) = strikes first second
