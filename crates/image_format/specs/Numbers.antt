-- The number of each cause to refuse an image, and the text of a refusal.
use Rattle.std.specs.Prelude.{ℕ, List, ◌++◌, codes, decimal}
use Rattle.sheet.specs.Numbers.{number_of}
use Rattle.image_format.specs.declared.fault.ImageCause.{ImageCause}
use Rattle.image_format.specs.declared.fault.ImageFault.{ImageFault}
use Rattle.image_format.specs.declared.fault.ImageCause.TheVariants.{Sheet, TooLong, CutShort, Tag, Length, NameByte, SameName, NoName, ShortBuffer}

abbrev pub cause_number : ImageCause → ℕ
cause_number (Sheet f) = number_of f
cause_number TooLong = 30
cause_number CutShort = 31
cause_number Tag = 32
cause_number Length = 33
cause_number NameByte = 34
cause_number SameName = 35
cause_number NoName = 36
cause_number ShortBuffer = 40

-- `refused `, the number, ` at ` and the place; numbers in decimal without leading zeros
abbrev pub refusal_text : ImageFault → List ℕ
refusal_text f = codes "refused " ++ (decimal (cause_number f.cause) ++ (codes " at " ++ decimal f.place))
