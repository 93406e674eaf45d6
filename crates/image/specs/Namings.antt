-- What is told of an alarm's name.
use Rattle.std.specs.Prelude.{◌≡◌, ℕ, ◌+◌, List, [], ◌∷◌, map, length, take, drop, Ok, Err, Result, nat_le, slice_index_or}
use Rattle.std.specs.Result.{result_map_both}
use Rattle.sheet.specs.Causes.{◌if◌, past}
use Rattle.sheet.specs.declared.fault.Fault.TheVariants.{UnknownAlarm}
use Rattle.image_format.specs.declared.fault.ImageCause.TheVariants.{Sheet}
use Rattle.image_format.specs.declared.fault.ImageFault.{ImageFault}
use Rattle.image_format.specs.Contents.{Content, Holds, limit_field, name_field}
use Rattle.image_format.specs.Counts.{outcome}
use Rattle.image_format.specs.Fields.{encoding}
use Rattle.image.specs.declared.names.Name.{Name}

-- a part of an image: its bytes, and the place of the first of them
pub record Part : Type 0 where
  pub bytes : List ℕ
  pub place : ℕ

abbrev pub part_of : Name → Part
part_of n = record { bytes = n.bytes.now; place = n.place }

-- the name of an alarm; before it stand the fields of the limit and of the names before, and its own field's header of three
abbrev pub name_part : Content → ℕ → Part
name_part c a = record { bytes = slice_index_or c.names a []; place = length (encoding (limit_field c.limit ∷ map name_field (take a c.names))) + 3 }

-- the alarm has no name
abbrev pub unknown_alarm : ImageFault
unknown_alarm = record { cause = Sheet UnknownAlarm; place = 0 }

-- one question for the name of the alarm a, and its answer
pub record Names (image : List ℕ) (a : ℕ) (r : Result Name ImageFault) : Type 0 where
  -- what load refuses is refused likewise
  pub refused : (f : ImageFault) → outcome image ≡ Err f → r ≡ Err f
  -- else the name is told, or refused where there is none
  pub told : (c : Content) → Holds image c → result_map_both part_of (λ f. f) r ≡ past ((unknown_alarm if nat_le (length c.names) a) ∷ []) (Ok (name_part c a))
  -- and lies in the image, at its place
  pub part : (n : Name) → r ≡ Ok n → n.bytes.now ≡ take (length n.bytes.now) (drop n.place image)
