-- What it is to write a text to a caller's buffer.
use Rattle.std.specs.Prelude.{◌≡◌, ℕ, List, [], ◌∷◌, ◌++◌, length, drop, Ok, Result, OnOk, OnErr, nat_lt}
use Rattle.sheet.specs.Causes.{◌if◌, past}
use Rattle.image_format.specs.declared.fault.ImageCause.TheVariants.{ShortBuffer}
use Rattle.image_format.specs.declared.fault.ImageFault.{ImageFault}

-- the out buffer is too short
abbrev pub short_buffer : ImageFault
short_buffer = record { cause = ShortBuffer; place = 0 }

-- The text stands at the front of the buffer, and what lay behind it is as it was; or the buffer is too short for it, and
-- then all of it is as it was.
pub record Writes (text before : List ℕ) (r : Result ℕ ImageFault) (after : List ℕ) : Type 0 where
  -- its length, or the refusal
  pub answered : r ≡ past ((short_buffer if nat_lt (length before) (length text)) ∷ []) (Ok (length text))
  pub written : OnOk r (after ≡ text ++ drop (length text) before)
  pub kept : OnErr r (after ≡ before)
