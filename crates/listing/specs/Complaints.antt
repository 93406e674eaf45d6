-- The line that tells a refusal.
use Rattle.std.specs.Prelude.{ℕ, List, ◌++◌, codes}
use Rattle.image_format.specs.Numbers.{refusal_text}
use Rattle.image_format.specs.declared.fault.ImageFault.{ImageFault}

-- `refused `, the number, ` at `, the place and a line feed
abbrev pub complaint : ImageFault → List ℕ
complaint f = refusal_text f ++ codes "\n"
