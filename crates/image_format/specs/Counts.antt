-- The image of counts: each field behind the names is a note.
use Rattle.std.specs.Prelude.{ℕ, ◌+◌, ◌*◌, List, Result, slice_index}
use Rattle.sheet.specs.Calls.{Call, notes, accepted, refusal}
use Rattle.sheet.specs.Causes.{checked}
use Rattle.image_format.specs.declared.fault.ImageFault.{ImageFault}
use Rattle.image_format.specs.declared.kinds.Counts.{Counts}
use Rattle.image_format.specs.Images.{Kind, Described, read}

-- the note in a value: first alarm, second alarm, and the count in two bytes, the more significant first
abbrev pub note_in : List ℕ → Call
note_in v = notes (slice_index v 0) (slice_index v 1) (slice_index v 2 * 256 + slice_index v 3)

-- tag 3, length 4, and what a note makes of the book
abbrev pub counts : Kind Counts
counts = record { tag = 3; size = 4; taken = λ s b v. checked (refusal b (note_in v)) (s, accepted b (note_in v)) }

-- what comes of an image
abbrev pub outcome : List ℕ → Result Described ImageFault
outcome image = read counts (record {}) image
