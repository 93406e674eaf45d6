-- What the program tells of an image.
use Rattle.std.specs.Prelude.{◌≡◌, ℕ, ◌≤◌, List, length, replicate, Ok, Err, Result}
use Rattle.sheet.specs.Books.{Book, max_alarms}
use Rattle.charge.specs.Charges.{plain}
use Rattle.charge.specs.Costs.{Placement, cost, listed}
use Rattle.image_format.specs.declared.fault.ImageFault.{ImageFault}
use Rattle.image_format.specs.Contents.{Content, Holds, described}
use Rattle.image_format.specs.Counts.{outcome}
use Rattle.image_summary.specs.declared.Summary.{Summary}

-- level 0 for as many alarms as a sheet can have
abbrev pub all_on_top : List ℕ
all_on_top = replicate max_alarms 0

-- these levels are a placement
abbrev pub FitsTop : Book → Type 0
FitsTop b = (b.n ≤ length all_on_top) × Placement b (listed all_on_top)

-- what it costs under the plain charge that all alarms are on level 0
abbrev pub top_cost : Book → ℕ
top_cost b = cost b plain (λ v. 0)

-- the numbers of alarms, rows and notes, and that cost
abbrev pub summary_of : Content → Summary
summary_of c = record { alarms = length c.names; rows = length (described c).rows; notes = length c.notes; cost = top_cost (described c) }

pub record SumsUp (image : List ℕ) (r : Result Summary ImageFault) : Type 0 where
  -- what load refuses is refused likewise
  pub refused : (f : ImageFault) → outcome image ≡ Err f → r ≡ Err f
  -- else the content of the image is summed up
  pub told : (c : Content) → Holds image c → r ≡ Ok (summary_of c)
