-- The state that a reading of the code stands for. No public contract cites this file.
use Rattle.std.specs.Prelude.{ℕ, List, [], ◌∷◌, ◌&&◌, ◌==◌, nat_le, nat_lt, not, length, map, if◌then◌else◌, Result, Err, slice_index}
use Rattle.std.specs.Result.{result_map_both}
use Rattle.sheet.specs.Books.{Book}
use Rattle.sheet.specs.Sheets.{book_of}
use Rattle.sheet.specs.Causes.{◌if◌, past}
use Rattle.image_format.specs.declared.fault.ImageCause.{ImageCause}
use Rattle.image_format.specs.declared.fault.ImageFault.{ImageFault}
use Rattle.image_format.specs.declared.fault.ImageCause.TheVariants.{Length, Tag}
use Rattle.image_format.specs.Names.{max_name}
use Rattle.image_format.specs.Images.{Kind, State, start, naming, noting, opened, limited, named as name_said, noted, Described}
use Rattle.image.specs.declared.reading.Stage.{Stage}
use Rattle.image.specs.declared.reading.Stage.TheVariants.{Start, Naming as InNaming, Noting as InNoting}
use Rattle.image.specs.declared.reading.Reading.{Reading}

-- the state that a reading stands for, by its source, its sheet and what is told so far
abbrev pub state_in : {S : Type 0} → S → Book → Stage → State S
state_in s b Start = start s
state_in s b (InNaming names) = naming s b.k (map (λ x. x.now) names.items)
state_in s b (InNoting fields) = noting s b fields

abbrev pub state_of : {S : Type 0} → Reading S → State S
state_of r = state_in r.source (book_of r.sheet) r.stage

-- how many fields behind the names there were
abbrev pub fields_noted : {S : Type 0} → State S → ℕ
fields_noted (start s) = 0
fields_noted (naming s k names) = 0
fields_noted (noting s b m) = m

-- what a call that answers r and leaves the state s says of a step
abbrev pub told : {S : Type 0} → Result (Unit {0}) ImageCause → State S → Result (State S) ImageCause
told r s = result_map_both (λ u. s) (λ c. c) r

-- what the format says of a value, whatever its length: of a limit,
abbrev pub limit_told : {S : Type 0} → State S → List ℕ → Result (State S) ImageCause
limit_told (start s) v = past ((Length if not (length v == 1)) ∷ []) (limited s (slice_index v 0))
limit_told (naming s k names) v = Err Tag
limit_told (noting s b m) v = Err Tag

-- of a name,
abbrev pub name_told : {S : Type 0} → State S → List ℕ → Result (State S) ImageCause
name_told (start s) v = Err Tag
name_told (naming s k names) v =
    past ((Length if not (nat_le 1 (length v) && nat_le (length v) max_name)) ∷ []) (name_said s k names v)
name_told (noting s b m) v = Err Tag

-- and of a field behind the names
abbrev pub note_told : {S : Type 0} → Kind S → State S → List ℕ → Result (State S) ImageCause
note_told K (start s) v = Err Tag
note_told K (naming s k names) v = Err Tag
note_told K (noting s b m) v = past ((Length if not (length v == K.size)) ∷ []) (noted m (K.taken s b v))

-- the state behind the names: the sheet is opened for them, if there are any
abbrev pub behind : {S : Type 0} → State S → State S
behind (start s) = start s
behind (naming s k names) = if nat_lt 0 (length names) then noting s (opened (length names) k) 0 else naming s k names
behind (noting s b m) = noting s b m

-- what was read, as what its image describes
abbrev pub described_at : {S : Type 0} → Reading S → Result ℕ ImageFault → Result Described ImageFault
described_at r o = result_map_both (λ m. record { book = book_of r.sheet; fields = m }) (λ f. f) o
