use Rattle.std.proofs.Common.{◌≡◌, ◌+◌, ◌≤◌, length}
use Rattle.image_format.specs.Fields.{max_image}
use Rattle.image_format.specs.Images.{read}
use Rattle.image.specs.Readings.{fields_noted, state_of}
use Rattle.image.specs.Shown.{fields_left}
use Rattle.image.proofs.InTurn.{read_fields}
use Rattle.image.proofs.loading.load_from.Given as goal

abbrev pub invariant-loop-field : goal.invariant-loop-field
invariant-loop-field g l =
    (goal.iterator-loop-field g).can_next l.field-iterator
    × (goal.iterator-loop-field g).is_finite l.field-iterator
    × (length l.image ≤ max_image)
    × (fields_noted (state_of l.reading) + length l.field-iterator.rest.now ≤ length l.image)
    × (read_fields g.S.Source.kind (state_of l.reading) (length l.image) (fields_left l.field-iterator) ≡ read g.S.Source.kind l.fn.source l.image)
