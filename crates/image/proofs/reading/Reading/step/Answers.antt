use Rattle.std.proofs.Common.{◌∙◌, arith}
use Rattle.image.specs.Readings.{state_of}
use Rattle.image.proofs.Steps.{step_behind}
use Rattle.image.proofs.reading.Reading.step.Goals as goal

pub returns-then-field-tag : goal.returns-then-field-tag
returns-then-field-tag g c = c.note.ensures ∙ step_behind g.S.Source.kind g.S.Source.apart (state_of c.args.self.now) c.args.field.tag c.args.field.value.now (omega arith)
