use Rattle.sheet.proofs.Calls.{sound_does}
use Rattle.sheet.proofs.sheet.Sheet.strike.Goals as goal

pub invariant_of-self : goal.invariant_of-self
invariant_of-self c = record { sound = sound_does c.args.self.now _ _ _ c.strike.ensures.does }
