use Rattle.image.proofs.Loads.{loads}
use Rattle.image.proofs.loading.load.Goals as goal

pub returns-clause-loads : goal.returns-clause-loads
returns-clause-loads c = loads c.args.image.now _ _ _ c.type_inv.image c.load_from.ensures.answered c.load_from.ensures.leaves
