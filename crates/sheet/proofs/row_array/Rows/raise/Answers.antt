use Rattle.std.proofs.Common.{set, ap, ◌∙◌, arith}
use Rattle.std.proofs.lemmas.Result.{on_ok_weaker}
use Rattle.sheet.specs.Rows.{raised}
use Rattle.sheet.proofs.Arrays.{front_set, row_here}
use Rattle.sheet.proofs.row_array.Rows.raise.Goals as goal

pub returns-clause-raised : goal.returns-clause-raised
returns-clause-raised c =
    let i = c.args.at in
    on_ok_weaker c.raise.result
    (λ e. front_set _ _ _ c.self.view_is (omega arith) i c.requires _ ∙ ap (set c.args.self.now i) (e ∙ ap (raised c.args.by) (row_here _ _ _ c.self.view_is (omega arith) i c.requires)))
    c.raise.ensures.raised
