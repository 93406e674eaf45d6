use Rattle.std.proofs.Common.{arith}
use Rattle.sheet.proofs.Arrays.{front_without}
use Rattle.sheet.proofs.row_array.Rows.remove.Goals as goal

pub returns : goal.returns
returns c = front_without _ _ _ c.self.view_is (omega arith) c.args.at c.requires c.copy_within.new.self c.copy_within.ensures.after
