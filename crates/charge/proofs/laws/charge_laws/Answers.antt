use Rattle.charge.proofs.Fits.{convex_decides, small_decides}
use Rattle.charge.proofs.Rising.{non_decreasing}
use Rattle.charge.proofs.Strands.{differences_whole, strands_add_up}
use Rattle.charge.proofs.laws.charge_laws.Goals as goal

pub returns : goal.returns
returns c = record {
  own_rows_fair = λ own. own.fair;
  non_decreasing = non_decreasing;
  differences_whole = differences_whole;
  strands_add_up = strands_add_up;
  tests_decide = record { small = small_decides; convex = convex_decides };
}
