use Rattle.std.proofs.Common.{refl}
use Rattle.charge.proofs.Exhaustive.{gives}
use Rattle.charge.proofs.examples.worked_examples.Goals as goal

-- each book is entered, and every placement of it tried
pub returns : goal.returns
returns c = record {
  ring_in_three = gives _ _ _ _ refl refl;
  ring_in_two = gives _ _ _ _ refl refl;
  ring_in_one = gives _ _ _ _ refl refl;
  ring_steep = gives _ _ _ _ refl refl;
  ring_doubling = gives _ _ _ _ refl refl;
  heavier_ring = gives _ _ _ _ refl refl;
  chain_in_two = gives _ _ _ _ refl refl;
  no_rows = gives _ _ _ _ refl refl;
  both_ways = gives _ _ _ _ refl refl;
}
