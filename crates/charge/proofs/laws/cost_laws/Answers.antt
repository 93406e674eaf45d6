use Rattle.charge.proofs.Costs.{best_unique, cost_bounded, equal_levels_cost, others_ignored, placed_decides, plain_is_agony, rest_ignored}
use Rattle.charge.proofs.laws.cost_laws.Goals as goal

pub returns : goal.returns
returns c = record {
  equal_levels_cost = equal_levels_cost;
  plain_is_agony = plain_is_agony;
  others_ignored = others_ignored;
  rest_ignored = rest_ignored;
  cost_bounded = cost_bounded;
  best_unique = best_unique;
  placed_decides = placed_decides;
}
