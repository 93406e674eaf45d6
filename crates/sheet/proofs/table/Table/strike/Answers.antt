use Rattle.std.proofs.Common.{sym, ◌∙◌}
use Rattle.std.proofs.lemmas.List.Quantifiers.{position-Some}
use Rattle.sheet.specs.Rows.{blank, is_of}
use Rattle.sheet.proofs.Calls.{strikes_found}
use Rattle.sheet.proofs.table.Table.strike.Goals as goal

pub remove-requires : goal.remove-requires
remove-requires c i e = (position-Some (is_of c.args.first c.args.second) _ i blank (sym c.find-at.ensures ∙ e)).0

pub returns-clause-does : goal.returns-clause-does
returns-clause-does c =
    strikes_found _ c.requires c.args.first c.args.second (sym c.check_pair.ensures ∙ c.in_ok-check_pair.was)
    _ c.find-at.result c.remove.result c.find-at.ensures c.remove.ensures.some c.remove.ensures.none
