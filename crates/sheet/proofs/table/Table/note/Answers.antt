use Rattle.std.proofs.Common.{sym, ap, ◌∙◌}
use Rattle.std.proofs.lemmas.Result.{on_err_weaker, on_ok_weaker}
use Rattle.sheet.specs.Books.{with_rows}
use Rattle.sheet.specs.Tables.{table_book}
use Rattle.sheet.proofs.Calls.{note_adds_row, note_raises_row}
use Rattle.sheet.proofs.table.Table.note.Goals as goal

pub returns-in-Some-clause-does : goal.returns-in-Some-clause-does
returns-in-Some-clause-does c =
    note_raises_row _ c.requires c.args.first c.args.second (sym c.check_pair.ensures ∙ c.in_ok-check_pair.was)
    c.args.count c.in_ok-count.count (sym c.true_count.ensures ∙ c.in_ok-count.was)
    _ c.raise.result c.in-Some.at (sym c.find.ensures ∙ c.in-Some.is) c.raise.ensures.answered
    (on_ok_weaker c.raise.result (ap (with_rows (table_book c.args.self.now))) c.raise.ensures.raised)
    (on_err_weaker c.raise.result (ap (with_rows (table_book c.args.self.now))) c.raise.ensures.kept)

pub returns-in-None-clause-does : goal.returns-in-None-clause-does
returns-in-None-clause-does c =
    note_adds_row _ c.requires c.args.first c.args.second (sym c.check_pair.ensures ∙ c.in_ok-check_pair.was)
    c.args.count c.in_ok-count.count (sym c.true_count.ensures ∙ c.in_ok-count.was)
    _ c.push.result (sym c.find.ensures ∙ c.in-None.is) c.push.ensures.answered
    (on_ok_weaker c.push.result (ap (with_rows (table_book c.args.self.now))) c.push.ensures.pushed)
    (on_err_weaker c.push.result (ap (with_rows (table_book c.args.self.now))) c.push.ensures.kept)
