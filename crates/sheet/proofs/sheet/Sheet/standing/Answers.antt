use Rattle.std.proofs.Common.{◌<◌, ◌^◌, ◌==◌, sym, subst}
use Rattle.sheet.specs.Rows.{total_first, total_second}
use Rattle.sheet.specs.Sheets.{book_of}
use Rattle.sheet.proofs.Books.{counts_fit}
use Rattle.sheet.proofs.sheet.Sheet.standing.Goals as goal

pub totals-requires-clause-first_fits : goal.totals-requires-clause-first_fits
totals-requires-clause-first_fits c =
    subst (λ rs. total_first c.args.alarm rs < 2 ^ 32) (sym c.rows.ensures) (counts_fit (book_of c.args.self.now) c.args.self.now.sound (λ r. r.first == c.args.alarm))

pub totals-requires-clause-second_fits : goal.totals-requires-clause-second_fits
totals-requires-clause-second_fits c =
    subst (λ rs. total_second c.args.alarm rs < 2 ^ 32) (sym c.rows.ensures) (counts_fit (book_of c.args.self.now) c.args.self.now.sound (λ r. r.second == c.args.alarm))
