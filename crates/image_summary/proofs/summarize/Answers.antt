use Rattle.std.proofs.Common.{◌≡◌, length, Ok, Err, sym, ap, subst, rules}
use Rattle.sheet.specs.Sheets.{book_of}
use Rattle.image_summary.specs.Summaries.{SumsUp, top_cost}
use Rattle.image_summary.specs.declared.Summary.{Summary}
use Rattle.image_summary.proofs.Tops.{sums_up, sums_up_none}
use Rattle.image_summary.proofs.summarize.Goals as goal

pub returns-in_err-notes : goal.returns-in_err-notes
returns-in_err-notes c =
    let image = c.args.image.now in let f = c.in_err-notes.field-0.0 in
    let same : c.from_residual.result ≡ Err f = search rules in
    subst (SumsUp image) (sym same) (sums_up_none image _ _ _ c.load.ensures.loads f c.in_err-notes.was)

pub returns : goal.returns
returns c =
    let image = c.args.image.now in let b = book_of c.load.new.sheet in let m = c.in_ok-notes.notes in
    let n = c.alarms.ensures in let rows = ap length c.rows.ensures in let top = c.cost_on_top.ensures in
    let same : ◌≡◌ {A = Summary} (record { alarms = b.n; rows = length b.rows; notes = m; cost = top_cost b }) (record { alarms = c.alarms.result; rows = length c.rows.result.now; notes = m; cost = c.cost_on_top.result }) = cc in
    subst (λ s. SumsUp image (Ok s)) same (sums_up image _ b _ c.load.ensures.loads m c.in_ok-notes.was)
