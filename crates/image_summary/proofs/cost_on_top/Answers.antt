use Rattle.std.proofs.Common.{◌∙◌}
use Rattle.sheet.specs.Sheets.{book_of}
use Rattle.image_summary.proofs.Tops.{top_priced}
use Rattle.image_summary.proofs.cost_on_top.Goals as goal

pub returns : goal.returns
returns c =
    let sheet = c.args.sheet.now in
    c.unwrap_or.ensures ∙ top_priced (book_of sheet) c.price_on_top.result sheet.sound.limit.0 sheet.sound.alarms.1 c.price_on_top.ensures.answered c.price_on_top.ensures.placed
