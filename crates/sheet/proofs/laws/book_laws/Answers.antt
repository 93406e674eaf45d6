use Rattle.sheet.proofs.BookLaws.{grown_sound, note_moves_none, note_raises, note_spares_others, order_stays, refused_leaves, strike_clears, strike_spares_others, strike_undoes_first_note}
use Rattle.sheet.proofs.laws.book_laws.Goals as goal

pub returns : goal.returns
returns c = record {
  note_raises = note_raises;
  note_spares_others = note_spares_others;
  strike_clears = strike_clears;
  strike_spares_others = strike_spares_others;
  strike_undoes_first_note = strike_undoes_first_note;
  order_stays = order_stays;
  note_moves_none = note_moves_none;
  refused_leaves = refused_leaves;
  grown_sound = grown_sound;
}
