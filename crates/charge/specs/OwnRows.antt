-- The works' own row: its list.
use Rattle.std.specs.Prelude.{ℕ, List}
use Rattle.charge.specs.declared.own_row.OwnRow.{OwnRow}

abbrev pub row_of : OwnRow → List ℕ
row_of own = own.row
