-- The table inside a sheet, and the book that it stands for.
use Rattle.sheet.specs.Books.{Book}
use Rattle.sheet.specs.declared.table.Table.{Table}

-- the table's number of alarms, its limit and its rows
abbrev pub table_book : Table → Book
table_book t = record { n = t.alarms; k = t.limit; rows = t.rows }
