-- The book of a sheet.
use Rattle.sheet.specs.Books.{Book}
use Rattle.sheet.specs.Tables.{table_book}
use Rattle.sheet.specs.declared.sheet.Sheet.{Sheet}

abbrev pub book_of : Sheet → Book
book_of s = table_book s.table
