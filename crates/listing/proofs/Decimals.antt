-- The decimal of a number, in words of our own. Assumes nothing.
use Rattle.std.proofs.Common.{◌≡◌, true, decimal, ap, ◌∙◌, arith, rules}
use Rattle.std.specs.Str.{all_ascii_digits}
use Rattle.std.proofs.lemmas.Fmt.{decimal_digit, digits_decimal, first_decimal, digits_value-decimal}
use Rattle.std.proofs.lemmas.Str.Parse.{IsNumeralModel, numerals_by_fold}
use Rattle.listing.specs.Laws.{DecimalsRight, read_digits}

own : IsNumeralModel (λ ds. all_ascii_digits ds ≡ true) (read_digits 0)
own = numerals_by_fold _ (search rules) read_digits (search rules)

pub decimals_right : DecimalsRight
decimals_right n small = record {
  digits = digits_decimal own n small;
  value = digits_value-decimal own n small;
  zero = λ e. ap decimal e ∙ decimal_digit 0 (omega arith);
  leading = λ some e. omega (arith, first_decimal n some small);
}
