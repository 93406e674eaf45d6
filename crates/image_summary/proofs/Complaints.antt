-- How long a complaint is. Assumes nothing.
use Rattle.std.proofs.Common.{◌^◌, ◌<◌, ◌≤◌, length, arith, length-append}
use Rattle.std.proofs.lemmas.Fmt.{length-decimal-le}
use Rattle.image_format.specs.Numbers.{cause_number}
use Rattle.image_format.specs.declared.fault.ImageCause.{ImageCause}
use Rattle.image_format.specs.declared.fault.ImageFault.{ImageFault}
use Rattle.listing.specs.Complaints.{complaint}

two_digits : (c : ImageCause) → cause_number c < 100
two_digits c = grind arith

pub complaint_short : (f : ImageFault) → f.place < 2 ^ 64 → length (complaint f) ≤ 64
complaint_short f fits =
    let number = length-decimal-le 2 (cause_number f.cause) (omega arith) (omega (arith, two_digits f.cause)) (omega (arith, two_digits f.cause)) in
    let place = length-decimal-le 20 f.place (omega arith) (omega (arith, fits)) fits in
    grind (arith, number, place, length-append)
