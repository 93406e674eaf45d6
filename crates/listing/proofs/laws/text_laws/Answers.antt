use Rattle.listing.proofs.Decimals.{decimals_right}
use Rattle.listing.proofs.laws.text_laws.Goals as goal

pub returns : goal.returns
returns c = decimals_right
