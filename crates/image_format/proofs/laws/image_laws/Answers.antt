use Rattle.image_format.specs.Counts.{counts}
use Rattle.image_format.proofs.Tellings.{accepted_holds, holding_accepted}
use Rattle.image_format.proofs.Places.{stands, rest_ignored}
use Rattle.image_format.proofs.Refusals.{cut_refused, nameless_refused, refused_for, wrong_refused}
use Rattle.image_format.proofs.Unique.{content_unique}
use Rattle.image_format.proofs.laws.image_laws.Goals as goal

pub returns : goal.returns
returns c = record {
  accepted_holds = accepted_holds;
  holding_accepted = holding_accepted;
  content_unique = content_unique;
  refusal_stands = λ image f small h. stands counts (record {}) image f small h;
  refused_for = λ before field rest c few h. refused_for before field rest c few h;
  wrong_refused = λ before field rest c few fine h. wrong_refused before field rest c few fine h;
  cut_refused = cut_refused;
  nameless_refused = nameless_refused;
  rest_ignored = λ before field rest other c h few. rest_ignored counts field rest other c (record {}) before h few;
}
