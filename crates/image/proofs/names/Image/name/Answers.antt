use Rattle.std.proofs.Common.{◌≡◌, ◌∙◌, Err, ap, sym, subst, add-one, rules}
use Rattle.std.specs.Option.{ok_or}
use Rattle.image.specs.Namings.{Names}
use Rattle.image.specs.Shown.{name_at}
use Rattle.image.proofs.Namings.{refused_name, found_name}
use Rattle.image.proofs.names.Image.name.Goals as goal

pub returns-in_err-load : goal.returns-in_err-load
returns-in_err-load c =
    let image = c.args.self.now.bytes.now in let f = c.in_err-load.field-0.0 in
    let same : c.from_residual.result ≡ Err f = search rules in
    subst (Names image c.args.alarm) (sym same) (refused_name image _ _ _ c.load.ensures.loads c.args.alarm f c.in_err-load.was)

pub returns : goal.returns
returns c =
    let image = c.args.self.now.bytes.now in
    let named = c.find.ensures ∙ ap (name_at image) (add-one c.args.alarm) in
    let same : ok_or c.find.result _ ≡ c.ok_or.result = cc in
    subst (Names image c.args.alarm) same (found_name image _ _ _ c.load.ensures.loads c.args.alarm _ c.in_ok-load.was c.find.result named)
