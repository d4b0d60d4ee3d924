use Rattle.std.proofs.Common.{◌≡◌, get_or, arith}
use Rattle.org_serve.proofs.Moments.{date_is}
use Rattle.org_serve.proofs.moment.date.Goals as goal

pub returns-in-45 : goal.returns-in-45
returns-in-45 c =
    let field = c.args.field.now in
    let fourth : get_or field 4 0 ≡ 45 = omega arith in
    let seventh : get_or field 7 0 ≡ 45 = omega arith in
    rw (c.zip-in-45.ensures, c.zip.ensures, c.year.ensures, c.pair.ensures, c.pair-in-45.ensures) (date_is field c.in-45.len_at_least c.in-45.len_below fourth seventh)
