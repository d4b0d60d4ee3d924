use Rattle.std.proofs.Common.{◌≡◌, ◌-◌, ◌^◌, ap, ◌∙◌, arith}
use Rattle.std.specs.Fmt.{format_spec}
use Rattle.org_stamp.proofs.Padded.{duration_is}
use Rattle.org_stamp.proofs.durations.duration.Goals as goal

pub returns : goal.returns
returns c =
    let wide : c.laid_out.result ≡ format_spec 32 0 0 c.args.width (2 ^ 64 - 1) = c.laid_out.ensures ∙ ap (λ w. format_spec 32 0 0 w (2 ^ 64 - 1)) (omega arith) in
    ap (λ v. v.items) c.into_bytes.ensures.value ∙ c.in_ok-text.ensures.ok
    ∙ duration_is c.args.minutes c.args.width c.laid_out.result c.laid_out-2.result wide c.laid_out-2.ensures c.requires.low c.requires.high c.ranges.minutes.fits
