-- What the check does not find alone.
use Rattle.std.proofs.Common.{sym, ap, ◌∙◌}
use Rattle.readable.specs.Beyond.{zero_bytes, first_zero}
use Rattle.readable.proofs.beyond.first_zero.Goals as goal

pub returns : goal.returns
returns c =
    let i = c.args.image.now in
    c.zero_bytes.ensures ∙ ap zero_bytes c.record.ensures ∙ sym (first_zero i c.told-image c.fits-image)
