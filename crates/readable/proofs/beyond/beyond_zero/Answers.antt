-- What the check does not find alone.
use Rattle.std.proofs.lemmas.Grind.{common_steps}
use Rattle.std.proofs.Common.{arith, ◌≡◌, ◌+◌, ◌&&◌, Bool, drop, ap, sym, ◌∙◌}
use Rattle.protocol.specs.Tools.{all_to}
use Rattle.codec.specs.Layout.{message_place}
use Rattle.readable.specs.Scan.{message_ok}
use Rattle.readable.specs.Beyond.{zero_bytes, beyond_zero}
use Rattle.readable.proofs.beyond.beyond_zero.Goals as goal

pub returns-clause-all : goal.returns-clause-all
returns-clause-all c used =
    let i = c.args.image.now in
    let u = c.args.used in
    let e : c.zero_bytes.result ≡ zero_bytes (drop (message_place (u + 1)) i) = grind (arith, common_steps) in
    beyond_zero i c.told-image c.fits-image u used c.requires
    ∙ ap (λ (t : Bool). all_to (message_ok i) u && t) (sym e)
