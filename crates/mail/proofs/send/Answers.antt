-- What the check does not find alone.
use mathlib.Core.Path.{ap, ◌∙◌}
use Prim.Native.Nat.{ℕ}
use mathlib.Core.List.{List}
use Rattle.codec.specs.Places.{put_message}
use Rattle.mail.specs.Images.{put_sent}
use Rattle.mail.proofs.send.Goals as goal

pub returns : goal.returns
unfolding put_sent
returns c =
    let a = c.args in
    c.store_message.ensures ∙ ap (λ (l : List ℕ). put_message l a.n.0 a.m) c.store_used.ensures
