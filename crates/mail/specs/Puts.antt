-- What each store makes of the image of a world, where the image left is given by an equation. Assumes nothing.
use Rattle.std.specs.Prelude.{ℕ, ◌+◌, ◌≤◌, ◌<◌, ◌≡◌, List}
use Rattle.std.proofs.Common.{sym, subst}
use Rattle.protocol.specs.declared.Client.{Client}
use Rattle.protocol.specs.declared.View.{View}
use Rattle.protocol.specs.declared.Message.{Message}
use Rattle.protocol.specs.declared.Administrator.{Administrator}
use Rattle.protocol.specs.Sizes.{clients, views, messages}
use Rattle.protocol.specs.Worlds.{World, with_client, with_view, with_message, with_administrator, send}
use Rattle.codec.specs.Places.{put_administrator, put_view, put_client, put_message}
use Rattle.mail.specs.Images.{put_sent}
use Rattle.mail.specs.Stored.{Image, with_client_lem, with_view_lem, with_administrator_lem, with_message_lem, with_sent}

left : {l l' : List ℕ} {w : World} → l' ≡ l → Image l w → Image l' w
left {l} {l'} {w} e h = subst (λ (x : List ℕ). Image x w) (sym e) h

module _ {l l' : List ℕ} {w : World} (h : Image l w) where
  pub client_put : (c : ℕ) (a : Client) → 1 ≤ c → c ≤ clients → l' ≡ put_client l c a → Image l' (with_client w c a)
  client_put c a b d e = left e (with_client_lem h c b d a)

  pub view_put : (t : ℕ) (v : View) → 1 ≤ t → t ≤ views → l' ≡ put_view l t v → Image l' (with_view w t v)
  view_put t v b d e = left e (with_view_lem h t b d v)

  pub administrator_put : (a : Administrator) → l' ≡ put_administrator l a → Image l' (with_administrator w a)
  administrator_put a e = left e (with_administrator_lem h a)

  pub message_put : (n : ℕ) (m : Message) → n ≤ messages → l' ≡ put_message l n m → Image l' (with_message w n m)
  message_put n m b e = left e (with_message_lem h n b m)

  -- "A new message takes the number after the last used."
  pub sent_put : (n : ℕ) (m : Message) → n ≡ w.used + 1 → w.used < messages → l' ≡ put_sent l n m → Image l' (send w m)
  sent_put n m q b e = left e (with_sent h n m q b)
