-- What each part of a world is after one of its records was replaced. Assumes nothing.
use Prim.Native.Nat.{ℕ, zero, suc, ◌+◌, ◌≤◌, ◌<◌}
use Rattle.std.proofs.Math.Decide.{ℕ_discrete, dec_lt}
use Rattle.std.proofs.Common.{arith, sym, ap, ◌∙◌, eq-eqb, ne_eqb}
use Rattle.std.specs.Prelude.{Bool, true, false, ◌||◌, ◌≡◌, ◌≢◌, List, [], ◌∷◌, length, get_or, set, eqb}
use Rattle.std.proofs.Math.Path.{refl}
use Rattle.std.proofs.Math.ListN.{length-set, get_or-eq_default}
use Rattle.std.proofs.Math.Seq.{get_or-set_same, get_or-set_other, set_out}
use Rattle.protocol.specs.Types.{Server, Client, View, Message}
use Rattle.protocol.specs.Tools.{if, any, nth, replace}
use Rattle.protocol.specs.Worlds.{World, no_message, server, client, view, message, with_server, with_client, with_view, with_message, send, unlinked, as_sent}
unfoldable pub use Rattle.protocol.specs.Worlds.{content}
use Rattle.protocol.specs.Steps.{link}

module _ {A : Type 0} where
  pub length_replace : (l : List A) (k : ℕ) (v : A) → length (replace l k v) ≡ length l
  unfolding replace
  length_replace l zero v = refl
  length_replace l (suc k) v = length-set l k v

  pub nth_same : (l : List A) (k : ℕ) (v d : A) → 1 ≤ k → k ≤ length l → nth (replace l k v) k d ≡ v
  unfolding nth replace
  nth_same l zero v d h n = absurd (omega arith)
  nth_same l (suc k) v d h n = get_or-set_same l k v d (omega arith)

  pub nth_other : (l : List A) (k : ℕ) (v d : A) (x : ℕ) → x ≢ k → nth (replace l k v) x d ≡ nth l x d
  unfolding nth replace
  nth_other l zero v d x n = refl
  nth_other l (suc k) v d zero n = refl
  nth_other l (suc k) v d (suc x) n = get_or-set_other l k x v d (λ e. n (ap suc e))

-- message i as it was sent
unfoldable pub sent : World → ℕ → Message
sent w i = content (message w i)

-- ---- messages

pub message_same : (w : World) (n : ℕ) (m : Message) → n < length w.message_list → message (with_message w n m) n ≡ m
unfolding message with_message
message_same w n m h = get_or-set_same w.message_list n m no_message h

pub message_other : (w : World) (n : ℕ) (m : Message) (i : ℕ) → i ≢ n → message (with_message w n m) i ≡ message w i
unfolding message with_message
message_other w n m i h = get_or-set_other w.message_list n i m no_message h

pub message_out : (w : World) (n : ℕ) (m : Message) → length w.message_list ≤ n → message (with_message w n m) n ≡ message w n
unfolding message with_message
message_out w n m h = rw (set_out w.message_list n m h) refl

-- a message that keeps its content
pub sent_with : (w : World) (n : ℕ) (m : Message) → content m ≡ sent w n → (i : ℕ) → sent (with_message w n m) i ≡ sent w i
unfolding sent
sent_with w n m e i = go (ℕ_discrete i n) (dec_lt n (length w.message_list))
  where
    go : Dec (i ≡ n) → Dec (n < length w.message_list) → content (message (with_message w n m) i) ≡ content (message w i)
    go (yes q) (yes h) = rw q (ap content (message_same w n m h) ∙ e)
    go (yes q) (no h) = rw q (ap content (message_out w n m (omega arith)))
    go (no q) d = ap content (message_other w n m i q)

-- taking an answer changes no content
pub sent_link : (w : World) (k i : ℕ) → sent (link w k) i ≡ sent w i
unfolding link sent content
sent_link w k i =
    let r : ℕ = (message w k).request.0 in
    sent_with (with_message w k _) r _ (sym (sent_with w k _ refl r)) i ∙ sent_with w k _ refl i

pub sent_send : (w : World) (m : Message) (i : ℕ) → i ≤ w.used → sent (send w m) i ≡ sent w i
unfolding sent message send
sent_send w m i h = ap content (get_or-set_other w.message_list (w.used + 1) i m no_message (λ e. omega arith))

pub message_send : (w : World) (m : Message) (i : ℕ) → i ≤ w.used → message (send w m) i ≡ message w i
unfolding message send
message_send w m i h = get_or-set_other w.message_list (w.used + 1) i m no_message (λ e. omega arith)

pub message_new : (w : World) (m : Message) → w.used + 1 < length w.message_list → message (send w m) (w.used + 1) ≡ m
unfolding message send
message_new w m h = get_or-set_same w.message_list (w.used + 1) m no_message h

-- ---- messages as they were sent

pub content_again : (m : Message) → content (content m) ≡ content m
unfolding content
content_again m = refl

none_sent : content no_message ≡ no_message
unfolding content
none_sent = refl

-- the message n of a list as it was sent, also where there is none
sent_same : (l : List Message) (n : ℕ) → get_or (set l n (content (get_or l n no_message))) n no_message ≡ content (get_or l n no_message)
sent_same l n = go (dec_lt n (length l))
  where
    go : Dec (n < length l) → get_or (set l n (content (get_or l n no_message))) n no_message ≡ content (get_or l n no_message)
    go (yes h) = get_or-set_same l n _ no_message h
    go (no h) =
        let e : get_or l n no_message ≡ no_message = get_or-eq_default l no_message (omega arith) in
        ap (λ (x : List Message). get_or x n no_message) (set_out l n _ (omega arith)) ∙ e ∙ sym none_sent ∙ ap content (sym e)

unlinked_at : (l : List Message) (ks : List ℕ) (i : ℕ) → get_or (unlinked l ks) i no_message ≡ if (any (eqb i) ks) (content (get_or l i no_message)) (get_or l i no_message)
unfolding unlinked any
unlinked_at l [] i = refl
unlinked_at l (k ∷ ks) i = go (ℕ_discrete i k) (any (eqb i) ks) (unlinked_at l ks i)
  where
    go : Dec (i ≡ k) → (b : Bool) → get_or (unlinked l ks) i no_message ≡ if b (content (get_or l i no_message)) (get_or l i no_message)
        → get_or (set (unlinked l ks) k (content (get_or (unlinked l ks) k no_message))) i no_message ≡ if (eqb i k || b) (content (get_or l i no_message)) (get_or l i no_message)
    go (yes q) b e =
        rw (eq-eqb i k q)
        (ap (λ (n : ℕ). get_or (set (unlinked l ks) k (content (get_or (unlinked l ks) k no_message))) n no_message) q ∙ sent_same (unlinked l ks) k
        ∙ ap (λ (n : ℕ). content (get_or (unlinked l ks) n no_message)) (sym q) ∙ ap content e ∙ either b)
      where
        either : (b : Bool) → content (if b (content (get_or l i no_message)) (get_or l i no_message)) ≡ content (get_or l i no_message)
        either true = content_again _
        either false = refl
    go (no q) b e = rw (ne_eqb i k q) (get_or-set_other (unlinked l ks) k i _ no_message q ∙ e)

-- message i of the world in which the messages ks are as they were sent
pub message_as : (w : World) (ks : List ℕ) (i : ℕ) → message (as_sent w ks) i ≡ if (any (eqb i) ks) (sent w i) (message w i)
unfolding message as_sent sent
message_as w ks i = unlinked_at w.message_list ks i

pub sent_as : (w : World) (ks : List ℕ) (i : ℕ) → sent (as_sent w ks) i ≡ sent w i
unfolding sent
sent_as w ks i = ap content (message_as w ks i) ∙ go (any (eqb i) ks)
  where
    go : (b : Bool) → content (if b (content (message w i)) (message w i)) ≡ content (message w i)
    go true = content_again _
    go false = refl

count_unlinked : (l : List Message) (ks : List ℕ) → length (unlinked l ks) ≡ length l
unfolding unlinked
count_unlinked l [] = refl
count_unlinked l (k ∷ ks) = length-set (unlinked l ks) k _ ∙ count_unlinked l ks

pub count_as : (w : World) (ks : List ℕ) → length (as_sent w ks).message_list ≡ length w.message_list
unfolding as_sent
count_as w ks = count_unlinked w.message_list ks

-- ---- servers and clients

pub server_same : (w : World) (s : ℕ) (a : Server) → 1 ≤ s → s ≤ length w.server_list → server (with_server w s a) s ≡ a
unfolding server with_server
server_same w s a h n = nth_same w.server_list s a _ h n

pub server_other : (w : World) (s : ℕ) (a : Server) (x : ℕ) → x ≢ s → server (with_server w s a) x ≡ server w x
unfolding server with_server
server_other w s a x h = nth_other w.server_list s a _ x h

pub client_same : (w : World) (c : ℕ) (a : Client) → 1 ≤ c → c ≤ length w.client_list → client (with_client w c a) c ≡ a
unfolding client with_client
client_same w c a h n = nth_same w.client_list c a _ h n

pub client_other : (w : World) (c : ℕ) (a : Client) (x : ℕ) → x ≢ c → client (with_client w c a) x ≡ client w x
unfolding client with_client
client_other w c a x h = nth_other w.client_list c a _ x h

pub view_other : (w : World) (t : ℕ) (v : View) (x : ℕ) → x ≢ t → view (with_view w t v) x ≡ view w x
unfolding view with_view
view_other w t v x h = nth_other w.view_list t v _ x h

pub view_same : (w : World) (t : ℕ) (v : View) → 1 ≤ t → t ≤ length w.view_list → view (with_view w t v) t ≡ v
unfolding view with_view
view_same w t v h n = nth_same w.view_list t v _ h n
