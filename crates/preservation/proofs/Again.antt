-- Answers taken again: from the world in which a request's taken answers are as they were sent, they lead back, the oldest first, to
-- the world that had them taken (`again`). Used by Cut alone. Assumes nothing.
use Rattle.std.specs.Prelude.{ℕ, zero, suc, ◌≤◌, ◌<◌, Bool, false, not, ◌&&◌, ◌||◌, ◌≡◌, ◌⊎◌, ◌≢◌, List, [], ◌∷◌, length, get_or, set, eqb}
use Rattle.std.proofs.Common.{arith, ◌∙◌, inl, inr}
use Rattle.std.proofs.Math.Decide.{ℕ_discrete}
use Rattle.std.proofs.Math.Bool.{true}
use Rattle.std.proofs.Math.Path.{refl, sym, ap, subst}
use Rattle.std.proofs.Math.ListN.{length-set}
use Rattle.std.specs.Cmp.{first_so, second_so}
use Rattle.std.proofs.lemmas.Bool.{and_from, cases_Bool, or_left, or_right}
use borrow.Author.Tests.{leb-false, eqb-true, lt-leb, eq-eqb, ne_eqb, not-true}
use Rattle.protocol.specs.declared.MessageNumber.{MessageNumber}
use Rattle.protocol.specs.declared.Message.{Message}
use Rattle.protocol.specs.Tools.{if, any, all, guard}
use Rattle.protocol.specs.Sizes.{servers, messages, write_size}
use Rattle.protocol.specs.Servers.{END, ANSWER, is_request}
use Rattle.protocol.specs.Clients.{number, end_of}
use Rattle.protocol.specs.Worlds.{World, no_message, view, message, newest, present, with_message, as_sent}
use Rattle.protocol.specs.Chains.{follow, chain, tagged, heard, enough}
use Rattle.protocol.specs.Steps.{moved, link, open?, takes, take}
use Rattle.protocol.specs.Readable.{taken_answer, distinct}
use Rattle.protocol.proofs.Laws.Tests.{clash, is_within}
use Rattle.protocol.proofs.Laws.Worlds.{content, sent, message_same, message_other, sent_with, message_as, count_as}
use Rattle.protocol.proofs.Laws.Sound.{not_answer, link_count, link_other, length_with}
use Rattle.protocol.proofs.Laws.Counts.{count_le}
use Rattle.protocol.proofs.Laws.Lists.{all_member}
use Rattle.preservation.proofs.Chained.{count_more, pigeons, follow_step}
use Rattle.preservation.specs.Links.{Is}
use Rattle.preservation.proofs.Links.{taken_is, is_taken_lem, answers_fit_lem}
use Rattle.preservation.proofs.Unclosed.{enough_on}
use Rattle.preservation.specs.Again.{retaken}

-- ---- worlds that differ in their messages alone

list_same : (l m : List Message) → length l ≡ length m → ((i : ℕ) → get_or l i no_message ≡ get_or m i no_message) → l ≡ m
list_same [] [] n e = refl
list_same [] (y ∷ m) n e = absurd (omega arith)
list_same (x ∷ l) [] n e = absurd (omega arith)
list_same (x ∷ l) (y ∷ m) n e = rw (e 0, list_same l m (omega arith) (λ i. e (suc i))) refl

-- w with the messages l
abbrev having : World → List Message → World
having w l = record { used = w.used; administrator = w.administrator; view_list = w.view_list; server_list = w.server_list; client_list = w.client_list; message_list = l }

having_same : (w : World) (l m : List Message) → length l ≡ length m → ((i : ℕ) → message (having w l) i ≡ message (having w m) i) → having w l ≡ having w m
unfolding message
having_same w l m n e = ap (having w) (list_same l m n e)

-- ---- a chain without a bound on its links

-- from n the links lead along ks, and end
unfoldable pub leads : World → ℕ → List ℕ → Bool
leads w n [] = eqb n 0
leads w n (k ∷ ks) = eqb n k && leads w (message w k).next.0 ks

-- a walk that shows no more with one link more
pub follow_leads : (w : World) (left n : ℕ) → length (follow w (suc left) n) ≡ length (follow w left n) → leads w n (follow w left n) ≡ true
unfolding follow leads
follow_leads w zero zero e = refl
follow_leads w zero (suc n) e = absurd (omega arith)
follow_leads w (suc left) zero e = refl
follow_leads w (suc left) (suc n) e = and_from _ _ (eq-eqb (suc n) (suc n) refl) (follow_leads w left (message w (suc n)).next.0 (omega arith))

leads_follow : (w : World) (r left n : ℕ) (ks : List ℕ) → leads w n ks ≡ true → all (taken_answer w r) ks ≡ true → length ks ≤ left → follow w left n ≡ ks
unfolding follow leads all
leads_follow w r zero n [] e a l = refl
leads_follow w r zero n (k ∷ ks) e a l = absurd (omega arith)
leads_follow w r (suc left) n [] e a l = ap (λ (x : ℕ). follow w (suc left) x) (eqb-true n 0 e)
leads_follow w r (suc left) n (k ∷ ks) e a l =
    ap (λ (x : ℕ). follow w (suc left) x) (eqb-true n k (first_so _ _ e)) ∙ follow_step w left k (taken_is w r k (first_so _ _ a)).low
    ∙ ap (λ (x : List ℕ). k ∷ x) (leads_follow w r left (message w k).next.0 ks (second_so (eqb n k) _ e) (second_so (taken_answer w r k) _ a) (omega arith))

-- links that are as they were lead on
pub leads_on : (w v : World) (p : ℕ → Bool) → ((k : ℕ) → p k ≡ true → (message v k).next ≡ (message w k).next) → (n : ℕ) (ks : List ℕ) → all p ks ≡ true → leads w n ks ≡ true → leads v n ks ≡ true
unfolding leads all
leads_on w v p f n [] a e = e
leads_on w v p f n (k ∷ ks) a e =
    and_from _ _ (first_so (eqb n k) _ e)
    (subst (λ (m : MessageNumber). leads v m.0 ks ≡ true) (sym (f k (first_so _ _ a))) (leads_on w v p f (message w k).next.0 ks (second_so (p k) _ a) (second_so (eqb n k) _ e)))

pub all_own : (p : ℕ → Bool) (ks : List ℕ) → ((j : ℕ) → any (eqb j) ks ≡ true → p j ≡ true) → all p ks ≡ true
unfolding all any
all_own p [] f = refl
all_own p (k ∷ ks) f = and_from _ _ (f k (or_left _ _ (eq-eqb k k refl))) (all_own p ks (λ j m. f j (or_right (eqb j k) _ m)))

-- ---- one answer fewer

-- fewer answers are not enough
enough_fewer : (w : World) (t size k : ℕ) (ks : List ℕ) → enough w t (k ∷ ks) size ≡ false → enough w t ks size ≡ false
unfolding enough heard any
enough_fewer w t size k ks e =
    lt-leb size _ (omega (arith, leb-false size _ e, count_more (λ s. tagged w t k && eqb (message w k).sender s) (heard w t ks) servers))

-- The END r of w is open; ks are its taken answers, from the newest to the oldest, too few to close it.
pub record Part (w : World) (r : ℕ) (ks : List ℕ) : Type 0 where
  pub low : 1 ≤ r
  pub below : r ≤ w.used
  pub full : w.used ≤ messages
  pub count : length w.message_list ≡ suc messages
  pub is : (message w r).kind ≡ END
  pub free : (message w r).taken ≡ false
  pub ending : end_of w.administrator.ending ≡ r
  pub path : leads w (message w r).next.0 ks ≡ true
  pub only : all (taken_answer w r) ks ≡ true
  pub once : distinct ks ≡ true
  pub few : enough w (newest w) ks (write_size (view w (newest w))) ≡ false

-- the message m with its link to n
abbrev leading : Message → MessageNumber → Message
leading m n = record { kind = m.kind; sender = m.sender; view = m.view; taken = m.taken; request = m.request; next = n; entry = m.entry }

sent_is : (w : World) (i : ℕ) → sent w i ≡ content (message w i)
unfolding sent
sent_is w i = refl

-- an answer to the open END that does not close it is taken
take_open : (w : World) (k r : ℕ) → (present w k && eqb (message w k).kind ANSWER) ≡ true → (message w k).taken ≡ false → (message w k).request.0 ≡ r → (message w r).kind ≡ END
    → end_of w.administrator.ending ≡ r
    → (eqb (message w k).view.0 (newest w) && enough w (message w k).view.0 (k ∷ chain w r) (write_size (view w (message w k).view.0))) ≡ false → take w k ≡ moved (link w k)
unfolding take takes open? guard
take_open w k r p f q i o n = rw (p, f, q, eq-eqb (message w r).kind END i, eq-eqb _ _ o, n) refl

-- the answer that was taken, and its request
link_first : (w : World) (k r : ℕ) → (message w k).request.0 ≡ r → k ≢ r → k < length w.message_list
    → message (link w k) k ≡ record {
      kind = (message w k).kind;
      sender = (message w k).sender;
      view = (message w k).view;
      taken = true;
      request = (message w k).request;
      next = (message w r).next;
      entry = (message w k).entry;
    }
unfolding link
link_first w k r q n l = rw q (message_other (with_message w k _) r _ k n ∙ message_same w k _ l)

link_second : (w : World) (k r : ℕ) → (message w k).request.0 ≡ r → r < length w.message_list → message (link w k) r ≡ leading (message w r) (number k)
unfolding link
link_second w k r q l = rw q (message_same (with_message w k _) r _ (length_with w k _ l))

-- w before the answer k, its newest, was taken
module _ {w : World} {r k : ℕ} {ks : List ℕ} (h : Part w r (k ∷ ks)) where
  abbrev back : World
  back = with_message (with_message w k (content (message w k))) r (leading (message w r) (message w k).next)

  is_k : Is w r k
  unfolding all
  is_k = taken_is w r k (first_so _ _ h.only)

  is_request_lem : is_request (message w r).kind ≡ true
  is_request_lem = ap (λ (x : ℕ). is_request x) h.is

  apart : {j : ℕ} → Is w r j → j ≢ r
  apart {j} i e = clash (eq-eqb _ _ i.is) (subst (λ (x : ℕ). eqb (message w x).kind ANSWER ≡ false) (sym e) (not_answer (message w r).kind is_request_lem))

  back_count : length back.message_list ≡ length w.message_list
  unfolding with_message
  back_count = length-set (set w.message_list k _) r _ ∙ length-set w.message_list k _

  back_request : message back r ≡ leading (message w r) (message w k).next
  unfolding with_message
  back_request = message_same (with_message w k (content (message w k))) r _ (omega (arith, length-set w.message_list k (content (message w k)), h.count, h.full, h.below))

  back_answer : message back k ≡ content (message w k)
  back_answer =
      message_other (with_message w k (content (message w k))) r _ k (apart is_k) ∙ message_same w k _ (omega (arith, h.count, h.full, is_k.below))

  back_other : (i : ℕ) → i ≢ r → i ≢ k → message back i ≡ message w i
  back_other i a b = message_other (with_message w k (content (message w k))) r _ i a ∙ message_other w k _ i b

  back_sent : (i : ℕ) → sent back i ≡ sent w i
  unfolding sent content
  back_sent i =
      sent_with (with_message w k (content (message w k))) r (leading (message w r) (message w k).next) (sym (sent_with w k (content (message w k)) refl r)) i
      ∙ sent_with w k (content (message w k)) refl i

  -- the rest is taken as before
  rest : (j : ℕ) → any (eqb j) ks ≡ true → (j ≢ k) × Is w r j
  unfolding all distinct any
  rest j m = (
    λ e. clash m (subst (λ (x : ℕ). any (eqb x) ks ≡ false) (sym e) (not-true _ (first_so _ _ h.once))),
    taken_is w r j (all_member (taken_answer w r) ks j (second_so (taken_answer w r k) _ h.only) m),
  )

  back_rest : (j : ℕ) → any (eqb j) ks ≡ true → message back j ≡ message w j
  back_rest j m = let (n, i) = rest j m in back_other j (apart i) n

  back_used : back.used ≡ w.used
  unfolding with_message
  back_used = refl

  back_only : all (taken_answer back r) ks ≡ true
  back_only = all_own (taken_answer back r) ks go
    where
      go : (j : ℕ) → any (eqb j) ks ≡ true → taken_answer back r j ≡ true
      go j m =
          let i = (rest j m).1 in
          let e = back_rest j m in
          is_taken_lem back r j
          (record {
            low = i.low;
            below = omega (arith, i.below, back_used);
            is = ap (λ (x : Message). x.kind) e ∙ i.is;
            taken = ap (λ (x : Message). x.taken) e ∙ i.taken;
            request = ap (λ (x : Message). x.request.0) e ∙ i.request;
          })

  back_path : leads back (message back r).next.0 ks ≡ true
  unfolding leads
  back_path =
      subst (λ (m : Message). leads back m.next.0 ks ≡ true) (sym back_request)
      (leads_on w back (λ j. any (eqb j) ks) (λ j m. ap (λ (x : Message). x.next) (back_rest j m)) (message w k).next.0 ks (all_own (λ j. any (eqb j) ks) ks (λ j m. m))
      (second_so (eqb (message w r).next.0 k) _ h.path))

  back_enough : (js : List ℕ) → enough back (newest w) js (write_size (view w (newest w))) ≡ enough w (newest w) js (write_size (view w (newest w)))
  back_enough js = enough_on w back (newest w) _ (λ j. true) (λ j _. back_sent j) js (all_own (λ j. true) js (λ j _. refl))

  back_part : Part back r ks
  unfolding with_message view distinct
  back_part =
      record {
        low = h.low;
        below = h.below;
        full = h.full;
        count = back_count ∙ h.count;
        is = ap (λ (m : Message). m.kind) back_request ∙ h.is;
        free = ap (λ (m : Message). m.taken) back_request ∙ h.free;
        ending = h.ending;
        path = back_path;
        only = back_only;
        once = second_so (not (any (eqb k) ks)) _ h.once;
        few = back_enough ks ∙ enough_fewer w (newest w) _ k ks h.few;
      }

  -- the same answers as they were sent, and k
  at_each : (i : ℕ) → message (as_sent w (r ∷ k ∷ ks)) i ≡ message (as_sent back (r ∷ ks)) i
  unfolding any
  at_each i = message_as w (r ∷ k ∷ ks) i ∙ go (ℕ_discrete i r) (ℕ_discrete i k) (any (eqb i) ks) ∙ sym (message_as back (r ∷ ks) i)
    where
      as_k : i ≡ k → sent w i ≡ message back i
      as_k q = subst (λ (x : ℕ). sent w x ≡ message back x) (sym q) (sent_is w k ∙ sym back_answer)

      go : Dec (i ≡ r) → Dec (i ≡ k) → (b : Bool) → if (eqb i r || (eqb i k || b)) (sent w i) (message w i) ≡ if (eqb i r || b) (sent back i) (message back i)
      go (yes q) d b = rw (eq-eqb i r q) (sym (back_sent i))
      go (no p) (yes q) true = rw (ne_eqb i r p, eq-eqb i k q) (sym (back_sent i))
      go (no p) (yes q) false = rw (ne_eqb i r p, eq-eqb i k q) (as_k q)
      go (no p) (no q) true = rw (ne_eqb i r p, ne_eqb i k q) (sym (back_sent i))
      go (no p) (no q) false = rw (ne_eqb i r p, ne_eqb i k q) (sym (back_other i p q))

  sent_back : as_sent w (r ∷ k ∷ ks) ≡ as_sent back (r ∷ ks)
  unfolding as_sent with_message
  sent_back = having_same w _ _ (count_as w (r ∷ k ∷ ks) ∙ sym back_count ∙ sym (count_as back (r ∷ ks))) at_each

  -- k is taken again, and closes nothing
  chain_back : chain back r ≡ ks
  unfolding chain distinct
  chain_back =
      let o = second_so (not (any (eqb k) ks)) _ h.once in
      leads_follow back r messages (message back r).next.0 ks back_path back_only
      (omega (arith, h.full, back_used, pigeons ks back.used o (answers_fit_lem back r ks back_only), count_le (λ i. any (eqb i) ks) back.used))

  back_asks : (message back k).request.0 ≡ r
  unfolding content
  back_asks = ap (λ (m : Message). m.request.0) back_answer ∙ is_k.request

  few_still : (t : ℕ) → (eqb t (newest w) && enough back t (k ∷ chain back r) (write_size (view w t))) ≡ false
  few_still t = rw chain_back (go (cases_Bool (eqb t (newest w))))
    where
      go : (eqb t (newest w) ≡ true) ⊎ (eqb t (newest w) ≡ false) → (eqb t (newest w) && enough back t (k ∷ ks) (write_size (view w t))) ≡ false
      go (inl e) =
          rw e (subst (λ (x : ℕ). enough back x (k ∷ ks) (write_size (view w x)) ≡ false) (sym (eqb-true t (newest w) e)) (back_enough (k ∷ ks) ∙ h.few))
      go (inr e) = rw e refl

  open_still : (t : ℕ) → (eqb t (newest back) && enough back t (k ∷ chain back r) (write_size (view back t))) ≡ false
  unfolding with_message view
  open_still t = few_still t

  take_back : take back k ≡ moved (link back k)
  unfolding content present
  take_back =
      take_open back k r
      (and_from _ _ (is_within 1 back.used k is_k.low (omega (arith, is_k.below, back_used))) (eq-eqb _ _ (ap (λ (m : Message). m.kind) back_answer ∙ is_k.is)))
      (ap (λ (m : Message). m.taken) back_answer) back_asks back_part.is back_part.ending (open_still (message back k).view.0)

  first : (message w r).next.0 ≡ k
  unfolding leads
  first = eqb-true _ _ (first_so _ _ h.path)

  linked_each : (i : ℕ) → message (link back k) i ≡ message w i
  unfolding content
  linked_each i = go (ℕ_discrete i k) (ℕ_discrete i r)
    where
      marked : (m : Message) → m.taken ≡ true → record { kind = m.kind; sender = m.sender; view = m.view; taken = true; request = m.request; next = m.next; entry = m.entry } ≡ m
      marked m e = ap (λ (b : Bool). record { kind = m.kind; sender = m.sender; view = m.view; taken = b; request = m.request; next = m.next; entry = m.entry }) (sym e)

      at_k : message (link back k) k ≡ message w k
      at_k = link_first back k r back_asks (apart is_k) (omega (arith, back_count, h.count, h.full, is_k.below)) ∙ rw (back_answer, back_request) (marked (message w k) is_k.taken)

      at_r : message (link back k) r ≡ message w r
      at_r =
          link_second back k r back_asks (omega (arith, back_count, h.count, h.full, h.below)) ∙ ap (λ (m : Message). leading m (number k)) back_request
          ∙ ap (λ (n : ℕ). leading (message w r) (number n)) (sym first)

      go : Dec (i ≡ k) → Dec (i ≡ r) → message (link back k) i ≡ message w i
      go (yes q) d = subst (λ (x : ℕ). message (link back k) x ≡ message w x) (sym q) at_k
      go (no p) (yes q) = subst (λ (x : ℕ). message (link back k) x ≡ message w x) (sym q) at_r
      go (no p) (no q) = link_other back k i p (λ e. q (e ∙ back_asks)) ∙ back_other i q p

  link_back : link back k ≡ w
  unfolding link with_message
  link_back = having_same w _ _ (link_count back k ∙ back_count) linked_each

plain_is : (m : Message) → m.taken ≡ false → m.next.0 ≡ 0 → content m ≡ m
unfolding content
plain_is m t n =
    ap (λ (b : Bool). record { kind = m.kind; sender = m.sender; view = m.view; taken = b; request = m.request; next = number 0; entry = m.entry }) (sym t)
    ∙ ap (λ (j : ℕ). leading m (number j)) (sym n)

-- an END without taken answers is as it was sent
none_taken : {w : World} {r : ℕ} → Part w r [] → as_sent w (r ∷ []) ≡ w
unfolding as_sent any leads
none_taken {w} {r} h = having_same w _ _ (count_as w (r ∷ [])) (λ i. message_as w (r ∷ []) i ∙ go i (ℕ_discrete i r))
  where
    go : (i : ℕ) → Dec (i ≡ r) → if (eqb i r || false) (sent w i) (message w i) ≡ message w i
    go i (yes q) = rw (eq-eqb i r q) (subst (λ (x : ℕ). sent w x ≡ message w x) (sym q) (sent_is w r ∙ plain_is (message w r) h.free (eqb-true _ _ h.path)))
    go i (no q) = rw (ne_eqb i r q) refl

-- The answers lead back.
pub again : (ks : List ℕ) {w : World} {r : ℕ} → Part w r ks → retaken (as_sent w (r ∷ ks)) ks ≡ moved w
unfolding retaken
again [] {w} {r} h = ap (λ (x : World). moved x) (none_taken h)
again (k ∷ ks) {w} {r} h =
    let e : retaken (as_sent w (r ∷ k ∷ ks)) ks ≡ moved (back h) = ap (λ (x : World). retaken x ks) (sent_back h) ∙ again ks (back_part h) in
    rw e (take_back h ∙ ap (λ (x : World). moved x) (link_back h))
