-- Steps of a server on a readable image. Assumes nothing.
use Rattle.std.specs.Prelude.{ℕ, ◌+◌, ◌≤◌, Bool, ◌&&◌, ◌≡◌, leb, None, Some, Result as Outcome, Ok, Err}
use Rattle.std.proofs.Common.{arith, sym, ap₂, ◌∙◌}
use Rattle.std.proofs.Math.Bool.{true, false}
use Rattle.std.proofs.Math.Path.{refl, ap}
use mathlib.Core.List.{List}
use Rattle.std.proofs.Math.Dec.{eqb}
use Rattle.std.specs.Int.Bits.{bit_or}
use borrow.Author.Tests.{eqb-true, eq-eqb, ne_eqb, le-leb, not-true}
use Rattle.protocol.specs.declared.Entry.{Entry}
use Rattle.protocol.specs.declared.Server.{Server}
use Rattle.protocol.specs.declared.Message.{Message}
use Rattle.protocol.specs.declared.MessageNumber.{MessageNumber}
use Rattle.protocol.specs.declared.Shown.{Shown}
use Rattle.protocol.specs.declared.refusals.Refusal.{Refusal}
use Rattle.protocol.specs.declared.refusals.Refusal.TheVariants.{NoMessage, FaultState}
use Rattle.protocol.specs.Refusals.{outcome, code, refusal_number, refusal_some}
use Rattle.protocol.specs.Tools.{if, bit, within, holds, bit_of, nth, Result, refused, done, guard, then, number_of, passed, same_done}
use Rattle.protocol.specs.Sizes.{servers, views, messages}
use Rattle.protocol.specs.Entries.{empty}
use Rattle.protocol.specs.declared.Reply.{Reply}
use Rattle.protocol.specs.Servers.{READ, WRITE, START, is_request, answering, write, replacing, without_key, gathering, joining, serve, may_answer}
use Rattle.protocol.specs.Worlds.{World, view, server, message, newest, member, present, with_server, send}
use Rattle.protocol.specs.Steps.{After, answer, answers, deliver, fault, source?, lie}
use Rattle.protocol.proofs.Laws.Tests.{within_true, by_test, clash}
use Rattle.protocol.proofs.Laws.Bits.{holds_none, holds_or, holds_bit_of}
use Rattle.protocol.proofs.Laws.Moves.{present_is}
use Rattle.values.specs.Bits.{bit_in, bit_in_lem}
use Rattle.readable.specs.Tests.{if_true, if_false}
use Rattle.key_holders.specs.Counts.{bit_or_lem}
use Rattle.codec.specs.Places.{used_at, server_at, message_at, put_server}
use Rattle.codec.specs.Images.{encode, decode}
use Rattle.server_rules.specs.Servers.{serve_in, serve_in_lem, entering, replying, accepting, serve_done}
use Rattle.preservation.proofs.Kept.{mailed}
use Rattle.mail.specs.Images.{Legible, Does, put_sent, number_left}
use Rattle.mail.specs.Stored.{refuses, does, whole, used_is, server_is, message_is, image_of, with_sent, room_yes, room_no, numbered, unnumbered}
use Rattle.deliveries.specs.Holders.{raised, gained, gained_key, gained_none, server_kept, server_raised}

kept_used : (w : World) (s : ℕ) (b : Server) (u : ℕ) → u ≡ w.used → u + 1 ≡ (with_server w s b).used + 1
unfolding with_server
kept_used w s b u e = ap (λ (n : ℕ). n + 1) e

-- a false answer that is not refused
may_done : (a : Server) (t : ℕ) (m : Message) (b : Bool) → number_of (may_answer a t m b) ≡ 0 → may_answer a t m b ≡ done a
unfolding may_answer guard
may_done a t m b e = go (is_request m.kind && b) a.faulty (holds a.keys.0 t) e
  where
    go : (x y z : Bool) → number_of (guard x 5 (guard y 6 (guard z 9 (done a)))) ≡ 0 → guard x 5 (guard y 6 (guard z 9 (done a))) ≡ done a
    go true true true e = refl
    go true true false e = absurd (omega arith)
    go true false z e = absurd (omega arith)
    go false y z e = absurd (omega arith)

-- only a correct server serves kinds 1 to 3
served_correct : (a : Server) (m : Message) (b : Bool) (r : Reply) → serve a m b ≡ done r → (m.kind ≡ START → ⊥) → a.faulty ≡ false
unfolding serve
served_correct a m b r e n =
    let x = (passed _ _ _ _ e).1 in
    let y = sym (if_false (eqb m.kind START) _ _ (ne_eqb _ _ n)) ∙ x in
    not-true a.faulty (passed _ _ _ _ y).0

-- a faulty one that START reaches lacks its key
started_lacks : (a : Server) (m : Message) (b : Bool) (r : Reply) → serve a m b ≡ done r → m.kind ≡ START → a.faulty ≡ true → holds a.keys.0 m.view.0 ≡ false
unfolding serve
started_lacks a m b r e k f =
    let x = (passed _ _ _ _ e).1 in
    let y = sym (if_true (eqb m.kind START) _ _ (eq-eqb _ _ k)) ∙ x in
    let z = sym (if_true a.faulty _ _ f) ∙ (passed _ _ _ _ y).1 in
    not-true (holds a.keys.0 m.view.0) (passed _ _ _ _ z).0

-- a rule makes no server faulty
entering_faulty : (a : Server) (m : Message) → (entering a m).faulty ≡ a.faulty
unfolding entering gathering joining
entering_faulty a m = go (leb m.view.0 views) a.faulty
  where
    go : (v f : Bool) → (if v (if f (gathering a m) (joining a m)) a).faulty ≡ a.faulty
    go true true = refl
    go true false = refl
    go false f = refl

replying_faulty : (a : Server) (m : Message) → (replying a m).server.faulty ≡ a.faulty
unfolding replying replacing without_key
replying_faulty a m = go (eqb m.kind WRITE) (eqb m.kind READ)
  where
    go : (w r : Bool) → (if w (write a m.entry) (answering a (if r a (without_key a)))).server.faulty ≡ a.faulty
    go true r = refl
    go false true = refl
    go false false = refl

-- START alone has no answer
replying_answers : (a : Server) (m : Message) → (v : Shown) × ((replying a m).answer ≡ Some v)
unfolding replying
replying_answers a m = go (eqb m.kind WRITE)
  where
    go : (w : Bool) → (v : Shown) × ((if w (write a m.entry) (answering a (if (eqb m.kind READ) a (without_key a)))).answer ≡ Some v)
    go true = (_, refl)
    go false = (_, refl)

module _ (a : Server) (m : Message) (r : Reply) where
  unanswered : r ≡ accepting a m → r.answer ≡ None → (m.kind ≡ START) × (r.server ≡ entering a m)
  unanswered e n = go (eqb m.kind START) refl e
    where
      go : (c : Bool) → eqb m.kind START ≡ c → r ≡ if c (record { server = entering a m; answer = None }) (replying a m) → (m.kind ≡ START) × (r.server ≡ entering a m)
      go true i e = (eqb-true _ _ i, ap (λ (v : Reply). v.server) e)
      go false i e = let (v, j) = replying_answers a m in absurd (let d : None ≡ Some v = sym n ∙ ap (λ (y : Reply). y.answer) e ∙ j in cc)

  is_answered : (v : Shown) → r ≡ accepting a m → r.answer ≡ Some v → (m.kind ≡ START → ⊥) × (r ≡ replying a m)
  is_answered v e n = go (eqb m.kind START) refl e
    where
      go : (c : Bool) → eqb m.kind START ≡ c → r ≡ if c (record { server = entering a m; answer = None }) (replying a m) → (m.kind ≡ START → ⊥) × (r ≡ replying a m)
      go true i e = absurd (let d : None ≡ Some v = sym (ap (λ (y : Reply). y.answer) e) ∙ n in cc)
      go false i e = ((λ k. clash (eq-eqb _ _ k) i), e)

-- a faulty one that START reaches gathers its key
gathers : (a : Server) (m : Message) → m.view.0 ≤ views → a.faulty ≡ true → entering a m ≡ gathering a m
unfolding entering
gathers a m v f = rw (le-leb m.view.0 views v, f) refl

-- the keys with one that was lacking
key_gained : (keys t u : ℕ) → t ≤ 32 → holds keys t ≡ false → bit (holds (bit_or keys (bit_of t)) u) ≡ bit (holds keys u) + bit (holds (bit_in t) u)
key_gained keys t u h n =
    rw (bit_in_lem t h, holds_or keys (bit_of t) u)
    (bit_or_lem (holds keys u) (holds (bit_of t) u)
    (λ e. by_test (holds (bit_of t) u) (λ q. clash (rw (sym (holds_bit_of t u q)) e) n) (λ q. q)))

-- view 0 has no members
pub member_none : (w : World) (t s : ℕ) → t ≡ 0 → false ≡ member w t s
unfolding member view nth
member_none w t s e = rw e (sym (holds_none s))

module _ {l : List ℕ} (h : Legible l) where
  abbrev w : World
  w = decode l

  -- a message that was sent can be loaded, and its view is one of 32
  pub sent_low : (n : ℕ) → present w n ≡ true → n ≤ messages
  sent_low n e = let (a, b) = present_is w n e in omega (arith, (whole h).full)

  pub view_low : (n : ℕ) → present w n ≡ true → (message w n).view.0 ≤ views
  view_low n e = let (a, b) = present_is w n e in go (leb (message w n).kind WRITE) (mailed (whole h) n a b).tag
    where
      go : (t : Bool) → if t (eqb (message w n).view.0 0) (within 1 (newest w) (message w n).view.0) ≡ true → (message w n).view.0 ≤ views
      go true e = omega (arith, eqb-true (message w n).view.0 0 e)
      go false e = let (a, b) = within_true 1 (newest w) (message w n).view.0 e in omega (arith, (whole h).high)

  pub tag_low : (n : ℕ) (m : Message) → m ≡ message_at l n → present w n ≡ true → m.view.0 ≤ views
  tag_low n m p e = rw (p ∙ message_is h n (sent_low n e)) (view_low n e)

  -- the source of a false answer
  pub source_none : (n : ℕ) → n ≡ 0 → true ≡ source? w n
  unfolding source?
  source_none n e = rw (eq-eqb n 0 e) refl

  pub source_absent : (n : ℕ) → (n ≡ 0 → ⊥) → present w n ≡ false → false ≡ source? w n
  unfolding source?
  source_absent n e f = rw (ne_eqb n 0 e, f) refl

  pub source_is : (n : ℕ) (m : Message) → (n ≡ 0 → ⊥) → present w n ≡ true → m ≡ message_at l n → eqb m.kind 2 ≡ source? w n
  unfolding source?
  source_is n m e f p = rw (ne_eqb n 0 e, f) (ap (λ (x : Message). eqb x.kind 2) (p ∙ message_is h n (sent_low n f)))

  -- ---- fault

  module _ (s : ℕ) (a : 1 ≤ s) (b : s ≤ servers) (x : Server) (p : x ≡ server_at l s) where
    own : server w s ≡ x
    own = sym (p ∙ server_is h s a b)

    pub fault_no : x.faulty ≡ true → Does (Err FaultState) l l (fault w s)
    unfolding fault guard
    fault_no f = refuses FaultState l _ (rw (own, f) refl)

    pub fault_done : (l' : List ℕ) → x.faulty ≡ false → l' ≡ put_server (raised l x.keys.0 views) s (record { view = x.view; faulty = true; keys = x.keys; entry = x.entry })
        → Does (Ok None) l l' (fault w s)
    unfolding fault guard
    fault_done l' f d =
        does 0 (with_server w s (record { view = x.view; faulty = true; keys = x.keys; entry = x.entry })) l l' _ (rw (own, f) refl)
        (d ∙ server_raised h s a b (record { view = x.view; faulty = true; keys = x.keys; entry = x.entry }) x.keys.0 (λ t. rw (own, f) (omega arith)))

  -- ---- an answer

  module _ (s n : ℕ) (y : Server) (x : Shown) where
    pub reply_no : (z : Refusal) → Err z ≡ number_left (used_at l) → Does (Err z) l l (answers (Some x) w s n y)
    unfolding guard
    reply_no z e = let (f, i) = unnumbered (used_at l) z (sym e) in refuses z l _ (rw (room_no h f, i) refl)

    pub reply_done : 1 ≤ s → s ≤ servers → (server_at l s).faulty ≡ false → y.faulty ≡ false → (k : MessageNumber) → Ok k ≡ number_left (used_at l)
        → {l1 l2 : List ℕ} → l1 ≡ put_server l s y → {m : Message} → m ≡ answer s n x → l2 ≡ put_sent l1 k.0 m → Does (Ok None) l l2 (answers (Some x) w s n y)
    unfolding guard
    reply_done a b c o k e {l1} {l2} p {m} q d =
        let (f, i) = numbered (used_at l) k (sym e) in
        let j = kept_used w s y (used_at l) (used_is h) in
        does 0 (send (with_server w s y) (answer s n x)) l l2 _ (rw (room_yes h f) refl)
        (d ∙ ap₂ (λ (x : List ℕ) (y : Message). put_sent x k.0 y) p q
        ∙ (with_sent (server_kept (image_of h) s a b y (λ t. rw (← server_is h s a b, c, o) refl)) k.0 (answer s n x) (i ∙ j) (omega (arith, j, f))).is)

  -- ---- deliver

  pub absent : (s n : ℕ) → present w n ≡ false → Does (Err NoMessage) l l (deliver w s n)
  unfolding deliver guard
  absent s n e = refuses NoMessage l _ (rw e refl)

  module _ (s n : ℕ) (a : 1 ≤ s) (b : s ≤ servers) (e : present w n ≡ true) (m : Message) (x : Server) (t : Bool) (o : Outcome Reply Refusal)
      (p : m ≡ message_at l n) (q : x ≡ server_at l s) (z : t ≡ member w m.view.0 s) (f : outcome o ≡ serve_in x m t) where
    is_message : m ≡ message w n
    is_message = p ∙ message_is h n (sent_low n e)

    in_views : serve_in x m t ≡ serve x m t
    in_views = serve_in_lem x m t (rw is_message (view_low n e))

    rule : serve (server w s) (message w n) (member w (message w n).view.0 s) ≡ outcome o
    rule =
        sym (f ∙ in_views
        ∙ ap (λ (b : Bool). serve x m b) z ∙ ap₂ (λ (y : Server) (k : Message). serve y k (member w k.view.0 s)) (q ∙ server_is h s a b) is_message)

    pub deliver_no : (y : Refusal) → o ≡ Err y → Does (Err y) l l (deliver w s n)
    unfolding deliver guard
    deliver_no y d = refuses y l _ (rw (e, rule, d) refl)

    module _ (r : Reply) (d : o ≡ Ok r) where
      serve_is : serve x m t ≡ done r
      serve_is = sym in_views ∙ sym f ∙ ap outcome d

      accepted : r ≡ accepting x m
      accepted = same_done (sym (ap outcome d) ∙ f ∙ serve_done x m t (ap number_of (sym f ∙ ap outcome d)))

      is_server : server w s ≡ x
      is_server = sym (q ∙ server_is h s a b)

      -- START: a faulty server gains the key, a correct one stays correct
      module _ (g : r.server ≡ entering x m) (i : m.kind ≡ START) where
        same_faulty : r.server.faulty ≡ x.faulty
        same_faulty = ap (λ (v : Server). v.faulty) g ∙ entering_faulty x m

        start_image : (c : Bool) → x.faulty ≡ c → put_server (gained l r.server m.view.0) s r.server ≡ encode (with_server w s r.server)
        unfolding gathering
        start_image true c =
            let low : m.view.0 ≤ 32 = rw is_message (view_low n e) in
            let lacks = started_lacks x m t r serve_is i c in
            let keys = ap (λ (v : Server). v.keys.0) (g ∙ gathers x m low c) in
            ap (λ (k : List ℕ). put_server k s r.server) (gained_key l r.server m.view.0 (same_faulty ∙ c))
            ∙ (server_raised h s a b r.server (bit_in m.view.0)
            (λ u. rw (same_faulty ∙ c, is_server, c, keys) (key_gained x.keys.0 m.view.0 u low lacks)))
        start_image false c =
            ap (λ (k : List ℕ). put_server k s r.server) (gained_none l r.server m.view.0 (same_faulty ∙ c))
            ∙ (server_kept (image_of h) s a b r.server (λ u. rw (same_faulty ∙ c, is_server, c) refl)).is

      pub deliver_kept : (l' : List ℕ) → r.answer ≡ None → l' ≡ put_server (gained l r.server m.view.0) s r.server → Does (Ok None) l l' (deliver w s n)
      unfolding deliver guard
      deliver_kept l' i j =
          let (k, g) = unanswered x m r accepted i in
          does 0 (with_server w s r.server) l l' _ (rw (e, rule, d, i) refl) (j ∙ start_image g k x.faulty refl)

      -- kinds 1 to 3: it is correct and stays so
      pub deliver_correct : (v : Shown) → r.answer ≡ Some v → ((server_at l s).faulty ≡ false) × (r.server.faulty ≡ false)
      deliver_correct v i =
          let (k, g) = is_answered x m r v accepted i in
          let c = served_correct x m t r serve_is k in
          (ap (λ (y : Server). y.faulty) (sym q) ∙ c, ap (λ (y : Reply). y.server.faulty) g ∙ replying_faulty x m ∙ c)

      pub deliver_answers : (v : Shown) → r.answer ≡ Some v → deliver w s n ≡ answers (Some v) w s n r.server
      unfolding deliver guard
      deliver_answers v i = rw (e, rule, d, i) refl

  -- ---- a false answer

  pub unasked : (s t n c : ℕ) → present w n ≡ false → Does (Err NoMessage) l l (lie w s t n c)
  unfolding lie guard
  unasked s t n c e = refuses NoMessage l _ (rw e refl)

  module _ (s t n c : ℕ) (a : 1 ≤ s) (b : s ≤ servers) (e : present w n ≡ true) (m : Message) (x : Server) (g : Bool) {A : Type 0} (o : Outcome A Refusal)
      (p : m ≡ message_at l n) (q : x ≡ server_at l s) (z : g ≡ source? w c) (f : code o ≡ number_of (may_answer x t m g)) where
    may : may_answer (server w s) t (message w n) (source? w c) ≡ may_answer x t m g
    may =
        sym (ap₂ (λ (y : Server) (d : Message). may_answer y t d g) (q ∙ server_is h s a b) (p ∙ message_is h n (sent_low n e))
        ∙ ap (λ (d : Bool). may_answer (server w s) t (message w n) d) z)

    may_number : number_of (may_answer (server w s) t (message w n) (source? w c)) ≡ code o
    may_number = ap (λ (d : Result Server). number_of d) may ∙ sym f

    pub lie_no : (y : Refusal) → o ≡ Err y → Does (Err y) l l (lie w s t n c)
    unfolding lie guard
    lie_no y d = refuses y l _ (rw e (go (may_answer (server w s) t (message w n) (source? w c)) _ (may_number ∙ ap code d)))
      where
        go : (r : Result Server) (v : Server → Result After) → number_of r ≡ refusal_number y → then r v ≡ refused (refusal_number y)
        go (refused i) v j = ap refused j
        go (done i) v j = absurd (refusal_some y j)

    module _ (v : A) (d : o ≡ Ok v) where
      allowed : may_answer (server w s) t (message w n) (source? w c) ≡ done (server w s)
      allowed = may_done (server w s) t (message w n) (source? w c) (may_number ∙ ap code d)

      pub lie_full : (z : Refusal) → Err z ≡ number_left (used_at l) → Does (Err z) l l (lie w s t n c)
      unfolding lie guard
      lie_full z i = let (j, y) = unnumbered (used_at l) z (sym i) in refuses z l _ (rw (e, allowed, room_no h j, y) refl)

      pub lie_done : (k : MessageNumber) → Ok k ≡ number_left (used_at l) → {y : Entry} {l' : List ℕ} → y ≡ if (eqb c 0) empty (message w c).entry
          → {m' : Message} → m' ≡ answer s n (record { view = record { 0 = t }; entry = y }) → l' ≡ put_sent l k.0 m' → Does (Ok None) l l' (lie w s t n c)
      unfolding lie guard
      lie_done k i {y} {l'} o {m'} r v =
          let (j, u) = numbered (used_at l) k (sym i) in
          let x = answer s n (record { view = record { 0 = t }; entry = if (eqb c 0) empty (message w c).entry }) in
          does 0 (send w x) l l' _ (rw (e, allowed, room_yes h j) refl)
          (v ∙ ap (put_sent l k.0) (r ∙ ap (λ (z : Entry). answer s n (record { view = record { 0 = t }; entry = z })) o)
          ∙ (with_sent (image_of h) k.0 x (u ∙ ap (λ (n : ℕ). n + 1) (used_is h)) (omega (arith, j, used_is h))).is)
