-- "Wherever the cut falls, START has been sent and nothing changes, or the old view is newest and the answers that would have closed
-- END, taken again with no other step between, still do.": `cut`, for every run and every restart that check 3 lets pass. Assumes nothing.
use Rattle.std.specs.Prelude.{ℕ, ◌+◌, ◌≤◌, Bool, not, ◌&&◌, ◌||◌, ◌≡◌, ◌⊎◌, None, Some}
use Rattle.std.proofs.Common.{arith, sym, ◌∙◌, inl, inr}
use Rattle.std.proofs.Math.Bool.{true, false}
use Rattle.std.proofs.Math.Path.{refl, ap, subst}
use mathlib.Core.List.{List, [], ◌∷◌, ◌++◌}
use Rattle.std.proofs.Math.Dec.{eqb}
use Rattle.std.specs.Cmp.{first_so, second_so}
use Rattle.std.proofs.lemmas.Bool.{cases_Bool}
use borrow.Author.Tests.{eqb-true, eq-eqb}
use Rattle.protocol.specs.declared.MessageNumber.{MessageNumber}
use Rattle.protocol.specs.declared.Entry.{Entry}
use Rattle.protocol.specs.declared.View.{View}
use Rattle.protocol.specs.declared.Message.{Message}
use Rattle.protocol.specs.declared.Step.{Step}
use Rattle.protocol.specs.declared.Administrator.{Administrator}
use Rattle.protocol.specs.Types.{Ending}
use Rattle.protocol.specs.Tools.{if, all, Result, refused, done, guard, then, passed, same_done}
use Rattle.protocol.specs.Sizes.{messages, sized, write_size, view_with}
use Rattle.protocol.specs.Entries.{chosen}
use Rattle.protocol.specs.Servers.{START, END, ANSWER}
use Rattle.protocol.specs.Clients.{end_of, is_ending, keeps_view, restart, advance}
use Rattle.protocol.specs.Worlds.{World, view, client, message, newest, present, room, with_view, with_message, with_administrator, send, as_sent, fresh_world, fresh}
use Rattle.protocol.specs.Chains.{follow, chain, tagged, enough, shown}
use Rattle.protocol.specs.Steps.{After, moved, request, link, open?, starts, takes, take, emptied, planned, restarts, restart_step, view_asked, fields_fit, perform, step}
use Rattle.protocol.specs.Readable.{taken_answer}
use Rattle.protocol.specs.Runs.{step_of, step_bytes, Run, noted, run, run_from}
use Rattle.protocol.proofs.Laws.Tests.{clash, went}
use Rattle.protocol.proofs.Laws.Worlds.{content, sent, sent_link, sent_send, view_other}
use Rattle.protocol.proofs.Laws.Fresh.{fresh_settled}
use Rattle.protocol.proofs.Laws.Moves.{is_done, present_is}
use Rattle.protocol.proofs.Laws.Formed.{Formed}
use Rattle.preservation.proofs.Chained.{follow_same}
use Rattle.preservation.proofs.Updates.{request_free}
use Rattle.preservation.proofs.Kept.{ended, formed_step}
use Rattle.preservation.proofs.Begun.{fresh_formed}
use Rattle.preservation.specs.Unclosed.{Unclosed}
use Rattle.preservation.proofs.Unclosed.{all_true, enough_on, settled_unclosed, step_unclosed}
use Rattle.preservation.specs.Again.{retaken}
use Rattle.preservation.proofs.Again.{follow_leads, leads_on, Part, again}
use Rattle.preservation.specs.Cut.{answers_to, Cut, past, unsized, before}

-- ---- a world with another pending view

-- what was done, in the world that f makes of it
abbrev through : (World → World) → Result After → Result After
through f x = then x (λ a. done (record { world = f a.world; completed = a.completed }))

through_guard : (f : World → World) (b : Bool) (n : ℕ) (x y : Result After) → y ≡ through f x → guard b n y ≡ through f (guard b n x)
unfolding guard
through_guard f true n x y e = e
through_guard f false n x y e = refl

through_if : (f : World → World) (b : Bool) (x y p q : Result After) → p ≡ through f x → q ≡ through f y → if b p q ≡ through f (if b x y)
through_if f true x y p q d e = d
through_if f false x y p q d e = e

-- an answer k to END is taken: ks are its taken answers
abbrev ends_by : World → ℕ → ℕ → List ℕ → Result After
ends_by w k t ks = if (eqb t (newest w) && enough w t ks (write_size (view w t))) (starts w k (chosen (shown w t ks))) (moved (link w k))

takes_end : (w : World) (k r t : ℕ) → (message w k).request.0 ≡ r → (message w r).kind ≡ END → takes w k r t ≡ ends_by w k t (k ∷ chain w r)
unfolding takes
takes_end w k r t q i = rw (eq-eqb (message w r).kind END i, q) refl

module _ (w : World) (v : View) where
  abbrev other : World
  other = with_view w (newest w + 1) v

  other_message : (i : ℕ) → message other i ≡ message w i
  unfolding with_view message
  other_message i = refl

  other_chain : (r : ℕ) → chain other r ≡ chain w r
  unfolding chain
  other_chain r =
      ap (λ (m : Message). follow other messages m.next.0) (other_message r)
      ∙ follow_same w other (λ j. true) (λ j _. ap (λ (m : Message). m.next) (other_message j)) messages (message w r).next.0 (all_true _)

  other_enough : (t size : ℕ) (ks : List ℕ) → enough other t ks size ≡ enough w t ks size
  unfolding sent
  other_enough t size ks = enough_on w other t size (λ j. true) (λ j _. ap content (other_message j)) ks (all_true ks)

  other_shown : (t : ℕ) (ks : List ℕ) → shown other t ks ≡ shown w t ks
  unfolding shown
  other_shown t [] = refl
  other_shown t (k ∷ ks) =
      ap (λ (l : List Entry). if (tagged other t k) ((message other k).entry ∷ l) l) (other_shown t ks)
      ∙ ap (λ (m : Message). if (eqb m.view.0 t) (m.entry ∷ shown w t ks) (shown w t ks)) (other_message k)

  other_view : view other (newest w) ≡ view w (newest w)
  other_view = view_other w (newest w + 1) v (newest w) (λ e. omega arith)

  -- END closes in both or in neither
  closed_alike : (t : ℕ) (ks : List ℕ)
      → (eqb t (newest w) && enough other t ks (write_size (view other t))) ≡ (eqb t (newest w) && enough w t ks (write_size (view w t)))
  closed_alike t ks = go (cases_Bool (eqb t (newest w)))
    where
      go : (eqb t (newest w) ≡ true) ⊎ (eqb t (newest w) ≡ false)
          → (eqb t (newest w) && enough other t ks (write_size (view other t))) ≡ (eqb t (newest w) && enough w t ks (write_size (view w t)))
      go (inl e) =
          rw e
          (subst (λ (x : ℕ). enough other x ks (write_size (view other x)) ≡ enough w x ks (write_size (view w x))) (sym (eqb-true t (newest w) e))
          (other_enough (newest w) _ ks ∙ ap (λ (x : View). enough w (newest w) ks (write_size x)) other_view))
      go (inr e) = rw e refl

  -- the same START
  starts_alike : (k : ℕ) (e : Entry) → starts other k e ≡ through (λ x. with_view x (newest w + 1) v) (starts w k e)
  unfolding starts link with_message with_view with_administrator send room message
  starts_alike k e = through_guard (λ x. with_view x (newest w + 1) v) (room w) 10 (moved (send (with_administrator (link w k) (advance w.administrator)) (request START 0 (newest w + 1) e))) _ refl

  link_alike : (k : ℕ) → moved (link other k) ≡ through (λ x. with_view x (newest w + 1) v) (moved (link w k))
  unfolding link with_message with_view message
  link_alike k = refl

  ends_alike : (k t : ℕ) (ks : List ℕ)
      → if (eqb t (newest w) && enough other t ks (write_size (view other t))) (starts other k (chosen (shown other t ks))) (moved (link other k))
      ≡ through (λ x. with_view x (newest w + 1) v) (ends_by w k t ks)
  ends_alike k t ks =
      ap (λ (b : Bool). if b (starts other k (chosen (shown other t ks))) (moved (link other k))) (closed_alike t ks)
      ∙ through_if (λ x. with_view x (newest w + 1) v) (eqb t (newest w) && enough w t ks (write_size (view w t))) (starts w k (chosen (shown w t ks))) (moved (link w k)) _ _
      (ap (λ (l : List Entry). starts other k (chosen l)) (other_shown t ks) ∙ starts_alike k _) (link_alike k)

  newest_alike : (k t : ℕ) (ks : List ℕ) → ends_by other k t ks ≡ through (λ x. with_view x (newest w + 1) v) (ends_by w k t ks)
  unfolding with_view
  newest_alike k t ks = ends_alike k t ks

  takes_alike : (k r t : ℕ) → (message w k).request.0 ≡ r → (message w r).kind ≡ END → takes other k r t ≡ through (λ x. with_view x (newest w + 1) v) (takes w k r t)
  takes_alike k r t q i =
      takes_end other k r t (ap (λ (m : Message). m.request.0) (other_message k) ∙ q) (ap (λ (m : Message). m.kind) (other_message r) ∙ i)
      ∙ ap (λ (l : List ℕ). ends_by other k t (k ∷ l)) (other_chain r) ∙ newest_alike k t (k ∷ chain w r)
      ∙ ap (through (λ x. with_view x (newest w + 1) v)) (sym (takes_end w k r t q i))

  take_alike : (k r : ℕ) → (message w k).request.0 ≡ r → (message w r).kind ≡ END → take other k ≡ through (λ x. with_view x (newest w + 1) v) (take w k)
  unfolding take with_view present message open? client
  take_alike k r q i =
      through_guard (λ x. with_view x (newest w + 1) v) (present w k && eqb (message w k).kind ANSWER) 5 _ _
      (through_guard (λ x. with_view x (newest w + 1) v) (not (message w k).taken && open? w (message w k).request.0) 7 _ _
      (takes_alike k (message w k).request.0 (message w k).view.0 refl (subst (λ (x : ℕ). (message w x).kind ≡ END) (sym q) i)))

-- ---- the answers of an open END

-- its chain, in a readable world that a run reaches
part_of : {w : World} → Formed w → Unclosed w → (r : MessageNumber) → w.administrator.ending ≡ Some r → Part w r.0 (chain w r.0)
unfolding chain
part_of {w} h g r e =
    let d = ended h r e in
    let c = d.full.chain in
    let s = d.full.short in
    record {
      low = s.low;
      below = s.below;
      full = h.full;
      count = h.message_count;
      is = d.is;
      free = request_free h r.0 s.low s.below s.asked;
      ending = ap end_of e;
      path = follow_leads w messages (message w r.0).next.0 c.ends;
      only = c.only;
      once = c.once;
      few = g.few r e;
    }

part_other : {w : World} {r : ℕ} {ks : List ℕ} (v : View) → Part w r ks → Part (with_view w (newest w + 1) v) r ks
unfolding with_view message taken_answer present
part_other {w} {r} {ks} v h =
    record {
      low = h.low;
      below = h.below;
      full = h.full;
      count = h.count;
      is = h.is;
      free = h.free;
      ending = h.ending;
      path = leads_on w (other w v) (λ j. true) (λ j _. refl) (message w r).next.0 ks (all_true ks) h.path;
      only = h.only;
      once = h.once;
      few = ap (λ (x : View). enough (other w v) (newest w) ks (write_size x)) (other_view w v) ∙ other_enough w v (newest w) _ ks ∙ h.few;
    }

-- ---- the restart

-- nothing is being ended
refused_settled : (w : World) (v : View) → w.administrator.ending ≡ None → restarts w v ≡ refused 7
unfolding restarts restart guard
refused_settled w v e = rw (ap is_ending e) refl

module _ {w : World} (h : Formed w) (g : Unclosed w) (r : MessageNumber) (e : w.administrator.ending ≡ Some r) (v : View) where
  abbrev restarted : World
  restarted = planned (with_administrator (emptied w r.0) w.administrator) (newest w + 1) v

  restarts_to : (keeps_view v || sized v) ≡ true → restarts w v ≡ moved restarted
  unfolding restarts restart guard
  restarts_to z =
      rw (ap is_ending e, z) (ap (λ (x : Ending). moved (planned (with_administrator (emptied w (end_of x)) w.administrator) (newest w + 1) v)) e)

  restarts_not : (keeps_view v || sized v) ≡ false → restarts w v ≡ refused 8
  unfolding restarts restart guard
  restarts_not z = rw (ap is_ending e, z) refl

  restarted_same : restarted.administrator ≡ w.administrator
  unfolding with_view with_administrator
  restarted_same = go (keeps_view v)
    where
      go : (b : Bool) → (if b (with_administrator (emptied w r.0) w.administrator)
          (with_view (with_administrator (emptied w r.0) w.administrator) (newest w + 1) v)).administrator ≡ w.administrator
      go true = refl
      go false = refl

  -- the answers of the chain lead back
  retaken_chain : retaken restarted (chain w r.0) ≡ moved (planned w (newest w + 1) v)
  unfolding emptied with_view with_administrator as_sent
  retaken_chain = go (keeps_view v)
    where
      go : (b : Bool)
          → retaken (if b (with_administrator (emptied w r.0) w.administrator) (with_view (with_administrator (emptied w r.0) w.administrator) (newest w + 1) v)) (chain w r.0)
          ≡ moved (if b w (with_view w (newest w + 1) v))
      go true = again (chain w r.0) (part_of h g r e)
      go false = again (chain w r.0) (part_other v (part_of h g r e))

-- ---- more answers are taken

-- b comes from w by taking answers to its END: the messages of w are there, and END is open as in w, or closed
record Since (w b : World) : Type 0 where
  used : w.used ≤ b.used
  old : (i : ℕ) → i ≤ w.used → sent b i ≡ sent w i
  ending : (b.administrator ≡ w.administrator) ⊎ (b.administrator.ending ≡ None)

since_link : {w b : World} → Since w b → b.administrator ≡ w.administrator → (k : ℕ) → Since w (link b k)
unfolding link with_message
since_link {w} {b} s d k = record { used = s.used; old = λ i l. sent_link b k i ∙ s.old i l; ending = inl d }

-- END is closed, and START, m, is sent
since_start : {w b : World} → Since w b → (m : Message) → Since w (send (with_administrator b (advance b.administrator)) m)
unfolding send with_administrator advance sent message
since_start {w} {b} s m =
    record {
      used = omega (arith, s.used);
      old = λ i l. sent_send (with_administrator b (advance b.administrator)) m i (omega (arith, s.used)) ∙ s.old i l;
      ending = inr refl;
    }

-- the world a after END's answer k, with view t, was taken in b
since_end : {w b : World} → Since w b → b.administrator ≡ w.administrator → (k t : ℕ) (ks : List ℕ) (a : After) → ends_by b k t ks ≡ done a → Since w a.world
unfolding starts link with_message
since_end {w} {b} s d k t ks a = go (eqb t (newest b) && enough b t ks (write_size (view b t)))
  where
    go : (c : Bool) → if c (starts b k (chosen (shown b t ks))) (moved (link b k)) ≡ done a → Since w a.world
    go true e = let (_, f) = passed _ _ _ _ e in subst (λ (x : After). Since w x.world) (same_done f) (since_start (since_link s d k) (request START 0 (newest b + 1) (chosen (shown b t ks))))
    go false e = subst (λ (x : After). Since w x.world) (same_done e) (since_link s d k)

-- an answer to END is taken only while END is open
taken_open : (b : World) (k r : ℕ) → (message b k).request.0 ≡ r → (message b r).kind ≡ END → (a : After) → take b k ≡ done a
    → (end_of b.administrator.ending ≡ r) × (ends_by b k (message b k).view.0 (k ∷ chain b r) ≡ done a)
unfolding take open?
taken_open b k r q i a e =
    let (_, e1) = passed _ _ _ _ e in
    let (o, e2) = passed _ _ _ _ e1 in
    let n : open? b r ≡ true = subst (λ (x : ℕ). open? b x ≡ true) q (second_so (not (message b k).taken) _ o) in
    (eqb-true _ _ (rw (eq-eqb (message b r).kind END i) at n), sym (takes_end b k r _ q i) ∙ subst (λ (x : ℕ). takes b k x (message b k).view.0 ≡ done a) q e2)

-- the same in a world with another pending view
take_planned : (b : World) (v : View) (k r : ℕ) → (message b k).request.0 ≡ r → (message b r).kind ≡ END → (a : After) → take b k ≡ done a
    → take (planned b (newest b + 1) v) k ≡ done (record { world = planned a.world (newest b + 1) v; completed = a.completed })
take_planned b v k r q i a f = go (keeps_view v)
  where
    go : (c : Bool) → take (if c b (with_view b (newest b + 1) v)) k ≡ done (record { world = if c a.world (with_view a.world (newest b + 1) v); completed = a.completed })
    go true = f
    go false = take_alike b v k r q i ∙ ap (through (λ x. with_view x (newest b + 1) v)) f

module _ {w : World} (h : Formed w) (g : Unclosed w) (r : MessageNumber) (e : w.administrator.ending ≡ Some r) (v : View) where
  -- the world after answers of w to END, and where they lead after a restart
  record Leads (js : List ℕ) (a : After) : Type 0 where
    since : Since w a.world
    again : retaken (restarted h g r e v) (js ++ chain w r.0) ≡ done (record { world = planned a.world (newest w + 1) v; completed = a.completed })

  leads_none : Leads [] (record { world = w; completed = 0 })
  leads_none = record { since = record { used = omega arith; old = λ i l. refl; ending = inl refl }; again = retaken_chain h g r e v }

  leads_more : (j : ℕ) (js : List ℕ) → answers_to w r.0 j ≡ true → (b a : After) → Leads js b → take b.world j ≡ done a → Leads (j ∷ js) a
  unfolding retaken sent content
  leads_more j js p b a l f =
      let s = l.since in
      let d = ended h r e in
      let (_, u) = present_is w j (first_so _ _ p) in
      let q : (message b.world j).request.0 ≡ r.0 = ap (λ (m : Message). m.request.0) (s.old j u) ∙ eqb-true _ _ (second_so (present w j) _ p) in
      let i : (message b.world r.0).kind ≡ END = ap (λ (m : Message). m.kind) (s.old r.0 d.full.short.below) ∙ d.is in
      let (o, t) = taken_open b.world j r.0 q i a f in
      let k : b.world.administrator ≡ w.administrator = still s.ending o in
      let n : newest b.world ≡ newest w = ap (λ (x : Administrator). x.newest.0) k in
      record {
        since = since_end s k j _ _ a t;
        again =
            rw l.again
            (subst (λ (x : ℕ). take (planned b.world (x + 1) v) j ≡ done (record { world = planned a.world (x + 1) v; completed = a.completed })) n
            (take_planned b.world v j r.0 q i a f));
      }
    where
      still : (b.world.administrator ≡ w.administrator) ⊎ (b.world.administrator.ending ≡ None) → end_of b.world.administrator.ending ≡ r.0 → b.world.administrator ≡ w.administrator
      still (inl k) o = k
      still (inr k) o = absurd (omega (arith, (ended h r e).full.short.low, o, ap end_of k))

  leads_to : (js : List ℕ) → all (answers_to w r.0) js ≡ true → (a : After) → retaken w js ≡ done a → Leads js a
  unfolding retaken all
  leads_to [] p a f = subst (Leads []) (same_done f) leads_none
  leads_to (j ∷ js) p a f =
      let x = went _ _ _ f in
      leads_more j js (first_so _ _ p) x.value a (leads_to js (second_so (answers_to w r.0 j) _ p) x.value x.is) x.on

-- ---- the promise

step_restarts : (w : World) (st : Step) → st.kind ≡ restart_step → fields_fit st ≡ true → step w st ≡ restarts w (view_asked st)
unfolding step guard perform
step_restarts w st k f = rw f (rw k refl)

cut_of : {w : World} → Formed w → Unclosed w → (st : Step) → st.kind ≡ restart_step → fields_fit st ≡ true → Cut w st
cut_of {w} h g st k f = go w.administrator.ending refl
  where
    v : View
    v = view_asked st

    ends : (r : MessageNumber) → w.administrator.ending ≡ Some r → (b : Bool) → (keeps_view v || sized v) ≡ b → Cut w st
    ends r e true z =
        before r e (restarted h g r e v) (step_restarts w st k f ∙ restarts_to h g r e v z) (restarted_same h g r e v) (λ js p a t. (leads_to h g r e v js p a t).again)
    ends r e false z = unsized r e z (step_restarts w st k f ∙ restarts_not h g r e v z)

    go : (x : Ending) → w.administrator.ending ≡ x → Cut w st
    go None e = past e (step_restarts w st k f ∙ refused_settled w v e)
    go (Some r) e = ends r e _ refl

-- what a step of a run leaves
noted_kept : (x : Run) → Formed x.world → Unclosed x.world → (b : List ℕ) → Formed (noted x b (step_bytes x.world b)).world × Unclosed (noted x b (step_bytes x.world b)).world
unfolding step_bytes
noted_kept x h g b = go (step_bytes x.world b) refl
  where
    go : (y : Result After) → step_bytes x.world b ≡ y → Formed (noted x b y).world × Unclosed (noted x b y).world
    go (refused n) e = (h, g)
    go (done a) e = let (l, d) = passed _ _ _ _ e in (formed_step h (step_of b) a d, step_unclosed h g (step_of b) a d)

settled : (x : Ending) → is_ending x ≡ false → x ≡ None
settled None e = refl
settled (Some r) e = clash refl e

-- every world of a run
reached : (x : Run) → Formed x.world → Unclosed x.world → (bs : List (List ℕ)) → Formed (run x bs).world × Unclosed (run x bs).world
unfolding run
reached x h g [] = (h, g)
reached x h g (b ∷ bs) = let (p, q) = noted_kept x h g b in reached (noted x b (step_bytes x.world b)) p q bs

-- "Wherever the cut falls": of every run from a fresh world, and every restart that check 3 lets pass.
pub cut : (members f r : ℕ) (w : World) → fresh members f r ≡ done w → (bs : List (List ℕ)) (st : Step) → st.kind ≡ restart_step → fields_fit st ≡ true
    → Cut (run_from w bs).world st
unfolding fresh run_from
cut members f r w e bs st k i =
    let (y, d) = passed _ _ _ _ e in
    let v = view_with members f r in
    let (p, q) = reached (record { world = fresh_world v; place = 1; operations = [] }) (fresh_formed v y) (settled_unclosed (fresh_world v) (settled _ (fresh_settled v))) bs in
    rw (is_done d) (cut_of p q st k i)
