-- Every run keeps the invariants: of a fresh world, and from step to step. Assumes nothing.
use Rattle.std.specs.Prelude.{ℕ, suc, ◌+◌, ◌≤◌, Bool, true, false, ◌||◌, ◌≡◌, refl, ◌⊎◌, List, [], ◌∷◌, eqb}
use Rattle.std.proofs.Common.{arith, subst, inl, inr, eqb-true}
use Rattle.std.proofs.Math.Path.{ap}
use Rattle.std.proofs.lemmas.Bool.{or_cases}
use Rattle.protocol.specs.declared.View.{View}
use Rattle.protocol.specs.declared.Server.{Server}
use Rattle.protocol.specs.declared.Client.{Client}
use Rattle.protocol.specs.declared.Message.{Message}
use Rattle.protocol.specs.declared.Step.{Step}
use Rattle.protocol.specs.Tools.{if, holds, bit_of, Result, refused, done, passed, same_done}
use Rattle.protocol.specs.Sizes.{messages, sized, view_with}
use Rattle.protocol.specs.Entries.{empty}
use Rattle.protocol.specs.Clients.{WRITES, READS, is_idle}
use Rattle.protocol.specs.Worlds.{World, no_message, server, member, fresh_world, fresh}
use Rattle.protocol.specs.Steps.{After}
use Rattle.protocol.specs.Consistent.{In, here, there}
use Rattle.protocol.specs.Runs.{step_of, step_bytes, Tracked, started, Run, noted, run, run_from}
use Rattle.protocol.proofs.Laws.Tests.{clash}
use Rattle.protocol.proofs.Laws.Fresh.{First, member_of_lem, outside, first, used_none, views_count, servers_count, clients_count, messages_count, fresh_newest, fresh_view, fresh_settled, fresh_client, fresh_message}
use Rattle.protocol.proofs.Laws.Bits.{holds_bit_of, holds_none}
use Rattle.protocol.proofs.Laws.Worlds.{content, sent}
use Rattle.protocol.proofs.Laws.Sound.{Mail, Sized, Sound, nowhere}
use Rattle.protocol.proofs.Laws.Turns.{starter, step_lawful, step_starter}
use Rattle.protocol.proofs.Laws.Lists.{no_member}
use Rattle.agreement.specs.Lists.{empty as nobody, next}
use Rattle.agreement.specs.Invariants.{Keyed, Based, early, Origin, blank, Inv}
use Rattle.agreement.proofs.Invariants.{inv_on}
use Rattle.agreement.specs.Operations.{Story}
use Rattle.agreement.proofs.Story.{Fresh, Newly, story_on}

-- ---- a fresh world

module _ (v : View) (z : sized v ≡ true) where
  unsent : (i : ℕ) → i ≤ (fresh_world v).used → sent (fresh_world v) i ≡ no_message
  unfolding sent content
  unsent i l = ap content (fresh_message v i)

  no_kind : (i : ℕ) {k : ℕ} {A : Type 0} → i ≤ (fresh_world v).used → (sent (fresh_world v) i).kind ≡ suc k → A
  no_kind i l e = absurd (omega (arith, ap (λ (m : Message). m.kind) (unsent i l)))

  fresh_sound : Sound (fresh_world v)
  fresh_sound = record { mail = mail; sized = views; server_count = servers_count v; client_count = clients_count v }
    where
      mail : Mail (fresh_world v)
      mail =
          record {
            count = messages_count v;
            full = used_none v messages;
            asked = λ i l e. no_kind i l e;
            links = λ i l. nowhere (ap (λ (m : Message). m.next.0) (fresh_message v i));
          }

      views : Sized (fresh_world v)
      views =
          record {
            count = views_count v;
            low = omega (arith, fresh_newest v);
            sizes = λ t l u. let e : t ≡ 1 = omega (arith, fresh_newest v) in rw (e, fresh_view v) z;
            pending = λ e. clash e (fresh_settled v);
          }

  fresh_keyed : (s t : ℕ) → holds (server (fresh_world v) s).keys.0 t ≡ true → Keyed (fresh_world v) t s
  unfolding member bit_of
  fresh_keyed s t h = go (first v s)
    where
      go : First v s (server (fresh_world v) s) → Keyed (fresh_world v) t s
      go (member_of_lem i e) =
          let q : t ≡ 1 = holds_bit_of 1 t (rw e at h) in
          rw q (record { low = omega arith; high = omega (arith, fresh_newest v); to = rw (fresh_view v) i })
      go (outside e) = clash (rw e at h) (holds_none t)

  fresh_based : (s n : ℕ) → Based (fresh_world v) n (server (fresh_world v) s).view.0 (server (fresh_world v) s).entry
  fresh_based s n = go (first v s)
    where
      go : First v s (server (fresh_world v) s) → Based (fresh_world v) n (server (fresh_world v) s).view.0 (server (fresh_world v) s).entry
      go (member_of_lem i e) = early (omega (arith, ap (λ (a : Server). a.view.0) e))
      go (outside e) = early (omega (arith, ap (λ (a : Server). a.view.0) e))

  fresh_kept : (s n : ℕ) → Origin (fresh_world v) n (server (fresh_world v) s).entry
  fresh_kept s n = go (first v s)
    where
      go : First v s (server (fresh_world v) s) → Origin (fresh_world v) n (server (fresh_world v) s).entry
      go (member_of_lem i e) = blank (ap (λ (a : Server). a.entry) e)
      go (outside e) = blank (ap (λ (a : Server). a.entry) e)

  fresh_inv : Inv (fresh_world v)
  fresh_inv =
      record {
        low = omega (arith, fresh_newest v);
        first = ap (λ (m : Message). m.kind) (unsent 0 (omega arith));
        later = λ k l i. no_kind k l i;
        tagged = λ k l i. no_kind k l i;
        keyed = fresh_keyed;
        stamped = λ k l f. no_kind k l f.is;
        viewed = λ k l f. no_kind k l f.is;
        rising = λ i j l h f a. no_kind j h a.is;
        paid = λ k l f e. no_kind k l f.is;
        lost = λ k l f e. no_kind k l f.is;
        closed = λ i j l h f e a. no_kind j h a.is;
        opened = λ t l h. absurd (omega (arith, fresh_newest v));
        after = λ k l i t a b. no_kind k l i;
        based = λ s. fresh_based s _;
        rooted = λ k l f. no_kind k l f.is;
        started = λ m l e. no_kind m l e;
        kept = λ s. fresh_kept s _;
        shown = λ k l i. no_kind k l i;
        carried = λ m l e. no_kind m l e;
      }

  fresh_story : Story (fresh_world v) 1 []
  fresh_story =
      record {
        fits = λ o i. no_member i;
        order = nobody;
        opener = λ c l e. clash (ap (λ (a : Client). is_idle a.phase) (fresh_client v c)) e;
        writer = λ j l h e. no_kind j h e;
      }

-- ---- a run

-- what holds of every run from a fresh world
pub record Reached (r : Run) : Type 0 where
  pub sound : Sound r.world
  pub inv : Inv r.world
  pub place : 1 ≤ r.place
  pub story : Story r.world r.place r.operations

-- a step that is refused takes a place and nothing else
later_place : {w : World} {p : ℕ} {l : List Tracked} → Story w p l → Story w (p + 1) l
later_place s =
    record {
      fits =
          λ o i. let a = s.fits o i in record {
            low = a.low;
            kind = a.kind;
            read = a.read;
            began = omega (arith, a.began);
            ends = omega
                (arith, a.ends);
            spans = a.spans;
            wrote = a.wrote;
            phase = a.phase;
            alike = a.alike;
            going = a.going;
            given = a.given;
            done = a.done;
          };
      order = s.order;
      opener = s.opener;
      writer = s.writer;
    }

-- what an accepted step began
newly : (w v : World) (place : ℕ) (st : Step) → ((eqb st.kind WRITES || eqb st.kind READS) ≡ true → 1 ≤ st.who) → Newly w v place (starter st) st.kind (started v place st)
newly w v place st h = go (eqb st.kind WRITES || eqb st.kind READS) refl
  where
    one : Tracked
    one = record { client = st.who; kind = st.kind; begin = place; end = 0; active = true; read = v.used; write = 0; entry = empty }

    kinds : (eqb st.kind WRITES ≡ true) ⊎ (eqb st.kind READS ≡ true) → (st.kind ≡ WRITES) ⊎ (st.kind ≡ READS)
    kinds (inl e) = inl (eqb-true _ _ e)
    kinds (inr e) = inr (eqb-true _ _ e)

    go : (b : Bool) → (eqb st.kind WRITES || eqb st.kind READS) ≡ b → Newly w v place (if b st.who 0) st.kind (if b (one ∷ []) [])
    go true e =
        record {
          fresh =
              λ o i. subst (Fresh w v place st.who st.kind) (only o i)
              (record { client = refl; low = h e; kinds = kinds (or_cases _ _ e); same = refl; begin = refl; end = refl; active = refl; read = refl; write = refl });
          some = λ _. record { of = one; member = here refl; has = tt };
          order = next (λ y i. no_member i) nobody;
        }
      where
        only : (o : Tracked) → In o (one ∷ []) → one ≡ o
        only o (here e) = e
        only o (there i) = no_member i
    go false e = record { fresh = λ o i. no_member i; some = λ l. absurd (omega arith); order = nobody }

noted_reached : (r : Run) (b : List ℕ) → Reached r → Reached (noted r b (step_bytes r.world b))
unfolding step_bytes
noted_reached r b h = go (step_bytes r.world b) refl
  where
    go : (x : Result After) → step_bytes r.world b ≡ x → Reached (noted r b x)
    go (refused n) e = record { sound = h.sound; inv = h.inv; place = omega (arith, h.place); story = later_place h.story }
    go (done a) e =
        let (q, e1) = passed _ _ _ _ e in
        let s = step_lawful h.sound (step_of b) a e1 in
        record {
          sound = s.sound;
          inv = inv_on s.moved.change h.inv;
          place = omega (arith, h.place);
          story = story_on h.inv s.moved h.story (newly r.world a.world r.place (step_of b) (step_starter r.world (step_of b) a e1)) h.place;
        }

pub run_reached : (r : Run) (bs : List (List ℕ)) → Reached r → Reached (run r bs)
unfolding run
run_reached r [] h = h
run_reached r (b ∷ bs) h = run_reached (noted r b (step_bytes r.world b)) bs (noted_reached r b h)

-- every run from a fresh world that is not refused
pub reached : (bits f r : ℕ) (w : World) → fresh bits f r ≡ done w → (bs : List (List ℕ)) → Reached (run_from w bs)
unfolding fresh run_from
reached bits f r w e bs =
    let (z, d) = passed _ _ _ _ e in
    run_reached _ bs (subst (λ (x : World). Reached (record { world = x; place = 1; operations = [] })) (same_done d) (from_fresh (view_with bits f r) z))
  where
    from_fresh : (v : View) → sized v ≡ true → Reached (record { world = fresh_world v; place = 1; operations = [] })
    from_fresh v z = record { sound = fresh_sound v z; inv = fresh_inv v z; place = omega arith; story = fresh_story v z }
