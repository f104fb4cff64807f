-- A fresh world is readable, and so is every world that a run reaches. Assumes nothing.
use Rattle.std.specs.Prelude.{ℕ, zero, suc, ◌≤◌, ◌≡◌, List}
use Rattle.std.proofs.Common.{arith, ap, subst, ◌∙◌}
use Rattle.std.proofs.Math.Bool.{true}
use Rattle.std.proofs.Math.Path.{refl}
use Rattle.protocol.specs.declared.View.{View}
use Rattle.protocol.specs.Tools.{bit_of, Result, refused, done, passed, same_done}
use Rattle.protocol.specs.Sizes.{servers, clients, views, messages, sized, view_with}
use Rattle.protocol.specs.Entries.{same, entry_fits}
use Rattle.protocol.specs.Worlds.{World, no_message, server, fresh_world, fresh}
use Rattle.protocol.specs.Steps.{After}
use Rattle.protocol.specs.Runs.{step_of, step_bytes, left}
use Rattle.protocol.specs.Readable.{ending_fits, last_view, view_fits, server_fits, client_range, client_fits, zero_message, well_formed}
use Rattle.protocol.proofs.Laws.Fresh.{First, member_of_lem, outside, first, used_none, views_count, servers_count, clients_count, messages_count, fresh_newest, fresh_view, fresh_client, fresh_message, fresh_beyond}
use Rattle.protocol.proofs.Laws.Formed.{well_formed_lem}
use Rattle.preservation.specs.Begun.{FreshFormed}
use Rattle.preservation.proofs.Updates.{is_mail, is_view}
use Rattle.preservation.proofs.Kept.{step_kept}

fresh_last : (v : View) → last_view (fresh_world v) ≡ 1
unfolding last_view fresh_world
fresh_last v = refl

fresh_used : (v : View) → (fresh_world v).used ≡ 0
unfolding fresh_world
fresh_used v = refl

fresh_ending : (v : View) → ending_fits (fresh_world v) (fresh_world v).administrator.ending ≡ true
unfolding fresh_world
fresh_ending v = refl

zero_is : zero_message no_message ≡ true
unfolding zero_message same
zero_is = refl

module _ (v : View) (z : sized v ≡ true) where
  fresh_views : (t : ℕ) → 1 ≤ t → t ≤ views → view_fits (fresh_world v) t ≡ true
  fresh_views zero l u = absurd (omega arith)
  fresh_views (suc zero) l u = is_view (fresh_world v) 1 (λ h. ap sized (fresh_view v) ∙ z) (λ h. absurd (omega (arith, fresh_last v)))
  fresh_views (suc (suc t)) l u = is_view (fresh_world v) (suc (suc t)) (λ h. absurd (omega (arith, fresh_last v))) (λ h. rw (fresh_beyond v t) refl)

  fresh_servers : (s : ℕ) → 1 ≤ s → s ≤ servers → server_fits (fresh_world v) s ≡ true
  unfolding server_fits entry_fits bit_of server
  fresh_servers s l u = go (first v s)
    where
      go : First v s (server (fresh_world v) s) → server_fits (fresh_world v) s ≡ true
      go (member_of_lem i e) = rw (fresh_newest v, e) refl
      go (outside e) = rw (fresh_newest v, e) refl

  fresh_clients : (c : ℕ) → 1 ≤ c → c ≤ clients → client_fits (fresh_world v) c ≡ true
  unfolding client_fits client_range entry_fits same
  fresh_clients c l u = rw (fresh_client v c) refl

pub fresh_formed : FreshFormed
fresh_formed v z =
    record {
      view_count = views_count v;
      server_count = servers_count v;
      client_count = clients_count v;
      message_count = messages_count v;
      full = used_none v messages;
      low = omega (arith, fresh_newest v);
      high = omega (arith, fresh_newest v);
      ending = fresh_ending v;
      viewed = fresh_views v z;
      served = fresh_servers v z;
      client = fresh_clients v z;
      zero = rw (fresh_message v 0) zero_is;
      mail = λ n l u. is_mail (fresh_world v) n (λ h. absurd (omega (arith, fresh_used v))) (λ h. rw (fresh_message v n) zero_is);
      chained = λ r l u. absurd (omega (arith, fresh_used v));
    }

-- A fresh world that is not refused is readable.
pub fresh_kept : (members f r : ℕ) (w : World) → fresh members f r ≡ done w → well_formed w ≡ true
unfolding fresh
fresh_kept members f r w e =
    let (z, d) = passed _ _ _ _ e in
    subst (λ (x : World). well_formed x ≡ true) (same_done d) (well_formed_lem _ (fresh_formed (view_with members f r) z))

-- So is what any bytes for a step leave.
pub left_kept : (w : World) → well_formed w ≡ true → (b : List ℕ) → well_formed (left w (step_bytes w b)) ≡ true
unfolding step_bytes
left_kept w h b = go (step_bytes w b) refl
  where
    go : (x : Result After) → step_bytes w b ≡ x → well_formed (left w x) ≡ true
    go (refused n) e = h
    go (done a) e = let (q, e1) = passed _ _ _ _ e in step_kept w h (step_of b) a e1
