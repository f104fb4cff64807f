-- What a fresh world holds. Assumes nothing.
use Rattle.std.specs.Prelude.{ℕ, zero, suc, ◌≤◌, true, false, ◌≡◌, refl, ◌⊎◌, length, get_or, replicate}
use Rattle.std.proofs.Common.{arith, ap, ◌∙◌, inl, inr}
use Rattle.std.proofs.lemmas.List.{length-replicate}
use Rattle.std.proofs.lemmas.Bool.{cases_Bool}
use Rattle.protocol.specs.Types.{View, Server}
use Rattle.protocol.specs.Tools.{holds, nth}
use Rattle.protocol.specs.Sizes.{servers, clients, views, messages}
use Rattle.protocol.specs.Entries.{empty}
use Rattle.protocol.specs.Clients.{is_ending}
use Rattle.protocol.specs.Worlds.{no_view, no_server, no_client, no_message, view, server, client, message, newest, fresh_server, list_to, fresh_world}
use Rattle.protocol.proofs.Laws.Lists.{length_list_to}

get_d_list_to : {A : Type 0} (g : ℕ → A) (n k : ℕ) (d : A) → (get_or (list_to g n) k d ≡ g (suc k)) ⊎ (get_or (list_to g n) k d ≡ d)
unfolding list_to
get_d_list_to g zero k d = inr refl
get_d_list_to g (suc n) zero d = inl refl
get_d_list_to g (suc n) (suc k) d = get_d_list_to (λ i. g (suc i)) n k d

-- a server of a fresh world is a member of view 1, or nobody
pub data First (v : View) (s : ℕ) (a : Server) : Type 0 where
  member_of_lem : holds v.members.0 s ≡ true → a ≡ record { view = record { 0 = 1 }; faulty = false; keys = record { 0 = 1 }; entry = empty } → First v s a
  outside : a ≡ no_server → First v s a

pub first : (v : View) (s : ℕ) → First v s (server (fresh_world v) s)
unfolding server fresh_world nth
first v zero = outside refl
first v (suc k) = go (get_d_list_to (fresh_server v.members.0) servers k no_server) (cases_Bool (holds v.members.0 (suc k)))
  where
    go : {a : Server} → (a ≡ fresh_server v.members.0 (suc k)) ⊎ (a ≡ no_server) → (holds v.members.0 (suc k) ≡ true) ⊎ (holds v.members.0 (suc k) ≡ false) → First v (suc k) a
    go (inl e) (inl h) = member_of_lem h (e ∙ rw h refl)
    go (inl e) (inr h) = outside (e ∙ rw h refl)
    go (inr e) h = outside e

pub used_none : (v : View) (n : ℕ) → (fresh_world v).used ≤ n
unfolding fresh_world
used_none v n = omega arith

pub messages_count : (v : View) → length (fresh_world v).message_list ≡ suc messages
unfolding fresh_world
messages_count v = length-replicate (suc messages) no_message

pub clients_count : (v : View) → length (fresh_world v).client_list ≡ clients
unfolding fresh_world
clients_count v = length-replicate clients no_client

pub servers_count : (v : View) → length (fresh_world v).server_list ≡ servers
unfolding fresh_world
servers_count v = length_list_to (fresh_server v.members.0) servers

pub fresh_newest : (v : View) → newest (fresh_world v) ≡ 1
unfolding fresh_world
fresh_newest v = refl

pub fresh_view : (v : View) → view (fresh_world v) 1 ≡ v
unfolding fresh_world view nth
fresh_view v = refl

pub fresh_settled : (v : View) → is_ending (fresh_world v).administrator.ending ≡ false
unfolding fresh_world
fresh_settled v = refl

pub views_count : (v : View) → length (fresh_world v).view_list ≡ views
unfolding fresh_world
views_count v = ap suc (length-replicate 31 no_view)

get_d_same : {A : Type 0} (n k : ℕ) (a : A) → get_or (replicate n a) k a ≡ a
get_d_same zero k a = refl
get_d_same (suc n) zero a = refl
get_d_same (suc n) (suc k) a = get_d_same n k a

pub fresh_client : (v : View) (c : ℕ) → client (fresh_world v) c ≡ no_client
unfolding client fresh_world nth
fresh_client v zero = refl
fresh_client v (suc k) = get_d_same clients k no_client

pub fresh_message : (v : View) (n : ℕ) → message (fresh_world v) n ≡ no_message
unfolding message fresh_world
fresh_message v n = get_d_same (suc messages) n no_message

pub fresh_beyond : (v : View) (t : ℕ) → view (fresh_world v) (suc (suc t)) ≡ no_view
unfolding view fresh_world nth
fresh_beyond v t = get_d_same 31 t no_view
