-- "0 means done": by which numbers each call refuses, none of them 0, for all inputs. `step_numbers` (1 to 12: `step_range`),
-- `fresh_numbers`, `premise_numbers`, `replay_numbers`, `resume_numbers`, and those of the rules and the calls of single machines;
-- the quorum size's is `quorum_refuses`. `Refuses ns x`: every refusal of x is one of ns; then `zero_done`: the number 0 means that
-- x is done. A replay's 0: `replay_zero`, `resume_zero`. Assumes nothing.
use Rattle.std.specs.Prelude.{ℕ, ◌+◌, ◌*◌, ◌/◌, ◌%◌, ◌≤◌, Bool, true, false, ◌&&◌, ◌≡◌, refl, List, [], ◌∷◌, length, drop, leb, eqb}
use Rattle.std.proofs.Common.{arith, length-drop, eqb-true, leb-true}
use Rattle.protocol.specs.declared.Entry.{Entry}
use Rattle.protocol.specs.declared.View.{View}
use Rattle.protocol.specs.declared.Server.{Server}
use Rattle.protocol.specs.declared.Client.{Client}
use Rattle.protocol.specs.declared.Administrator.{Administrator}
use Rattle.protocol.specs.declared.Message.{Message}
use Rattle.protocol.specs.Tools.{if, Result, refused, done, number_of}
use Rattle.protocol.specs.Worlds.{World}
use Rattle.protocol.specs.Runs.{step_width, replay}
pub use Rattle.protocol.proofs.Laws.Refusals.{among, Refuses, refusals, last_refusal, zero_done, quorum_refuses}
use Rattle.protocol.proofs.Laws.Refusals.{refuses_done, refuses_by, refuses_guard, refuses_if, refuses_more, among_ranged}
use Rattle.protocol.proofs.Laws.Refusals.{step_refuses, fresh_refuses, serve_refuses, may_answer_refuses, begin_refuses, close_refuses}
use Rattle.protocol.proofs.Laws.Refusals.{call_refuses, restart_refuses, replay_refuses, replay_all}
use Rattle.codec.specs.Layout.{image_size}
use Rattle.codec.specs.Images.{decode}
use Rattle.readable.specs.Readable.{readable}
use Rattle.image.specs.Fresh.{outcome, fresh_on}
use Rattle.image.specs.Premise.{premise_on}
use Rattle.image.specs.Steps.{step_on, steps_of, played, unplayed, replay_on, resume_on}
use Rattle.checked.specs.Rules.{serve_rule, false_answer_rule, write_rule, read_rule, give_up_rule, take_rule, close_rule, call_rule, restart_rule, advance_rule}
use Rattle.journal.specs.Rests.{steps_count}
use Rattle.single.specs.Rules.{stays, server_asked, opens, client_asked, operation_rule, dropping_rule, calling_rule, restarting_rule, administrator_asked}
use Rattle.single.specs.Calls.{server_call, client_call, administrator_call}
use Rattle.protocol.specs.Steps.{give_up_step, restart_step}
use Rattle.protocol.specs.Clients.{give_up}

-- ---- a step

pub step_numbers : (i b : List ℕ) → Refuses refusals (step_on i b)
unfolding step_on
step_numbers i b = refuses_guard _ _ _ _ refl (refuses_guard _ _ _ _ refl (step_refuses _ _))

pub step_range : (i b : List ℕ) (n : ℕ) → step_on i b ≡ refused n → (1 ≤ n) × (n ≤ last_refusal)
step_range i b n e = among_ranged 1 last_refusal refusals n refl ((step_numbers i b).numbers n e)

-- ---- "Fresh world: 1 ...; 8", "Premise report: 1, 2."

pub fresh_numbers : (buffer : List ℕ) (members f r : ℕ) → among (fresh_on buffer members f r).refusal (0 ∷ 1 ∷ 8 ∷ []) ≡ true
unfolding fresh_on
fresh_numbers buffer members f r = go _ (refuses_guard (1 ∷ 8 ∷ []) _ _ _ refl (refuses_more (8 ∷ []) _ _ refl (fresh_refuses members f r)))
  where
    go : (x : Result World) → Refuses (1 ∷ 8 ∷ []) x → among (outcome buffer x).refusal (0 ∷ 1 ∷ 8 ∷ []) ≡ true
    go (refused n) h = (refuses_more (1 ∷ 8 ∷ []) (0 ∷ 1 ∷ 8 ∷ []) (refused n) refl h).numbers n refl
    go (done w) h = refl

pub premise_numbers : (i : List ℕ) → Refuses (1 ∷ 2 ∷ []) (premise_on i)
unfolding premise_on
premise_numbers i = refuses_guard _ _ _ _ refl (refuses_guard _ _ _ _ refl (refuses_done _ _))

-- ---- replay: 0, or the refusal of the call or of the step that stopped it

pub replay_numbers : (i j : List ℕ) → among (replay_on i j).refusal (0 ∷ refusals) ≡ true
unfolding replay_on
replay_numbers i j = go (eqb (length i) image_size && eqb (length j % step_width) 0) (readable i)
  where
    go : (b c : Bool) → among (if b (if c (played (replay (decode i) (steps_of j))) (unplayed i 2)) (unplayed i 1)).refusal (0 ∷ refusals) ≡ true
    go true true = replay_refuses (decode i) (steps_of j)
    go true false = refl
    go false c = refl

-- 0: the whole journal is done
pub replay_zero : (i j : List ℕ) → (replay_on i j).refusal ≡ 0 → (replay_on i j).steps * step_width ≡ length j
unfolding replay_on
replay_zero i j e = go (eqb (length i) image_size) (eqb (length j % step_width) 0) (readable i) refl e
  where
    go : (a b c : Bool) → eqb (length j % step_width) 0 ≡ b → (if (a && b) (if c (played (replay (decode i) (steps_of j))) (unplayed i 2)) (unplayed i 1)).refusal ≡ 0
        → (if (a && b) (if c (played (replay (decode i) (steps_of j))) (unplayed i 2)) (unplayed i 1)).steps * step_width ≡ length j
    go true true true q e =
        let h = replay_all (decode i) (steps_of j) e in
        let k = steps_count j in
        let l = eqb-true (length j % step_width) 0 q in
        omega arith
    go true true false q e = absurd (omega arith)
    go true false c q e = absurd (omega arith)
    go false b c q e = absurd (omega arith)

pub resume_numbers : (i j : List ℕ) (n : ℕ) → among (resume_on i j n).refusal (0 ∷ refusals) ≡ true
unfolding resume_on
resume_numbers i j n = go (leb n (length j / step_width))
  where
    go : (b : Bool) → among (if b (replay_on i (drop (n * step_width) j)) (unplayed i 1)).refusal (0 ∷ refusals) ≡ true
    go true = replay_numbers i (drop (n * step_width) j)
    go false = refl

-- 0: the rest after n steps is done
pub resume_zero : (i j : List ℕ) (n : ℕ) → (resume_on i j n).refusal ≡ 0 → (n + (resume_on i j n).steps) * step_width ≡ length j
unfolding resume_on
resume_zero i j n e = go (leb n (length j / step_width)) refl e
  where
    go : (b : Bool) → leb n (length j / step_width) ≡ b → (if b (replay_on i (drop (n * step_width) j)) (unplayed i 1)).refusal ≡ 0
        → (n + (if b (replay_on i (drop (n * step_width) j)) (unplayed i 1)).steps) * step_width ≡ length j
    go true q e =
        let h = replay_zero i (drop (n * step_width) j) e in
        let l = leb-true n (length j / step_width) q in
        let d = length-drop (n * step_width) j in
        omega arith
    go false q e = absurd (omega arith)

-- ---- "One machine's rule: 3, record out of range; then as its step."

pub serve_numbers : (a : Server) (m : Message) (member : Bool) → Refuses (3 ∷ 5 ∷ 6 ∷ 7 ∷ []) (serve_rule a m member)
unfolding serve_rule
serve_numbers a m member = refuses_guard _ _ _ _ refl (refuses_more (5 ∷ 6 ∷ 7 ∷ []) _ _ refl (serve_refuses _ _ _))

pub false_answer_numbers : (a : Server) (t : ℕ) (m : Message) (source : Bool) → Refuses (3 ∷ 5 ∷ 6 ∷ 9 ∷ []) (false_answer_rule a t m source)
unfolding false_answer_rule
false_answer_numbers a t m source = refuses_guard _ _ _ _ refl (refuses_more (5 ∷ 6 ∷ 9 ∷ []) _ _ refl (may_answer_refuses _ _ _ _))

pub write_numbers : (c : Client) (value n : ℕ) → Refuses (3 ∷ 4 ∷ []) (write_rule c value n)
unfolding write_rule
write_numbers c value n = refuses_guard _ _ _ _ refl (refuses_more (4 ∷ []) _ _ refl (begin_refuses _ _ _ _))

pub read_numbers : (c : Client) (n : ℕ) → Refuses (3 ∷ 4 ∷ []) (read_rule c n)
unfolding read_rule
read_numbers c n = refuses_guard _ _ _ _ refl (refuses_more (4 ∷ []) _ _ refl (begin_refuses _ _ _ _))

pub give_up_numbers : (c : Client) → Refuses (3 ∷ 12 ∷ []) (give_up_rule c)
unfolding give_up_rule give_up
give_up_numbers c = refuses_guard _ _ _ _ refl (refuses_guard _ _ _ _ refl (refuses_done _ _))

pub take_numbers_lem : (m : Message) (r : ℕ) → Refuses (3 ∷ 5 ∷ 7 ∷ []) (take_rule m r)
unfolding take_rule
take_numbers_lem m r = refuses_guard _ _ _ _ refl (refuses_guard _ _ _ _ refl (refuses_guard _ _ _ _ refl (refuses_done _ _)))

pub close_numbers : (c : Client) (who : ℕ) (e : Entry) (one : Bool) (n : ℕ) → Refuses (3 ∷ 7 ∷ 11 ∷ []) (close_rule c who e one n)
unfolding close_rule
close_numbers c who e one n = refuses_guard _ _ _ _ refl (refuses_more (7 ∷ 11 ∷ []) _ _ refl (close_refuses _ _ _ _ _))

pub call_numbers : (a : Administrator) (v : View) (n : ℕ) → Refuses (3 ∷ 4 ∷ 8 ∷ []) (call_rule a v n)
unfolding call_rule
call_numbers a v n = refuses_guard _ _ _ _ refl (refuses_more (4 ∷ 8 ∷ []) _ _ refl (call_refuses _ _ _))

pub restart_numbers : (a : Administrator) (v : View) → Refuses (3 ∷ 7 ∷ 8 ∷ []) (restart_rule a v)
unfolding restart_rule
restart_numbers a v = refuses_guard _ _ _ _ refl (refuses_more (7 ∷ 8 ∷ []) _ _ refl (restart_refuses _ _))

pub advance_numbers : (a : Administrator) → Refuses (3 ∷ 7 ∷ []) (advance_rule a)
unfolding advance_rule
advance_numbers a = refuses_guard _ _ _ _ refl (refuses_guard _ _ _ _ refl (refuses_done _ _))

-- ---- the same on lent bytes: 1, a length; 3, a byte or a rule

stays_refuses : {A : Type 0} (ns : List ℕ) (a : Server) (x : Result A) → Refuses ns x → Refuses ns (stays a (number_of x))
stays_refuses ns a (refused n) h = refuses_if _ (eqb n 0) _ _ (refuses_done _ _) (refuses_by _ n (h.numbers n refl))
stays_refuses ns a (done x) h = refuses_done _ _

opens_refuses : (ns : List ℕ) (x : Result Client) → Refuses ns x → Refuses ns (opens x)
opens_refuses ns (refused n) h = refuses_by ns n (h.numbers n refl)
opens_refuses ns (done c) h = refuses_done _ _

server_rule_refuses : (a : Server) (m : Message) (rule flag t : ℕ) → Refuses (1 ∷ 3 ∷ 5 ∷ 6 ∷ 7 ∷ 9 ∷ []) (server_asked a m rule flag t)
unfolding server_asked
server_rule_refuses a m rule flag t =
    refuses_guard _ _ _ _ refl
    (refuses_if _ (eqb rule 3) _ _ (refuses_guard _ _ _ _ refl (refuses_more (3 ∷ 5 ∷ 6 ∷ 7 ∷ []) _ _ refl (serve_numbers _ _ _)))
    (refuses_guard _ _ _ _ refl (stays_refuses _ _ _ (refuses_more (3 ∷ 5 ∷ 6 ∷ 9 ∷ []) _ _ refl (false_answer_numbers a t m (eqb flag 1))))))

pub server_call_numbers : (s b : List ℕ) → Refuses (1 ∷ 3 ∷ 5 ∷ 6 ∷ 7 ∷ 9 ∷ []) (server_call s b)
unfolding server_call
server_call_numbers s b =
    refuses_guard _ _ _ _ refl
    (refuses_guard _ _ _ _ refl
    (refuses_guard _ _ _ _ refl (refuses_guard _ _ _ _ refl (refuses_guard _ _ _ _ refl (server_rule_refuses _ _ _ _ _)))))

operation_rule_refuses : (c : Client) (rule who n : ℕ) (e : Entry) (one : Bool) → Refuses (1 ∷ 3 ∷ 4 ∷ 7 ∷ 11 ∷ 12 ∷ []) (operation_rule c rule who n e one)
unfolding operation_rule
operation_rule_refuses c rule who n e one =
    refuses_if _ (eqb rule 4) _ _ (refuses_more (3 ∷ 7 ∷ 11 ∷ []) _ _ refl (close_numbers _ _ _ _ _))
    (refuses_guard _ _ _ _ refl
    (refuses_guard _ _ _ _ refl
    (refuses_if _ (eqb rule 1) _ _ (opens_refuses _ _ (refuses_more (3 ∷ 4 ∷ []) _ _ refl (write_numbers c e.value n)))
    (refuses_guard _ _ _ _ refl (refuses_guard _ _ _ _ refl (opens_refuses _ _ (refuses_more (3 ∷ 4 ∷ []) _ _ refl (read_numbers c n))))))))

client_rule_refuses : (c : Client) (rule who n : ℕ) (e : Entry) (flag : ℕ) → Refuses (1 ∷ 3 ∷ 4 ∷ 7 ∷ 11 ∷ 12 ∷ []) (client_asked c rule who n e flag)
unfolding client_asked dropping_rule
client_rule_refuses c rule who n e flag =
    refuses_guard _ _ _ _ refl
    (refuses_if _ (eqb rule give_up_step) _ _
    (refuses_guard _ _ _ _ refl
    (refuses_guard _ _ _ _ refl (refuses_guard _ _ _ _ refl (opens_refuses _ _ (refuses_more (3 ∷ 12 ∷ []) _ _ refl (give_up_numbers c))))))
    (operation_rule_refuses c rule who n e (eqb flag 1)))

pub client_call_numbers : (c b : List ℕ) → Refuses (1 ∷ 3 ∷ 4 ∷ 7 ∷ 11 ∷ 12 ∷ []) (client_call c b)
unfolding client_call
client_call_numbers c b =
    refuses_guard _ _ _ _ refl
    (refuses_guard _ _ _ _ refl (refuses_guard _ _ _ _ refl (refuses_guard _ _ _ _ refl (client_rule_refuses _ _ _ _ _ _))))

calling_rule_refuses : (a : Administrator) (rule n : ℕ) (v : View) → Refuses (1 ∷ 3 ∷ 4 ∷ 7 ∷ 8 ∷ []) (calling_rule a rule n v)
unfolding calling_rule
calling_rule_refuses a rule n v =
    refuses_if _ (eqb rule 7) _ _ (refuses_more (3 ∷ 4 ∷ 8 ∷ []) _ _ refl (call_numbers _ _ _))
    (refuses_guard _ _ _ _ refl
    (refuses_guard _ _ _ _ refl
    (refuses_guard _ _ _ _ refl
    (refuses_guard _ _ _ _ refl (refuses_guard _ _ _ _ refl (refuses_more (3 ∷ 7 ∷ []) _ _ refl (advance_numbers _)))))))

administrator_rule_refuses : (a : Administrator) (rule n : ℕ) (v : View) → Refuses (1 ∷ 3 ∷ 4 ∷ 7 ∷ 8 ∷ []) (administrator_asked a rule n v)
unfolding administrator_asked restarting_rule
administrator_rule_refuses a rule n v =
    refuses_if _ (eqb rule restart_step) _ _ (refuses_guard _ _ _ _ refl (refuses_more (3 ∷ 7 ∷ 8 ∷ []) _ _ refl (restart_numbers _ _))) (calling_rule_refuses a rule n v)

pub administrator_call_numbers : (a b : List ℕ) → Refuses (1 ∷ 3 ∷ 4 ∷ 7 ∷ 8 ∷ []) (administrator_call a b)
unfolding administrator_call
administrator_call_numbers a b =
    refuses_guard _ _ _ _ refl
    (refuses_guard _ _ _ _ refl
    (refuses_guard _ _ _ _ refl (refuses_guard _ _ _ _ refl (refuses_guard _ _ _ _ refl (administrator_rule_refuses _ _ _ _)))))
