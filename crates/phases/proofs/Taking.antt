-- What a message that the rule of taking lets pass is: `rule_done`, `rule_view`; and one that may be taken, `may_view`, `told`. Used by the proofs
-- of the calls.
use Rattle.std.specs.Prelude.{ℕ, ◌+◌, ◌≤◌, Bool, true, false, not, ◌&&◌, ◌≡◌, refl, List, leb, eqb, Option, Ok}
use Rattle.std.proofs.Common.{arith, ap, ◌∙◌, eqb-true}
use Rattle.std.specs.Cmp.{first_so, second_so}
use Rattle.protocol.specs.declared.Choice.{Choice}
use Rattle.protocol.specs.declared.Message.{Message}
use Rattle.protocol.specs.declared.View.{View}
use Rattle.protocol.specs.Tools.{within, Result, refused, done, guard, then, number_of}
use Rattle.protocol.specs.Sizes.{views, messages, sized}
use Rattle.protocol.specs.Servers.{READ, ANSWER}
use Rattle.protocol.specs.Readable.{sender_fits, tag_rule}
use Rattle.protocol.proofs.Laws.Tests.{within_true}
use Rattle.checked.specs.Ranges.{message_in_range}
use Rattle.checked.specs.Rules.{take_rule}
use Rattle.phases.specs.Records.{head_at}
use Rattle.phases.specs.Calls.{records_fit, may_take, taking, Takes, Writes, verdict, chosen_left, answer_by, Answers}

module _ (m : Message) (r : ℕ) where
  zero_rest : {A : Type 0} (b : Bool) (n : ℕ) (x : Result A) → number_of (guard b (n + 1) x) ≡ 0 → (b ≡ true) × (number_of x ≡ 0)
  unfolding guard
  zero_rest true n x e = (refl, e)
  zero_rest false n x e = absurd (omega arith)

  pub rule_done : number_of (take_rule m r) ≡ 0 → take_rule m r ≡ done m
  unfolding take_rule guard
  rule_done e =
      let (a, f) = zero_rest (message_in_range m && leb r messages) 2 _ e in
      let (b, g) = zero_rest (eqb m.kind ANSWER) 4 _ f in
      let (c, h) = zero_rest (not m.taken && eqb m.request.0 r) 6 _ g in
      rw (a, b, c) refl

  pub rule_view : number_of (take_rule m r) ≡ 0 → (1 ≤ m.view.0) × (m.view.0 ≤ views)
  unfolding take_rule message_in_range
  rule_view e =
      let (a, f) = zero_rest (message_in_range m && leb r messages) 2 _ e in
      let (b, g) = zero_rest (eqb m.kind ANSWER) 4 _ f in
      let k : m.kind ≡ ANSWER = eqb-true m.kind ANSWER b in
      let o = second_so (leb m.next.0 messages) _ (first_so _ (leb r messages) a) in
      let q = first_so (tag_rule views m.kind m.view.0) _ (second_so (sender_fits m.kind m.sender) _ (second_so (within READ ANSWER m.kind) _ o)) in
      within_true 1 views m.view.0 (rw k at q)

module _ (p : List ℕ) (m : Message) (v : View) where
  taken_message : number_of (may_take p m v) ≡ 0 → (number_of (take_rule m (head_at p).request.0) ≡ 0) × (may_take p m v ≡ done m)
  unfolding may_take guard
  taken_message e =
      let (a, f) = zero_rest m 0 (records_fit p m) 2 _ e in
      let x : Result Message = take_rule m (head_at p).request.0 in
      let n : number_of x ≡ 0 = first x f in
      let d : x ≡ done m = rule_done m (head_at p).request.0 n in
      let g : number_of (guard (sized v) 8 (done m)) ≡ 0 = rw d at f in
      (n, rw (a, d) (ended (zero_rest m 0 (sized v) 7 (done m) g).0))
    where
      first : (x : Result Message) → number_of (then x (λ y. guard (sized v) 8 (done y))) ≡ 0 → number_of x ≡ 0
      first (refused k) f = f
      first (done y) f = refl

      ended : sized v ≡ true → guard true 3 (guard (sized v) 8 (done m)) ≡ done m
      ended s = rw s refl

  pub may_view : number_of (may_take p m v) ≡ 0 → (1 ≤ m.view.0) × (m.view.0 ≤ views)
  may_view e = rule_view m (head_at p).request.0 (taken_message e).0

  pub told : number_of (may_take p m v) ≡ 0 → (r : Option Bool) (out last e : List ℕ) (c : Option Choice) → Takes c out (taking p m v) → Writes r last e c
      → Answers (Ok r) out last p e (answer_by p m v)
  told z r out last e c k s =
      rw (taken_message z).1 (record { code = ap done (s.code ∙ ap verdict k.choice); phase = k.phase; entry = s.bytes ∙ ap (chosen_left e) k.choice })
