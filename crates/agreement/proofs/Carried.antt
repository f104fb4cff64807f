-- An entry that a quorum holds is carried into every later view, and every later READ phase sees it. Assumes nothing.
use Rattle.std.specs.Prelude.{ℕ, zero, suc, ◌+◌, ◌-◌, ◌≤◌, ◌<◌, true, false, ◌≡◌}
use Rattle.std.proofs.Math.Decide.{dec_lt}
use Rattle.std.proofs.Common.{arith, sym, subst, ◌∙◌}
use Rattle.std.proofs.Math.Dec.{leb}
use borrow.Author.Tests.{leb-true}
use Rattle.protocol.specs.declared.Entry.{Entry}
use Rattle.protocol.specs.Tools.{count_to, holds}
use Rattle.protocol.specs.Sizes.{servers, size, read_size, write_size}
use Rattle.protocol.specs.Servers.{END, START}
use Rattle.protocol.specs.Worlds.{World, view, server, newest, member, bad, premise}
use Rattle.protocol.proofs.Laws.Tests.{all_to_at}
use Rattle.protocol.proofs.Laws.Sizes.{Sizes, sizes}
use Rattle.protocol.proofs.Laws.Entries.{◌≼◌, ≼_trans}
use Rattle.protocol.proofs.Laws.Worlds.{sent}
use Rattle.protocol.proofs.Laws.Change.{lying, Vote, Votes}
use Rattle.protocol.proofs.Laws.Counts.{beyond}
use Rattle.agreement.proofs.Counting.{common}
use Rattle.agreement.specs.Invariants.{Fair, Again, Root, Based, early, rooted, Before, StartOf}
use Rattle.agreement.specs.Carried.{Trusted, Holds, Held, Seen, Read}

module _ {w : World} (h : Trusted w) where
  few : (t : ℕ) → 1 ≤ t → t ≤ newest w → count_to (λ s. lying (server w s) t) servers ≤ (view w t).f
  unfolding premise bad
  few t l u = leb-true _ _ (all_to_at (λ t. leb (count_to (bad w t) servers) (view w t).f) (newest w) t h.premise l u)

  -- one vote of a server that cannot lie
  record One (t : ℕ) (P : ℕ → ℕ → Type 0) : Type 0 where
    who : ℕ
    good : lying (server w who) t ≡ false
    vote : Vote w t who (P who)

  single : {t n : ℕ} {P : ℕ → ℕ → Type 0} → 1 ≤ t → t ≤ newest w → (view w t).f + 1 ≤ n → Votes w t n P → One t P
  single {t} l u m x =
      let r = beyond x.seen (λ s. lying (server w s) t) servers (omega (arith, few t l u, x.enough)) in
      record { who = r.at; good = r.lacks; vote = x.vote r.at r.has }

  -- two votes of one server that cannot lie
  record Two (t : ℕ) (P Q : ℕ → ℕ → Type 0) : Type 0 where
    who : ℕ
    good : lying (server w who) t ≡ false
    one : Vote w t who (P who)
    two : Vote w t who (Q who)

  seen_member : {t n s : ℕ} {P : ℕ → ℕ → Type 0} (x : Votes w t n P) → x.seen s ≡ true → member w t s ≡ true
  seen_member {t} {n} {s} x e = let y = x.vote s e in rw (y.tag, y.who) at (h.inv.tagged y.at y.below y.is).to

  meet : {t m n : ℕ} {P Q : ℕ → ℕ → Type 0} → 1 ≤ t → t ≤ newest w → size (view w t) + (view w t).f + 1 ≤ m + n → Votes w t m P → Votes w t n Q → Two t P Q
  unfolding size member
  meet {t} l u z x y =
      let r = common x.seen y.seen (holds (view w t).members.0) (λ s. lying (server w s) t) servers (view w t).f (λ s e. seen_member x e) (λ s e. seen_member y e)
      (omega (arith, x.enough, y.enough)) (few t l u) in
      record { who = r.at; good = r.good; one = x.vote r.at r.one; two = y.vote r.at r.two }

  sizes_at : (t : ℕ) → 1 ≤ t → t ≤ newest w → Sizes (view w t)
  sizes_at t l u = sizes (view w t) (h.sizes t l u)

  fair : {t s : ℕ} {P : ℕ → Type 0} → lying (server w s) t ≡ false → (y : Vote w t s P) → Fair w (sent w y.at)
  fair g y = record { is = y.is; good = rw (y.who, y.tag) g }

  again : {t s : ℕ} {P Q : ℕ → Type 0} (x : Vote w t s P) (y : Vote w t s Q) → Again (sent w x.at) (sent w y.at)
  again x y = record { is = y.is; who = y.who ∙ sym x.who; tag = y.tag ∙ sym x.tag }

  -- what a vote of view t + 1 or later rests on
  root : {t s : ℕ} {P : ℕ → Type 0} → 2 ≤ t → lying (server w s) t ≡ false → (y : Vote w t s P) → Root w (w.used + 1) t (sent w y.at).entry
  root {t} l g y = go (rw y.tag at (h.inv.rooted y.at y.below (fair g y)))
    where
      go : {e : Entry} → Based w (w.used + 1) t e → Root w (w.used + 1) t e
      go (early k) = absurd (omega arith)
      go (rooted r) = r

  -- an answer to an END is the last of its server with its view
  end_last : {t s : ℕ} {P Q : ℕ → Type 0} → lying (server w s) t ≡ false → (x : Vote w t s P) (y : Vote w t s Q) → (sent w (sent w x.at).request.0).kind ≡ END → x.at < y.at → ⊥
  end_last g x y e l = h.inv.closed x.at y.at l y.below (fair g x) e (again x y)

  -- L1: START of every later view carries what is held
  module _ {e : Entry} {b : ℕ} (p : Held w e b) where
    carried : (d m : ℕ) → m ≤ w.used → (sent w m).kind ≡ START → (sent w m).view.0 ≡ suc (d + p.tag) → e ≼ (sent w m).entry
    carried zero m l k q = go (h.inv.started m l k)
      where
        go : StartOf w m → e ≼ (sent w m).entry
        go o =
            let z : o.tag ≡ p.tag = omega (arith, o.next) in
            let x = meet p.low p.high (sizes_at p.tag p.low p.high).twice p.votes (subst (λ (t : ℕ). Votes w t (write_size (view w t)) (λ s j. Before w m o.end j)) z o.votes) in
            let asks : (sent w (sent w x.two.at).request.0).kind ≡ END = rw x.two.fact.to.request o.ends in
            ≼_trans (x.one.fact.shows x.good) (≼_trans (order x asks (dec_lt x.one.at x.two.at) (dec_lt x.two.at x.one.at)) x.two.fact.to.covered)
          where
            order : (x : Two p.tag (λ s j. Holds w e b p.tag s j) (λ s j. Before w m o.end j)) → (sent w (sent w x.two.at).request.0).kind ≡ END
                → Dec (x.one.at < x.two.at) → Dec (x.two.at < x.one.at) → (sent w x.one.at).entry ≼ (sent w x.two.at).entry
            order x a (yes l) d = h.inv.rising _ _ l x.two.below (fair x.good x.one) (again x.one x.two)
            order x a (no l) (yes d) = absurd (end_last x.good x.two x.one a d)
            order x a (no l) (no d) = let z : x.one.at ≡ x.two.at = omega arith in absurd (x.one.fact.other (rw z a))
    carried (suc d) m l k q = go (h.inv.started m l k) (carried d)
      where
        go : StartOf w m → ((j : ℕ) → j ≤ w.used → (sent w j).kind ≡ START → (sent w j).view.0 ≡ suc (d + p.tag) → e ≼ (sent w j).entry) → e ≼ (sent w m).entry
        go o ih =
            let z : o.tag ≡ suc (d + p.tag) = omega (arith, o.next) in
            let u : o.tag ≤ newest w = omega (arith, o.high) in
            let x = single o.low u (sizes_at o.tag o.low u).write_one o.votes in
            let r = root (omega (arith, p.low)) x.good x.vote in
            ≼_trans (ih r.at (omega (arith, r.below)) r.is (r.tag ∙ z)) (≼_trans r.under x.vote.fact.to.covered)

  -- L2: a READ phase after message b sees what was held by then
  pub sees : {e c : Entry} {b : ℕ} → Held w e b → Read w c b → e ≼ c
  sees {e} {c} {b} p x = go (dec_lt p.tag x.tag) (dec_lt x.tag p.tag)
    where
      -- a later view: its START carried it
      above : p.tag < x.tag → e ≼ c
      above l =
          let y = single x.low x.high (sizes_at x.tag x.low x.high).read_one x.votes in
          let r = root (omega (arith, p.low)) y.good y.vote in
          ≼_trans (carried p (x.tag - suc p.tag) r.at (omega (arith, r.below)) r.is (r.tag ∙ omega arith)) (≼_trans r.under y.vote.fact.covered)

      -- the same view: the two quorums meet
      level : p.tag ≡ x.tag → e ≼ c
      level q =
          let v = subst (λ (t : ℕ). Votes w t (read_size (view w t)) (λ s k. Seen w c b k)) (sym q) x.votes in
          let y = meet p.low p.high (omega (arith, (sizes_at p.tag p.low p.high).meet)) p.votes v in
          ≼_trans (y.one.fact.shows y.good)
          (≼_trans (h.inv.rising _ _ (omega (arith, y.one.fact.before, y.two.fact.after)) y.two.below (fair y.good y.one) (again y.one y.two)) y.two.fact.covered)

      -- an earlier view: it had ended before
      under : x.tag < p.tag → ⊥
      under l =
          let y = single p.low p.high (sizes_at p.tag p.low p.high).write_one p.votes in
          let o = h.inv.after y.vote.at y.vote.below y.vote.is (suc x.tag) (omega (arith, x.low)) (omega (arith, y.vote.tag)) in
          let r = h.inv.started o.at (omega (arith, o.below, y.vote.below)) o.is in
          let q : r.tag ≡ x.tag = omega (arith, r.next, o.tag) in
          let v = subst (λ (t : ℕ). Votes w t (write_size (view w t)) (λ s k. Before w o.at r.end k)) q r.votes in
          let z = meet x.low x.high (sizes_at x.tag x.low x.high).meet x.votes v in
          end_last z.good z.two z.one (rw z.two.fact.to.request r.ends) (omega (arith, z.two.fact.before, o.below, y.vote.fact.before, z.one.fact.after))

      go : Dec (p.tag < x.tag) → Dec (x.tag < p.tag) → e ≼ c
      go (yes l) d = above l
      go (no l) (yes d) = absurd (under d)
      go (no l) (no d) = level (omega arith)
