-- L3: no stamp is given twice, in any run, whatever is faulty. `unique`: two write operations of a run whose WRITEs have one stamp are one;
-- it rests on the counts that each client gave (`counts` of `Earlier`) and on no quorum. `never_again`: the same of every run's history.
-- Used by Order.antt and, on images, by consistency/proofs/Theorem.antt. Assumes nothing.
use Rattle.std.specs.Prelude.{ℕ, ◌≤◌, Bool, true, false, ◌≡◌, List, map, ltb, None, Some}
use Rattle.std.proofs.Math.Decide.{ℕ_discrete}
use Rattle.std.proofs.Common.{arith, ◌∙◌}
use Rattle.std.proofs.Math.Path.{refl, sym, ap}
use Rattle.std.proofs.lemmas.Option.{same_Some}
use borrow.Author.Tests.{ltb-true, eq-eqb, ne_eqb, lt-ltb}
use Rattle.protocol.specs.declared.Entry.{Entry}
use Rattle.protocol.specs.Tools.{done}
use Rattle.protocol.specs.Entries.{count_of, writer_of}
use Rattle.protocol.specs.Clients.{WRITES}
use Rattle.protocol.specs.Worlds.{World, fresh}
use Rattle.protocol.specs.Consistent.{Operation, In}
use Rattle.protocol.specs.Runs.{Tracked, operation_entry, operation, run_from, history}
use Rattle.protocol.proofs.Laws.Worlds.{content, sent}
use Rattle.protocol.proofs.Laws.Lists.{in_map}
use Rattle.agreement.proofs.Lists.{Related, before, after, equal, related}
use Rattle.agreement.specs.Operations.{shows, Own, Earlier, Story}
use Rattle.agreement.proofs.Operations.{shows_sent}
use Rattle.agreement.specs.Precedence.{Level}
use Rattle.agreement.proofs.Reached.{reached}

module _ {w : World} {place : ℕ} {l : List Tracked} (s : Story w place l) where
  pub unique : (a b : Tracked) → In a l → In b l → Own a → Own b → Level (sent w a.write).entry (sent w b.write).entry → a ≡ b
  unique a b i j g h v = go (related s.order i j)
    where
      client : a.client ≡ b.client
      client = sym (((s.fits a i).wrote g.sent).own g.write) ∙ v.writer ∙ ((s.fits b j).wrote h.sent).own h.write

      go : Related (Earlier w) a b → a ≡ b
      go (before e) = absurd (omega (arith, e.counts client g h, v.count))
      go (after e) = absurd (omega (arith, e.counts (sym client) h g, v.count))
      go (equal e) = e

  -- the entry of a completed operation, and of an unfinished write whose WRITE is sent
  pub entry_done : (o : Tracked) → 1 ≤ o.end → operation_entry w o ≡ Some (shows w o)
  unfolding operation_entry
  entry_done o h = rw (ne_eqb o.end 0 (λ e. omega arith)) refl

  pub entry_open : (o : Tracked) → o.end ≡ 0 → o.kind ≡ WRITES → 1 ≤ o.write → operation_entry w o ≡ Some (shows w o)
  unfolding operation_entry sent content
  entry_open o h k g = rw (eq-eqb o.end 0 h, eq-eqb o.kind WRITES k, lt-ltb 0 o.write g) refl

  -- a write that ended sent its WRITE
  pub write_sent : (o : Tracked) → In o l → o.kind ≡ WRITES → 1 ≤ o.end → Own o
  write_sent o i k h = go (ℕ_discrete o.write 0)
    where
      go : Dec (o.write ≡ 0) → Own o
      go (yes z) = absurd (omega (arith, (((s.fits o i).done h).once z).read, k))
      go (no z) = record { write = k; sent = omega arith }

  -- a write operation that has an entry has sent its WRITE
  entry_sent : (o : Tracked) → In o l → o.kind ≡ WRITES → {e : Entry} → operation_entry w o ≡ Some e → Own o × ((sent w o.write).entry ≡ e)
  unfolding operation_entry
  entry_sent o i k {e} q = go (ℕ_discrete o.end 0)
    where
      nothing : {A : Type 0} {x : Entry} → None ≡ Some x → A
      nothing e = let z : ◌≡◌ {A = ℕ} 0 1 = cc in absurd (omega arith)

      sends : o.end ≡ 0 → (b : Bool) → ltb 0 o.write ≡ b → 1 ≤ o.write
      sends z true r = ltb-true 0 o.write r
      sends z false r = nothing (sym (rw (eq-eqb o.end 0 z, eq-eqb o.kind WRITES k, r) refl) ∙ q)

      go : Dec (o.end ≡ 0) → Own o × ((sent w o.write).entry ≡ e)
      go (yes z) = let g = sends z (ltb 0 o.write) refl in (record { write = k; sent = g }, sym (shows_sent (s.fits o i) g) ∙ same_Some _ _ (sym (entry_open o z k g) ∙ q))
      go (no z) =
          let h : 1 ≤ o.end = omega arith in
          let u = write_sent o i k h in
          (u, sym (shows_sent (s.fits o i) u.sent) ∙ same_Some _ _ (sym (entry_done o h) ∙ q))

  -- two write operations of the history with one stamp are one
  pub stamped_once : (x y : Operation) → In x (map (operation w) l) → In y (map (operation w) l) → x.kind ≡ WRITES → y.kind ≡ WRITES
      → {e f : Entry} → x.entry ≡ Some e → y.entry ≡ Some f → Level e f → x ≡ y
  unfolding operation
  stamped_once x y i j p q {e} {f} d g v =
      let a = in_map (operation w) l i in
      let b = in_map (operation w) l j in
      let (u, k) = entry_sent a.of a.member (ap (λ (o : Operation). o.kind) a.is ∙ p) (ap (λ (o : Operation). o.entry) a.is ∙ d) in
      let (z, h) = entry_sent b.of b.member (ap (λ (o : Operation). o.kind) b.is ∙ q) (ap (λ (o : Operation). o.entry) b.is ∙ g) in
      sym a.is
      ∙ ap (operation w) (unique a.of b.of a.member b.member u z
      (record { count = ap count_of k ∙ v.count ∙ ap count_of (sym h); writer = ap writer_of k ∙ v.writer ∙ ap writer_of (sym h) }))
      ∙ b.is

-- "in a run its stamp is never given again": for every fresh world and every list of steps, given by any bytes
pub never_again : (members f r : ℕ) (w : World) → fresh members f r ≡ done w → (steps : List (List ℕ)) → (x y : Operation)
    → In x (history (run_from w steps)) → In y (history (run_from w steps)) → x.kind ≡ WRITES → y.kind ≡ WRITES
    → {e g : Entry} → x.entry ≡ Some e → y.entry ≡ Some g → count_of e ≡ count_of g → writer_of e ≡ writer_of g → x ≡ y
unfolding history
never_again members f r w e steps x y i j p q a b c d =
    stamped_once (reached members f r w e steps).story x y i j p q a b (record { count = c; writer = d })
