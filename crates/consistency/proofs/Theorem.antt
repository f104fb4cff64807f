-- Demand 3 on the bytes (specs/Theorem.antt), for runs and for journals: `linearizable_images` and `linearizable_journals`.
-- `never_again`: no run gives a stamp twice, whatever is faulty. `run_reported` says that the premise report on which they rest is an
-- answer and no refusal. Assumes nothing.
use Rattle.std.specs.Prelude.{ℕ, true, ◌≡◌, refl, List, Some}
use Rattle.std.proofs.Common.{sym, ap, subst, ◌∙◌, eq-eqb}
use Rattle.protocol.specs.Tools.{done, guard, passed, same_done}
use Rattle.protocol.specs.Worlds.{World, premise}
use Rattle.protocol.specs.declared.Entry.{Entry}
use Rattle.protocol.specs.Entries.{count_of, writer_of}
use Rattle.protocol.specs.Clients.{WRITES}
use Rattle.protocol.specs.Consistent.{Operation, In, Consistent}
use Rattle.codec.specs.Images.{decode}
use Rattle.readable.specs.Readable.{read}
use Rattle.image.specs.Fresh.{fresh_on}
use Rattle.image.specs.Premise.{premise_on}
use Rattle.image.specs.Worlds.{Spells, spells_decode, spells_readable}
use Rattle.agreement.proofs.Stamps.{never_again as once_given}
use Rattle.agreement.proofs.Theorem.{linearizable}
use Rattle.consistency.specs.Runs.{run_from, history}
use Rattle.consistency.proofs.Worlds.{run_from_same, history_same}
use Rattle.consistency.proofs.Kept.{began, fresh_readable}
use Rattle.consistency.specs.Journals.{steps_done}
use Rattle.consistency.specs.Theorem.{LinearizableImages, LinearizableJournals}
use Rattle.consistency.proofs.Journals.{replay_runs}

-- the premise report of an image is the premise of the world that it spells
report_holds : {i : List ℕ} {w : World} → Spells i w → premise_on i ≡ done true → premise w ≡ true
unfolding premise_on
report_holds {i} {w} h e =
    let (p, e1) = passed _ _ _ _ e in
    let (q, e2) = passed _ _ _ _ e1 in
    ap premise (sym (spells_decode h)) ∙ same_done e2

-- the premise report of a run's image is no refusal: it says whether the premise holds in its world
pub run_reported : (buffer : List ℕ) (members f r : ℕ) → (fresh_on buffer members f r).refusal ≡ 0 → (steps : List (List ℕ))
    → premise_on (run_from (fresh_on buffer members f r).image steps).image ≡ done (premise (decode (run_from (fresh_on buffer members f r).image steps).image))
unfolding premise_on guard
run_reported buffer members f r e steps =
    let b = began buffer members f r e in
    let s = run_from_same _ b.world steps b.spells in
    let h = spells_readable s.image in
    rw (eq-eqb _ _ (read _ h).size, h) refl

pub linearizable_images : LinearizableImages
linearizable_images buffer members f r e steps p =
    let b = began buffer members f r e in
    let s = run_from_same _ b.world steps b.spells in
    subst Consistent (sym (history_same _ _ s)) (linearizable members f r b.world b.from steps (report_holds s.image p))

-- "in a run its stamp is never given again": for every fresh image and every list of byte strings, and with no premise, two write
-- operations of the run whose entries have one stamp are one
pub never_again : (buffer : List ℕ) (members f r : ℕ) → (fresh_on buffer members f r).refusal ≡ 0 → (steps : List (List ℕ)) → (x y : Operation)
    → In x (history (run_from (fresh_on buffer members f r).image steps)) → In y (history (run_from (fresh_on buffer members f r).image steps))
    → x.kind ≡ WRITES → y.kind ≡ WRITES → {e g : Entry} → x.entry ≡ Some e → y.entry ≡ Some g → count_of e ≡ count_of g → writer_of e ≡ writer_of g → x ≡ y
never_again buffer members f r e steps x y i j p q u v k l =
    let b = began buffer members f r e in
    let s = run_from_same _ b.world steps b.spells in
    once_given members f r b.world b.from steps x y (rw (history_same _ _ s) at i) (rw (history_same _ _ s) at j) p q u v k l

pub linearizable_journals : LinearizableJournals
linearizable_journals buffer members f r e journal p =
    let i : List ℕ = (fresh_on buffer members f r).image in
    linearizable_images buffer members f r e (steps_done i journal) (ap premise_on (sym (replay_runs i journal (fresh_readable buffer members f r e))) ∙ p)
