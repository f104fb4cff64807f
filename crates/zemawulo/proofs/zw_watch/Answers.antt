-- What the check does not find alone.
use Rattle.std.proofs.Common.{ℕ, ◌+◌, ◌*◌, ◌%◌, ◌^◌, ap, ap₂, ◌∙◌}
use Rattle.std.proofs.Math.Path.{refl}
use Rattle.zemawulo.specs.Answers.{number_or_zero, some_of_number, first_in, lent_wrong, lent_right}
use Rattle.zemawulo.proofs.zw_watch.Goals as goal

pub returns-in_default : goal.returns-in_default
returns-in_default c =
    let a = c.args in
    rw (lent_wrong a.image.now a.journal.now a.first.now c.in_default.ensures.cases) (c.number.ensures, refl, refl)

pub returns : goal.returns
returns c =
    let a = c.args in
    let h = c.in-Some.ensures.cases in
    let w = c.watch-done.ensures in
    rw (lent_right a.image.now a.journal.now a.first.now h.long) (
      c.packed_replay.ensures ∙ ap₂ (λ (x y : ℕ). x + 256 * (y % 2 ^ 56)) w.replay.refusal w.replay.steps,
      w.replay.image,
      (rw h.same at c.write_first.ensures) ∙ ap₂ (first_in a.first.now) w.replay.refusal (ap number_or_zero w.first ∙ some_of_number _),
    )
