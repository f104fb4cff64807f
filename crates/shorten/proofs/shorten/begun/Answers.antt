-- What the check does not find alone.
use Rattle.std.proofs.Common.{false, true}
use Rattle.std.proofs.lemmas.Result.{err_from_is_err_and}
use Rattle.shorten.proofs.Ends.{lent_image, lent_whole, lent_same, lent_begins, lent_fresh, lent_wrong, not_fresh, from_fresh, passed}
use Rattle.shorten.proofs.shorten.begun.Goals as goal

pub returns-then-not-steps_lent : goal.returns-then-not-steps_lent
returns-then-not-steps_lent c =
    let a = c.args in
    lent_wrong a.image.now a.view.members.0 a.view.f a.view.r a.journal.now a.shorter.now (lent_image a.image.now a.journal.now a.shorter.now c.told-image false c.if-not-steps_lent.ensures)

pub returns-in_err-fresh_view : goal.returns-in_err-fresh_view
returns-in_err-fresh_view c =
    let a = c.args in
    let e = lent_image a.image.now a.journal.now a.shorter.now c.told-image true c.if-not-steps_lent.ensures in
    passed (err_from_is_err_and _ c.from_residual.ensures.1)
    (not_fresh a.image.now a.view.members.0 a.view.f a.view.r a.journal.now a.shorter.now e _ _ c.in_err-fresh_view.ensures.0 c.in_err-fresh_view.ensures.1)

pub reduce-requires : goal.reduce-requires
reduce-requires c =
    let a = c.args in
    let e = lent_image a.image.now a.journal.now a.shorter.now c.told-image true c.if-not-steps_lent.ensures in
    let f = c.in_ok-fresh_view.ensures in (
      lent_fresh a.image.now a.view.members.0 a.view.f a.view.r a.journal.now a.shorter.now e f.0 _ f.1,
      lent_whole a.image.now a.journal.now a.shorter.now e,
      lent_same a.image.now a.journal.now a.shorter.now e,
    )

pub returns : goal.returns
returns c =
    let a = c.args in
    let e = lent_image a.image.now a.journal.now a.shorter.now c.told-image true c.if-not-steps_lent.ensures in
    from_fresh a.image.now a.view.members.0 a.view.f a.view.r a.journal.now a.shorter.now e c.in_ok-fresh_view.ensures.0 _ _ _ c.reduce.ensures

pub invariant_of-reduce : goal.invariant_of-reduce
invariant_of-reduce c =
    let a = c.args in
    let e = lent_image a.image.now a.journal.now a.shorter.now c.told-image true c.if-not-steps_lent.ensures in
    record { begins = lent_begins a.image.now a.view.members.0 a.view.f a.view.r a.journal.now a.shorter.now e c.in_ok-fresh_view.ensures.0 }
