-- `hegtalim::time_from` meets its contract: one pair of arrays is taken by the moves, and what has no room there leaves all as it came and is worked out in the
-- largest. Assumes nothing.
use Rattle.std.specs.Prelude.{Err}
use Rattle.std.proofs.Common.{rules}
use Prim.Native.Nat.{ℕ}
use mathlib.Core.Path.{◌≡◌, ap}
use Rattle.passes.specs.Lending.{lent_of}
use Rattle.hegtalim.specs.declared.TimeError.{TimeError}
use Rattle.hegtalim.specs.Working.{Worked}
use Rattle.hegtalim.proofs.TimedPlans.{picked_worked, then_large}
use Rattle.hegtalim.proofs.+time_from.Goals as goal
use Rattle.hegtalim.proofs.+time_from.Goals.{In-Err-TooShort, in-0-to-14, in-15-to-80, in-81-to-300, in_default}

-- what the pair that was taken gave
worked : (t : ℕ) (c : In-Err-TooShort t) → Worked 12288 12288 c.args.plan.bytes.now (lent_of c.args.lent.now) c.if-moves-lt15.x (lent_of c.if-moves-lt15.lent)
worked t c =
    let s = c.args.plan.bytes.now in
    let l = lent_of c.args.lent.now in
    elim c.if-moves-lt15.branch [
      | in-0-to-14 w ↦ picked_worked _ _ s l _ _ _ _ (ap lent_of w.lent-is) w.x-is w.time_with-x.ensures.worked
      | in-15-to-80 w ↦ picked_worked _ _ s l _ _ _ _ (ap lent_of w.lent-is) w.x-is w.time_with-x-in-15-to-80.ensures.worked
      | in-81-to-300 w ↦ picked_worked _ _ s l _ _ _ _ (search rules) w.x-is w.time_with-x-in-81-to-300.ensures.worked
      | in_default w ↦ picked_worked _ _ s l _ _ _ _ (ap lent_of w.lent-is) w.x-is w.time_with-x-in_default.ensures.worked
    ]

pub returns-in-Err-TooShort-clause-timed : goal.returns-in-Err-TooShort-clause-timed
returns-in-Err-TooShort-clause-timed t c =
    let short : c.if-moves-lt15.x ≡ Err TimeError.TooShort = search rules in
    then_large _ _ _ _ _ _ (worked t (goal.at.returns-in-Err-TooShort-clause-timed t c).In-Err-TooShort) short _ _ c.time_from.ensures.timed
