-- `rfc4180::read_numbers` meets its contract: the fields from `at` on, after those counted, give what all of them give.
-- Assumes nothing.
use Rattle.std.proofs.Common.{◌≡◌, ◌∙◌, ap, sym, arith, set}
use Rattle.std.proofs.Math.Seq.{set_out}
use Rattle.rfc4180.specs.Number.{capped}
use Rattle.rfc4180.proofs.Outcome.{outcome_done, outcome_bad, outcome_last, outcome_more}
use Rattle.rfc4180.proofs.read_numbers.Goals as goal
use Rattle.rfc4180.proofs.read_numbers.Goals.{Joined-count-out, then-count-out, else-count-out}

-- the number is put at its place, if there is one
stored : (c : Joined-count-out) → c.if-count-out.out ≡ set c.loop-v.out c.loop-v.count (capped c.in_ok-v.v)
stored c =
    elim c.if-count-out.branch
    [ then-count-out w ↦ w.out-is ∙ ap (set c.loop-v.out c.loop-v.count) w.cap.ensures | else-count-out w ↦ w.out-is ∙ sym (set_out _ _ _ w.if-count-out.false) ]

pub returns-in_err-v : goal.returns-in_err-v
returns-in_err-v c =
    let l = c.loop-v in
    let (the-answer, the-left) = outcome_done _ _ _ _ (l.invariant.3 ∙ outcome_bad _ l.at _ c.field-f.ensures _ l.greatest _ c.in_err-v.ensures) in
    record { answer = c.from_residual.ensures ∙ the-answer; left = the-left }

pub returns-then-row-e : goal.returns-then-row-e
returns-then-row-e c =
    let l = c.loop-v in
    let (the-answer, the-left) = outcome_done _ _ _ _
    (l.invariant.3 ∙ outcome_last _ l.at _ c.field-f.ensures _ l.greatest _ c.in_ok-v.v c.in_ok-v.ensures (stored (goal.at.returns-then-row-e c).Joined-count-out) c.max-greatest.ensures c.if-row-e.true) in
    record { answer = the-answer; left = the-left }

pub loop-v-preserved : goal.loop-v-preserved
loop-v-preserved c =
    let l = c.loop-v in (
      omega arith,
      omega arith,
      c.if-count-out.auto.out ∙ l.invariant.2,
      l.invariant.3 ∙ outcome_more _ l.at _ c.field-f.ensures _ l.greatest _ c.in_ok-v.v c.in_ok-v.ensures (stored (goal.at.loop-v-preserved c).Joined-count-out) c.max-greatest.ensures c.if-row-e.false,
    )
