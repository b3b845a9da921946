-- `bounds::write_read` meets its contract: the tables give no plan, or its bounds are written. Assumes nothing.
use Rattle.std.proofs.Common.{rules, arith, ◌≡◌, refl, ◌∙◌, sym, ap, length, Err}
use Rattle.std.specs.Prelude.{Option, Result}
use Rattle.std.specs.Option.{ok_or}
use Rattle.tables.specs.Lending.{arrays_of}
use Rattle.tables.proofs.TablesRead.{index_fits}
use Rattle.slice.specs.declared.HoldError.{HoldError}
use Rattle.slice.specs.HeldPlan.{Lays}
use Rattle.slice.proofs.Indexing.{index_held}
use Rattle.slice.proofs.LaidPlan.{laid_there}
use Rattle.bounds.specs.declared.Bounding.{Bounding}
use Rattle.bounds.specs.Bounding.{bounding}
use Rattle.bounds.proofs.Written.{few_laid, unread, leaves_in, lays_of}
use Rattle.bounds.proofs.write_read.Goals as goal
use Rattle.bounds.proofs.write_read.Goals.{In_ok-h}

-- the plan in the arrays
lays : (c : In_ok-h) → Lays c.args.plan.bytes.now (arrays_of c.read_laid.new.arrays) c.in_ok-h.h
lays c =
    laid_there c.args.plan.bytes.now c.args.plan.long c.read_laid.result c.read_laid.ensures.answer (arrays_of c.read_laid.new.arrays) c.read_laid.ensures.left c.in_ok-h.h c.in_ok-h.was

pub returns-in_err-h : goal.returns-in_err-h
returns-in_err-h c =
    let is : ◌≡◌ {A = Result Bounding HoldError} c.from_residual.result (Err c.in_err-h.field-0.0) = search rules in
    let (x, y) = unread c.args.plan.bytes.now c.args.plan.long c.read_laid.result c.read_laid.ensures.answer c.in_err-h.field-0.0 c.in_err-h.was c.args.ends.now c.args.ranges.now in
    record { answer = is ∙ x; left = y }

pub laid-numbers-requires : goal.laid-numbers-requires
laid-numbers-requires c =
    let (roads, carts) = few_laid _ _ _ (lays (goal.at.laid-numbers-requires c).In_ok-h) in
    let r = c.read_laid.ensures in record {
      there = (roads, omega (arith, roads, r.same.as_long.0), omega (arith, carts, r.same.as_long.1));
      linked = λ e.
          let heads : length c.args.index.now.heads.now ≡ 1024 = sym r.index.same.heads_long ∙ e in
          let nexts : length c.args.index.now.nexts.now ≡ 1024 = c.requires heads in
          (r.index.same.nexts_long ∙ nexts, index_held _ c.in_ok-h.h _ _ _ c.in_ok-h.was (index_fits _ heads nexts) r.index);
    }

pub write_both-requires : goal.write_both-requires
write_both-requires c =
    lays_of c.args.plan.bytes.now c.laid-numbers.result _ c.in_ok-h.h c.laid-numbers.ensures.arrays c.laid-numbers.ensures.size
    (lays (goal.at.write_both-requires c).In_ok-h)

pub returns : goal.returns
unfolding bounding
returns c = record {
  answer = c.ok_or.ensures.value ∙ ap (λ (o : Option Bounding). ok_or o HoldError.NoPlan) c.write_both.ensures.answer;
  left = leaves_in _ _ _ refl c.write_both.ensures.left _ _ (search rules) (search rules);
}
